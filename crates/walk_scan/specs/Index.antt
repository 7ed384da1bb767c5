-- An index that is read at its own place.
-- Assumes nothing.
use Rattle.std.specs.Prelude.{ℕ, ◌+◌, ◌-◌, ◌≤◌, ◌<◌, ◌≡◌, true, List, ◌⊎◌, drop, get_or}
use Rattle.path.specs.Read.{is_number}
use Rattle.walk_scan.specs.Number.{num_len, num_text}
use Rattle.walk_scan.specs.Tail.{Stops}

-- one byte, or no leading zero
abbrev pub Leads : ℕ → ℕ → Type 0
Leads n b = (n ≡ 1) ⊎ (b ≡ 48 → ⊥)

-- the number at d is an index that ends at e, and leaves room for its name
pub record Index (s : List ℕ) (d e : ℕ) : Type 0 where
  pub some : d < e
  pub few : e ≤ d + 53
  pub number : is_number (num_text (drop d s)) ≡ true
  pub ends : e ≡ d + num_len (drop d s)
  pub leads : Leads (e - d) (get_or s d 0)
  pub stops : Stops (drop e s)
