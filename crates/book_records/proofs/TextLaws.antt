-- The calls with a key that are refused, and a call of nobody's. They stand here, since they rest on a definition that an edit of must-fail/
-- turns.
-- Assumes nothing.
use Rattle.std.specs.Prelude.{◌≡◌, refl, true, false, List, ◌∷◌, ℕ, ◌<◌}
use Rattle.book_records.specs.declared.Manner.{Manner}
use Rattle.book_records.specs.Act.{refuses}
use Rattle.book_records.specs.Refusals.{bad_owner_when, retired, bad_length_when, no_room_when}
use Rattle.book_records.specs.CallLaws.{declined-means}
use Rattle.book_records.specs.Calls.{Asked, to_write, to_look, write, look, is_owner, meaning, is_retired, ValueFits}
use Rattle.book_records.specs.TextLaws.{Keyed, has}

-- what a call of a known owner with a key means
module _ (m : Manner) (o : ℕ) (w : is_owner o ≡ true) (t field : List ℕ) (n : ℕ) (k : Keyed m t field n) where
  abbrev key : List ℕ
  key = o ∷ k.key

  pub look-short : (room : ℕ) → room < 64 → meaning (look m o t room) ≡ refuses 4
  look-short room h = declined-means (look m o t room) (no_room_when refl (has m o w t field n k (to_look room)) h)

  pub write-retired : (v : List ℕ) → is_retired key ≡ true → meaning (write m o t v) ≡ refuses 25
  write-retired v r = declined-means (write m o t v) (retired refl (has m o w t field n k (to_write v)) r)

  pub write-bad : (v : List ℕ) → is_retired key ≡ false → (ValueFits v → ⊥) → meaning (write m o t v) ≡ refuses 6
  write-bad v r h = declined-means (write m o t v) (bad_length_when refl (has m o w t field n k (to_write v)) r h)

-- and one of nobody's
pub nobody-means : (m : Manner) (o : ℕ) (t : List ℕ) (q : Asked) → is_owner o ≡ false → meaning (record { manner = m; owner = o; text = t; asked = q }) ≡ refuses 23
nobody-means m o t q w = declined-means (record { manner = m; owner = o; text = t; asked = q }) (bad_owner_when w)
