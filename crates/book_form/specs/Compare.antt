-- How keys are compared: an order as std has it, what two keys share, and eight bytes taken at a time.
-- Assumes nothing.
use Rattle.std.specs.Prelude.{◌≡◌, List, length, get_or}
use Rattle.std.specs.declared.cmp.Ordering.{Ordering as Order}
use Rattle.std.specs.declared.cmp.Ordering.TheVariants.{Less, Equal, Greater}
use Prim.Native.Nat.{ℕ, ◌+◌, ◌*◌, ◌<◌, ◌≤◌, Ordering}
use Rattle.text.specs.Order.{by}

-- an order as std has it
abbrev pub ordering_of : Ordering → Order
ordering_of o = by o Less Equal Greater

-- the first `start` bytes of a key are those of the key in the slot at `at`
pub record Agree (key book : List ℕ) (at start : ℕ) : Type 0 where
  pub short : start ≤ length key
  pub within : start ≤ get_or book at 0
  pub same : (j : ℕ) → j < start → get_or key j 0 ≡ get_or book (at + 1 + j) 0

-- the same bytes from a and from b on
abbrev pub Alike : List ℕ → ℕ → ℕ → ℕ → Type 0
Alike s a b n = (j : ℕ) → j < n → get_or s (a + j) 0 ≡ get_or s (b + j) 0

-- four digits as a number
abbrev pub quad : ℕ → ℕ → ℕ → ℕ → ℕ
quad a b c d = ((a * 256 + b) * 256 + c) * 256 + d

-- eight bytes as a number, the first highest
abbrev pub high_sum : List ℕ → ℕ → ℕ
high_sum s at =
    quad (get_or s at 0) (get_or s (at + 1) 0) (get_or s (at + 2) 0) (get_or s (at + 3) 0) * 4294967296
    + quad (get_or s (at + 4) 0) (get_or s (at + 5) 0) (get_or s (at + 6) 0) (get_or s (at + 7) 0)

-- r is a place up to m, where all before it is the same from a and from b on, and the eight bytes at it too only at m
pub record Apart (s : List ℕ) (a b m r : ℕ) : Type 0 where
  pub within : r ≤ m
  pub alike : Alike s a b r
  pub last : Alike s (a + r) (b + r) 8 → r ≡ m
