-- Where a key stands in a book.
-- Assumes nothing.
use Rattle.std.specs.Prelude.{◌≡◌, List, ℕ, ◌<◌, ◌≤◌, Result, Ok, Err}
use Prim.Native.Nat.{Ordering}
use Rattle.text.specs.Order.{cmp}
use Rattle.book_form.specs.Form.{Form, key_at}

module _ (F : Form) where
  -- p is the place of k among the first n keys: k comes after all before it, and not after the key there
  pub record Placed (b k : List ℕ) (n p : ℕ) : Type 0 where
    pub within : p ≤ n
    pub before : (j : ℕ) → j < p → cmp k (key_at F b j) ≡ Ordering.gt
    pub next : p < n → cmp k (key_at F b p) ≡ Ordering.gt → ⊥

  -- the slot that holds the key, or the one that it would have
  abbrev pub Spotted : List ℕ → List ℕ → ℕ → Result ℕ ℕ → Type 0
  Spotted b k n (Ok p) = Placed b k n p × (p < n) × (cmp k (key_at F b p) ≡ Ordering.eq)
  Spotted b k n (Err p) = Placed b k n p × (p < n → cmp k (key_at F b p) ≡ Ordering.eq → ⊥)
