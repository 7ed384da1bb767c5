-- What it is to rearrange a list so that related elements keep their order.
-- Assumes nothing.
use Rattle.std.specs.Prelude.{◌≡◌, List, ℕ, ◌<◌, length}
use Rattle.std.proofs.Math.Option.{some}
use Rattle.std.proofs.Math.ListN.{get_elem?}

-- `to i` is where the element at position i of `cs` stands in `ds`, and `from` is the way back.
-- Of two elements of `cs` that are `Same`, the earlier one stands earlier in `ds` too.
pub record Rearranged {A : Type 0} (Same : A → A → Type 0) (cs ds : List A) : Type 0 where
  pub to : ℕ → ℕ
  pub from : ℕ → ℕ
  pub to_lt : (i : ℕ) → i < length cs → to i < length ds
  pub from_lt : (j : ℕ) → j < length ds → from j < length cs
  pub from_to : (i : ℕ) → i < length cs → from (to i) ≡ i
  pub to_from : (j : ℕ) → j < length ds → to (from j) ≡ j
  pub same_call : (i : ℕ) → i < length cs → get_elem? ds (to i) ≡ get_elem? cs i
  pub in_order : (i j : ℕ) → i < j → (c d : A) → get_elem? cs i ≡ some c → get_elem? cs j ≡ some d → Same c d → to i < to j
