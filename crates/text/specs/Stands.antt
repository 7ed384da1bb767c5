-- A part of a text that a function gives back, no copy.
-- Assumes nothing.
use Rattle.std.specs.Prelude.{ℕ, ◌+◌, ◌≡◌, List}
use Rattle.std.specs.Borrow.{Bor}

-- r stands in x: it holds w, and points into x, as many bytes behind its start as `start` says
pub record Stands (r x : Bor (List ℕ)) (start : ℕ) (w : List ℕ) : Type 0 where
  pub bytes : r.now ≡ w
  pub block : r.ref_ptr.0 ≡ x.ref_ptr.0
  pub offset : r.ref_ptr.1 ≡ x.ref_ptr.1 + start
