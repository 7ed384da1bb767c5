-- `part` meets its contract.
use native.Mathlib.Omega.{arith}
use native.Mathlib.Nat.{add-sub_cancel_left}
use mathlib.Core.Path.{refl}
use borrow.Author.Tests.{le-leb, lt-leb}
use Rattle.path.specs.Text.{shown_of, shown_start}
use Rattle.reading.proofs.part.Goals as goal

pub returns-then-text-start : goal.returns-then-text-start
unfolding shown_of shown_start
returns-then-text-start c = record { bytes = simp (lt-leb _ _ c.if-text-start.true); block = refl; offset = simp (lt-leb _ _ c.if-text-start.true) (omega arith) }

pub returns-then-text-start-2 : goal.returns-then-text-start-2
unfolding shown_of shown_start
returns-then-text-start-2 c =
    record {
      bytes = simp (le-leb _ _ c.if-text-start.false, lt-leb _ _ c.if-text-start-2.true);
      block = refl;
      offset = simp (le-leb _ _ c.if-text-start.false, lt-leb _ _ c.if-text-start-2.true) (omega arith);
    }

pub returns : goal.returns
unfolding shown_of shown_start
returns c =
    record {
      bytes = simp (le-leb _ _ c.if-text-start.false, le-leb _ _ c.if-text-start-2.false, add-sub_cancel_left);
      block = refl;
      offset = simp (le-leb _ _ c.if-text-start.false, le-leb _ _ c.if-text-start-2.false) (omega arith);
    }
