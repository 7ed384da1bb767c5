use Rattle.std.specs.Prelude.{ℕ, List}
use Rattle.std.specs.Borrow.{Bor}
use mathlib.Core.Path.{sym, ap, ◌∙◌}
use borrow.Author.Tests.{lt-ltb, le-ltb}
use native.Mathlib.Omega.{arith}
use Rattle.diagnose.specs.Diagnosis.{seven, how_many}
use Rattle.diagnose.specs.NearestLaws.{near-start, near_turn, near-end, text-short}
use Rattle.diagnose.proofs.nearest.nearest_kind.Goals.{then-best-s, else-best-s}
use Rattle.diagnose.proofs.nearest.nearest_kind.Goals as goal

pub loop-k-init : goal.loop-k-init
loop-k-init c = near-start (how_many c.args.text.text.now) (seven c.args.text.text.now)

pub score_of-s-requires : goal.score_of-s-requires
score_of-s-requires c =
    rw c.new.ensures (text-short c.loop-k.k (omega arith) (omega arith) _ c.kind_at.ensures)

pub loop-k-preserved : goal.loop-k-preserved
loop-k-preserved c = elim c.if-best-s.branch [
  | then-best-s w ↦ near_turn c.loop-k.k (omega arith) (omega arith) _ _ _ _ _ c.loop-k.invariant _ (ap (λ (t : Bor (List ℕ)). t.now) c.new.ensures ∙ c.kind_at.ensures) _ c.score_of-s.ensures _ (rw (lt-ltb _ _ w.if-best-s.true) w.kind-is) _ (omega (arith, w.best-is, w.if-best-s.true))
  | else-best-s w ↦ near_turn c.loop-k.k (omega arith) (omega arith) _ _ _ _ _ c.loop-k.invariant _ (ap (λ (t : Bor (List ℕ)). t.now) c.new.ensures ∙ c.kind_at.ensures) _ c.score_of-s.ensures _ (rw (le-ltb _ _ w.if-best-s.false) w.kind-is) _ (omega (arith, w.best-is, w.if-best-s.false))
]

pub returns : goal.returns
returns c =
    sym (near-end c.loop-k.k c.loop-k.kind c.loop-k.best _ _ (omega arith)) ∙ c.loop-k.invariant
