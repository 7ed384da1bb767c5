-- `show` meets its contract.
use Rattle.std.specs.Prelude.{List}
use Rattle.std.specs.Borrow.{Bor}
use Prim.Native.Nat.{ℕ, ◌≤◌}
use mathlib.Core.Path.{sym, ap, ◌∙◌}
use native.Mathlib.Omega.{arith}
use borrow.Author.Rules.{rules}
use Rattle.diagnose.specs.Diagnosis.{seven, how_many, shown}
use Rattle.diagnose.specs.Table.{parts_in}
use Rattle.diagnose.specs.PiecesLaws.{seven-length}
use Rattle.diagnose.specs.NearestLaws.{front-most}
use Rattle.diagnose.specs.AnswerLaws.{nearest-most, shown-none, shown-some, byte-room}
use Rattle.diagnose.proofs.show.Goals as goal

pub returns-then-k-eq0 : goal.returns-then-k-eq0
returns-then-k-eq0 c =
    rw (← c.new-cut.ensures) (shown-none c.new-cut.result.text.now c.args.refusal _ (sym c.nearest_kind-k.ensures ∙ c.if-k-eq0.true))

pub kind_at-requires : goal.kind_at-requires
kind_at-requires c =
    (c.requires, omega arith, omega (arith, c.nearest_kind-k.ensures, nearest-most (how_many c.new-cut.result.text.now) (seven c.new-cut.result.text.now)))

pub why_at-w-requires : goal.why_at-w-requires
why_at-w-requires c =
    omega (arith, c.front_of-f.ensures, front-most (parts_in c.new-kind.result.text.now) (seven c.new-cut.result.text.now), seven-length c.new-cut.result.text.now)

pub overflow_add-result : goal.overflow_add-result
overflow_add-result c =
    let h : c.front_of-f.result ≤ 7 = omega (arith, c.front_of-f.ensures, front-most (parts_in c.new-kind.result.text.now) (seven c.new-cut.result.text.now), seven-length c.new-cut.result.text.now) in
    search rules

pub overflow_cast-result : goal.overflow_cast-result
overflow_cast-result c =
    let h : c.front_of-f.result ≤ 7 = omega (arith, c.front_of-f.ensures, front-most (parts_in c.new-kind.result.text.now) (seven c.new-cut.result.text.now), seven-length c.new-cut.result.text.now) in
    search rules

pub overflow_add-result-2 : goal.overflow_add-result-2
overflow_add-result-2 c =
    let h = byte-room _ _ _ c.new-cut.result.text.now c.front_of-f.result _ c.why_at-w.ensures _ c.start_at.ensures in
    search rules

pub returns : goal.returns
returns c =
    rw (← c.new-cut.ensures) (shown-some c.new-cut.result.text.now c.args.refusal c.nearest_kind-k.result c.if-k-eq0.false (omega (arith, c.nearest_kind-k.ensures, nearest-most (how_many c.new-cut.result.text.now) (seven c.new-cut.result.text.now))) c.new-kind.result.text.now (ap (λ (t : Bor (List ℕ)). t.now) c.new-kind.ensures ∙ c.kind_at.ensures) _ c.front_of-f.ensures _ c.why_at-w.ensures _ c.start_at.ensures
    ∙ ap (λ (x : ℕ). shown c.new-cut.result.text.now c.args.refusal x) c.nearest_kind-k.ensures)
