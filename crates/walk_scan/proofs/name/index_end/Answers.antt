-- `index_end` meets its contract.
use mathlib.Core.Path.{sym, ◌∙◌}
use Rattle.walk_scan.specs.CountLaws.{count-within}
use Rattle.walk_scan.specs.IndexLaws.{index-some, stops_end, stops-slash}
use native.Mathlib.Omega.{arith}
use Rattle.walk_scan.proofs.name.index_end.Goals.{then-e-s-via-then-e-s, then-e-s-via-else-e-s+then-s-e-eq47}
use Rattle.walk_scan.proofs.name.index_end.Goals as goal

pub overflow_sub-e : goal.overflow_sub-e
overflow_sub-e c = (count-within c.args.s.now c.args.d c.in_ok-e.field-0 (sym c.in_ok-e.was ∙ c.number.ensures) c.requires).0

pub overflow_sub-e-else-e-d-gt53 : goal.overflow_sub-e-else-e-d-gt53
overflow_sub-e-else-e-d-gt53 c = (count-within c.args.s.now c.args.d c.in_ok-e.field-0 (sym c.in_ok-e.was ∙ c.number.ensures) c.requires).0

pub zero_first-requires : goal.zero_first-requires
zero_first-requires c = let w = count-within c.args.s.now c.args.d c.in_ok-e.field-0 (sym c.in_ok-e.was ∙ c.number.ensures) c.requires in omega (arith, w.0, w.1)

pub bounds-s-e : goal.bounds-s-e
bounds-s-e c = omega (arith, (count-within c.args.s.now c.args.d c.in_ok-e.field-0 (sym c.in_ok-e.was ∙ c.number.ensures) c.requires).1, c.if-e-s.false)

pub returns-then-e-s : goal.returns-then-e-s
returns-then-e-s c =
    let e = sym c.in_ok-e.was ∙ c.number.ensures in
    let within = (count-within c.args.s.now c.args.d c.in_ok-e.field-0 e c.requires).1 in (
      within,
      index-some c.args.s.now c.args.d c.in_ok-e.field-0 e (omega (arith, c.if-e-d-gt53.false)) (sym c.zero_first.ensures ∙ c.if-zero_first.false) (elim c.then-e-s.branch [
        | then-e-s-via-then-e-s w ↦ stops_end c.args.s.now c.in_ok-e.field-0.end w.if-e-s.true
        | then-e-s-via-else-e-s+then-s-e-eq47 w ↦ stops-slash c.args.s.now c.in_ok-e.field-0.end (omega (arith, within, w.if-e-s.false)) w.if-s-e-eq47.true
      ]),
    )
