use Prim.Native.Nat.{◌+◌, ◌-◌}
use native.Mathlib.Omega.{arith}
use Rattle.ask.specs.AnswerLaws.{extra-more}
use Rattle.ask.specs.InputLaws.{held-short}
use Rattle.askpath.proofs.read_once.Goals as goal

pub answer_lines-step-requires-clause-from_in_bounds : goal.answer_lines-step-requires-clause-from_in_bounds
answer_lines-step-requires-clause-from_in_bounds g c =
    let more = extra-more c.args.why (c.args.held + c.in-Ok.got - c.args.held) (c.read_end-most.result - c.args.held) (omega (arith, c.in-Ok.ensures.bound)) in
    omega (arith, c.in-Ok.ensures.bound)

pub returns : goal.returns
returns g c = held-short _ _ c.answer_lines-step.ensures.holds
