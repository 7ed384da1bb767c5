-- `reason::numbers_why` meets its contract.
use Rattle.diagnose.specs.ReasonLaws.{numbers-first, numbers-second, first-room, second-room}
use Rattle.diagnose.proofs.Steps.{ok-value}
use mathlib.Core.Path.{ap, ◌∙◌}
use mathlib.Core.Bool.{not}
use borrow.Author.Rules.{rules}
use Rattle.diagnose.proofs.reason.numbers_why.Goals as goal

pub number_why-requires : goal.number_why-requires
number_why-requires c = first-room c.args.c.now c.args.dash _ c.read_number-number.ensures c.requires (search rules)

pub returns-then-is_err : goal.returns-then-is_err
returns-then-is_err c =
    numbers-first c.args.c.now c.args.dash _ c.read_number-number.ensures (ok-value _ ∙ c.is_err.ensures.negation ∙ ap not c.if-is_err.true) _ c.number_why.ensures

pub number_why-requires-2 : goal.number_why-requires-2
number_why-requires-2 c =
    second-room c.args.c.now c.args.dash _ c.read_number-number.ensures _ c.read_number.ensures c.requires (search rules)

pub returns : goal.returns
returns c =
    numbers-second c.args.c.now c.args.dash _ c.read_number-number.ensures _ c.read_number.ensures (ok-value _ ∙ c.is_err.ensures.negation ∙ ap not c.if-is_err.false) _ c.number_why-2.ensures
