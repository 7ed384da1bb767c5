-- `diagnose` meets its contract.
use mathlib.Core.Path.{refl, sym, ap, ◌∙◌}
use Rattle.text.specs.declared.Fault.{Fault}
use Rattle.diagnose.specs.Table.{table}
use Rattle.diagnose.specs.AnswerLaws.{told-read, told-refused, told-bare, told-shown}
use Rattle.diagnose.proofs.diagnose.Goals as goal

pub returns-then-refusal-lt3 : goal.returns-then-refusal-lt3
returns-then-refusal-lt3 c =
    c.bare-then-refusal-lt3.ensures ∙ told-bare c.args.text.now _ (told-refused c.args.text.now _ (sym c.in-Err.is ∙ c.walk_view.ensures)) _ (ap (λ (f : Fault). f.refusal) c.fault_of-fault.ensures) c.if-refusal-lt3.true

pub show-requires : goal.show-requires
unfolding table
show-requires c = refl

pub returns-in-Ok : goal.returns-in-Ok
returns-in-Ok c =
    c.bare.ensures ∙ told-read c.args.text.now _ (sym c.in-Ok.is ∙ c.walk_view.ensures)

pub returns-else-refusal-lt3 : goal.returns-else-refusal-lt3
returns-else-refusal-lt3 c =
    told-shown c.args.text.now _ (told-refused c.args.text.now _ (sym c.in-Err.is ∙ c.walk_view.ensures)) _ (ap (λ (f : Fault). f.refusal) c.fault_of-fault.ensures) c.if-refusal-lt3.false _ c.show.ensures
