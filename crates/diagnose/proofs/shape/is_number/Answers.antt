-- `shape::is_number` meets its contract.
use mathlib.Core.Path.{sym, ap, ◌∙◌}
use Rattle.identifiers.specs.Check.{is_value}
use Rattle.path.specs.Read.{fits}
use Rattle.diagnose.proofs.Steps.{ok-value}
use Rattle.diagnose.proofs.shape.is_number.Goals as goal

pub returns : goal.returns
unfolding fits
returns c = c.is_ok.ensures.value ∙ sym (ok-value _) ∙ ap is_value c.read_number.ensures
