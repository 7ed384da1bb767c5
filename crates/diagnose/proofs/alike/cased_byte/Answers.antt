-- `alike::cased_byte` meets its contract.
use Rattle.diagnose.specs.AgreeLaws.{cased-low}
use Rattle.diagnose.proofs.alike.cased_byte.Goals as goal

pub returns-then-fold : goal.returns-then-fold
returns-then-fold c = rw c.if-fold.true (cased-low c.args.b c.to_ascii_lowercase.result c.to_ascii_lowercase.ensures.cases)
