-- `reason::length_why` meets its contract.
use lib.ListN.{length}
use borrow.Author.Tests.{lt-ltb, le-ltb}
use Rattle.diagnose.specs.Diagnosis.{length_why}
use Rattle.diagnose.proofs.reason.length_why.Goals as goal

pub returns-then-n-least : goal.returns-then-n-least
unfolding length_why
returns-then-n-least c = rw (lt-ltb (length c.args.c.now) c.args.least c.if-n-least.true)

pub returns : goal.returns
unfolding length_why
returns c = rw (le-ltb (length c.args.c.now) c.args.least c.if-n-least.false)
