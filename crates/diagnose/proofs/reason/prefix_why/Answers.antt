-- `reason::prefix_why` meets its contract.
use Rattle.diagnose.specs.FaultLaws.{prefix-other, prefix-zero}
use Rattle.diagnose.proofs.reason.prefix_why.Goals as goal

pub returns-then-n-w : goal.returns-then-n-w
returns-then-n-w c = prefix-other _ _ _ c.agree_front-n.ensures c.if-n-w.true

pub returns : goal.returns
returns c = prefix-zero _ _ _ c.agree_front-n.ensures c.if-n-w.false
