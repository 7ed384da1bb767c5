-- `reason::word_why` meets its contract.
use Rattle.diagnose.specs.FaultLaws.{word_case, word-other}
use Rattle.diagnose.proofs.reason.word_why.Goals as goal

pub returns-then-alike_but : goal.returns-then-alike_but
returns-then-alike_but c = word_case _ _ _ c.agree_front-place.ensures _ c.alike_but.ensures c.if-alike_but.true

pub returns : goal.returns
returns c = word-other _ _ _ c.agree_front-place.ensures _ c.alike_but.ensures c.if-alike_but.false
