-- `is_eight` meets its contract.
use Rattle.walk_scan.specs.WordLaws.{starts-eight}
use native.Mathlib.Omega.{arith}
use Rattle.walk_scan.proofs.word.is_eight.Goals as goal

pub returns : goal.returns
returns c = starts-eight c.args.s.now c.args.at c.args.a c.eight.result (omega arith) c.eight.ensures.bytes (omega arith) c.eight.ensures.value
