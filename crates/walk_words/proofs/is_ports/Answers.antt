-- `is_ports` meets its contract.
use Rattle.walk_scan.specs.WordLaws.{ports-six}
use native.Mathlib.Omega.{arith}
use Rattle.walk_words.proofs.is_ports.Goals as goal

pub returns : goal.returns
returns c = ports-six c.args.s.now c.args.at c.eight.result (omega arith) c.eight.ensures.bytes c.eight.ensures.value
