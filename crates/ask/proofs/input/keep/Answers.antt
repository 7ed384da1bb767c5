-- `input::keep` meets its contract.
use Rattle.ask.specs.StepLaws.{moved}
use native.Mathlib.Omega.{arith}
use Rattle.ask.proofs.input.keep.Goals as goal

pub returns : goal.returns
returns c = moved c.args.input.now _ c.args.start c.args.end _ c.requires.0 c.requires.1 (omega (arith, c.min-n.ensures)) c.copy_within.ensures.after
