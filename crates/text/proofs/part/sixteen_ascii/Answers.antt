use lib.Dec.{ltb}
use Rattle.text.specs.Part.{ascii}
use Rattle.text.specs.PartLaws.{run-two}
use Rattle.text.proofs.part.sixteen_ascii.Goals as goal

pub returns : goal.returns
unfolding ascii
returns c = rw (c.eight_ascii.ensures, c.eight_ascii-2.ensures) (run-two (λ b. ltb b 128) c.args.s.now c.args.at 8 8)
