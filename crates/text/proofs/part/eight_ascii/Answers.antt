-- `text::part::eight_ascii` meets its contract.
use mathlib.Core.Path.{ap, ◌∙◌}
use Prim.Native.Nat.{◌+◌}
use native.Mathlib.Omega.{arith}
use lib.Bits.{bit_and}
use lib.Dec.{eqb}
use lib.ListN.{length-drop}
use lib.Seq.{get_or-drop}
use Rattle.text.specs.WordLaws.{high_bits, high-ascii}
use Rattle.text.proofs.part.eight_ascii.Goals as goal

pub returns : goal.returns
returns c =
    ap (λ v. eqb (bit_and v (high_bits 8)) 0) c.eight.ensures.value
    ∙ high-ascii 8 _ (rw length-drop (omega arith)) (λ i. rw get_or-drop (omega (arith, c.eight.ensures.bytes (c.args.at + i))))
