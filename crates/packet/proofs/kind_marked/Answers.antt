-- `packet::kind_marked` meets its contract.
use mathlib.Core.Path.{sym, ap, ◌∙◌}
use native.Mathlib.Omega.{arith}
use Rattle.packet.specs.declared.PacketKind.TheVariants.{Commitment, Receipt, Acknowledgement}
use Rattle.packet.specs.Key.{kind_marked}
use Rattle.packet.specs.KeyLaws.{kind-marker}
use Rattle.packet.specs.WayLaws.{other_byte}
use Rattle.packet.proofs.kind_marked.Goals as goal

pub returns-in-1 : goal.returns-in-1
returns-in-1 c = sym (ap kind_marked c.in-1.is ∙ kind-marker Commitment)

pub returns-in-2 : goal.returns-in-2
returns-in-2 c = sym (ap kind_marked c.in-2.is ∙ kind-marker Receipt)

pub returns-in-3 : goal.returns-in-3
returns-in-3 c = sym (ap kind_marked c.in-3.is ∙ kind-marker Acknowledgement)

pub returns-in_default : goal.returns-in_default
returns-in_default c = other_byte c.args.marker (λ z. omega (arith, z)) (λ z. omega (arith, z)) (λ z. omega (arith, z))
