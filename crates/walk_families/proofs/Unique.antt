-- The contract of each public function, as the source has it, leaves one outcome.
-- Assumes nothing.
use mathlib.Core.Path.{sym, ◌∙◌}
use Rattle.text.specs.Outcome.{One}
use Rattle.walk_families.proofs.bare.Reads as bare
use Rattle.walk_families.proofs.client.client.Reads as client
use Rattle.walk_families.proofs.name.connection.Reads as connection
use Rattle.walk_families.proofs.name.port.Reads as port
use Rattle.walk_families.proofs.ends.after_ports.Reads as after-ports
use Rattle.walk_families.proofs.upgrade.upgrade.Reads as upgrade

pub one-bare : One bare.Post
one-bare κs a r₁ r₂ s₁ s₂ p q = p ∙ sym q

pub one-client : One client.Post
one-client κs a r₁ r₂ s₁ s₂ p q = p ∙ sym q

pub one-connection : One connection.Post
one-connection κs a r₁ r₂ s₁ s₂ p q = p ∙ sym q

pub one-port : One port.Post
one-port κs a r₁ r₂ s₁ s₂ p q = p ∙ sym q

pub one-after_ports : One after-ports.Post
one-after_ports κs a r₁ r₂ s₁ s₂ p q = p ∙ sym q

pub one-upgrade : One upgrade.Post
one-upgrade κs a r₁ r₂ s₁ s₂ p q = p ∙ sym q
