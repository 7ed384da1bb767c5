-- The contract of each public function, as the source has it, leaves one outcome.
-- Assumes nothing.
use mathlib.Core.Path.{sym, ◌∙◌}
use Rattle.text.specs.Outcome.{One}
use Rattle.walk_scan.proofs.word.word8.Reads as word8
use Rattle.walk_scan.proofs.word.word16.Reads as word16
use Rattle.walk_scan.proofs.word.word24.Reads as word24
use Rattle.walk_scan.proofs.name.plain_length.Reads as plain-length
use Rattle.walk_scan.proofs.name.channel_length.Reads as channel-length
use Rattle.walk_scan.proofs.name.connection_length.Reads as connection-length
use Rattle.walk_scan.proofs.name.slash.Reads as slash
use Rattle.walk_scan.proofs.number.number.Reads as number

pub one-word8 : One word8.Post
one-word8 κs a r₁ r₂ s₁ s₂ p q = p ∙ sym q

pub one-word16 : One word16.Post
one-word16 κs a r₁ r₂ s₁ s₂ p q = p ∙ sym q

pub one-word24 : One word24.Post
one-word24 κs a r₁ r₂ s₁ s₂ p q = p ∙ sym q

pub one-plain_length : One plain-length.Post
one-plain_length κs a r₁ r₂ s₁ s₂ p q = p.1 ∙ sym q.1

pub one-channel_length : One channel-length.Post
one-channel_length κs a r₁ r₂ s₁ s₂ p q = p.1 ∙ sym q.1

pub one-connection_length : One connection-length.Post
one-connection_length κs a r₁ r₂ s₁ s₂ p q = p.1 ∙ sym q.1

pub one-slash : One slash.Post
one-slash κs a r₁ r₂ s₁ s₂ p q = p.2 ∙ sym q.2

pub one_number_lem : One number.Post
one_number_lem κs a r₁ r₂ s₁ s₂ p q = p ∙ sym q
