-- The contract of each public function, as the source has it, leaves one outcome: the result, and the content of the buffer that is lent.
-- Assumes nothing.
use mathlib.Core.Path.{sym, ◌∙◌}
use Rattle.text.specs.Outcome.{One}
use Rattle.path.proofs.view.Reads as view
use Rattle.path.proofs.typed.typed_path.Reads as typed-path
use Rattle.path.proofs.provable.is_provable.Reads as is-provable
use Rattle.path.proofs.is_below.Reads as is_below
use Rattle.path.proofs.fault_of.Reads as fault-of
use Rattle.path.proofs.measure.render_length.Reads as render-length
use Rattle.path.proofs.name.name_fault.Reads as name-fault
use Rattle.path.proofs.name.no_slash.Reads as no_slash
use Rattle.path.proofs.refusal_of.Reads as refusal-of
use Rattle.path.proofs.provable.kind_is_provable.Reads as kind-is-provable

pub one-view : One view.Post
one-view κs a r₁ r₂ s₁ s₂ p q = p ∙ sym q

pub one-typed_path : One typed-path.Post
one-typed_path κs a r₁ r₂ s₁ s₂ p q = p ∙ sym q

pub one-is_provable : One is-provable.Post
one-is_provable κs a r₁ r₂ s₁ s₂ p q = p ∙ sym q

pub one-is_below : One is_below.Post
one-is_below κs a r₁ r₂ s₁ s₂ p q = p ∙ sym q

pub one-fault_of : One fault-of.Post
one-fault_of κs a r₁ r₂ s₁ s₂ p q = p ∙ sym q

pub one-render_length : One render-length.Post
one-render_length κs a r₁ r₂ s₁ s₂ p q = p ∙ sym q

pub one-refusal_of : One refusal-of.Post
one-refusal_of κs a r₁ r₂ s₁ s₂ p q = p ∙ sym q

pub one-kind_is_provable : One kind-is-provable.Post
one-kind_is_provable κs a r₁ r₂ s₁ s₂ p q = p ∙ sym q

pub one-name_fault : One name-fault.Post
one-name_fault κs a r₁ r₂ s₁ s₂ p q = p ∙ sym q

pub one-no_slash : One no_slash.Post
one-no_slash κs a r₁ r₂ s₁ s₂ p q = p ∙ sym q
