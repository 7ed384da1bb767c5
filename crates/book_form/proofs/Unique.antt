-- The contract of each public function, as the source has it, leaves one outcome: the answer, which for a part of the book is its bytes and where
-- it points, and the content of the buffer that is lent.
-- Assumes nothing.
use mathlib.Core.Path.{refl, sym, ◌∙◌}
use Rattle.text.specs.Outcome.{One, OneWith, OnePart}
use Rattle.text.specs.OutcomeLaws.{one-part}
use Rattle.book_form.specs.Tells.{one_told}
use Rattle.book_form.proofs.width.Reads as width
use Rattle.book_form.proofs.head.Reads as head
use Rattle.book_form.proofs.lead.Reads as lead
use Rattle.book_form.proofs.slot_at.Reads as slot_at
use Rattle.book_form.proofs.clear.Reads as clear
use Rattle.book_form.proofs.put_fields.Reads as put-fields
use Rattle.book_form.proofs.put_slot.Reads as put-slot
use Rattle.book_form.proofs.put_front.Reads as put_front
use Rattle.book_form.proofs.put_header.Reads as put-header
use Rattle.book_form.proofs.insert.Reads as insert
use Rattle.book_form.proofs.lower_slot.Reads as lower-slot
use Rattle.book_form.proofs.close_gap.Reads as close-gap
use Rattle.book_form.proofs.compare_key.Reads as compare-key
use Rattle.book_form.proofs.compare_next.Reads as compare-next
use Rattle.book_form.proofs.count_of.Reads as count_of
use Rattle.book_form.proofs.quotas_of.Reads as quotas-of
use Rattle.book_form.proofs.text_at.Reads as text_at
use Rattle.book_form.proofs.key_at.Reads as key-at
use Rattle.book_form.proofs.all_zero.Reads as all-zero
use Rattle.book_form.proofs.slot_ok.Reads as Slot-ok
use Rattle.book_form.proofs.header_ok.Reads as header_ok

pub one_width : One width.Post
one_width κs a r₁ r₂ s₁ s₂ p q = p ∙ sym q

pub one-head : One head.Post
one-head κs a r₁ r₂ s₁ s₂ p q = p ∙ sym q

pub one-lead : One lead.Post
one-lead κs a r₁ r₂ s₁ s₂ p q = p ∙ sym q

pub one-slot_at : One slot_at.Post
one-slot_at κs a r₁ r₂ s₁ s₂ p q = p ∙ sym q

pub one-clear : OneWith clear.Post (λ κs s. s.0.now)
one-clear κs a r₁ r₂ s₁ s₂ p q = (refl, p ∙ sym q)

pub one-put_fields : OneWith put-fields.Post (λ κs s. s.0.now)
one-put_fields κs a r₁ r₂ s₁ s₂ p q = (refl, p ∙ sym q)

pub one-put_slot : OneWith put-slot.Post (λ κs s. s.0.now)
one-put_slot κs a r₁ r₂ s₁ s₂ p q = (refl, p ∙ sym q)

pub one-put_front : OneWith put_front.Post (λ κs s. s.0.now)
one-put_front κs a r₁ r₂ s₁ s₂ p q = (refl, p ∙ sym q)

pub one-put_header : OneWith put-header.Post (λ κs s. s.0.now)
one-put_header κs a r₁ r₂ s₁ s₂ p q = (refl, p ∙ sym q)

pub one-insert : OneWith insert.Post (λ κs s. s.0.now)
one-insert κs a r₁ r₂ s₁ s₂ p q = (refl, p ∙ sym q)

pub one-lower_slot : OneWith lower-slot.Post (λ κs s. s.0.now)
one-lower_slot κs a r₁ r₂ s₁ s₂ p q = (refl, p ∙ sym q)

pub one-close_gap : OneWith close-gap.Post (λ κs s. s.0.now)
one-close_gap κs a r₁ r₂ s₁ s₂ p q = (refl, p ∙ sym q)

pub one-compare_key : One compare-key.Post
one-compare_key κs a r₁ r₂ s₁ s₂ p q = p ∙ sym q

pub one-compare_next : One compare-next.Post
one-compare_next κs a r₁ r₂ s₁ s₂ p q = p ∙ sym q

pub one-count_of : One count_of.Post
one-count_of κs a r₁ r₂ s₁ s₂ p q = p ∙ sym q

pub one-quotas_of : One quotas-of.Post
one-quotas_of κs a r₁ r₂ s₁ s₂ p q = p.0 ∙ sym q.0

-- its bytes, and where it points
pub one-text_at : OnePart text_at.Post
one-text_at κs a r₁ r₂ s₁ s₂ p q = one-part p q

pub one-key_at : OnePart key-at.Post
one-key_at κs a r₁ r₂ s₁ s₂ p q = one-part p q

pub one-all_zero : One all-zero.Post
one-all_zero κs a r₁ r₂ s₁ s₂ p q = p ∙ sym q

pub one-slot_ok : One Slot-ok.Post
one-slot_ok κs a r₁ r₂ s₁ s₂ p q = one_told r₁ r₂ p q

pub one-header_ok : One header_ok.Post
one-header_ok κs a r₁ r₂ s₁ s₂ p q = p ∙ sym q
