-- The contract of each public function, as the source has it, leaves one outcome: the answer, and the content of the buffer that is lent.
-- Assumes nothing.
use mathlib.Core.Path.{sym, ◌∙◌}
use Rattle.text.specs.Outcome.{One, OneWith}
use Rattle.book_form.specs.Version.{form_of}
use Rattle.book_form.specs.VersionLaws.{version_lawful}
use Rattle.book_form.specs.Tells.{one_told}
use Rattle.book.specs.Book.{Current}
use Rattle.book.specs.BookLaws.{lawful, one_judged}
use Rattle.book.specs.OutcomeLaws.{one_changed, one_found, one-made}
use Rattle.book.specs.SizeLaws.{one_slotted}
use Rattle.book.specs.FindLaws.{one_placed}
use Rattle.book.proofs.check.check_book.Reads as check-book
use Rattle.book.proofs.new_book.Reads as new_book
use Rattle.book.proofs.write.Reads as write
use Rattle.book.proofs.remove.Reads as remove
use Rattle.book.proofs.lookup.Reads as lookup
use Rattle.book.proofs.check.slots_of.Reads as slots-of
use Rattle.book.proofs.check.is_owner.Reads as is-owner
use Rattle.book.proofs.check.sum_fits.Reads as sum_fits
use Rattle.book.proofs.find.keys_before.Reads as keys-before

pub one-check_book : One check-book.Post
one-check_book κs a r₁ r₂ s₁ s₂ p q = one_judged (form_of a.1.0) (version_lawful a.1.0) _ _ _ p q

pub one-new_book : OneWith new_book.Post (λ κs s. s.0.now)
one-new_book κs a r₁ r₂ s₁ s₂ p q = one-made lawful _ _ _ _ _ _ p q

pub one-write : OneWith write.Post (λ κs s. s.1.0.now)
one-write κs a r₁ r₂ s₁ s₂ p q = one_changed lawful p q

pub one-remove : OneWith remove.Post (λ κs s. s.1.0.now)
one-remove κs a r₁ r₂ s₁ s₂ p q = one_changed lawful p q

pub one-lookup : OneWith lookup.Post (λ κs s. s.1.1.1.1.0.now)
one-lookup κs a r₁ r₂ s₁ s₂ p q = one_found lawful p q

pub one-slots_of : One slots-of.Post
one-slots_of κs a r₁ r₂ s₁ s₂ p q = one_slotted (form_of a.1.0) (version_lawful a.1.0) _ _ _ p q

pub one-is_owner : One is-owner.Post
one-is_owner κs a r₁ r₂ s₁ s₂ p q = p ∙ sym q

pub one-sum_fits : One sum_fits.Post
one-sum_fits κs a r₁ r₂ s₁ s₂ p q = one_told r₁ r₂ p q

pub one-keys_before : One keys-before.Post
one-keys_before κs a r₁ r₂ s₁ s₂ p q = one_placed Current _ _ _ _ _ p q
