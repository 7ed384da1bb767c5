-- The contract of each public function, as the source has it, leaves one outcome: the answer, and the content of the buffer that is lent.
-- Assumes nothing.
use Rattle.text.specs.Outcome.{OneWith}
use Rattle.book.specs.Book.{Current}
use Rattle.book.specs.BookLaws.{lawful}
use Rattle.book_table.specs.OneLaws.{one-fills, one_many}
use Rattle.book_table.proofs.many.fill.Reads as fill
use Rattle.book_table.proofs.many.look_many.Reads as look-many

pub one-fill : OneWith fill.Post (λ κs s. s.1.0.now)
one-fill κs a r₁ r₂ s₁ s₂ p q = one-fills Current lawful p q

pub one-look_many : OneWith look-many.Post (λ κs s. s.1.1.1.1.0.now)
one-look_many κs a r₁ r₂ s₁ s₂ p q = one_many Current lawful p q
