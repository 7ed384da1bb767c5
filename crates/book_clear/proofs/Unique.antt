-- The contract, as the source has it, leaves one answer and one content of the book.
-- Assumes nothing.
use Rattle.text.specs.Outcome.{OneWith}
use Rattle.book.specs.Book.{Current}
use Rattle.book.specs.BookLaws.{lawful}
use Rattle.book_clear.specs.ClearLaws.{one-cleared}
use Rattle.book_clear.proofs.clear.Reads as clear

pub one-clear : OneWith clear.Post (λ κs s. s.0.now)
one-clear κs a r₁ r₂ s₁ s₂ p q = one-cleared Current lawful p q
