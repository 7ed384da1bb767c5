-- The contract, as the source has it, leaves one answer.
-- Assumes nothing.
use Rattle.text.specs.Outcome.{One}
use Rattle.book.specs.Book.{Current}
use Rattle.book.specs.BookLaws.{lawful}
use Rattle.book_oldest.proofs.OldestLaws.{one-oldest}
use Rattle.book_oldest.proofs.oldest.Reads as oldest

pub one-oldest-call : One oldest.Post
one-oldest-call κs a r₁ r₂ s₁ s₂ p q = one-oldest Current lawful _ _ _ _ _ p q
