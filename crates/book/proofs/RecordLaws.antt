-- A lookup of a key that the book holds. It stands here, since it rests on a definition that an edit of must-fail/ turns.
-- Assumes nothing.
use Rattle.std.specs.Prelude.{◌≡◌, ℕ, ◌+◌, ◌*◌, length, Ok}
use Rattle.std.proofs.Common.{◌∙◌}
use mathlib.Core.List.{List, ◌∷◌}
use Rattle.text.specs.Put.{put}
use Rattle.text.specs.Put as buffer
use Rattle.book_records.specs.Act.{looks}
use Rattle.book_form.specs.Counted.{stored}
use Rattle.book.specs.Book.{Current, Book, Counts}
use Rattle.book.specs.BookLaws.{lawful}
use Rattle.book.specs.Find.{Spotted}
use Rattle.book.specs.Outcome.{Found}
use Rattle.book.specs.FindLaws.{looked-found}
use Rattle.book.specs.RecordLaws.{at_place, inside, value-at}

module _ (b : List ℕ) (owner : ℕ) (key : List ℕ) (n p : ℕ) (h : Counts Current b n) where
  abbrev k : List ℕ
  k = owner ∷ key

  abbrev x : Book Current b
  x = h.0

  module _ (s : Spotted Current b k n (Ok p)) where
    pub look-taken : (out out₁ v : List ℕ) (n : ℕ) → v ≡ stored b (12 + 322 * p + 1 + 256) → n ≡ length v → out₁ ≡ put out 0 v → Found Current b (looks k) out (buffer.done n) out₁
    look-taken out out₁ v m e l w = rw l (looked-found Current lawful b k x p (at_place b owner key n p h s.0) (inside b owner key n p h s) s.2 out out₁ v (e ∙ value-at b (12 + 322 * p)) w)
