-- A book whose client's old states are cleared out.
-- Assumes nothing.
use Rattle.std.specs.Prelude.{◌≡◌, List, ℕ}
use Rattle.book.specs.Book.{Current, Book, bytes_with}
use Rattle.book_clear.specs.Clear.{cleared, gone}

-- on the book b: r records went, and b₁ has what is left
abbrev pub ClearedOf : List ℕ → ℕ → List ℕ → ℕ → ℕ → List ℕ → Type 0
ClearedOf b owner client keep r b₁ = (x : Book Current b) → (r ≡ gone owner client keep x.records) × (b₁ ≡ bytes_with x (cleared owner client keep x.records))
