-- A book without the records that do not stay.
-- Assumes nothing.
use Rattle.std.specs.Prelude.{◌≡◌, Bool, cond, List, ℕ}
use Rattle.std.proofs.Math.Option.{some}
use Rattle.std.proofs.Math.ListN.{get_elem?}
use Rattle.runs.specs.Total.{total}
use Rattle.runs.specs.Without.{without}
use Rattle.book_records.specs.Act.{Rec}
use Rattle.book.specs.Book.{Current, Book, bytes_with}
use Rattle.book_clear.specs.declared.role.Role.{Role}
use Rattle.book_clear.specs.declared.states.Stay.{Stay}
use Rattle.book_clear.specs.Notes.{note_at}
use Rattle.book_clear.specs.Stay.{leaves}

-- `leave` tells of each record whether it stays, by what is noted of its slot
abbrev pub LeaveIs : List Rec → List Role → Stay → (Rec → Bool) → Type 0
LeaveIs s rs t leave = (j : ℕ) (q : Rec) → get_elem? s j ≡ some q → leave q ≡ leaves t (note_at rs j)

-- on the book b: r records went, and b₁ has the others
abbrev pub Swept : List ℕ → List Role → Stay → ℕ → List ℕ → Type 0
Swept b rs t r b₁ = (x : Book Current b) (leave : Rec → Bool) → LeaveIs x.records rs t leave → (r ≡ total (λ q. cond (leave q) 1 0) x.records) × (b₁ ≡ bytes_with x (without leave x.records))
