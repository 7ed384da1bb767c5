-- The words of demand 3: writes in a list, accepted calls and what they leave, free slots, what a path holds.
-- Assumes nothing.
use Rattle.std.specs.Prelude.{ℕ, ◌-◌, ◌≤◌, ◌≡◌, cond, ◌&&◌, List, eqb}
use Rattle.std.proofs.Math.Option.{Option, none, some}
use Rattle.book_records.specs.Records.{Key, get}
use Rattle.book_records.specs.Act.{Seen, count_by}
use Rattle.book_records.specs.Calls.{Asked, to_write, to_remove, to_look, Call, is_owner, owner_of}
use Rattle.runs.specs.Total.{total}
use Rattle.book.specs.Book.{Current, Book, quota_in}

-- ---- what demand 3 counts
-- 1 for a write, refused or not
abbrev pub as_write : Asked → ℕ
as_write (to_write v) = 1
as_write to_remove = 0
as_write (to_look room) = 0

abbrev pub is_write : Call → ℕ
is_write c = as_write c.asked

-- a write of the owner o's; one that is refused with 23 is nobody's
abbrev pub own_write : ℕ → Call → ℕ
own_write o c = cond (is_owner o && eqb c.owner o) (is_write c) 0

abbrev pub writes_in : ℕ → List Call → ℕ
writes_in o cs = total (own_write o) cs

-- an accepted write or removal
abbrev pub Updates : Asked → Type 0
Updates (to_write v) = Unit {0}
Updates to_remove = Unit {0}
Updates (to_look room) = ⊥

abbrev pub Accepted : Call → Seen → Type 0
Accepted c a = Updates c.asked × (a.number ≡ 0)

-- what it leaves of its path: the value written, or nothing
abbrev pub left_by : Asked → Option (List ℕ)
left_by (to_write v) = some v
left_by to_remove = none
left_by (to_look room) = none

abbrev pub leaves : Call → Option (List ℕ)
leaves c = left_by c.asked

-- a lookup
abbrev pub IsLook : Asked → Type 0
IsLook (to_write v) = ⊥
IsLook to_remove = ⊥
IsLook (to_look room) = Unit {0}

abbrev pub Looks : Call → Type 0
Looks c = IsLook c.asked

-- ---- what a book holds
-- a proper book is one of the form that the calls take
abbrev pub ProperBook : List ℕ → Type 0
ProperBook b = Book Current b

-- the records of an owner, and those that its quota leaves free
abbrev pub count : {b : List ℕ} → ProperBook b → ℕ → ℕ
count x o = count_by owner_of o x.records

abbrev pub free : {b : List ℕ} → ProperBook b → ℕ → ℕ
free x o = quota_in x o - count x o

-- no new key k: its owner's count equals its owner's quota
abbrev pub Full : {b : List ℕ} → ProperBook b → Key → Type 0
Full x k = count x (owner_of k) ≡ quota_in x (owner_of k)

-- each owner has at least as many slots free in its quota as the list has writes of its own
abbrev pub Room : {b : List ℕ} → ProperBook b → List Call → Type 0
Room x cs = (o : ℕ) → writes_in o cs ≤ free x o

-- the bytes are a book in which the path k holds this, or nothing
pub record Holds (b : List ℕ) (k : Key) (held : Option (List ℕ)) : Type 0 where
  pub book : ProperBook b
  pub is : get book.records k ≡ held
