-- The oldest state of an owner's client: the lowest revision among that owner's records of kind 5.
-- Assumes nothing.
use Rattle.std.specs.Prelude.{◌≡◌, cond, ◌&&◌, List, [], ◌∷◌, ℕ, eqb, drop, Ok, Err, Option, Some, None}
use Rattle.text.specs.Part.{same}
use Rattle.text.specs.Refusal.{bad_book, bad_owner}
use Rattle.text.specs.Refusal as refusal
use Rattle.identifiers.specs.Check.{check_of}
use Rattle.identifiers.specs.Check as check
use Rattle.path.specs.declared.Revision.{Revision}
use Rattle.path.specs.declared.Pair.{Pair}
use Rattle.path.specs.Reading.{Reading}
use Rattle.path.specs.Pair.{pair}
use Rattle.path.specs.Read.{read_path}
use Rattle.path.specs.Revision.{revision, below}
use Rattle.path.specs.Text.{shown_of}
use Rattle.path.specs.View.{kind_of, carried_of}
use Rattle.book_records.specs.Records.{Key}
use Rattle.book_records.specs.Act.{Rec}
use Rattle.book_records.specs.Calls.{is_owner, owner_of}
use Rattle.book_form.specs.Form.{Form}
use Rattle.book.specs.Book.{Book}

-- what a key tells of the client: its revision, where it is of kind 5 and of this client
abbrev pub state_by : List ℕ → List ℕ → Reading → Option Revision
state_by client k (Ok r) = cond (eqb (kind_of r.path) 5 && same (shown_of k (carried_of r.path).first) client) (Some (revision (carried_of r.path).a (carried_of r.path).b)) None
state_by client k (Err r) = None

unfoldable pub state_of : List ℕ → List ℕ → Option Revision
state_of client k = state_by client k (read_path k)

-- the lower one, where there are two
abbrev pub older : Option Revision → Option Revision → Option Revision
older None y = y
older (Some p) None = Some p
older (Some p) (Some q) = cond (below q p) (Some q) (Some p)

-- the same of a record's key: nothing where it is another owner's
unfoldable pub own_state : ℕ → List ℕ → Key → Option Revision
own_state owner client k = cond (eqb (owner_of k) owner) (state_of client (drop 1 k)) None

unfoldable pub oldest_state : ℕ → List ℕ → List Rec → Option Revision
oldest_state owner client [] = None
oldest_state owner client (r ∷ rs) = older (own_state owner client r.0) (oldest_state owner client rs)

abbrev pub pair_of : Option Revision → Pair
pair_of (Some p) = pair 0 p.number.0 p.height.0
pair_of None = pair refusal.absent 0 0

-- 23, the client checks, then 12
abbrev pub checked_state : ℕ → List ℕ → List Rec → Pair
checked_state owner client s = cond (eqb (check_of check.client client) 0) (pair_of (oldest_state owner client s)) (pair (check_of check.client client) 0 0)

unfoldable pub oldest_in : ℕ → List ℕ → List Rec → Pair
oldest_in owner client s = cond (is_owner owner) (checked_state owner client s) (pair bad_owner 0 0)

pub data Oldest (F : Form) (b : List ℕ) (owner : ℕ) (client : List ℕ) (r : Pair) : Type 0 where
  no_book : (Book F b → ⊥) → r ≡ pair bad_book 0 0 → Oldest F b owner client r
  this_book : (x : Book F b) → r ≡ oldest_in owner client x.records → Oldest F b owner client r

-- an answer is the oldest state of the owner's client in the book b
abbrev pub OldestIs : Form → List ℕ → ℕ → List ℕ → Option Revision → Type 0
OldestIs F b owner client r = (x : Book F b) → r ≡ oldest_state owner client x.records
