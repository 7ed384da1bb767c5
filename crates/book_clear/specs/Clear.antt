-- Old states cleared out: of an owner's client the states with the greatest revisions stay, as many as are to be kept, and what has a
-- revision below theirs goes, processed times and heights too.
-- Assumes nothing.
use Rattle.std.specs.Prelude.{◌≡◌, refl, Bool, true, false, cond, ◌&&◌, List, ℕ, eqb, leb, drop, Ok, Err}
use Rattle.text.specs.Part.{same}
use Rattle.text.specs.Refusal.{bad_book, bad_owner}
use Rattle.identifiers.specs.Check.{check_of}
use Rattle.identifiers.specs.Check as check
use Rattle.path.specs.declared.Revision.{Revision}
use Rattle.path.specs.Reading.{Reading}
use Rattle.path.specs.Read.{read_path}
use Rattle.path.specs.Revision.{revision, below}
use Rattle.path.specs.Text.{shown_of}
use Rattle.path.specs.View.{kind_of, carried_of}
use Rattle.runs.specs.Total.{total}
use Rattle.runs.specs.Without.{without}
use Rattle.book_records.specs.Records.{Key}
use Rattle.book_records.specs.Act.{Rec}
use Rattle.book_records.specs.Calls.{is_owner, owner_of}
use Rattle.book_form.specs.Form.{Form}
use Rattle.book.specs.Book.{Book, bytes_with}
use Rattle.book_clear.specs.declared.Count.{Count}
use Rattle.book_clear.specs.declared.role.Role.{Role}
use Rattle.book_clear.specs.declared.role.Role.TheVariants.{State, Beside, Other}

-- ---- what a key is to a client
-- a consensus state (kind 5), the processed time or height of one (6, 7), or none of them
abbrev pub role_at : ℕ → Revision → Role
role_at kind p = cond (eqb kind 5) (State p) (cond (eqb kind 6) (Beside p) (cond (eqb kind 7) (Beside p) Other))

abbrev pub role_by : List ℕ → List ℕ → Reading → Role
role_by client k (Ok r) = cond (same (shown_of k (carried_of r.path).first) client) (role_at (kind_of r.path) (revision (carried_of r.path).a (carried_of r.path).b)) Other
role_by client k (Err r) = Other

unfoldable pub role_of : List ℕ → List ℕ → Role
role_of client k = role_by client k (read_path k)

-- the same of a record's key: nothing where it is another owner's
unfoldable pub own_role : ℕ → List ℕ → Key → Role
own_role owner client k = cond (eqb (owner_of k) owner) (role_of client (drop 1 k)) Other

-- ---- what goes
-- 1 for a state whose revision passes a test
abbrev pub state_that : (Revision → Bool) → Role → ℕ
state_that f (State p) = cond (f p) 1 0
state_that f (Beside p) = 0
state_that f Other = 0

-- how many of the records are states of the owner's client with such a revision
unfoldable pub states_that : ℕ → List ℕ → (Revision → Bool) → List Rec → ℕ
states_that owner client f s = total (λ r. state_that f (own_role owner client r.0)) s

abbrev pub least : ℕ → ℕ → ℕ
least a b = cond (leb a b) a b

-- of n states, g of them greater: there is one, and at least as many are greater as are kept
abbrev pub goes_with : ℕ → ℕ → ℕ → Bool
goes_with keep n g = leb 1 n && leb (least keep n) g

-- two of three are kept: what has two greater ones goes
second_stays : goes_with 2 3 1 ≡ false
second_stays = refl

third_goes : goes_with 2 3 2 ≡ true
third_goes = refl

-- where all three are kept, only what is below them goes; where none is, all that there is, but nothing without a state
below_all_goes : goes_with 9 3 3 ≡ true
below_all_goes = refl

all_go : goes_with 0 1 0 ≡ true
all_go = refl

nothing_goes : goes_with 0 0 0 ≡ false
nothing_goes = refl

module _ (owner : ℕ) (client : List ℕ) (keep : ℕ) (s : List Rec) where
  -- what has the revision p goes
  unfoldable pub goes_at : Revision → Bool
  goes_at p = goes_with keep (states_that owner client (λ q. true) s) (states_that owner client (λ q. below p q) s)

  abbrev pub goes_as : Role → Bool
  goes_as (State p) = goes_at p
  goes_as (Beside p) = goes_at p
  goes_as Other = false

  unfoldable pub goes : Rec → Bool
  goes r = goes_as (own_role owner client r.0)

  -- what is left, and how many went
  abbrev pub cleared : List Rec
  cleared = without goes s

  abbrev pub gone : ℕ
  gone = total (λ r. cond (goes r) 1 0) s

-- ---- the call
-- refusal, count
abbrev pub count : ℕ → ℕ → Count
count r n = record { refusal = r; count = n }

-- 23, the client checks, and else what is left
unfoldable pub clear_in : ℕ → List ℕ → ℕ → List Rec → Count × List Rec
clear_in owner client keep s = cond (is_owner owner) (cond (eqb (check_of check.client client) 0) (count 0 (gone owner client keep s), cleared owner client keep s) (count (check_of check.client client) 0, s)) (count bad_owner 0, s)

pub data Cleared (F : Form) (b : List ℕ) (owner : ℕ) (client : List ℕ) (keep : ℕ) (r : Count) (b₁ : List ℕ) : Type 0 where
  no_book : (Book F b → ⊥) → r ≡ count bad_book 0 → b₁ ≡ b → Cleared F b owner client keep r b₁
  this_book : (x : Book F b) → r ≡ (clear_in owner client keep x.records).0 → b₁ ≡ bytes_with x (clear_in owner client keep x.records).1 → Cleared F b owner client keep r b₁
