-- What is noted of the slots of a book for a client: what the key of each is to it.
-- Assumes nothing.
use Rattle.std.specs.Prelude.{◌≡◌, true, false, List, [], ◌∷◌, ◌++◌, ℕ, ◌+◌, ◌*◌, ◌^◌, ◌≤◌, ◌<◌, length, drop, get_or, Option, Some, None}
use Rattle.std.proofs.Math.Option.{some}
use Rattle.std.proofs.Math.ListN.{get_elem?}
use Rattle.text.specs.Part.{starts_with}
use Rattle.identifiers.specs.Check.{check_of}
use Rattle.identifiers.specs.Check as check
use Rattle.path.specs.declared.Revision.{Revision}
use Rattle.path.specs.Revision.{revision}
use Rattle.writers.specs.Texts.{parent_text}
use Rattle.writers.specs.Texts as texts
use Rattle.book_records.specs.Act.{Rec}
use Rattle.book_records.specs.Calls.{Exact}
use Rattle.book_form.specs.Form.{key_at}
use Rattle.book_form.specs.Counted.{stored}
use Rattle.book.specs.Book.{Current, Book}
use Rattle.book_clear.specs.declared.role.Role.{Role}
use Rattle.book_clear.specs.declared.role.Role.TheVariants.{State, Beside, Other}
use Rattle.book_clear.specs.Clear.{role_of, own_role}

-- clients/C/consensusStates/, with which the keys of the client's kinds 5, 6 and 7 begin
abbrev pub stem : List ℕ → List ℕ
stem client = parent_text client ++ (47 ∷ [])

-- what is noted of slot j
abbrev pub note_at : List Role → ℕ → Role
note_at rs j = get_or rs j Other

-- the revision that a role has, 0-0 where it has none; and that of what is noted of slot j
abbrev pub revision_of : Role → Revision
revision_of (State p) = p
revision_of (Beside p) = p
revision_of Other = revision 0 0

abbrev pub revision_at : List Role → ℕ → Revision
revision_at rs j = revision_of (note_at rs j)

-- where a revision is given for a text, the text has it as R-h in plain digits from `at` to its end
abbrev pub PlainState : List ℕ → ℕ → Option Revision → Type 0
PlainState t at (Some p) = (drop at t ≡ texts.revision p.number.0 p.height.0 []) × (p.number.0 < 2 ^ 64) × (p.height.0 < 2 ^ 64)
PlainState t at None = Unit {0}

-- nothing is noted
abbrev pub Blank : List Role → Type 0
Blank rs = (j : ℕ) → note_at rs j ≡ Other

-- among n keys those from slot `from` up to `stop` begin as the client's do, and no others
pub record Stretched (b : List ℕ) (owner : ℕ) (client : List ℕ) (n from stop : ℕ) : Type 0 where
  pub most : stop ≤ n
  pub before : (j : ℕ) → j < from → starts_with (owner ∷ stem client) (key_at Current b j) ≡ false
  pub inside : (j : ℕ) → from ≤ j → j < stop → starts_with (owner ∷ stem client) (key_at Current b j) ≡ true
  pub behind : (j : ℕ) → stop ≤ j → j < n → starts_with (owner ∷ stem client) (key_at Current b j) ≡ false

-- the key of slot j
abbrev pub stored_at : List ℕ → ℕ → List ℕ
stored_at b j = stored b (12 + 322 * j + 1)

-- the slots from `from` up to `stop` have exact keys that begin as the client's do, and it is a client
pub record Own (b client : List ℕ) (from stop : ℕ) : Type 0 where
  pub valid : check_of check.client client ≡ 0
  pub few : stop ≤ 200
  pub room : 12 + 322 * stop ≤ length b
  pub exact : (j : ℕ) → from ≤ j → j < stop → Exact (stored_at b j)
  pub begins : (j : ℕ) → from ≤ j → j < stop → starts_with (stem client) (stored_at b j) ≡ true

-- what those slots are is noted, and nothing of others
pub record NotedFrom (b client : List ℕ) (from stop : ℕ) (rs : List Role) : Type 0 where
  pub inside : (j : ℕ) → from ≤ j → j < stop → note_at rs j ≡ role_of client (stored_at b j)
  pub before : (j : ℕ) → j < from → note_at rs j ≡ Other
  pub behind : (j : ℕ) → stop ≤ j → note_at rs j ≡ Other

-- what each record of the book b is to the owner's client is noted
abbrev pub Noted : List ℕ → ℕ → List ℕ → List Role → Type 0
Noted b owner client rs = (x : Book Current b) (j : ℕ) (r : Rec) → get_elem? x.records j ≡ some r → own_role owner client r.0 ≡ note_at rs j
