-- The versions of the book. Each has a header of eight bytes, behind which version 3 has the quotas of its two owners, 16 bits each. A slot
-- is in version 3 the owner of the record; then its key behind its length, filled with zeros to 255 bytes; and then the field of its
-- value: 32 bytes in version 1, and from 1 to 64 bytes behind their number, filled with zeros, in versions 2 and 3.
-- Assumes nothing.
use Rattle.std.specs.Prelude.{◌≡◌, refl, Bool, true, false, cond, List, [], ◌∷◌, ◌++◌, ℕ, ◌+◌, ◌*◌, ◌/◌, ◌%◌, ◌≤◌, eqb, length, take, drop, get_or}
use Rattle.text.specs.Bytes.{bytes}
use Rattle.book_records.specs.Records.{Key}
use Rattle.book_records.specs.Act.{Rec}
use Rattle.book_records.specs.Calls.{ValueFits, owner_of, Exact, Owned}
use Rattle.book_form.specs.declared.Quotas.{Quotas}
use Rattle.book_form.specs.declared.Version.{Version}
use Rattle.book_form.specs.declared.Version.TheVariants.{One, Two, Three}
use Rattle.book_form.specs.Form.{Form}
use Rattle.book_form.specs.Counted.{counted, counted_in}

-- the mark `HPB`, the version and the number of records in two bytes each, high byte first, a zero, and what a version has behind them
unfoldable pub header : ℕ → ℕ → List ℕ → List ℕ
header version n rest = bytes "HPB" ++ (0 ∷ version ∷ n / 256 ∷ n % 256 ∷ 0 ∷ rest)

-- the number of records that a header gives
abbrev pub count_in : List ℕ → ℕ
count_in b = 256 * get_or b 5 0 + get_or b 6 0

abbrev pub number_of : Version → ℕ
number_of One = 1
number_of Two = 2
number_of Three = 3

-- ---- the value
-- the field of a value: the values that it can hold, its bytes, how many these are, and the value at the front of some bytes
pub record Field : Type 1 where
  pub Fits : List ℕ → Type 0
  pub field : List ℕ → List ℕ
  pub size : ℕ
  pub value_in : List ℕ → List ℕ

abbrev pub field_of : Version → Field
field_of One = record { Fits = λ v. length v ≡ 32; field = λ v. v; size = 32; value_in = λ x. take 32 x }
field_of Two = record { Fits = ValueFits; field = counted 64; size = 65; value_in = counted_in }
field_of Three = record { Fits = ValueFits; field = counted 64; size = 65; value_in = counted_in }

-- a value of version 1 stands without its length
abbrev pub is_plain : Version → Bool
is_plain One = true
is_plain Two = false
is_plain Three = false

-- at the front of some bytes stands such a field
pub record FieldOk (D : Field) (x : List ℕ) : Type 0 where
  pub bytes : take D.size x ≡ D.field (D.value_in x)
  pub fit : D.Fits (D.value_in x)

-- ---- the owners
-- what the header says of them, its bytes, their number, and what a book says so; how many bytes a key has ahead of its rendering, which
-- stand ahead of its length in the slot; the keys of records, whose they are, and the quotas
pub record Owners : Type 1 where
  pub Extra : Type 0
  pub shown : Extra → List ℕ
  pub size : ℕ
  pub told : List ℕ → Extra
  pub lead : ℕ
  pub Exact : Key → Type 0
  pub owner : Key → ℕ
  pub quota : Extra → ℕ → ℕ → ℕ

-- a quota in two bytes each, high byte first
unfoldable pub quota_bytes : Quotas → List ℕ
quota_bytes q = q.one / 256 ∷ q.one % 256 ∷ q.two / 256 ∷ q.two % 256 ∷ []

-- the quotas that a header gives
abbrev pub quotas_in : List ℕ → Quotas
quotas_in b = record { one = 256 * get_or b 8 0 + get_or b 9 0; two = 256 * get_or b 10 0 + get_or b 11 0 }

-- in versions 1 and 2 a key is its rendering, every record is owner 1's, and its quota is every slot
abbrev pub sole : Owners
sole = record { Extra = Unit {0}; shown = λ e. []; size = 0; told = λ b. tt; lead = 0; Exact = Exact; owner = λ k. 1; quota = λ e C o. cond (eqb o 1) C 0 }

-- in version 3 a key has its owner in front, and the header says the quotas
abbrev pub shared : Owners
shared = record { Extra = Quotas; shown = quota_bytes; size = 4; told = quotas_in; lead = 1; Exact = Owned; owner = owner_of; quota = λ e C o. cond (eqb o 1) e.one (cond (eqb o 2) e.two 0) }

abbrev pub owners_of : Version → Owners
owners_of One = sole
owners_of Two = sole
owners_of Three = shared

-- ---- a slot
module _ (O : Owners) (D : Field) where
  abbrev pub Fit : Rec → Type 0
  Fit r = (O.lead ≤ length r.0) × (length r.0 ≤ O.lead + 255) × D.Fits r.1

  unfoldable pub slot : Rec → List ℕ
  slot r = take O.lead r.0 ++ (counted 255 (drop O.lead r.0) ++ D.field r.1)

  -- the record in the slot at the front of some bytes
  abbrev pub record_of : List ℕ → Rec
  record_of x = (take O.lead x ++ counted_in (drop O.lead x), D.value_in (drop (O.lead + 256) x))

abbrev pub form_of : Version → Form
form_of v =
    let O = owners_of v in
    let D = field_of v in
    record {
      Extra = O.Extra;
      header = λ e n. header (number_of v) n (O.shown e);
      head = 8 + O.size;
      Fit = Fit O D;
      slot = slot O D;
      width = O.lead + (256 + D.size);
      record_of = record_of O D;
      Exact = O.Exact;
      owner = O.owner;
      quota = O.quota;
    }

abbrev pub V1 : Form
V1 = form_of One

abbrev pub V2 : Form
V2 = form_of Two

abbrev pub V3 : Form
V3 = form_of Three

widths : (V1.width ≡ 288) × (V2.width ≡ 321) × (V3.width ≡ 322)
widths = (refl, refl, refl)

heads : (V1.head ≡ 8) × (V2.head ≡ 8) × (V3.head ≡ 12)
heads = (refl, refl, refl)

-- the header of version 3 with 258 records and quotas of 259 and 3
twelve : V3.header (record { one = 259; two = 3 }) 258 ≡ 72 ∷ 80 ∷ 66 ∷ 0 ∷ 3 ∷ 1 ∷ 2 ∷ 0 ∷ 1 ∷ 3 ∷ 0 ∷ 3 ∷ []
unfolding header quota_bytes
twelve = refl

-- a value of three bytes in its field
three : take 6 ((field_of Two).field (7 ∷ 8 ∷ 9 ∷ [])) ≡ 3 ∷ 7 ∷ 8 ∷ 9 ∷ 0 ∷ 0 ∷ []
unfolding counted
three = refl

-- a slot of owner 2 with a key of two bytes
owner_ahead : take 5 (V3.slot (2 ∷ 97 ∷ 98 ∷ [], 7 ∷ [])) ≡ 2 ∷ 2 ∷ 97 ∷ 98 ∷ 0 ∷ []
unfolding slot counted
owner_ahead = refl
