-- A form of the book: how the header and a record stand in bytes, and so the whole book. Each version is a form (Version).
-- Assumes nothing.
use Rattle.std.specs.Prelude.{◌≡◌, List, [], ◌∷◌, ◌++◌, ℕ, suc, ◌+◌, ◌*◌, ◌-◌, ◌<◌, ◌≤◌, length, take, drop, replicate}
use Rattle.text.specs.Put.{put}
use Rattle.book_records.specs.Records.{Key}
use Rattle.book_records.specs.Act.{Rec, count_by}
use Rattle.book_form.specs.Moves.{raised, lowered}

abbrev pub zeros : ℕ → List ℕ
zeros n = replicate n 0

pub record Form : Type 1 where
  -- what the header says besides the number of records
  pub Extra : Type 0
  -- the header's bytes, for a number of records, and how many bytes these are
  pub header : Extra → ℕ → List ℕ
  pub head : ℕ
  -- the records that a slot can hold, the bytes of a slot, and how many bytes these are
  pub Fit : Rec → Type 0
  pub slot : Rec → List ℕ
  pub width : ℕ
  -- the record in the slot at the front of some bytes
  pub record_of : List ℕ → Rec
  -- the keys that its records stand under
  pub Exact : Key → Type 0
  -- whose record a key's is: 1 or 2; and how many records an owner may have, by the header and the number of slots
  pub owner : Key → ℕ
  pub quota : Extra → ℕ → ℕ → ℕ

module _ (F : Form) where
  abbrev pub AllFit : List Rec → Type 0
  AllFit [] = Unit {0}
  AllFit (r ∷ rs) = F.Fit r × AllFit rs

  abbrev pub AllExact : List Rec → Type 0
  AllExact [] = Unit {0}
  AllExact (r ∷ rs) = F.Exact r.0 × AllExact rs

  unfoldable pub slots : List Rec → List ℕ
  slots [] = []
  slots (r ∷ rs) = F.slot r ++ slots rs

  -- the bytes of the book with room for C records that holds these
  unfoldable pub layout : ℕ → F.Extra → List Rec → List ℕ
  layout C e rs = F.header e (length rs) ++ (slots rs ++ zeros (F.width * (C - length rs)))

  -- where slot i starts, and the key in it
  abbrev pub slot_at : ℕ → ℕ
  slot_at i = F.head + F.width * i

  abbrev pub key_at : List ℕ → ℕ → Key
  key_at b i = (F.record_of (drop (slot_at i) b)).0

  -- a book of C slots has the slots for both quotas
  abbrev pub QuotasFit : ℕ → F.Extra → Type 0
  QuotasFit C e = F.quota e C 1 + F.quota e C 2 ≤ C

  -- and no owner has more records than its quota
  abbrev pub Within : ℕ → F.Extra → List Rec → Type 0
  Within C e rs = (o : ℕ) → count_by F.owner o rs ≤ F.quota e C o

  -- the slot at the front of some bytes is a record's, filled with zeros
  pub record SlotOk (x : List ℕ) : Type 0 where
    pub bytes : take F.width x ≡ F.slot (F.record_of x)
    pub fit : F.Fit (F.record_of x)

  -- A record put in at slot p of n: the slots after it move up, its slot is written, and the header is written again.
  unfoldable pub inserted : F.Extra → ℕ → ℕ → List ℕ → Rec → List ℕ
  inserted e p n b r = put (put (raised (slot_at p) (slot_at n) F.width b) (slot_at p) (F.slot r)) 0 (F.header e (suc n))

  -- The records of the slots from p up to q taken out of n: the slots behind them move down, as many at the end are cleared, and the header
  -- is written again.
  unfoldable pub removed : F.Extra → ℕ → ℕ → ℕ → List ℕ → List ℕ
  removed e p q n b =
      let w = F.width * (q - p) in
      let left = n - (q - p) in
      put (put (lowered (slot_at q) (slot_at n) w b) (slot_at left) (zeros w)) 0 (F.header e left)

  -- Slot i of n filled from g slots behind it, or cleared where there are no more.
  pub record Filled (b : List ℕ) (i g n : ℕ) (b₁ : List ℕ) : Type 0 where
    pub moved : i + g < n → b₁ ≡ lowered (slot_at (i + g)) (slot_at (i + g + 1)) (F.width * g) b
    pub cleared : n ≤ i + g → b₁ ≡ put b (slot_at i) (zeros F.width)
