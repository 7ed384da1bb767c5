-- What a book's records answer to a call, and what the call leaves of them.
-- The refusals that the call's own text, value and room decide are in its `Meaning`; FULL and ABSENT are decided here.
-- Assumes nothing.
use Rattle.std.specs.Prelude.{ℕ, ◌≡◌, refl, Bool, cond, List, [], ◌∷◌, eqb, get_or}
use Rattle.text.specs.Refusal as refusal
use Rattle.std.proofs.Math.Option.{Option, none, some}
use Rattle.runs.specs.Total.{total}
use Rattle.book_records.specs.Records.{Key, get, put, del}

-- a record: a key and its value
abbrev pub Rec : Type 0
Rec = Key × List ℕ

-- what a call asks of a book, once its own arguments are judged
pub data Meaning : Type 0 where
  refuses : ℕ → Meaning
  writes : Key → List ℕ → Meaning
  removes : Key → Meaning
  looks : Key → Meaning

-- a refusal by its number, done, or done with the value that was looked up
pub data Answer : Type 0 where
  says : ℕ → Answer
  done : Answer
  gives : List ℕ → Answer

-- a write adds or replaces, and is refused where it would add to what is full
abbrev pub add_to : Option (List ℕ) → Bool → List Rec → List Rec → Answer × List Rec
add_to (some u) full new old = (done, new)
add_to none full new old = cond full (says refusal.full, old) (done, new)

abbrev pub take_from : Option (List ℕ) → List Rec → List Rec → Answer × List Rec
take_from none new old = (says refusal.absent, old)
take_from (some u) new old = (done, new)

abbrev pub look_in : Option (List ℕ) → List Rec → Answer × List Rec
look_in none old = (says refusal.absent, old)
look_in (some u) old = (gives u, old)

-- `full k s`: the records s have no room for a new key k
unfoldable pub act : (Key → List Rec → Bool) → Meaning → List Rec → Answer × List Rec
act full (refuses n) s = (says n, s)
act full (writes k v) s = add_to (get s k) (full k s) (put s k v) s
act full (removes k) s = take_from (get s k) (del s k) s
act full (looks k) s = look_in (get s k) s

-- ---- owners: each record is somebody's, by its key, and each owner has a quota of records
-- how many records an owner has
unfoldable pub count_by : (Key → ℕ) → ℕ → List Rec → ℕ
count_by owner o s = total (λ r. cond (eqb (owner r.0) o) 1 0) s

two_of_three : count_by (λ k. get_or k 0 0) 1 ((1 ∷ 97 ∷ [], 7 ∷ []) ∷ (1 ∷ 98 ∷ [], 8 ∷ []) ∷ (2 ∷ 97 ∷ [], 9 ∷ []) ∷ []) ≡ 2
unfolding count_by
two_of_three = refl

-- there is no room for a new key where its owner has as many records as its quota says
abbrev pub full_by : (Key → ℕ) → (ℕ → ℕ) → Key → List Rec → Bool
full_by owner quota k s = eqb (count_by owner (owner k) s) (quota (owner k))

-- what the caller sees of an answer: its number, 0 for done, and the value that a lookup gives
pub record Seen : Type 0 where
  pub number : ℕ
  pub value : List ℕ

abbrev pub seen : Answer → Seen
seen (says n) = record { number = n; value = [] }
seen done = record { number = 0; value = [] }
seen (gives v) = record { number = 0; value = v }

-- the number of an answer
abbrev pub number : Answer → ℕ
number a = (seen a).number
