-- The calls on a book: writes, removals and lookups on texts, and what each means.
-- Assumes nothing.
use Rattle.std.specs.Prelude.{ℕ, ◌≤◌, ◌≡◌, refl, Bool, true, false, cond, not, ◌&&◌, ◌||◌, List, [], ◌∷◌, eqb, leb, length, get_or, Ok, Err}
use Rattle.text.specs.Order.{cmp, Before}
use Rattle.text.specs.Refusal.{no_room, bad_length, key_too_long, loose, bad_owner, retired}
use Rattle.text.specs.Put.{Wanted, refused, text}
use Rattle.text.specs.Put as put
use Rattle.text.specs.declared.Written.{Written}
use Rattle.path.specs.Reading.{Reading}
use Rattle.path.specs.Read.{read_path, key_of}
use Rattle.path.specs.View.{kind_of}
use Rattle.book_records.specs.declared.Manner.{Manner}
use Rattle.book_records.specs.declared.Manner.TheVariants.{Plain, Lenient}
use Rattle.book_records.specs.Records.{Key}
use Rattle.book_records.specs.Act.{Meaning, refuses, writes, removes, looks}

-- what is asked: to write a value, to remove, or to look up with that many bytes of room
pub data Asked : Type 0 where
  to_write : List ℕ → Asked
  to_remove : Asked
  to_look : ℕ → Asked

pub record Call : Type 0 where
  pub manner : Manner
  pub owner : ℕ
  pub text : List ℕ
  pub asked : Asked

abbrev pub write : Manner → ℕ → List ℕ → List ℕ → Call
write m o t v = record { manner = m; owner = o; text = t; asked = to_write v }

abbrev pub remove : Manner → ℕ → List ℕ → Call
remove m o t = record { manner = m; owner = o; text = t; asked = to_remove }

abbrev pub look : Manner → ℕ → List ℕ → ℕ → Call
look m o t room = record { manner = m; owner = o; text = t; asked = to_look room }

-- ---- owners
-- the owners are 1 and 2
abbrev pub is_owner : ℕ → Bool
is_owner o = eqb o 1 || eqb o 2

-- a key has its owner in front
abbrev pub owner_of : Key → ℕ
owner_of k = get_or k 0 0

-- so keys are ordered by owner first
owner_first : Before (1 ∷ 98 ∷ []) (2 ∷ 97 ∷ [])
unfolding cmp
owner_first = refl

-- ---- paths
-- the path of a call: its owner, and then the rendering of its text. A call of nobody's has none
pub record PathOf (c : Call) (k : Key) : Type 0 where
  pub rendering : List ℕ
  pub known : is_owner c.owner ≡ true
  pub renders : key_of c.text ≡ text rendering
  pub is : k ≡ c.owner ∷ rendering

-- texts of one owner with the same rendering are the same path
abbrev pub SamePath : Call → Call → Type 0
SamePath c d = (k : Key) × PathOf c k × PathOf d k

-- a text that reads, and is its own rendering
abbrev pub Exact : List ℕ → Type 0
Exact t = key_of t ≡ text t

-- a key of an owner's: the owner, and then an exact text
abbrev pub Owned : Key → Type 0
Owned [] = ⊥
Owned (o ∷ t) = (is_owner o ≡ true) × Exact t

-- ---- kinds
-- the kind of what a text reads as, 0 where it does not
abbrev pub kind_by : Reading → ℕ
kind_by (Ok r) = kind_of r.path
kind_by (Err w) = 0

unfoldable pub kind_in : List ℕ → ℕ
kind_in t = kind_by (read_path t)

-- a key of kind 8, which is retired: its record may be looked up and removed, and is never written
unfoldable pub is_retired : Key → Bool
is_retired [] = false
is_retired (o ∷ t) = eqb (kind_in t) 8

-- a text as a call of that manner takes it: a plain one takes exact texts only
abbrev pub Spelled : Manner → List ℕ → Type 0
Spelled Plain t = Exact t
Spelled Lenient t = Unit {0}

-- ---- meaning
-- by the reader's mark: a plain call refuses a loose text, a lenient one none
abbrev pub is_loose : Manner → Reading → Bool
is_loose Plain (Ok r) = not r.exact
is_loose Plain (Err w) = false
is_loose Lenient r = false

-- the key of a text in a call of that manner: the reader's refusals, then 20
unfoldable pub key_for : Manner → List ℕ → Wanted
key_for m t = cond (is_loose m (read_path t)) (refused loose) (key_of t)

-- a call works on the rendering of its text: 1, 2, 3 are the reader's, and 10 is judged on the rendering
unfoldable pub keyed : Wanted → (List ℕ → Meaning) → Meaning
keyed (refused n) f = refuses n
keyed (text k) f = cond (leb (length k) 255) (f k) (refuses key_too_long)

-- a value has from 1 to 64 bytes
pub record ValueFits (v : List ℕ) : Type 0 where
  pub least : 1 ≤ length v
  pub most : length v ≤ 64

-- what is asked of a key: to hold a value of those sizes, where it is not retired; a lookup wants room for the longest, whatever it finds
abbrev pub under : Asked → Key → Meaning
under (to_write v) k = cond (is_retired k) (refuses retired) (cond (leb 1 (length v) && leb (length v) 64) (writes k v) (refuses bad_length))
under to_remove k = removes k
under (to_look room) k = cond (leb 64 room) (looks k) (refuses no_room)

-- 23 comes before all else that the arguments decide
unfoldable pub meaning : Call → Meaning
meaning c = cond (is_owner c.owner) (keyed (key_for c.manner c.text) (λ k. under c.asked (c.owner ∷ k))) (refuses bad_owner)

nobodys : (m : Manner) (t : List ℕ) (q : Asked) → meaning (record { manner = m; owner = 3; text = t; asked = q }) ≡ refuses bad_owner
unfolding meaning
nobodys m t q = refl

-- 25 comes before 6, whatever the value; nothing else that is asked looks at the kind
retired_first : (k : Key) (v : List ℕ) → is_retired k ≡ true → under (to_write v) k ≡ refuses retired
retired_first k v h = rw h

-- what a key's field of 255 bytes answers: the refusals of its text, then 10
unfoldable pub key_answer : Wanted → Written
key_answer (refused n) = put.refusal n
key_answer (text k) = cond (leb (length k) 255) (put.done (length k)) (put.refusal key_too_long)
