-- The numbered refusals of a call on a book that its own arguments decide: each given exactly when. A row below has the refusals before
-- it, in the order of the documents, denied in its premises: 23, 1, 2, 3 (or 17, 18, 19, which stand at its place), 20 for a plain call,
-- 10, and then 25 and 6 for a write and 4 for a lookup.
-- Assumes nothing.
use Rattle.std.specs.Prelude.{ℕ, ◌≤◌, ◌<◌, ◌≡◌, true, false, length, List, None}
use Rattle.text.specs.Part.{ascii}
use Rattle.text.specs.Refusal.{too_long, not_ascii, no_room, bad_length, key_too_long, bad_owner}
use Rattle.text.specs.Refusal as refusal
use Rattle.path.specs.Kinds.{kinds}
use Rattle.path.specs.Read.{read_first, why_not, refusal_of}
use Rattle.book_records.specs.Records.{Key}
use Rattle.book_records.specs.Calls.{to_write, to_remove, to_look, Call, is_owner, PathOf, Spelled, is_retired, ValueFits}

-- ---- a call that its own arguments do not refuse
-- the key of a call: its path, where the text is spelled as the call's manner has it and the rendering, behind the owner, has at most
-- 255 bytes
pub record HasKey (c : Call) (k : Key) : Type 0 where
  pub path : PathOf c k
  pub spelled : Spelled c.manner c.text
  pub fits : length k ≤ 256

pub record GoodWrite (c : Call) (k : Key) (v : List ℕ) : Type 0 where
  pub asked : c.asked ≡ to_write v
  pub key : HasKey c k
  pub not_retired : is_retired k ≡ false
  pub size : ValueFits v

pub record GoodRemoval (c : Call) (k : Key) : Type 0 where
  pub asked : c.asked ≡ to_remove
  pub key : HasKey c k

pub record GoodLookup (c : Call) (k : Key) (room : ℕ) : Type 0 where
  pub asked : c.asked ≡ to_look room
  pub key : HasKey c k
  pub wide : 64 ≤ room

-- ---- refusals
-- by the call alone: its owner, its text, the rendering and its kind, the value's length, the room
pub data Declined (c : Call) : ℕ → Type 0 where
  bad_owner_when : is_owner c.owner ≡ false → Declined c bad_owner
  too_long_when : is_owner c.owner ≡ true → 4096 < length c.text → Declined c too_long
  not_ascii_when : is_owner c.owner ≡ true → length c.text ≤ 4096 → ascii c.text ≡ false → Declined c not_ascii
  not_a_path_when : is_owner c.owner ≡ true → length c.text ≤ 4096 → ascii c.text ≡ true → read_first kinds c.text ≡ None → Declined c (refusal_of (why_not c.text))
  loose : {k : Key} → PathOf c k → (Spelled c.manner c.text → ⊥) → Declined c refusal.loose
  key_too_long_when : {k : Key} → PathOf c k → Spelled c.manner c.text → 256 < length k → Declined c key_too_long
  retired : {k : Key} {v : List ℕ} → c.asked ≡ to_write v → HasKey c k → is_retired k ≡ true → Declined c refusal.retired
  bad_length_when : {k : Key} {v : List ℕ} → c.asked ≡ to_write v → HasKey c k → is_retired k ≡ false → (ValueFits v → ⊥) → Declined c bad_length
  no_room_when : {k : Key} {room : ℕ} → c.asked ≡ to_look room → HasKey c k → room < 64 → Declined c no_room
