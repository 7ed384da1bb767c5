-- The lengths of what is encoded, and one writer after the other.
-- Assumes nothing.
use Rattle.std.specs.Prelude.{ℕ, ◌+◌, ◌≤◌, ◌≡◌, Bool, cond, List, [], ◌∷◌, ◌++◌, length, Err}
use Rattle.std.proofs.Common.{append_assoc, length-append}
use Rattle.text.specs.Put.{put, Wrote, text, refused, Wanted, answer}
use Rattle.text.specs.declared.Fault.{Fault}
use Rattle.text.specs.declared.Written.{Written}
use Rattle.path.specs.declared.Place.{Place}
use Rattle.path.specs.declared.PathView.{PathView}
use Rattle.path.specs.declared.Path.{Path}
use Rattle.path.specs.declared.Refusal.{Refusal}
use Rattle.path.specs.Reading.{Reading, Read}
use Rattle.path.specs.Read.{place_bytes, refusal_of, as_fault, read_path, bytes_by, reading_bytes, read_fault}
use Rattle.path.specs.View.{view_of}
use Rattle.text.specs.Number.{big_endian}
use Rattle.text.specs.NumberLaws.{length_big}
use Rattle.reading.specs.Encode.{view_bytes, answer_by}

pub length-place : (p : Place) → length (place_bytes p) ≡ 4
length-place p = simp (length-append, length_big)

pub length-places : (p q : Place) → length (place_bytes p ++ place_bytes q) ≡ 8
length-places p q = simp (length-append, length_big)

pub length-view : (v : PathView) → length (view_bytes v) ≡ 26
unfolding view_bytes
length-view v = simp (length-append, length_big)

-- a text of n bytes was written
pub wrote : {out o w : List ℕ} {at r : ℕ} (n : ℕ) → length w ≡ n → r ≡ at + n → o ≡ put out at w → at + n ≤ length out → Wrote out at w r o
wrote n l e p h = record { next = rw l e; after = p; room = rw l h }

-- the writers of kind and mark, of places and of numbers make the 26 bytes
pub wrote-view : {out o : List ℕ} {at r : ℕ} (v : PathView)
    → Wrote out at ((v.kind ∷ cond v.exact 1 0 ∷ []) ++ ((place_bytes v.first ++ place_bytes v.second) ++ (big_endian 8 v.a ++ big_endian 8 v.b))) r o → Wrote out at (view_bytes v) r o
unfolding view_bytes
wrote-view v h = rw (append_assoc (place_bytes v.first) (place_bytes v.second) (big_endian 8 v.a ++ big_endian 8 v.b)) at h

-- ---- a reading's bytes: those of what a path shows, or a refusal
module _ (r : Reading) where
  pub bytes_read : (p : Path) (x : Bool) (v : PathView) → r ≡ Read p x → v ≡ view_of p x → text (view_bytes v) ≡ bytes_by r
  unfolding view_bytes view_of
  bytes_read p x v h e = rw (h, e)

  pub bytes-refused : (w : Refusal) → r ≡ Err w → refused (refusal_of w) ≡ bytes_by r
  bytes-refused w h = rw h

  -- and the answer beside them
  module _ (room : ℕ) where
    pub fault-read : (p : Path) (x : Bool) → r ≡ Read p x → (w : Wanted) → w ≡ bytes_by r → (a : Written) → a ≡ answer w room → record { refusal = a.refusal; place = 0 } ≡ answer_by r room
    unfolding answer_by
    fault-read p x h w e a i = rw (i, e, h)

    pub fault-refused : (w : Refusal) (f : Fault) → r ≡ Err w → f ≡ as_fault w → f ≡ answer_by r room
    unfolding answer_by answer
    fault-refused w f h e = rw h e

-- those of the reading of a text are the reader's for the node
pub answer-reading : (t : List ℕ) (r : Reading) → r ≡ read_path t → (room : ℕ) → answer_by r room ≡ read_fault t room
unfolding answer_by read_fault reading_bytes
answer-reading t r e room = rw e

pub bytes-reading : (t : List ℕ) (r : Reading) → r ≡ read_path t → bytes_by r ≡ reading_bytes t
unfolding reading_bytes
bytes-reading t r e = rw e
