-- What the reading of a text tells of the key's field: the loose texts, the answer of the writer of keys, and the key's kind.
-- Assumes nothing.
use Rattle.std.specs.Prelude.{ℕ, ◌≡◌, Bool, true, false, cond, not, List, leb, length, Result, Ok, Err}
use Rattle.std.proofs.Math.Path.{refl}
use Rattle.std.proofs.Common.{sym, ap, ◌∙◌, arith}
use Rattle.text.specs.Put.{Wanted}
use Rattle.text.specs.Put as buffer
use Rattle.text.specs.Refusal as refusal
use Rattle.text.specs.declared.Written.{Written}
use Rattle.path.specs.declared.PathView.{PathView}
use Rattle.path.specs.declared.Refusal.{Refusal}
use Rattle.path.specs.Reading.{Reading}
use Rattle.path.specs.Read.{read_path, key_of}
use Rattle.path.specs.View.{view_of, viewed_by}
use Rattle.book_records.specs.declared.Manner.{Manner}
use Rattle.book_records.specs.declared.Manner.TheVariants.{Plain, Lenient}
use Rattle.book_records.specs.Calls.{kind_by, kind_in, is_loose, key_for, key_answer}
use Rattle.book_records.specs.MannerLaws.{key-kind, KeyFor, unread, other, own, key_for_lem, read-loose, read_taken}
use Rattle.book_records.specs.TextLaws.{answer-long, answer-other, for-own}
use Rattle.book_key.specs.Field.{loose_by, kind_seen, kind_made}

-- ---- which flat readings are loose
pub unread-taken : (m : Manner) (x : Result PathView Refusal) (w : Refusal) → x ≡ Err w → false ≡ loose_by m x
unread-taken Plain x w h = rw h
unread-taken Lenient x w h = refl

pub plain-by-mark : (m : Manner) (x : Result PathView Refusal) (v : PathView) → x ≡ Ok v → m ≡ Plain → not v.exact ≡ loose_by m x
plain-by-mark m x v h k = rw (h, k)

pub lenient-taken : (m : Manner) (x : Result PathView Refusal) → m ≡ Lenient → false ≡ loose_by m x
lenient-taken m x k = rw k

-- those whose readings are
loose-read : (m : Manner) (r : Reading) → loose_by m (viewed_by r) ≡ is_loose m r
unfolding viewed_by view_of
loose-read Plain (Ok r) = refl
loose-read Plain (Err w) = refl
loose-read Lenient r = refl

-- ---- the field's answer, and the field
module _ (m : Manner) (t : List ℕ) (x : Result PathView Refusal) (by : x ≡ viewed_by (read_path t)) (b : Bool) (told : b ≡ loose_by m x) where
  is-loose : b ≡ is_loose m (read_path t)
  is-loose = told ∙ ap (loose_by m) by ∙ loose-read m (read_path t)

  pub field_loose : b ≡ true → buffer.refusal refusal.loose ≡ key_answer (key_for m t)
  unfolding key_answer
  field_loose h = rw (read-loose m t (read_path t) refl (sym is-loose ∙ h))

  pub loose_kept : b ≡ true → (out : List ℕ) → out ≡ buffer.left (key_for m t) out
  unfolding buffer.left
  loose_kept h out = rw (read-loose m t (read_path t) refl (sym is-loose ∙ h))

  pub field-left : b ≡ false → (out o : List ℕ) → o ≡ buffer.left (key_of t) out → o ≡ buffer.left (key_for m t) out
  field-left h out o e = e ∙ rw (read_taken m t (read_path t) refl (sym is-loose ∙ h))

  module _ (w : Written) (n : ℕ) (size : n ≡ 255) (wrote : w ≡ buffer.answer (key_of t) n) (taken : b ≡ false) where
    written : w ≡ buffer.answer (key_for m t) 255
    written = wrote ∙ rw (size, read_taken m t (read_path t) refl (sym is-loose ∙ taken))

    pub field-long : w.refusal ≡ 4 → buffer.refusal 10 ≡ key_answer (key_for m t)
    field-long h = sym (answer-long m t (sym (ap (λ (v : Written). v.refusal) written) ∙ h))

    pub field_fits : (w.refusal ≡ 4 → ⊥) → w ≡ key_answer (key_for m t)
    field_fits h = written ∙ sym (answer-other (key_for m t) (λ q. h (ap (λ (v : Written). v.refusal) written ∙ q)))

-- ---- the kind
kind-read : (r : Reading) → kind_seen (viewed_by r) ≡ kind_by r
unfolding viewed_by view_of
kind-read (Ok r) = refl
kind-read (Err w) = refl

-- where the field takes the key it is the key's
pub kind-made : (m : Manner) (t : List ℕ) (x : Result PathView Refusal) → x ≡ viewed_by (read_path t) → (key_answer (key_for m t)).refusal ≡ 0 → kind_seen x ≡ kind_made (key_for m t)
unfolding kind_made key_answer kind_in
kind-made m t x by z = go (key_for_lem m t) refl z
  where
    go : {w : Wanted} → KeyFor m t w → key_for m t ≡ w → (key_answer w).refusal ≡ 0 → kind_seen x ≡ kind_made w
    go (unread {n = j} e) q z = absurd ((for-own m t j q).refused z)
    go (other e s) q z = let y : ◌≡◌ {A = ℕ} 20 0 = z in absurd (omega (arith, y))
    go (own {k = k} e s) q z = fits (leb (length k) 255) z
      where
        fits : (v : Bool) → (cond v (buffer.done (length k)) (buffer.refusal refusal.key_too_long)).refusal ≡ 0 → kind_seen x ≡ cond v (kind_in k) 0
        fits true z = ap kind_seen by ∙ kind-read (read_path t) ∙ key-kind t k e
        fits false z = let y : ◌≡◌ {A = ℕ} 10 0 = z in absurd (omega (arith, y))
