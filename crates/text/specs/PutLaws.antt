-- Laws of `Put`.
-- Assumes nothing.
use Rattle.std.specs.Prelude.{◌≡◌, refl, Bool, true, false, cond, ℕ, suc, ◌+◌, ◌≤◌, ◌<◌, List, [], ◌∷◌, ◌++◌, leb, length, take, drop, get_or, set}
use Rattle.std.proofs.Common.{sym, ap, ◌∙◌, add_assoc, add-zero, zero-add, add-suc, add-one, arith, append_assoc, length-append, length-take, length-drop, take-append-drop, drop_of_length-le, drop-cons, take_at, drop-drop, length-take-le, take-suc-set, drop-set-lt, le-leb, leb-true}
use Rattle.std.proofs.Math.Seq.{drop-append-add}
use Rattle.std.proofs.lemmas.List.{set_split}
use Rattle.std.proofs.lemmas.Bool.{lt-leb}
use Rattle.text.specs.declared.Written.{Written}
use Rattle.text.specs.Put.{put, Wrote, Wanted, refused, text, refusal, done, answer, left}

-- one byte stored
pub put-set : (out : List ℕ) (at b : ℕ) → at < length out → set out at b ≡ put out at (b ∷ [])
unfolding put
put-set out at b h = rw (set_split out at b h, add-one)

-- nothing written
pub put-nil : (out : List ℕ) (at : ℕ) → put out at [] ≡ out
unfolding put
put-nil out at = rw add-zero (take-append-drop at out)

-- written at the start
pub put-zero : (out w : List ℕ) → put out 0 w ≡ w ++ drop (length w) out
unfolding put
put-zero out w = rw zero-add

pub length-put : (out : List ℕ) (at : ℕ) (w : List ℕ) → at + length w ≤ length out → length (put out at w) ≡ length out
unfolding put
length-put out at w h = simp (length-append, length-take, length-drop) (omega arith)

-- a text written, and another right after it, is the two written as one
pub put-put : (out : List ℕ) (at : ℕ) (a b : List ℕ) → at + length a ≤ length out → put (put out at a) (at + length a) b ≡ put out at (a ++ b)
unfolding put
put-put out at a b h =
    let t : length (take at out) ≡ at = length-take-le at out (omega arith) in
    let l : length (take at out ++ a) ≡ at + length a = rw (length-append, t) in
    rw (
      ← append_assoc (take at out) a (drop (at + length a) out),
      take_at (take at out ++ a) (drop (at + length a) out) (at + length a) l,
      ← l,
      drop-append-add (take at out ++ a) (drop (length (take at out ++ a)) out) (length b),
      l,
      drop-drop,
      append_assoc,
      append_assoc,
      length-append,
      add_assoc,
    )

-- the same as a step: o' is o with b written at p, and o is `out` with a written up to p
pub put_then : (out : List ℕ) (at : ℕ) (a b o o' : List ℕ) (p : ℕ) → o ≡ put out at a → p ≡ at + length a → at + length a ≤ length out → o' ≡ put o p b → o' ≡ put out at (a ++ b)
put_then out at a b o o' p e q h f = f ∙ rw (e, q) (put-put out at a b h)

-- the same as a step of a writer: the rest is still to be written after a, which stands from p on
pub put_next : (out : List ℕ) (p : ℕ) (a rest out' : List ℕ) (p' : ℕ) → p + length a ≤ length out → p' ≡ p + length a → out' ≡ put out p a → put out p (a ++ rest) ≡ put out' p' rest
put_next out p a rest out' p' h q e = rw (e, q) (sym (put-put out p a rest h))

-- two texts written one after the other, and a third still to come: the three from the first place on
pub put_two :
    (out : List ℕ) (p : ℕ) (a b t o o' : List ℕ) (q r : ℕ) → o ≡ put out p a → q ≡ p + length a → o' ≡ put o q b → r ≡ q + length b → r ≤ length out → put out p (a ++ (b ++ t)) ≡ put o' r t
put_two out p a b t o o' q r e x f y h =
    let l : length o ≡ length out = ap length e ∙ length-put out p a (omega arith) in
    put_next out p a (b ++ t) o q (omega arith) x e ∙ put_next o q b t o' r (omega arith) y f

-- two texts by two writers, one after the other
pub both : {out o o' a b : List ℕ} {at p q : ℕ} → Wrote out at a p o → Wrote o p b q o' → Wrote out at (a ++ b) q o'
both {out} {o} {o'} {a} {b} {at} {p} {q} x y =
    let l : length o ≡ length out = ap length x.after ∙ length-put out at a x.room in
    record { next = rw length-append (omega (arith, x.next, y.next)); after = put_then out at a b o o' p x.after x.next x.room y.after; room = rw length-append (omega (arith, x.next, y.room)) }

-- `out` up to place p, then what is to be written, then `out` from place e on: one byte of it stored
pub store-more : (out : List ℕ) (p e b : ℕ) (rest : List ℕ) → p < length out → p < e → take p out ++ (b ∷ (rest ++ drop e out)) ≡ take (suc p) (set out p b) ++ (rest ++ drop e (set out p b))
store-more out p e b rest l q = rw (take-suc-set out p b l, append_assoc, drop-set-lt e out p b q)

-- the same where `src` from i on is to be written from place at + i on: one turn of a copying loop
module _ (out src : List ℕ) (at i e : ℕ) where
  pub copy-none : length src ≤ i → at + i ≡ e → take (at + i) out ++ (drop i src ++ drop e out) ≡ out
  copy-none h q = rw (drop_of_length-le src h, q) (take-append-drop e out)

  pub copy_more : i < length src → at + i < length out → at + i < e → take (at + i) out ++ (drop i src ++ drop e out) ≡ take (at + (i + 1)) (set out (at + i) (get_or src i 0)) ++ (drop (i + 1) src ++ drop e (set out (at + i) (get_or src i 0)))
  copy_more h l q = rw (drop-cons src i 0 h, add-one, add-suc) (store-more out (at + i) e (get_or src i 0) (drop (suc i) src) l q)

-- a refusal
pub answer-refused : (n room : ℕ) → answer (refused n) room ≡ refusal n
unfolding answer
answer-refused n room = refl

pub left-refused : (n : ℕ) (out : List ℕ) → left (refused n) out ≡ out
unfolding left
left-refused n out = refl

-- a text that fits, and one that does not
module _ (w : List ℕ) where
  pub answer-fits : (room : ℕ) → length w ≤ room → answer (text w) room ≡ done (length w)
  unfolding answer
  answer-fits room h = rw (le-leb (length w) room h)

  pub answer-short : (room : ℕ) → room < length w → answer (text w) room ≡ refusal 4
  unfolding answer
  answer-short room h = rw (lt-leb (length w) room h)

  pub left-fits : (out : List ℕ) → length w ≤ length out → left (text w) out ≡ put out 0 w
  unfolding left
  left-fits out h = rw (le-leb (length w) (length out) h)

  pub left-short : (out : List ℕ) → length out < length w → left (text w) out ≡ out
  unfolding left
  left-short out h = rw (lt-leb (length w) (length out) h)

pub length-left : (x : Wanted) (out : List ℕ) → length (left x out) ≡ length out
unfolding left
length-left (refused n) out = refl
length-left (text w) out = go (leb (length w) (length out)) refl
  where
    go : (v : Bool) → leb (length w) (length out) ≡ v → length (cond v (put out 0 w) out) ≡ length out
    go true e = length-put out 0 w (omega (arith, leb-true (length w) (length out) e))
    go false e = refl

-- a refusal changes no byte
pub refusal_keeps : (x : Wanted) (out : List ℕ) → ((answer x (length out)).refusal ≡ 0 → ⊥) → left x out ≡ out
unfolding answer left
refusal_keeps (refused n) out h = refl
refusal_keeps (text w) out h = go (leb (length w) (length out)) h
  where
    go : (v : Bool) → ((cond v (done (length w)) (refusal 4)).refusal ≡ 0 → ⊥) → cond v (put out 0 w) out ≡ out
    go true k = absurd (k refl)
    go false k = refl

-- ---- the ways out of a call that writes
module _ (x : Wanted) (out : List ℕ) where
  pub gives-refusal : (n : ℕ) → x ≡ refused n → (refusal n ≡ answer x (length out)) × (out ≡ left x out)
  gives-refusal n e = rw e (sym (answer-refused n (length out)), sym (left-refused n out))

  pub gives_same : {y : Wanted} {r : Written} {o : List ℕ} → x ≡ y → (r ≡ answer y (length out)) × (o ≡ left y out) → (r ≡ answer x (length out)) × (o ≡ left x out)
  gives_same e h = rw e h

module _ (w out : List ℕ) where
  pub gives-short : length out < length w → (refusal 4 ≡ answer (text w) (length out)) × (out ≡ left (text w) out)
  gives-short h = (sym (answer-short w (length out) h), sym (left-short w out h))

  pub gives-text : {r : ℕ} {o : List ℕ} → Wrote out 0 w r o → (done r ≡ answer (text w) (length out)) × (o ≡ left (text w) out)
  gives-text h = (ap done (h.next ∙ zero-add _) ∙ sym (answer-fits w (length out) (omega (arith, h.room))), h.after ∙ sym (left-fits w out (omega (arith, h.room))))
