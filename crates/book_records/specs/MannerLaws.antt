-- Laws of exact texts and of manners: what the reader's mark tells, and which key a text has in a call of either manner.
-- Assumes nothing.
use Prim.Native.Nat.{ℕ}
use Rattle.std.specs.Prelude.{◌≡◌, refl, Bool, true, false, cond, not, ◌⊎◌, Ok, Err}
use Rattle.std.proofs.Common.{sym, ap, ◌∙◌, inl, inr, arith}
use mathlib.Core.List.{List, ◌∷◌}
use Rattle.text.specs.Part.{same}
use Rattle.text.specs.PartLaws.{same_refl}
use Rattle.text.specs.Refusal.{loose, bad_owner}
use Rattle.text.specs.Put.{Wanted, refused, text}
use Rattle.path.specs.declared.Path.{Path}
use Rattle.path.specs.declared.Refusal.{Refusal}
use Rattle.path.specs.Reading.{Reading, Read}
use Rattle.path.specs.BackLaws.{read-exact, exact-renders, read_again}
use Rattle.path.specs.BackLaws as back
use Rattle.path.specs.Read.{key_of, key_by, read_path, render_path, refusal_of}
use Rattle.book_records.specs.declared.Manner.{Manner}
use Rattle.book_records.specs.declared.Manner.TheVariants.{Plain, Lenient}
use Rattle.book_records.specs.Records.{Key}
use Rattle.book_records.specs.Act.{Meaning, refuses}
use Rattle.book_records.specs.Calls.{Asked, Call, is_owner, Exact, Spelled, kind_by, kind_in, is_loose, key_for, keyed, under, meaning}

-- ---- exact keys, by the mark of a reading
pub key-read : (t : List ℕ) (p : Path) (e : Bool) → read_path t ≡ Read p e → key_of t ≡ text (render_path t p)
unfolding key_of
key-read t p e h = ap (key_by t) h

pub key-refused : (t : List ℕ) (r : Refusal) → read_path t ≡ Err r → key_of t ≡ refused (refusal_of r)
unfolding key_of
key-refused t r h = ap (key_by t) h

pub exact_yes : (t : List ℕ) (p : Path) → read_path t ≡ Read p true → Exact t
exact_yes t p h = key-read t p true h ∙ ap text (exact-renders t p h)

pub exact-no : (t : List ℕ) (p : Path) → read_path t ≡ Read p false → Exact t → ⊥
exact-no t p h x =
    let e : render_path t p ≡ t = let q = key-read t p false h in cc in
    let m : false ≡ same t t = read-exact t p false h ∙ ap (same t) e in
    let z : ◌≡◌ {A = ℕ} 0 1 = cc (same_refl t) in
    omega arith

pub exact-refused : (t : List ℕ) (r : Refusal) → read_path t ≡ Err r → Exact t → ⊥
exact-refused t r h x =
    let q = key-refused t r h in
    let z : ◌≡◌ {A = ℕ} 0 1 = cc in
    omega arith

-- a key is of its text's kind
pub key-kind : (t k : List ℕ) → key_of t ≡ text k → kind_in t ≡ kind_in k
unfolding kind_in
key-kind t k h =
    let r = back.key-read t k h in
    let s = read_again t r.0 r.1 r.2 in
    ap kind_by r.2 ∙ sym s.kind ∙ sym (ap kind_by s.read) ∙ sym (ap kind_in r.3)

-- ---- the key of a text in a call of that manner, by cases
pub data KeyFor (m : Manner) (t : List ℕ) : Wanted → Type 0 where
  unread : {n : ℕ} → key_of t ≡ refused n → KeyFor m t (refused n)
  other : {k : Key} → key_of t ≡ text k → (Spelled m t → ⊥) → KeyFor m t (refused loose)
  own : {k : Key} → key_of t ≡ text k → Spelled m t → KeyFor m t (text k)

pub key_for_lem : (m : Manner) (t : List ℕ) → KeyFor m t (key_for m t)
unfolding key_for
key_for_lem m t = go m (read_path t) refl
  where
    plain : (p : Path) (e : Bool) → read_path t ≡ Read p e → KeyFor Plain t (cond (not e) (refused loose) (key_of t))
    plain p true h = rw (key-read t p true h) (own (key-read t p true h) (exact_yes t p h))
    plain p false h = other (key-read t p false h) (exact-no t p h)

    go : (n : Manner) (r : Reading) → read_path t ≡ r → KeyFor n t (cond (is_loose n r) (refused loose) (key_of t))
    go Plain (Ok r) h = plain r.path r.exact h
    go Plain (Err w) h = rw (key-refused t w h) (unread (key-refused t w h))
    go Lenient (Ok r) h = rw (key-read t r.path r.exact h) (own (key-read t r.path r.exact h) tt)
    go Lenient (Err w) h = rw (key-refused t w h) (unread (key-refused t w h))

clash : {k : Key} {n : ℕ} (w : Wanted) → w ≡ text k → w ≡ refused n → ⊥
clash w e f = let z : ◌≡◌ {A = ℕ} 0 1 = cc in omega arith

-- and back
module _ (m : Manner) (t : List ℕ) where
  pub for-unread : (n : ℕ) → key_of t ≡ refused n → key_for m t ≡ refused n
  for-unread n h = go (key_for_lem m t)
    where
      go : {w : Wanted} → KeyFor m t w → w ≡ refused n
      go (unread e) = sym e ∙ h
      go (other e s) = absurd (clash (key_of t) e h)
      go (own e s) = absurd (clash (key_of t) e h)

  pub for-other : (k : Key) → key_of t ≡ text k → (Spelled m t → ⊥) → key_for m t ≡ refused loose
  for-other k h s = go (key_for_lem m t)
    where
      go : {w : Wanted} → KeyFor m t w → w ≡ refused loose
      go (unread e) = absurd (clash (key_of t) h e)
      go (other e o) = refl
      go (own e o) = absurd (s o)

  pub for-own : Spelled m t → key_for m t ≡ key_of t
  for-own s = go (key_for_lem m t)
    where
      go : {w : Wanted} → KeyFor m t w → w ≡ key_of t
      go (unread e) = sym e
      go (other e o) = absurd (o s)
      go (own e o) = sym e

  -- the same by what was read
  module _ (r : Reading) (by : r ≡ read_path t) where
    pub read-loose : is_loose m r ≡ true → key_for m t ≡ refused loose
    unfolding key_for
    read-loose h = rw (← by, h)

    pub read_taken : is_loose m r ≡ false → key_for m t ≡ key_of t
    unfolding key_for
    read_taken h = rw (← by, h)

-- a plain call means what the lenient call on its text means, or is refused with 20
module _ (o : ℕ) (t : List ℕ) (q : Asked) where
  abbrev call : Manner → Call
  call m = record { manner = m; owner = o; text = t; asked = q }

  pub plain-or-loose : (meaning (call Plain) ≡ refuses loose) ⊎ (meaning (call Plain) ≡ meaning (call Lenient))
  unfolding meaning keyed
  plain-or-loose = whose (is_owner o)
    where
      under-owner : List ℕ → Meaning
      under-owner k = under q (o ∷ k)

      go : (b : Bool) → is_loose Plain (read_path t) ≡ b → (keyed (key_for Plain t) under-owner ≡ refuses loose) ⊎ (keyed (key_for Plain t) under-owner ≡ keyed (key_for Lenient t) under-owner)
      go true h = inl (rw (read-loose Plain t (read_path t) refl h))
      go false h = inr (rw (read_taken Plain t (read_path t) refl h, read_taken Lenient t (read_path t) refl refl))

      whose : (w : Bool)
          → (cond w (keyed (key_for Plain t) under-owner) (refuses bad_owner) ≡ refuses loose) ⊎ (cond w (keyed (key_for Plain t) under-owner) (refuses bad_owner) ≡ cond w (keyed (key_for Lenient t) under-owner) (refuses bad_owner))
      whose true = go (is_loose Plain (read_path t)) refl
      whose false = inr refl
