-- Laws of the calls: what stands in for the refusals of a text, and what a call with a key means.
-- Assumes nothing.
use Rattle.std.specs.Prelude.{◌≡◌, refl, Bool, true, false, cond, List, ◌∷◌, ℕ, ◌≤◌, leb, length, take, drop, Ok, Err}
use Rattle.std.proofs.Common.{sym, ap, ◌∙◌, arith, take_at, leb-true}
use Rattle.text.specs.PutLaws.{left-fits, length-left, put-zero}
use Rattle.text.specs.Put.{Wanted, text}
use Rattle.text.specs.Put as put
use Rattle.path.specs.declared.Refusal.{Refusal}
use Rattle.path.specs.declared.Refusal.TheVariants.{TooLong, NotAscii, NotAPath, NoDigits, NotADigit, TooLarge}
use Rattle.path.specs.Reading.{Reading}
use Rattle.path.specs.Read.{key_of, read_path, refusal_of}
use Rattle.book_records.specs.declared.Manner.{Manner}
use Rattle.book_records.specs.Act.{Meaning, refuses, writes, removes, looks}
use Rattle.book_records.specs.Refusals.{HasKey}
use Rattle.book_records.specs.CallLaws.{writing-means, removing-means, looking-means}
use Rattle.book_records.specs.Calls.{Asked, to_write, to_remove, to_look, write, remove, look, is_owner, meaning, Spelled, key_for, is_retired, ValueFits, keyed, key_answer}
use Rattle.book_records.specs.MannerLaws.{key-read, key-refused, KeyFor, unread, other, own as keeps, key_for_lem}

-- ---- a refusal of a text is no success, and not the 4 of a short buffer
pub record Own (n : ℕ) : Type 0 where
  pub refused : n ≡ 0 → ⊥
  pub no-four : n ≡ 4 → ⊥

own : (r : Refusal) → Own (refusal_of r)
own TooLong = record { refused = λ e. omega arith; no-four = λ e. omega arith }
own NotAscii = record { refused = λ e. omega arith; no-four = λ e. omega arith }
own NotAPath = record { refused = λ e. omega arith; no-four = λ e. omega arith }
own (NoDigits i) = record { refused = λ e. omega arith; no-four = λ e. omega arith }
own (NotADigit i) = record { refused = λ e. omega arith; no-four = λ e. omega arith }
own (TooLarge i) = record { refused = λ e. omega arith; no-four = λ e. omega arith }

key-own : (t : List ℕ) (n : ℕ) → key_of t ≡ put.refused n → Own n
key-own t n h = go (read_path t) refl
  where
    go : (r : Reading) → read_path t ≡ r → Own n
    go (Ok r) q = let w = key-read t r.path r.exact q in let z : ◌≡◌ {A = ℕ} 0 1 = cc in absurd (let y : ⊥ = omega arith in y)
    go (Err r) q = let w = key-refused t r q in let e : refusal_of r ≡ n = cc in rw e at (own r)

pub for-own : (m : Manner) (t : List ℕ) (n : ℕ) → key_for m t ≡ put.refused n → Own n
for-own m t n h = go (key_for_lem m t) h
  where
    go : {w : Wanted} → KeyFor m t w → w ≡ put.refused n → Own n
    go (unread {n = j} e) q = let z : j ≡ n = cc in rw z at (key-own t j e)
    go (other e s) q = let z : 20 ≡ n = cc in record { refused = λ y. omega arith; no-four = λ y. omega arith }
    go (keeps e s) q = let z : ◌≡◌ {A = ℕ} 0 1 = cc in absurd (let y : ⊥ = omega arith in y)

-- ---- a key's field, by the writer of keys: its 4 is 10
pub answer-long : (m : Manner) (t : List ℕ) → (put.answer (key_for m t) 255).refusal ≡ 4 → key_answer (key_for m t) ≡ put.refusal 10
unfolding put.answer key_answer
answer-long m t h = go (key_for m t) refl h
  where
    go : (w : Wanted) → key_for m t ≡ w → (put.answer w 255).refusal ≡ 4 → key_answer w ≡ put.refusal 10
    go (put.refused n) e q = absurd ((for-own m t n e).no-four q)
    go (text k) e q = fits (leb (length k) 255) q
      where
        fits : (v : Bool) → (cond v (put.done (length k)) (put.refusal 4)).refusal ≡ 4 → cond v (put.done (length k)) (put.refusal 10) ≡ put.refusal 10
        fits true z = absurd (let y : ⊥ = omega arith in y)
        fits false z = refl

pub answer-other : (w : Wanted) → ((put.answer w 255).refusal ≡ 4 → ⊥) → key_answer w ≡ put.answer w 255
unfolding put.answer key_answer
answer-other w h = go w h
  where
    go : (w : Wanted) → ((put.answer w 255).refusal ≡ 4 → ⊥) → key_answer w ≡ put.answer w 255
    go (put.refused n) q = refl
    go (text k) q = fits (leb (length k) 255) q
      where
        fits : (v : Bool) → ((cond v (put.done (length k)) (put.refusal 4)).refusal ≡ 4 → ⊥) → cond v (put.done (length k)) (put.refusal 10) ≡ cond v (put.done (length k)) (put.refusal 4)
        fits true z = refl
        fits false z = absurd (z refl)

-- a refusal of the field is the call's
pub keyed-by : (w : Wanted) (f : List ℕ → Meaning) → ((key_answer w).refusal ≡ 0 → ⊥) → keyed w f ≡ refuses (key_answer w).refusal
unfolding keyed key_answer
keyed-by (put.refused n) f h = refl
keyed-by (text k) f h = fits (leb (length k) 255) h
  where
    fits : (v : Bool) → ((cond v (put.done (length k)) (put.refusal 10)).refusal ≡ 0 → ⊥) → cond v (f k) (refuses 10) ≡ refuses (cond v (put.done (length k)) (put.refusal 10)).refusal
    fits true z = absurd (z refl)
    fits false z = refl

-- and else the key is in the field
pub record Keyed (m : Manner) (t field : List ℕ) (n : ℕ) : Type 0 where
  pub key : List ℕ
  pub reads : key_of t ≡ text key
  pub spelled : Spelled m t
  pub short : length key ≤ 255
  pub size : n ≡ length key
  pub room : n ≤ length field
  pub here : take n field ≡ key

pub key_here : (m : Manner) (t field blank : List ℕ) (n : ℕ) → length blank ≡ 255 → (key_answer (key_for m t)).refusal ≡ 0 → n ≡ (key_answer (key_for m t)).length → field ≡ put.left (key_for m t) blank → Keyed m t field n
unfolding key_answer
key_here m t field blank n lb h en ef = go (key_for_lem m t) refl h en
  where
    go : {w : Wanted} → KeyFor m t w → key_for m t ≡ w → (key_answer w).refusal ≡ 0 → n ≡ (key_answer w).length → Keyed m t field n
    go (unread {n = j} e) q z l = absurd ((for-own m t j q).refused z)
    go (other e s) q z l = absurd (let y : ⊥ = omega arith in y)
    go (keeps {k = k} e s) q z l = fits (leb (length k) 255) refl z l
      where
        f : field ≡ put.left (text k) blank
        f = ef ∙ ap (λ (w : Wanted). put.left w blank) q

        fits : (v : Bool) → leb (length k) 255 ≡ v → (cond v (put.done (length k)) (put.refusal 10)).refusal ≡ 0 → n ≡ (cond v (put.done (length k)) (put.refusal 10)).length → Keyed m t field n
        fits true g z l =
            let o : length k ≤ 255 = leb-true (length k) 255 g in
            record {
              key = k;
              reads = e;
              spelled = s;
              short = o;
              size = l;
              room = omega (arith, ap length f, length-left (text k) blank);
              here = ap (take n) (f ∙ left-fits k blank (omega arith) ∙ put-zero blank k) ∙ take_at k (drop (length k) blank) n (sym l);
            }
        fits false g z l = absurd (let y : ⊥ = omega arith in y)

-- what a call of a known owner with a key means
module _ (m : Manner) (o : ℕ) (w : is_owner o ≡ true) (t field : List ℕ) (n : ℕ) (k : Keyed m t field n) where
  abbrev key : List ℕ
  key = o ∷ k.key

  pub has : (q : Asked) → HasKey (record { manner = m; owner = o; text = t; asked = q }) key
  has q =
      record {
        path = record { rendering = k.key; known = w; renders = k.reads; is = refl };
        spelled = k.spelled;
        fits = omega (arith, k.short);
      }

  pub look-means : (room : ℕ) → 64 ≤ room → meaning (look m o t room) ≡ looks key
  look-means room h = looking-means (look m o t room) key room (record { asked = refl; key = has (to_look room); wide = h })

  pub write_means : (v : List ℕ) → is_retired key ≡ false → ValueFits v → meaning (write m o t v) ≡ writes key v
  write_means v r h = writing-means (write m o t v) key v (record { asked = refl; key = has (to_write v); not_retired = r; size = h })

  pub remove-means : meaning (remove m o t) ≡ removes key
  remove-means = removing-means (remove m o t) key (record { asked = refl; key = has to_remove })
