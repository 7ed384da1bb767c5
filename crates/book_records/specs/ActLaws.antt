-- Calls on a book's records are independent of each other: an answer and what a key holds go by the calls on that key alone.
-- Assumes nothing.
use Rattle.std.specs.Prelude.{◌≡◌, Bool, cond, ℕ, ◌+◌, ◌-◌, ◌≤◌, eqb}
use Rattle.std.proofs.Math.Path.{refl, ap}
use Rattle.std.proofs.Common.{sym, ◌∙◌, eqb-true, eq-eqb, ne_eqb}
use Rattle.std.proofs.Math.Bool.{true, false}
use mathlib.Core.List.{List, List-discrete}
use Rattle.std.proofs.Math.Option.{Option, none, some}
use Rattle.std.proofs.Math.Decide.{ℕ_discrete}
use native.Mathlib.Omega.{arith}
use Rattle.std.proofs.lemmas.Bool.{eqb-false}
use Rattle.book_records.specs.Records.{Key, get, put, del, Sorted}
use Rattle.book_records.specs.RecordLaws.{get-put-same, get-put-other, get-del-same, get-del-other, sorted-put, sorted-del, total-put-new, total-put-old, total-del}
use Rattle.book_records.specs.Act.{Rec, Meaning, refuses, writes, removes, looks, Answer, says, done, gives, add_to, take_from, look_in, act, count_by, full_by}

abbrev pub key_meant : Meaning → Option Key
key_meant (refuses n) = none
key_meant (writes k v) = some k
key_meant (removes k) = some k
key_meant (looks k) = some k

-- an answer from what the key holds: 12 ABSENT is given exactly when it holds nothing
abbrev pub ans_of : Meaning → Option (List ℕ) → Answer
ans_of (refuses n) x = says n
ans_of (writes k v) x = done
ans_of (removes k) none = says 12
ans_of (removes k) (some u) = done
ans_of (looks k) none = says 12
ans_of (looks k) (some u) = gives u

abbrev pub eff_of : Meaning → Option (List ℕ) → Option (List ℕ)
eff_of (refuses n) x = x
eff_of (writes k v) x = some v
eff_of (removes k) x = none
eff_of (looks k) x = x

pub dec_some : (o : Option Key) (k : Key) → Dec (o ≡ some k)
dec_some none k = no (λ e. let z : ◌≡◌ {A = ℕ} 0 1 = cc in omega arith)
dec_some (some j) k = go (List-discrete ℕ_discrete j k)
  where
    go : Dec (j ≡ k) → Dec (some j ≡ some k)
    go (yes e) = yes (ap {B = Option Key} some e)
    go (no n) = no (λ e. n (let z : j ≡ k = cc in z))

-- Each record is its owner's, by its key, and each owner has a quota.
module _ (owner : Key → ℕ) where
  abbrev pub cost : ℕ → Rec → ℕ
  cost o r = cond (eqb (owner r.0) o) 1 0

  own-cost : (o : ℕ) (r : Rec) → owner r.0 ≡ o → cost o r ≡ 1
  own-cost o r e = rw (eq-eqb (owner r.0) o e)

  pub other-cost : (o : ℕ) (r : Rec) → (owner r.0 ≡ o → ⊥) → cost o r ≡ 0
  other-cost o r n = rw (ne_eqb (owner r.0) o n)

  -- what a write of a new key, one of a key that is there, and a removal do to a count
  pub count-new : (o : ℕ) (s : List Rec) (k : Key) (v : List ℕ) → get s k ≡ none → count_by owner o (put s k v) ≡ count_by owner o s + cost o (k, v)
  unfolding count_by
  count-new o s k v e = total-put-new (cost o) (λ j a b. refl) s k v e

  pub count-old : (o : ℕ) (s : List Rec) (k : Key) (u v : List ℕ) → Sorted s → get s k ≡ some u → count_by owner o (put s k v) ≡ count_by owner o s
  unfolding count_by
  count-old o s k u v h e = total-put-old (cost o) (λ j a b. refl) s k u v h e

  pub count_less : (o : ℕ) (s : List Rec) (k : Key) → count_by owner o (del s k) ≤ count_by owner o s
  unfolding count_by
  count_less o s k = total-del (cost o) (λ j a b. refl) s k

module _ (owner : Key → ℕ) (quota : ℕ → ℕ) where
  abbrev full : Key → List Rec → Bool
  full = full_by owner quota

  abbrev count : List Rec → ℕ → ℕ
  count s o = count_by owner o s

  is-full : (k : Key) (s : List Rec) → full k s ≡ true → count s (owner k) ≡ quota (owner k)
  is-full k s e = eqb-true (count s (owner k)) (quota (owner k)) e

  not_full : (k : Key) (s : List Rec) → full k s ≡ false → count s (owner k) ≡ quota (owner k) → ⊥
  not_full k s e = eqb-false (count s (owner k)) (quota (owner k)) e

  -- records in order, and no owner over its quota
  pub record Proper (s : List Rec) : Type 0 where
    pub sorted : Sorted s
    pub within : (o : ℕ) → count s o ≤ quota o

  abbrev pub free : List Rec → ℕ → ℕ
  free s o = quota o - count s o

  abbrev pub charge_of : ℕ → Meaning → ℕ
  charge_of o (refuses n) = 0
  charge_of o (writes k v) = cost owner o (k, v)
  charge_of o (removes k) = 0
  charge_of o (looks k) = 0

  abbrev Room : List Rec → Meaning → Type 0
  Room s m = (o : ℕ) → charge_of o m ≤ free s o

  write-room : (s : List Rec) (k : Key) (v : List ℕ) → Room s (writes k v) → act full (writes k v) s ≡ (done, put s k v)
  unfolding act
  write-room s k v h = go (get s k) (full k s) refl
    where
      go : (x : Option (List ℕ)) (d : Bool) → full k s ≡ d → add_to x d (put s k v) s ≡ (done, put s k v)
      go (some u) d f = refl
      go none false f = refl
      go none true f =
          let p = is-full k s f in
          let one = own-cost owner (owner k) (k, v) refl in
          absurd (let z : ⊥ = omega (arith, h (owner k)) in z)

  pub good : (s : List Rec) (m : Meaning) → Proper s → Proper (act full m s).1
  unfolding act
  good s (refuses n) g = g
  good s (writes k v) g = go (get s k) refl (full k s) refl
    where
      go : (x : Option (List ℕ)) → get s k ≡ x → (d : Bool) → full k s ≡ d → Proper (add_to x d (put s k v) s).1
      go (some u) e d f = record { sorted = sorted-put s k v g.sorted; within = λ p. omega (arith, g.within p, count-old owner p s k u v g.sorted e) }
      go none e true f = g
      go none e false f = record { sorted = sorted-put s k v g.sorted; within = room }
        where
          room : (p : ℕ) → count (put s k v) p ≤ quota p
          room p = fits (ℕ_discrete (owner k) p)
            where
              new : count (put s k v) p ≡ count s p + cost owner p (k, v)
              new = count-new owner p s k v e

              fits : Dec (owner k ≡ p) → count (put s k v) p ≤ quota p
              fits (yes q) =
                  let one = own-cost owner p (k, v) q in
                  let less : count s p ≡ quota p → ⊥ = λ w. not_full k s f (rw q w) in
                  omega (arith, new, g.within p, less)
              fits (no q) =
                  let nil = other-cost owner p (k, v) q in
                  omega (arith, new, g.within p)
  good s (removes k) g = go (get s k)
    where
      go : (x : Option (List ℕ)) → Proper (take_from x (del s k) s).1
      go none = g
      go (some u) = record { sorted = sorted-del s k g.sorted; within = λ p. omega (arith, g.within p, count_less owner p s k) }
  good s (looks k) g = go (get s k)
    where
      go : (x : Option (List ℕ)) → Proper (look_in x s).1
      go none = g
      go (some u) = g

  pub pays : (s : List Rec) (m : Meaning) → Proper s → (p : ℕ) → free s p ≤ free (act full m s).1 p + charge_of p m
  unfolding act
  pays s (refuses n) g p = omega arith
  pays s (writes k v) g p = go (get s k) refl (full k s) refl
    where
      go : (x : Option (List ℕ)) → get s k ≡ x → (d : Bool) → full k s ≡ d → free s p ≤ free (add_to x d (put s k v) s).1 p + cost owner p (k, v)
      go (some u) e d f = omega (arith, count-old owner p s k u v g.sorted e)
      go none e true f = omega arith
      go none e false f = omega (arith, count-new owner p s k v e)
  pays s (removes k) g p = go (get s k)
    where
      go : (x : Option (List ℕ)) → free s p ≤ free (take_from x (del s k) s).1 p + 0
      go none = omega arith
      go (some u) = omega (arith, count_less owner p s k)
  pays s (looks k) g p = go (get s k)
    where
      go : (x : Option (List ℕ)) → free s p ≤ free (look_in x s).1 p + 0
      go none = omega arith
      go (some u) = omega arith

  pub declines : (s : List Rec) (m : Meaning) → key_meant m ≡ none → (act full m s).0 ≡ ans_of m none
  unfolding act
  declines s (refuses n) e = refl
  declines s (writes k v) e = cc
  declines s (removes k) e = cc
  declines s (looks k) e = cc

  pub answers_by : (s : List Rec) (m : Meaning) → Room s m → (k : Key) → key_meant m ≡ some k → (act full m s).0 ≡ ans_of m (get s k)
  unfolding act
  answers_by s (refuses n) h k e = cc
  answers_by s (writes j v) h k e = ap (λ (q : Answer × List Rec). q.0) (write-room s j v h)
  answers_by s (removes j) h k e = go (get s j) ∙ ap (λ (i : Key). ans_of (removes j) (get s i)) (let q : j ≡ k = cc in q)
    where
      go : (x : Option (List ℕ)) → (take_from x (del s j) s).0 ≡ ans_of (removes j) x
      go none = refl
      go (some u) = refl
  answers_by s (looks j) h k e = go (get s j) ∙ ap (λ (i : Key). ans_of (looks j) (get s i)) (let q : j ≡ k = cc in q)
    where
      go : (x : Option (List ℕ)) → (look_in x s).0 ≡ ans_of (looks j) x
      go none = refl
      go (some u) = refl

  pub leaves : (s : List Rec) (m : Meaning) → Proper s → Room s m → (k : Key) → key_meant m ≡ some k → get (act full m s).1 k ≡ eff_of m (get s k)
  unfolding act
  leaves s (refuses n) g h k e = cc
  leaves s (writes j v) g h k e =
      let q : j ≡ k = cc in
      ap (λ (w : Answer × List Rec). get w.1 k) (write-room s j v h) ∙ ap (λ (i : Key). get (put s i v) k) q ∙ get-put-same s k v
  leaves s (removes j) g h k e = go (get s j) refl
    where
      q : j ≡ k
      q = cc

      go : (x : Option (List ℕ)) → get s j ≡ x → get (take_from x (del s j) s).1 k ≡ none
      go none w = ap (λ (i : Key). get s i) (sym q) ∙ w
      go (some u) w = ap (λ (i : Key). get (del s i) k) q ∙ get-del-same s k g.sorted
  leaves s (looks j) g h k e = go (get s j)
    where
      go : (x : Option (List ℕ)) → get (look_in x s).1 k ≡ get s k
      go none = refl
      go (some u) = refl

  pub spares : (s : List Rec) (m : Meaning) → Room s m → (k : Key) → (key_meant m ≡ some k → ⊥) → get (act full m s).1 k ≡ get s k
  unfolding act
  spares s (refuses n) h k e = refl
  spares s (writes j v) h k e =
      ap (λ (w : Answer × List Rec). get w.1 k) (write-room s j v h) ∙ get-put-other s j v k (λ q. e (ap {B = Option Key} some (sym q)))
  spares s (removes j) h k e = go (get s j)
    where
      go : (x : Option (List ℕ)) → get (take_from x (del s j) s).1 k ≡ get s k
      go none = refl
      go (some u) = get-del-other s j k (λ q. e (ap {B = Option Key} some (sym q)))
  spares s (looks j) h k e = go (get s j)
    where
      go : (x : Option (List ℕ)) → get (look_in x s).1 k ≡ get s k
      go none = refl
      go (some u) = refl
