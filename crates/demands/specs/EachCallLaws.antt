-- What is permitted is what `EachCall` says.
-- Assumes nothing.
use Rattle.std.specs.Prelude.{ℕ, Bool, List, [], length, take}
use Rattle.std.proofs.Math.Path.{◌≡◌, refl, sym, ap}
use Rattle.std.proofs.Common.{◌∙◌}
use Rattle.std.proofs.Math.Bool.{true, false}
use Rattle.std.proofs.Math.Option.{Option, none, some}
use native.Mathlib.Omega.{arith}
use Rattle.text.specs.declared.Written.{Written}
use Rattle.book_records.specs.Records.{Key, get, put, del}
use Rattle.book_records.specs.RecordLaws.{get-put-same, get-put-other, get-del-same, get-del-other}
use Rattle.book_records.specs.Act.{Meaning, Answer, add_to, take_from, look_in, act, Seen, seen}
use Rattle.book_records.specs.Calls.{Asked, to_write, to_remove, to_look, Call, meaning, PathOf}
use Rattle.book_records.specs.CallLaws.{Means, declines, writing, removing, looking, writing-means, removing-means, looking-means, declined-not, one-path}
use Rattle.book_records.proofs.CallLaws.{means}
use Rattle.book.specs.Book.{Current, quota_in, full_in, acts}
use Rattle.book.specs.BookLaws.{lawful, one-book}
use Rattle.book.specs.Outcome.{Outcome, no_book, this_book}
use Rattle.demands.specs.Held.{Updates, left_by, leaves, IsLook, ProperBook, Holds}
use Rattle.demands.specs.HeldLaws.{is-full, full_is}
use Rattle.demands.specs.AnswerLaws.{written-zero}
use Rattle.demands.specs.KeepsLaws.{changed-keeps}
use Rattle.demands.specs.Permitted.{PermittedTo, Permitted}
use Rattle.demands.specs.PermittedLaws.{outcome_of, permitted-book, refused_exactly}
use Rattle.demands.specs.MachineLaws.{Good, good_of, book_of, size_of, keeps-book, machine}
use Rattle.demands.specs.Demand3Laws.{look-gives}
use Rattle.demands.specs.EachCall.{Served, adds, replaces, removes, finds, Says, EachCall}

-- ---- by what is asked
module _ (b : List ℕ) (c : Call) (a : Seen) (b₁ : List ℕ) where
  keeps-to : (q : Asked) → PermittedTo q b c a b₁ → (a.number ≡ 0 → ⊥) → (b₁ ≡ b) × (a.value ≡ [])
  keeps-to (to_write v) p z = (changed-keeps p.0 z, p.1)
  keeps-to to_remove p z = (changed-keeps p.0 z, p.1)
  keeps-to (to_look room) p z =
      let f = p.0.found in
      let e = ap (λ (w : Written). w.length) f.written ∙ written-zero f.answer (λ q. z (p.0.number ∙ ap (λ (w : Written). w.refusal) f.written ∙ q)) in
      (p.1, p.0.gives ∙ ap (λ (n : ℕ). take n p.0.out₁) e)

  looked-to : (q : Asked) → PermittedTo q b c a b₁ → IsLook q → b₁ ≡ b
  looked-to (to_write v) p l = absurd l
  looked-to to_remove p l = absurd l
  looked-to (to_look room) p l = p.1

  silent-to : (q : Asked) → PermittedTo q b c a b₁ → Updates q → a.value ≡ []
  silent-to (to_write v) p u = p.1
  silent-to to_remove p u = p.1
  silent-to (to_look room) p u = absurd u

-- ---- on a book, by what the call means
module _ {b : List ℕ} (x : ProperBook b) where
  served : {c : Call} {m : Meaning} → Means c m → (seen (acts x m).0).number ≡ 0 → Served b c
  unfolding act
  served (declines d) e = absurd ((declined-not d).0 e)
  served {c} (writing {k = k} {v = v} ok) e = go (get x.records k) refl (full_in x k x.records) refl e
    where
      go : (y : Option (List ℕ)) → get x.records k ≡ y → (f : Bool) → full_in x k x.records ≡ f
          → (seen (add_to y f (put x.records k v) x.records).0).number ≡ 0 → Served b c
      go (some u) g f w q = replaces ok (record { book = x; is = g })
      go none g true w q = absurd (let z : ⊥ = omega arith in z)
      go none g false w q = adds ok (record { book = x; is = g }) (λ h. let y = full_is x k h in let z : ◌≡◌ {A = ℕ} 0 1 = cc in omega arith)
  served {c} (removing {k = k} ok) e = go (get x.records k) refl e
    where
      go : (y : Option (List ℕ)) → get x.records k ≡ y → (seen (take_from y (del x.records k) x.records).0).number ≡ 0 → Served b c
      go none g q = absurd (let z : ⊥ = omega arith in z)
      go (some u) g q = removes ok (record { book = x; is = g })
  served {c} (looking {k = k} ok) e = go (get x.records k) refl e
    where
      go : (y : Option (List ℕ)) → get x.records k ≡ y → (seen (look_in y x.records).0).number ≡ 0 → Served b c
      go none g q = absurd (let z : ⊥ = omega arith in z)
      go (some u) g q = finds ok (record { book = x; is = g })

  -- what an accepted write or removal leaves of its path
  left_of : {c : Call} {m : Meaning} → Means c m → Updates c.asked → (seen (acts x m).0).number ≡ 0 → (k : Key) → PathOf c k → get (acts x m).1 k ≡ leaves c
  unfolding act
  left_of (declines d) u e k h = absurd ((declined-not d).0 e)
  left_of {c} (writing {k = j} {v = v} ok) u e k h = go (get x.records j) (full_in x j x.records) e
    where
      same : get (put x.records j v) k ≡ leaves c
      same = rw (one-path c k j h ok.key.path) (get-put-same x.records j v ∙ sym (ap left_by ok.asked))

      go : (y : Option (List ℕ)) (f : Bool) → (seen (add_to y f (put x.records j v) x.records).0).number ≡ 0 → get (add_to y f (put x.records j v) x.records).1 k ≡ leaves c
      go (some w) f q = same
      go none true q = absurd (let z : ⊥ = omega arith in z)
      go none false q = same
  left_of {c} (removing {k = j} ok) u e k h = go (get x.records j) e
    where
      go : (y : Option (List ℕ)) → (seen (take_from y (del x.records j) x.records).0).number ≡ 0 → get (take_from y (del x.records j) x.records).1 k ≡ leaves c
      go none q = absurd (let z : ⊥ = omega arith in z)
      go (some w) q = rw (one-path c k j h ok.key.path) (get-del-same x.records j x.sorted ∙ sym (ap left_by ok.asked))
  left_of {c} (looking {room = room} ok) u e k h = absurd (rw ok.asked at u)

  -- what is left of every other path
  kept_of : {c : Call} {m : Meaning} → Means c m → (k : Key) → (PathOf c k → ⊥) → get (acts x m).1 k ≡ get x.records k
  unfolding act
  kept_of (declines d) k n = refl
  kept_of {c} (writing {k = j} {v = v} ok) k n = go (get x.records j) (full_in x j x.records)
    where
      other : get (put x.records j v) k ≡ get x.records k
      other = get-put-other x.records j v k (λ e. n (rw e ok.key.path))

      go : (y : Option (List ℕ)) (f : Bool) → get (add_to y f (put x.records j v) x.records).1 k ≡ get x.records k
      go (some w) f = other
      go none true = refl
      go none false = other
  kept_of {c} (removing {k = j} ok) k n = go (get x.records j)
    where
      go : (y : Option (List ℕ)) → get (take_from y (del x.records j) x.records).1 k ≡ get x.records k
      go none = refl
      go (some w) = get-del-other x.records j k (λ e. n (rw e ok.key.path))
  kept_of (looking {k = j} ok) k n = go (get x.records j)
    where
      go : (y : Option (List ℕ)) → get (look_in y x.records).1 k ≡ get x.records k
      go none = refl
      go (some w) = refl

-- 0 is what the records say to a call that nothing refuses
serves : {b : List ℕ} {c : Call} → Served b c → (x : ProperBook b) × ((seen (acts x (meaning c)).0).number ≡ 0)
unfolding act
serves {c = c} (adds {k = k} {v = v} ok h n) =
    let x = h.book in
    (x, rw (writing-means c k v ok, h.is) (go (full_in x k x.records) refl))
  where
    go : (f : Bool) → full_in h.book k h.book.records ≡ f → (seen (add_to none f (put h.book.records k v) h.book.records).0).number ≡ 0
    go true w = absurd (n (is-full h.book k w))
    go false w = refl
serves {c = c} (replaces {k = k} {v = v} ok h) = (h.book, rw (writing-means c k v ok, h.is))
serves {c = c} (removes {k = k} ok h) = (h.book, rw (removing-means c k ok, h.is))
serves {c = c} (finds {k = k} {room = room} ok h) = (h.book, rw (looking-means c k room ok, h.is))

-- ---- what is permitted
module _ (b : List ℕ) (c : Call) (a : Seen) (b₁ : List ℕ) (p : Permitted b c a b₁) where
  number_is : (x : ProperBook b) → a.number ≡ (seen (acts x (meaning c)).0).number
  number_is x = ap (λ (y : Seen). y.number) (permitted-book b c a b₁ x p).0

  good-after : (x : ProperBook b) → Good x (acts x (meaning c)).1
  good-after x = (machine x).good x.records c (good_of x)

  holds_after : (x : ProperBook b) (k : Key) (o : Option (List ℕ)) → get (acts x (meaning c)).1 k ≡ o → Holds b₁ k o
  unfolding book_of
  holds_after x k o e = record { book = book_of x b₁ (acts x (meaning c)).1 (good-after x) (permitted-book b c a b₁ x p).1; is = e }

  -- a call that is answered with 0 was made on a book
  on-a-book : a.number ≡ 0 → ProperBook b
  on-a-book e = go (outcome_of b c a b₁ p)
    where
      go : (ans : Answer) × Outcome Current (meaning c) b ans b₁ × (a.number ≡ (seen ans).number) → ProperBook b
      go (ans, no_book n f g, q) = absurd (let z : ◌≡◌ {A = ℕ} 9 0 = sym (q ∙ ap (λ (y : Answer). (seen y).number) f) ∙ e in let w : ⊥ = omega arith in w)
      go (ans, this_book x f g, q) = x

  size : length b₁ ≡ length b
  size = go (outcome_of b c a b₁ p).1
    where
      go : {ans : Answer} → Outcome Current (meaning c) b ans b₁ → length b₁ ≡ length b
      go (no_book n f g) = ap length g
      go (this_book x f g) = ap length g ∙ size_of x (acts x (meaning c)).1 (good-after x)

  same_quotas : (x : ProperBook b) (y : ProperBook b₁) (o : ℕ) → quota_in y o ≡ quota_in x o
  unfolding book_of
  same_quotas x y o =
      let z : ProperBook b₁ = book_of x b₁ (acts x (meaning c)).1 (good-after x) (permitted-book b c a b₁ x p).1 in
      ap (λ (e : Current.Extra). Current.quota e 0 o) (one-book Current lawful b₁ y z).1

  pub says : Says b c a b₁
  says =
      record {
        refused_exactly = refused_exactly b c a b₁ p;
        served_exactly = (λ e. let x = on-a-book e in served x (means c) (sym (number_is x) ∙ e), λ s. let y = serves s in number_is y.0 ∙ y.1);
        refusal_keeps = keeps-to b c a b₁ c.asked p;
        stays_a_book = keeps-book b c a b₁ p;
        same_size = size;
        same_quotas = same_quotas;
        left = λ u k h. let x = on-a-book u.1 in holds_after x k (leaves c) (left_of x (means c) u.0 (sym (number_is x) ∙ u.1) k h);
        others_keep = λ k n o h. holds_after h.book k o (kept_of h.book (means c) k n ∙ h.is);
        lookup_gives = λ l e. let x = on-a-book e in look-gives x (means c) l a (permitted-book b c a b₁ x p).0 e;
        lookup_keeps = looked-to b c a b₁ c.asked p;
        update_silent = silent-to b c a b₁ c.asked p;
      }

pub each_call : (Does : List ℕ → Call → Seen → List ℕ → Type 0) → ((b : List ℕ) (c : Call) (a : Seen) (b₁ : List ℕ) → Does b c a b₁ → Permitted b c a b₁) → EachCall Does
each_call Does permits b c a b₁ d = says b c a b₁ (permits b c a b₁ d)
