-- Laws of `Book`: the bytes tell the book, a call has one outcome, and a book stays a book.
-- Assumes nothing.
use Rattle.std.specs.Prelude.{ℕ, ◌≡◌, refl, Bool, length}
use Rattle.std.proofs.Common.{sym, ap, ◌∙◌, arith, eqb-true, eq-eqb}
use Rattle.std.proofs.Math.Bool.{true, false}
use mathlib.Core.List.{List, [], ◌∷◌}
use Rattle.std.proofs.Math.Option.{Option, none, some}
use Rattle.text.specs.Order.{by, cmp}
use Rattle.book_form.specs.Form.{AllFit, AllExact, Within}
use Rattle.book_form.specs.FormLaws.{few, length-layout}
use Rattle.book_records.specs.Records.{Key, get, put, del}
use Rattle.text.specs.OrderLaws.{Keys, key-lt, key-eq, key_gt, keys}
use Rattle.book_records.specs.Act.{Rec, Meaning, refuses, writes, removes, looks, add_to, take_from, look_in, act}
use Rattle.book_records.specs.Calls.{Call, owner_of, Owned, meaning}
use Rattle.book.specs.Book.{Current, quota_in, bytes_with, full_in}
use Rattle.book.specs.BookLaws.{lawful, size_is, one-book}
use Rattle.demands.specs.Held.{count, Full, Holds, ProperBook}
use Rattle.book_records.specs.CallLaws.{Means, declines, writing, removing, looking, path-owned}
use Rattle.book_records.proofs.CallLaws.{means}

-- ---- facts of every record, kept by each call
module _ (All : List Rec → Type 0) (P : Rec → Type 0) (nil : All []) (cons : (r : Rec) (s : List Rec) → P r → All s → All (r ∷ s))
    (head : (r : Rec) (s : List Rec) → All (r ∷ s) → P r) (tail : (r : Rec) (s : List Rec) → All (r ∷ s) → All s) where
  all-put : (s : List Rec) (k : Key) (v : List ℕ) → All s → P (k, v) → All (put s k v)
  unfolding put
  all-put [] k v h p = cons (k, v) [] p nil
  all-put (r ∷ s) k v h p = go (keys k r.0) (all-put s k v (tail r s h) p)
    where
      go : Keys k r.0 → All (put s k v) → All (by (cmp k r.0) ((k, v) ∷ r ∷ s) ((k, v) ∷ s) (r ∷ put s k v))
      go (key-lt e) ih = rw e (cons (k, v) (r ∷ s) p h)
      go (key-eq e) ih = rw e (cons (k, v) s p (tail r s h))
      go (key_gt e) ih = rw e (cons r (put s k v) (head r s h) ih)

  all-del : (s : List Rec) (k : Key) → All s → All (del s k)
  unfolding del
  all-del [] k h = nil
  all-del (r ∷ s) k h = go (keys k r.0) (all-del s k (tail r s h))
    where
      go : Keys k r.0 → All (del s k) → All (by (cmp k r.0) (r ∷ del s k) s (r ∷ del s k))
      go (key-lt e) ih = rw e (cons r (del s k) (head r s h) ih)
      go (key-eq e) ih = rw e (tail r s h)
      go (key_gt e) ih = rw e (cons r (del s k) (head r s h) ih)

  pub all-act : (full : Key → List Rec → Bool) (s : List Rec) (m : Meaning) → ((k : Key) (v : List ℕ) → m ≡ writes k v → P (k, v)) → All s → All (act full m s).1
  unfolding act
  all-act full s (refuses n) w h = h
  all-act full s (writes k v) w h = go (get s k) (full k s)
    where
      go : (x : Option (List ℕ)) (f : Bool) → All (add_to x f (put s k v) s).1
      go (some u) f = all-put s k v h (w k v refl)
      go none true = h
      go none false = all-put s k v h (w k v refl)
  all-act full s (removes k) w h = go (get s k)
    where
      go : (x : Option (List ℕ)) → All (take_from x (del s k) s).1
      go none = h
      go (some u) = all-del s k h
  all-act full s (looks k) w h = go (get s k)
    where
      go : (x : Option (List ℕ)) → All (look_in x s).1
      go none = h
      go (some u) = h

-- what a call writes fits, and its key is an owner's
wrote_by : {c : Call} {m : Meaning} → Means c m → (k : Key) (v : List ℕ) → m ≡ writes k v → Current.Fit (k, v) × Owned k
wrote_by (declines d) k v e = let z : ◌≡◌ {A = ℕ} 0 1 = cc in absurd (omega arith)
wrote_by {c} (writing {k = j} {v = w} ok) k v e =
    let p : j ≡ k = cc in
    let q : w ≡ v = cc in
    rw (← p, ← q) (((omega (arith, ap length ok.key.path.is), ok.key.fits, ok.size), path-owned c j ok.key.path))
wrote_by (removing ok) k v e = let z : ◌≡◌ {A = ℕ} 0 1 = cc in absurd (omega arith)
wrote_by (looking ok) k v e = let z : ◌≡◌ {A = ℕ} 0 1 = cc in absurd (omega arith)

pub fit-act : (full : Key → List Rec → Bool) (s : List Rec) (c : Call) → AllFit Current s → AllFit Current (act full (meaning c) s).1
fit-act full s c h = all-act (AllFit Current) Current.Fit tt (λ r s p q. (p, q)) (λ r s q. q.0) (λ r s q. q.1) full s (meaning c) (λ k v e. (wrote_by (means c) k v e).0) h

pub exact-act : (full : Key → List Rec → Bool) (s : List Rec) (c : Call) → AllExact Current s → AllExact Current (act full (meaning c) s).1
exact-act full s c h = all-act (AllExact Current) (λ r. Owned r.0) tt (λ r s p q. (p, q)) (λ r s q. q.0) (λ r s q. q.1) full s (meaning c) (λ k v e. (wrote_by (means c) k v e).1) h

-- the test of FULL
pub is-full : {b : List ℕ} (x : ProperBook b) (k : Key) → full_in x k x.records ≡ true → Full x k
is-full x k e = eqb-true (count x (owner_of k)) (quota_in x (owner_of k)) e

pub full_is : {b : List ℕ} (x : ProperBook b) (k : Key) → Full x k → full_in x k x.records ≡ true
full_is x k e = eq-eqb (count x (owner_of k)) (quota_in x (owner_of k)) e

-- the size of a book with other records in it
pub length_with : {b : List ℕ} (x : ProperBook b) (s : List Rec) → AllFit Current s → AllExact Current s → Within Current x.slots x.extra s → length (bytes_with x s) ≡ length b
length_with x s f e w = length-layout Current lawful x.slots x.extra s f (few Current lawful x.slots x.extra s e x.quotas w) ∙ sym (size_is Current lawful _ x)

-- what a path holds in a book
pub holds_in : {b : List ℕ} {k : Key} {o : Option (List ℕ)} → Holds b k o → (x : ProperBook b) → get x.records k ≡ o
holds_in {k = k} h x = ap (λ (s : List Rec). get s k) (one-book Current lawful _ x h.book).2 ∙ h.is

-- a book is full by its bytes
pub full_as : {b : List ℕ} (x y : ProperBook b) (k : Key) → Full y k → Full x k
full_as x y k f = let o = one-book Current lawful _ x y in rw (o.1, o.2) f

pub one-held : {b : List ℕ} {k : Key} {o p : Option (List ℕ)} → Holds b k o → Holds b k p → o ≡ p
one-held h g = sym h.is ∙ holds_in g h.book
