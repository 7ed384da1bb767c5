-- What a probe tells of a book is what the search by order tells.
-- Assumes nothing.
use Rattle.std.specs.Prelude.{◌≡◌, ℕ, ◌<◌, Bool, true, false, List, ◌∷◌, ◌≢◌, refl, Ok, Err, Option, Some, None}
use Rattle.std.proofs.Common.{sym, ap, ◌∙◌, arith}
use Prim.Native.Nat.{Ordering}
use Rattle.text.specs.Order.{cmp}
use Rattle.text.specs.OrderLaws.{cmp_flip, cmp_self, cmp-eq}
use Rattle.text.specs.PlaceLaws.{at_some}
use Rattle.text.specs.Put.{put}
use Rattle.text.specs.Put as buffer
use Rattle.book_records.specs.Act.{looks}
use Rattle.book_records.specs.SplitLaws.{sorted-at}
use Rattle.book_form.specs.Form.{key_at}
use Rattle.book.specs.Book.{Current, Counts}
use Rattle.book.specs.BookLaws.{lawful, key_is}
use Rattle.book.specs.Find.{Spotted}
use Rattle.book.specs.Outcome.{Found}
use Rattle.book.specs.RecordLaws.{look-free}
use Rattle.book_table.specs.FirstLaws.{Sought, seek}
use Rattle.book_table.specs.Probe.{Holds, Lacks, Told}
use Rattle.book_table.specs.ProbeLaws.{Rising}

abbrev not_gt : Ordering → Bool
not_gt Ordering.lt = true
not_gt Ordering.eq = true
not_gt Ordering.gt = false

clash : true ≡ false → ⊥
clash e = let z : ◌≡◌ {A = ℕ} 0 1 = cc in omega arith

is_gt : (o : Ordering) → not_gt o ≡ false → o ≡ Ordering.gt
is_gt Ordering.lt e = absurd (clash e)
is_gt Ordering.eq e = absurd (clash e)
is_gt Ordering.gt e = refl

module _ (b k : List ℕ) (n : ℕ) (hold : Counts Current b n) where
  abbrev f : ℕ → List ℕ
  f = key_at Current b

  pub rising : Rising f n
  rising i j l m =
      let x = hold.0 in
      let r = at_some x.records i (omega (arith, hold.1)) in
      let t = at_some x.records j (omega (arith, hold.1)) in
      rw (key_is Current lawful b x i r.0 r.1, key_is Current lawful b x j t.0 t.1) (sorted-at x.records i j r.0 t.0 x.sorted l r.1 t.1)

  pub at-taken : (p : ℕ) → Holds f n k p → Spotted Current b k n (Ok p)
  at-taken p h = (record { within = omega (arith, h.0); before = before; next = next }, h.0, same)
    where
      same : cmp k (f p) ≡ Ordering.eq
      same = ap (cmp k) h.1 ∙ cmp_self k

      before : (j : ℕ) → j < p → cmp k (f j) ≡ Ordering.gt
      before j l = let e : cmp (f j) k ≡ Ordering.lt = ap (cmp (f j)) (sym h.1) ∙ rising j p l h.0 in cmp_flip (f j) k ∙ rw e

      next : p < n → cmp k (f p) ≢ Ordering.gt
      next l g = let z : ◌≡◌ {A = ℕ} 0 1 = cc (same) in omega arith

  pub nowhere-free : Lacks f n k → (p : ℕ) × Spotted Current b k n (Err p)
  nowhere-free h = go (seek (λ (i : ℕ). not_gt (cmp k (f i))) n)
    where
      other : (p : ℕ) → p < n → cmp k (f p) ≢ Ordering.eq
      other p l e = h p (l, sym (cmp-eq k (f p) e))

      go : Sought (λ (i : ℕ). not_gt (cmp k (f i))) n → (p : ℕ) × Spotted Current b k n (Err p)
      go (Sought.found d l) = (
        d,
        (
          record { within = omega (arith, l.below); before = λ j m. is_gt (cmp k (f j)) (l.before j m); next = λ m g. clash (sym l.here ∙ ap not_gt g) },
          other d,
        ),
      )
      go (Sought.missing m) = (
        n,
        (
          record { within = omega arith; before = λ j l. is_gt (cmp k (f j)) (m j l); next = λ l. absurd (let z : ⊥ = omega arith in z) },
          other n,
        ),
      )

  pub told-taken : (s : Option ℕ) (p : ℕ) → Told f n k s → s ≡ Some p → Spotted Current b k n (Ok p)
  told-taken s p t e = at-taken p (rw e at t)

pub told-nowhere : (b : List ℕ) (owner : ℕ) (key : List ℕ) (n : ℕ) (hold : Counts Current b n) (s : Option ℕ) → Told (key_at Current b) n (owner ∷ key) s → s ≡ None
    → (out : List ℕ) → Found Current b (looks (owner ∷ key)) out (buffer.refusal 12) out
told-nowhere b owner key n hold s t e out = let q = nowhere-free b (owner ∷ key) n hold (rw e at t) in look-free b owner key n q.0 hold q.1 out
