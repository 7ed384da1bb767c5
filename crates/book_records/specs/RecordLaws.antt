-- Laws of `Records`.
-- Assumes nothing.
use Rattle.std.proofs.Math.Path.{◌≡◌, refl, sym, ap}
use Rattle.std.proofs.Common.{◌∙◌}
use mathlib.Core.List.{List, [], ◌∷◌}
use Rattle.std.proofs.Math.Option.{none, some}
use Prim.Native.Nat.{Ordering}
use Rattle.std.specs.Prelude.{ℕ, ◌+◌, ◌≤◌}
use native.Mathlib.Omega.{arith}
use Rattle.runs.specs.Total.{total}
use Rattle.text.specs.Order.{by, cmp, Before}
use Rattle.text.specs.OrderLaws.{cmp_self}
use Rattle.book_records.specs.Records.{Key, get, put, del, After, Sorted}
use Rattle.text.specs.OrderLaws.{cmp-eq, flip_gt, before_trans, before-not-same, Keys, key-lt, key-eq, key_gt, keys}

module _ {Val : Type 0} where
  -- the three cases of a record's key, for `get`
  get-same : (r : Key × Val) (rs : List (Key × Val)) (k : Key) → cmp k r.0 ≡ Ordering.eq → get (r ∷ rs) k ≡ some r.1
  unfolding get
  get-same r rs k e = rw e

  get_skip : (r : Key × Val) (rs : List (Key × Val)) (k : Key) → (k ≡ r.0 → ⊥) → get (r ∷ rs) k ≡ get rs k
  unfolding get
  get_skip r rs k n = go (keys k r.0)
    where
      go : Keys k r.0 → by (cmp k r.0) (get rs k) (some r.1) (get rs k) ≡ get rs k
      go (key-lt e) = rw e
      go (key-eq e) = absurd (n (cmp-eq k r.0 e))
      go (key_gt e) = rw e

  pub get-put-same : (rs : List (Key × Val)) (k : Key) (v : Val) → get (put rs k v) k ≡ some v
  unfolding put
  get-put-same [] k v = get-same (k, v) [] k (cmp_self k)
  get-put-same (r ∷ rs) k v = go (keys k r.0) (get-put-same rs k v)
    where
      go : Keys k r.0 → get (put rs k v) k ≡ some v → get (by (cmp k r.0) ((k, v) ∷ r ∷ rs) ((k, v) ∷ rs) (r ∷ put rs k v)) k ≡ some v
      go (key-lt e) ih = rw e (get-same (k, v) (r ∷ rs) k (cmp_self k))
      go (key-eq e) ih = rw e (get-same (k, v) rs k (cmp_self k))
      go (key_gt e) ih = rw e (get_skip r (put rs k v) k (λ q. let z : ◌≡◌ {A = ℕ} 0 1 = cc (cmp_self r.0) in omega arith) ∙ ih)

  pub get-put-other : (rs : List (Key × Val)) (k : Key) (v : Val) (j : Key) → (j ≡ k → ⊥) → get (put rs k v) j ≡ get rs j
  unfolding put
  get-put-other [] k v j n = get_skip (k, v) [] j n
  get-put-other (r ∷ rs) k v j n = go (keys k r.0) (keys j r.0) (get-put-other rs k v j n)
    where
      go : Keys k r.0 → Keys j r.0 → get (put rs k v) j ≡ get rs j → get (by (cmp k r.0) ((k, v) ∷ r ∷ rs) ((k, v) ∷ rs) (r ∷ put rs k v)) j ≡ get (r ∷ rs) j
      go (key-lt e) w ih = rw e (get_skip (k, v) (r ∷ rs) j n)
      go (key-eq e) w ih = rw e (get_skip (k, v) rs j n ∙ sym (get_skip r rs j (λ q. n (q ∙ sym (cmp-eq k r.0 e)))))
      go (key_gt e) (key-eq w) ih = rw e (get-same r (put rs k v) j w ∙ sym (get-same r rs j w))
      go (key_gt e) (key-lt w) ih =
          let ne : j ≡ r.0 → ⊥ = before-not-same j r.0 w in
          rw e (get_skip r (put rs k v) j ne ∙ ih ∙ sym (get_skip r rs j ne))
      go (key_gt e) (key_gt w) ih =
          let ne : j ≡ r.0 → ⊥ = λ q. before-not-same r.0 j (flip_gt j r.0 w) (sym q) in
          rw e (get_skip r (put rs k v) j ne ∙ ih ∙ sym (get_skip r rs j ne))

  -- a key before all others holds nothing
  pub get_after : (rs : List (Key × Val)) (k : Key) → After k rs → get rs k ≡ none
  unfolding get
  get_after [] k h = refl
  get_after (r ∷ rs) k h = rw h.0 (get_after rs k h.1)

  pub after_trans : (j k : Key) (rs : List (Key × Val)) → Before j k → After k rs → After j rs
  after_trans j k [] p h = tt
  after_trans j k (r ∷ rs) p h = (before_trans j k r.0 p h.0, after_trans j k rs p h.1)

  pub after-put : (j : Key) (rs : List (Key × Val)) (k : Key) (v : Val) → Before j k → After j rs → After j (put rs k v)
  unfolding put
  after-put j [] k v p h = (p, tt)
  after-put j (r ∷ rs) k v p h = go (keys k r.0) (after-put j rs k v p h.1)
    where
      go : Keys k r.0 → After j (put rs k v) → After j (by (cmp k r.0) ((k, v) ∷ r ∷ rs) ((k, v) ∷ rs) (r ∷ put rs k v))
      go (key-lt e) ih = rw e (p, h)
      go (key-eq e) ih = rw e (p, h.1)
      go (key_gt e) ih = rw e (h.0, ih)

  pub sorted-put : (rs : List (Key × Val)) (k : Key) (v : Val) → Sorted rs → Sorted (put rs k v)
  unfolding put
  sorted-put [] k v h = (tt, tt)
  sorted-put (r ∷ rs) k v h = go (keys k r.0) (sorted-put rs k v h.1)
    where
      go : Keys k r.0 → Sorted (put rs k v) → Sorted (by (cmp k r.0) ((k, v) ∷ r ∷ rs) ((k, v) ∷ rs) (r ∷ put rs k v))
      go (key-lt e) ih = rw e ((e, after_trans k r.0 rs e h.0), h)
      go (key-eq e) ih = rw e (rw (cmp-eq k r.0 e) h.0, h.1)
      go (key_gt e) ih = rw e (after-put r.0 rs k v (flip_gt k r.0 e) h.0, ih)

  pub after-del : (j : Key) (rs : List (Key × Val)) (k : Key) → After j rs → After j (del rs k)
  unfolding del
  after-del j [] k h = tt
  after-del j (r ∷ rs) k h = go (keys k r.0) (after-del j rs k h.1)
    where
      go : Keys k r.0 → After j (del rs k) → After j (by (cmp k r.0) (r ∷ del rs k) rs (r ∷ del rs k))
      go (key-lt e) ih = rw e (h.0, ih)
      go (key-eq e) ih = rw e h.1
      go (key_gt e) ih = rw e (h.0, ih)

  pub sorted-del : (rs : List (Key × Val)) (k : Key) → Sorted rs → Sorted (del rs k)
  unfolding del
  sorted-del [] k h = tt
  sorted-del (r ∷ rs) k h = go (keys k r.0) (sorted-del rs k h.1)
    where
      go : Keys k r.0 → Sorted (del rs k) → Sorted (by (cmp k r.0) (r ∷ del rs k) rs (r ∷ del rs k))
      go (key-lt e) ih = rw e (after-del r.0 rs k h.0, ih)
      go (key-eq e) ih = rw e h.1
      go (key_gt e) ih = rw e (after-del r.0 rs k h.0, ih)

  pub get-del-same : (rs : List (Key × Val)) (k : Key) → Sorted rs → get (del rs k) k ≡ none
  unfolding get del
  get-del-same [] k h = refl
  get-del-same (r ∷ rs) k h = go (keys k r.0) (get-del-same rs k h.1)
    where
      go : Keys k r.0 → get (del rs k) k ≡ none → get (by (cmp k r.0) (r ∷ del rs k) rs (r ∷ del rs k)) k ≡ none
      go (key-lt e) ih = rw e (rw e ih)
      go (key-eq e) ih = rw e (get_after rs k (rw (cmp-eq k r.0 e) h.0))
      go (key_gt e) ih = rw e (rw e ih)

  pub get-del-other : (rs : List (Key × Val)) (k j : Key) → (j ≡ k → ⊥) → get (del rs k) j ≡ get rs j
  unfolding del
  get-del-other [] k j n = refl
  get-del-other (r ∷ rs) k j n = go (keys k r.0) (keys j r.0) (get-del-other rs k j n)
    where
      kept : Keys j r.0 → get (del rs k) j ≡ get rs j → get (r ∷ del rs k) j ≡ get (r ∷ rs) j
      kept (key-eq w) ih = get-same r (del rs k) j w ∙ sym (get-same r rs j w)
      kept (key-lt w) ih =
          let ne : j ≡ r.0 → ⊥ = before-not-same j r.0 w in
          get_skip r (del rs k) j ne ∙ ih ∙ sym (get_skip r rs j ne)
      kept (key_gt w) ih =
          let ne : j ≡ r.0 → ⊥ = λ q. before-not-same r.0 j (flip_gt j r.0 w) (sym q) in
          get_skip r (del rs k) j ne ∙ ih ∙ sym (get_skip r rs j ne)

      go : Keys k r.0 → Keys j r.0 → get (del rs k) j ≡ get rs j → get (by (cmp k r.0) (r ∷ del rs k) rs (r ∷ del rs k)) j ≡ get (r ∷ rs) j
      go (key-lt e) w ih = rw e (kept w ih)
      go (key-eq e) w ih = rw e (sym (get_skip r rs j (λ q. n (q ∙ sym (cmp-eq k r.0 e)))))
      go (key_gt e) w ih = rw e (kept w ih)

  -- sums over the records, as their number
  module _ (w : Key × Val → ℕ) (bykey : (k : Key) (u v : Val) → w (k, u) ≡ w (k, v)) where
    pub total-put-new : (rs : List (Key × Val)) (k : Key) (v : Val) → get rs k ≡ none → total w (put rs k v) ≡ total w rs + w (k, v)
    unfolding put get
    total-put-new [] k v n = omega arith
    total-put-new (r ∷ rs) k v n = go (keys k r.0) (total-put-new rs k v)
      where
        go : Keys k r.0 → (get rs k ≡ none → total w (put rs k v) ≡ total w rs + w (k, v)) → total w (by (cmp k r.0) ((k, v) ∷ r ∷ rs) ((k, v) ∷ rs) (r ∷ put rs k v)) ≡ (w r + total w rs) + w (k, v)
        go (key-lt e) ih = rw e (omega arith)
        go (key-eq e) ih = let q = rw e at n in let z : ◌≡◌ {A = ℕ} 0 1 = cc in omega arith
        go (key_gt e) ih = let q : get rs k ≡ none = rw e at n in rw e (omega (arith, ih q))

    pub total-put-old : (rs : List (Key × Val)) (k : Key) (u v : Val) → Sorted rs → get rs k ≡ some u → total w (put rs k v) ≡ total w rs
    unfolding put get
    total-put-old [] k u v s n = let z : ◌≡◌ {A = ℕ} 0 1 = cc in omega arith
    total-put-old (r ∷ rs) k u v s n = go (keys k r.0) (total-put-old rs k u v s.1)
      where
        go : Keys k r.0 → (get rs k ≡ some u → total w (put rs k v) ≡ total w rs) → total w (by (cmp k r.0) ((k, v) ∷ r ∷ rs) ((k, v) ∷ rs) (r ∷ put rs k v)) ≡ w r + total w rs
        go (key-lt e) ih =
            let q : get rs k ≡ some u = rw e at n in
            let z : ◌≡◌ {A = ℕ} 0 1 = cc (get_after rs k (after_trans k r.0 rs e s.0)) in
            omega arith
        go (key-eq e) ih =
            let q : w (k, v) ≡ w r = bykey k v r.1 ∙ ap (λ (a : Key). w (a, r.1)) (cmp-eq k r.0 e) in
            rw e (omega arith)
        go (key_gt e) ih = let q : get rs k ≡ some u = rw e at n in rw e (omega (arith, ih q))

    pub total-del : (rs : List (Key × Val)) (k : Key) → total w (del rs k) ≤ total w rs
    unfolding del
    total-del [] k = omega arith
    total-del (r ∷ rs) k = go (keys k r.0) (total-del rs k)
      where
        go : Keys k r.0 → total w (del rs k) ≤ total w rs → total w (by (cmp k r.0) (r ∷ del rs k) rs (r ∷ del rs k)) ≤ w r + total w rs
        go (key-lt e) ih = rw e (omega arith)
        go (key-eq e) ih = rw e (omega arith)
        go (key_gt e) ih = rw e (omega arith)

  -- records in order are told by what the keys hold
  ext-tail : (r q : Key × Val) (rs qs : List (Key × Val)) → r.0 ≡ q.0 → After r.0 rs → After q.0 qs → ((k : Key) → get (r ∷ rs) k ≡ get (q ∷ qs) k) → (k : Key) → get rs k ≡ get qs k
  ext-tail r q rs qs e s t h k = go (keys k r.0)
    where
      other : (k ≡ r.0 → ⊥) → get rs k ≡ get qs k
      other n = sym (get_skip r rs k n) ∙ h k ∙ get_skip q qs k (λ w. n (w ∙ sym e))

      go : Keys k r.0 → get rs k ≡ get qs k
      go (key-lt w) = other (before-not-same k r.0 w)
      go (key_gt w) = other (λ z. before-not-same r.0 k (flip_gt k r.0 w) (sym z))
      go (key-eq w) =
          let p : k ≡ r.0 = cmp-eq k r.0 w in
          rw p (get_after rs r.0 s ∙ sym (get_after qs r.0 (rw e t)))

  pub records_ext : (rs qs : List (Key × Val)) → Sorted rs → Sorted qs → ((k : Key) → get rs k ≡ get qs k) → rs ≡ qs
  unfolding get
  records_ext [] [] s t h = refl
  records_ext [] (q ∷ qs) s t h = cc (h q.0, get-same q qs q.0 (cmp_self q.0))
  records_ext (r ∷ rs) [] s t h = cc (h r.0, get-same r rs r.0 (cmp_self r.0))
  records_ext (r ∷ rs) (q ∷ qs) s t h = go (keys r.0 q.0) (records_ext rs qs s.1 t.1)
    where
      go : Keys r.0 q.0 → (((k : Key) → get rs k ≡ get qs k) → rs ≡ qs) → (r ∷ rs) ≡ (q ∷ qs)
      go (key-lt e) ih =
          cc (h r.0, get-same r rs r.0 (cmp_self r.0), get_after (q ∷ qs) r.0 (e, after_trans r.0 q.0 qs e t.0))
      go (key_gt e) ih =
          let f : Before q.0 r.0 = flip_gt r.0 q.0 e in
          cc (h q.0, get-same q qs q.0 (cmp_self q.0), get_after (r ∷ rs) q.0 (f, after_trans q.0 r.0 rs f s.0))
      go (key-eq e) ih =
          let p : r.0 ≡ q.0 = cmp-eq r.0 q.0 e in
          let v : r.1 ≡ q.1 = cc (h r.0, get-same r rs r.0 (cmp_self r.0), get-same q qs r.0 e) in
          let t' : rs ≡ qs = ih (ext-tail r q rs qs p s.0 t.0 h) in
          λ i. (p i, v i) ∷ t' i
