-- Where a key stands in a book, and what calls on it come to.
-- Assumes nothing.
use Rattle.std.specs.Prelude.{◌≡◌, refl, Bool, true, false, List, ◌∷◌, ◌++◌, length, take, drop}
use Rattle.std.proofs.Common.{sym, ap, ◌∙◌, append_assoc, arith, length-drop, take-append-drop, drop_of_length-le, length-take-le}
use Rattle.std.proofs.Math.Option.{none, some}
use Prim.Native.Nat.{ℕ, suc, ◌+◌, ◌*◌, ◌-◌, ◌<◌, ◌≤◌, Ordering}
use Rattle.std.proofs.Math.Decide.{dec_lt}
use Rattle.std.proofs.lemmas.Bool.{eqb-false}
use Rattle.std.proofs.Math.ListN.{get_elem?}
use Rattle.text.specs.Order.{cmp, Before}
use Rattle.text.specs.OrderLaws.{cmp_flip, flip_gt, before_trans, Keys, key-lt, key-eq, key_gt, keys}
use Rattle.text.specs.PlaceLaws.{at_some, drop-place}
use Rattle.text.specs.Put.{put}
use Rattle.text.specs.Put as buffer
use Rattle.book_records.specs.Records.{get, del, After}
use Rattle.book_records.specs.Records as records
use Rattle.book_records.specs.SplitLaws.{AllBefore, put-between, put-over, get-between, get-over, del-over, sorted-at, sorted-drop, after-head, before-take}
use Rattle.book_records.specs.Act.{Meaning, refuses, writes, removes, looks, says, done, gives, Rec, count_by}
use Rattle.book_records.specs.Calls.{is_owner}
use Rattle.book_form.specs.Form.{Form, AllFit, slots, zeros, layout, slot_at, key_at, inserted, removed}
use Rattle.book_form.specs.FormLaws.{Lawful, fewer, layout-inserted, layout_parted, layout_replaced, layout-removed, fit-take, fit-drop}
use Rattle.book_form.specs.Compare.{ordering_of}
use Rattle.std.specs.declared.cmp.Ordering.{Ordering as Order}
use Rattle.std.specs.Ordering.{is_lt, is_eq, is_gt}
use Rattle.book.specs.Book.{Book, Counts, full_in}
use Rattle.book.specs.BookLaws.{parted, few-records, sizes, record_is, key_is}
use Rattle.book.specs.Find.{Placed}
use Rattle.book.specs.Outcome.{Changed, Found}
use Rattle.book.specs.WayLaws.{way-refused, way_replaced, way-added, way-full, way-removed, way-absent, way-found, way-not_found}

-- what a test of an order as std has it says of the order
false_true : false ≡ true → ⊥
false_true e = let z : ◌≡◌ {A = ℕ} 0 1 = cc in omega arith

pub told_lt : (o : Ordering) (r : Order) → r ≡ ordering_of o → is_lt r ≡ true → o ≡ Ordering.lt
told_lt Ordering.lt r e h = refl
told_lt Ordering.eq r e h = absurd (false_true (sym (ap is_lt e) ∙ h))
told_lt Ordering.gt r e h = absurd (false_true (sym (ap is_lt e) ∙ h))

pub told_eq : (o : Ordering) (r : Order) → r ≡ ordering_of o → is_eq r ≡ true → o ≡ Ordering.eq
told_eq Ordering.lt r e h = absurd (false_true (sym (ap is_eq e) ∙ h))
told_eq Ordering.eq r e h = refl
told_eq Ordering.gt r e h = absurd (false_true (sym (ap is_eq e) ∙ h))

told_gt : (o : Ordering) (r : Order) → r ≡ ordering_of o → is_gt r ≡ true → o ≡ Ordering.gt
told_gt Ordering.lt r e h = absurd (false_true (sym (ap is_gt e) ∙ h))
told_gt Ordering.eq r e h = absurd (false_true (sym (ap is_gt e) ∙ h))
told_gt Ordering.gt r e h = refl

pub told_not : (f : Order → Bool) (o p : Ordering) (r : Order) → r ≡ ordering_of o → f r ≡ false → f (ordering_of p) ≡ true → o ≡ p → ⊥
told_not f o p r e h t q = false_true (sym h ∙ ap f (e ∙ ap ordering_of q) ∙ t)

-- what is above a key is above all keys before it
gt_trans : (k a b : List ℕ) → Before a b → cmp k b ≡ Ordering.gt → cmp k a ≡ Ordering.gt
gt_trans k a b p h = cmp_flip a k ∙ rw (before_trans a b k p (flip_gt k b h))

-- the search: what comes before the place is below the key, what comes from hi on is not
pub record Narrowed (F : Form) (b k : List ℕ) (n lo hi : ℕ) : Type 0 where
  pub order : lo ≤ hi
  pub within : hi ≤ n
  pub size : slot_at F n ≤ length b
  pub below : (j : ℕ) → j < lo → cmp k (key_at F b j) ≡ Ordering.gt
  pub rest : (j : ℕ) → hi ≤ j → j < n → cmp k (key_at F b j) ≡ Ordering.gt → ⊥

module _ (F : Form) (L : Lawful F) (b k : List ℕ) (n : ℕ) (hold : Counts F b n) where
  pub above_down : (i j : ℕ) → j ≤ i → i < n → cmp k (key_at F b i) ≡ Ordering.gt → cmp k (key_at F b j) ≡ Ordering.gt
  above_down i j l h e = go (dec_lt j i)
    where
      x : Book F b
      x = hold.0

      go : Dec (j < i) → cmp k (key_at F b j) ≡ Ordering.gt
      go (no q) = let s : j ≡ i = omega arith in rw s e
      go (yes q) =
          let r = at_some x.records j (omega (arith, hold.1)) in
          let t = at_some x.records i (omega (arith, hold.1)) in
          let er : key_at F b j ≡ r.0.0 = key_is F L b x j r.0 r.1 in
          let et : key_at F b i ≡ t.0.0 = key_is F L b x i t.0 t.1 in
          rw er (gt_trans k r.0.0 t.0.0 (sorted-at x.records j i r.0 t.0 x.sorted q r.1 t.1) (rw et at e))

  pub narrow_start : Narrowed F b k n 0 n
  narrow_start =
      record { order = omega arith; within = omega arith; size = (sizes F L b n hold).used; below = λ j h. absurd (let z : ⊥ = omega arith in z); rest = λ j h l. absurd (let z : ⊥ = omega arith in z) }

  module _ (lo hi mid : ℕ) (r : Order) (g : Narrowed F b k n lo hi) (lm : lo ≤ mid) (mh : mid < hi) (e : r ≡ ordering_of (cmp k (key_at F b mid))) where
    pub narrow_up : is_gt r ≡ true → Narrowed F b k n (mid + 1) hi
    narrow_up h =
        record { order = omega arith; within = g.within; size = g.size; below = λ j l. above_down mid j (omega arith) (omega (arith, g.within)) (told_gt _ r e h); rest = g.rest }

    pub narrow_down : is_gt r ≡ false → Narrowed F b k n lo mid
    narrow_down h =
        record {
          order = lm;
          within = omega (arith, g.within);
          size = g.size;
          below = g.below;
          rest = λ j l m q. told_not is_gt (cmp k (key_at F b mid)) Ordering.gt r e h refl (above_down j mid l m q);
        }

  pub narrow-end : (lo hi : ℕ) → Narrowed F b k n lo hi → hi ≤ lo → Placed F b k n lo
  narrow-end lo hi g l = record { within = omega (arith, g.order, g.within); before = g.below; next = λ h. g.rest lo l h }

-- the key at its place
module _ (F : Form) (L : Lawful F) (b k : List ℕ) (x : Book F b) (p : ℕ) (pl : Placed F b k (length x.records) p) where
  abbrev s : List Rec
  s = x.records

  lp : length (take p s) ≡ p
  lp = length-take-le p s pl.within

  befores : AllBefore k (take p s)
  befores = before-take s p k pl.within (λ j r h e. rw (key_is F L b x j r e) at (pl.before j h))

  whole : take p s ++ drop p s ≡ s
  whole = take-append-drop p s

  -- the key stands there
  module _ (h : p < length s) (e : cmp k (key_at F b p) ≡ Ordering.eq) where
    abbrev y : Rec
    y = (at_some s p h).0

    ey : get_elem? s p ≡ some y
    ey = (at_some s p h).1

    e₁ : cmp k y.0 ≡ Ordering.eq
    e₁ = rw (key_is F L b x p y ey) at e

    es : s ≡ take p s ++ y ∷ drop (suc p) s
    es = parted s p y ey

    held : get s k ≡ some y.1
    held = ap (λ (l : List Rec). get l k) es ∙ get-over (take p s) y (drop (suc p) s) k befores e₁

    fy : AllFit F (y ∷ drop (suc p) s)
    fy = rw (drop-place s p y ey) at (fit-drop F L p s x.fit)

    pub looked-found : (out out₁ v : List ℕ) → v ≡ (F.record_of (drop (slot_at F p) b)).1 → out₁ ≡ put out 0 v → Found F b (looks k) out (buffer.done (length v)) out₁
    looked-found out out₁ v ev w =
        let there : (F.record_of (drop (slot_at F p) b)).1 ≡ y.1 = ap (λ (q : Rec). q.1) (record_is F L b x p y ey) in
        record { answer = gives y.1; outcome = way-found x k y.1 held; written = ap (λ (u : List ℕ). buffer.done (length u)) (ev ∙ there); value = w ∙ ap (put out 0) (ev ∙ there) }

    pub write_replaced : (v b₁ : List ℕ) → F.Fit (k, v) → b₁ ≡ put b (slot_at F p) (F.slot (k, v)) → Changed F b (writes k v) 0 b₁
    write_replaced v b₁ hf w =
        let C = x.slots in
        let u : records.put s k v ≡ take p s ++ (k, v) ∷ drop (suc p) s = ap (λ (l : List Rec). records.put l k v) es ∙ put-over (take p s) y (drop (suc p) s) k v befores e₁ in
        let bs : b ≡ layout F C x.extra (take p s ++ y ∷ drop (suc p) s) = x.bytes ∙ ap (layout F C x.extra) es in
        let e₂ : b₁ ≡ layout F C x.extra (records.put s k v) =
        w
        ∙ ap (λ (l : List ℕ). put l (slot_at F p) (F.slot (k, v))) bs
        ∙ ap (λ (n : ℕ). put (layout F C x.extra (take p s ++ y ∷ drop (suc p) s)) (slot_at F n) (F.slot (k, v))) (sym lp)
        ∙ layout_replaced F L C x.extra (take p s) y (k, v) (drop (suc p) s) (fit-take F L p s x.fit) fy.0 hf
        ∙ sym (ap (layout F C x.extra) u) in
        record { answer = done; outcome = way_replaced x k v y.1 b₁ held e₂; number = refl }

    pub remove-done : (b₁ : List ℕ) → b₁ ≡ removed F x.extra p (p + 1) (length s) b → Changed F b (removes k) 0 b₁
    remove-done b₁ w =
        let C = x.slots in
        let n : ℕ = length s in
        let d : List Rec = drop (suc p) s in
        let u : del s k ≡ take p s ++ d = ap (λ (l : List Rec). del l k) es ∙ del-over (take p s) y d k befores e₁ in
        let rest : List ℕ = F.slot y ++ (slots F d ++ zeros (F.width * (C - n))) in
        let bs : b ≡ F.header x.extra n ++ (slots F (take p s) ++ rest) =
        x.bytes
        ∙ ap (layout F C x.extra) es
        ∙ layout_parted F L C x.extra (take p s) y d
        ∙ ap (λ (m : ℕ). (F.header x.extra m ++ slots F (take p s)) ++ (F.slot y ++ (slots F d ++ zeros (F.width * (C - m))))) (sym (ap length es))
        ∙ append_assoc (F.header x.extra n) (slots F (take p s)) rest in
        let one : length (F.slot y) ≡ F.width * (p + 1 - p) = L.slot-length y fy.0 ∙ omega arith ∙ ap (λ (m : ℕ). F.width * m) (let z : 1 ≡ p + 1 - p = omega arith in z) in
        let i : removed F x.extra p (p + 1) n (F.header x.extra n ++ (slots F (take p s) ++ rest)) ≡ layout F C x.extra (take p s ++ d) =
        layout-removed F L C x.extra (F.header x.extra n) (take p s) (F.slot y) d p (p + 1) n (L.header-length x.extra n) (fit-take F L p s x.fit) fy.1 lp (omega arith) one (omega (arith, length-drop (suc p) s)) (few-records F L b x) in
        record { answer = done; outcome = way-removed x k y.1 b₁ held (w ∙ ap (removed F x.extra p (p + 1) n) bs ∙ i ∙ sym (ap (layout F C x.extra) u)); number = refl }

  -- the key stands nowhere
  module _ (n : p < length s → cmp k (key_at F b p) ≡ Ordering.eq → ⊥) where
    later : After k (drop p s)
    later = go (dec_lt p (length s))
      where
        go : Dec (p < length s) → After k (drop p s)
        go (no h) = rw (drop_of_length-le s (let q : length s ≤ p = omega arith in q)) tt
        go (yes h) = order (keys k z.0)
          where
            z : Rec
            z = (at_some s p h).0

            ez : get_elem? s p ≡ some z
            ez = (at_some s p h).1

            there : key_at F b p ≡ z.0
            there = key_is F L b x p z ez

            order : Keys k z.0 → After k (drop p s)
            order (key-lt e) = rw (drop-place s p z ez) (after-head k z (drop (suc p) s) (rw (drop-place s p z ez) at (sorted-drop s p x.sorted)) e)
            order (key-eq e) = absurd (n h (rw there e))
            order (key_gt e) = absurd (pl.next h (rw there e))

    lacks : get s k ≡ none
    lacks = ap (λ (l : List Rec). get l k) (sym whole) ∙ get-between (take p s) (drop p s) k befores later

    pub looked-absent : (out : List ℕ) → Found F b (looks k) out (buffer.refusal 12) out
    looked-absent out = record { answer = says 12; outcome = way-not_found x k lacks; written = refl; value = refl }

    pub remove_absent : Changed F b (removes k) 12 b
    remove_absent = record { answer = says 12; outcome = way-absent x k lacks; number = refl }

    pub write-full : (v : List ℕ) → full_in x k s ≡ true → Changed F b (writes k v) 11 b
    write-full v full = record { answer = says 11; outcome = way-full x k v lacks full; number = refl }

    -- an owner below its quota leaves a slot
    pub slot-left : is_owner (F.owner k) ≡ true → full_in x k s ≡ false → length s < x.slots
    slot-left w h = fewer F L x.slots x.extra s x.exact x.quotas x.within (F.owner k) w (eqb-false (count_by F.owner (F.owner k) s) (F.quota x.extra x.slots (F.owner k)) h)

    pub write-inserted : (v b₁ : List ℕ) → F.Fit (k, v) → full_in x k s ≡ false → length s < x.slots → b₁ ≡ inserted F x.extra p (length s) b (k, v) → Changed F b (writes k v) 0 b₁
    write-inserted v b₁ hf full room w =
        let C = x.slots in
        let u : records.put s k v ≡ take p s ++ (k, v) ∷ drop p s = ap (λ (l : List Rec). records.put l k v) (sym whole) ∙ put-between (take p s) (drop p s) k v befores later in
        let i : inserted F x.extra p (length s) (layout F C x.extra s) (k, v) ≡ layout F C x.extra (take p s ++ (k, v) ∷ drop p s) =
        rw (whole, lp) at (layout-inserted F L C x.extra (take p s) (drop p s) (k, v) (fit-take F L p s x.fit) (fit-drop F L p s x.fit) hf (rw whole room)) in
        let e : b₁ ≡ layout F C x.extra (records.put s k v) = w ∙ ap (λ (l : List ℕ). inserted F x.extra p (length s) l (k, v)) x.bytes ∙ i ∙ sym (ap (layout F C x.extra) u) in
        record { answer = done; outcome = way-added x k v b₁ lacks full e; number = refl }

-- refusals that the arguments decide
pub looked-refused : (F : Form) (b : List ℕ) (n : ℕ) → Counts F b n → (m : Meaning) (r : ℕ) → m ≡ refuses r → (out : List ℕ) → Found F b m out (buffer.refusal r) out
looked-refused F b n h m r e out = record { answer = says r; outcome = way-refused h.0 m r e; written = refl; value = refl }

pub changed-refused : (F : Form) (b : List ℕ) (n : ℕ) → Counts F b n → (m : Meaning) (r : ℕ) → m ≡ refuses r → Changed F b m r b
changed-refused F b n h m r e = record { answer = says r; outcome = way-refused h.0 m r e; number = refl }

-- the ways out of the search for a key

-- a key has one place
pub one_placed : (F : Form) (b k : List ℕ) (n p q : ℕ) → Placed F b k n p → Placed F b k n q → p ≡ q
one_placed F b k n p q x y = go (dec_lt p q) (dec_lt q p)
  where
    go : Dec (p < q) → Dec (q < p) → p ≡ q
    go (yes h) d = absurd (x.next (omega (arith, y.within)) (y.before p h))
    go (no h) (yes l) = absurd (y.next (omega (arith, x.within)) (x.before q l))
    go (no h) (no l) = omega arith
