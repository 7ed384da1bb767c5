-- Laws of forms: the bytes of a book tell its records, and what stands where in them.
-- Assumes nothing.
use Rattle.std.specs.Prelude.{◌≡◌, eqb, Bool, true, false, cond, ◌||◌, get_or, take, drop}
use Rattle.std.proofs.Math.Path.{refl, sym, ap}
use Rattle.std.proofs.Common.{◌∙◌, mul-le-mul_left, eqb-true, length-take, length-take-le, length-drop, take-append-drop, drop_of_length-le, drop_at, drop-drop}
use mathlib.Core.List.{List, [], ◌∷◌, ◌++◌, append_assoc, append-nil, head-eq_of_cons-eq, tail-eq_of_cons-eq}
use Prim.Native.Nat.{ℕ, zero, suc, ◌+◌, ◌*◌, ◌-◌, ◌<◌, ◌≤◌}
use Rattle.std.proofs.Math.Decide.{dec_lt}
use native.Mathlib.Omega.{arith}
use Rattle.text.specs.Part.{every}
use Rattle.text.specs.PartLaws.{and_left, and_right}
use Rattle.std.proofs.Math.ListN.{length, length-append}
use Rattle.std.proofs.lemmas.List.{length-replicate, replicate-append-replicate}
use Rattle.std.proofs.Math.Seq.{drop-append-add}
use Rattle.text.specs.Put.{put}
use Rattle.text.specs.PutLaws.{put-zero}
use Rattle.book_records.specs.Records.{Key}
use Rattle.book_records.specs.Act.{Rec, count_by}
use Rattle.book_records.specs.Calls.{is_owner}
use Rattle.book_form.specs.Moves.{raised, lowered}
use Rattle.book_form.specs.MovesLaws.{raised-parts, lowered-parts, over-parts, over-join}
use Rattle.book_form.specs.Form.{Form, zeros, AllFit, AllExact, QuotasFit, Within, slots, layout, slot_at, inserted, removed}

-- what a form has to keep
pub record Lawful (F : Form) : Type 0 where
  pub header-length : (e : F.Extra) (n : ℕ) → length (F.header e n) ≡ F.head
  pub header_inj : (d e : F.Extra) (m n : ℕ) → F.header d m ≡ F.header e n → (d ≡ e) × (m ≡ n)
  pub slot-length : (r : Rec) → F.Fit r → length (F.slot r) ≡ F.width
  pub record_of-slot : (r : Rec) (tail : List ℕ) → F.Fit r → F.record_of (F.slot r ++ tail) ≡ r
  pub known : (k : Key) → F.Exact k → is_owner (F.owner k) ≡ true
  pub wide : 1 ≤ F.width

-- two joined lists are equal in parts, where the first parts have one length
pub append-parts : (a b x y : List ℕ) → length a ≡ length b → a ++ x ≡ b ++ y → (a ≡ b) × (x ≡ y)
append-parts [] [] x y l e = (refl, e)
append-parts [] (c ∷ b) x y l e = absurd (let z : ⊥ = omega arith in z)
append-parts (c ∷ a) [] x y l e = absurd (let z : ⊥ = omega arith in z)
append-parts (c ∷ a) (d ∷ b) x y l e =
    let r = append-parts a b x y (omega arith) (tail-eq_of_cons-eq e) in
    let h : c ≡ d = head-eq_of_cons-eq e in
    ((λ i. h i ∷ r.0 i), r.1)

pub length-zeros : (n : ℕ) → length (zeros n) ≡ n
length-zeros n = length-replicate n 0

-- zeros over all bytes
pub zeros-over : (b : List ℕ) → put b 0 (zeros (length b)) ≡ zeros (length b)
zeros-over b =
    put-zero b (zeros (length b))
    ∙ ap (λ (l : List ℕ). zeros (length b) ++ l) (drop_of_length-le b (let q : length b ≤ length (zeros (length b)) = omega (arith, length-zeros (length b)) in q))
    ∙ append-nil (zeros (length b))

-- a list of zeros, by its elements
pub all-zero : (l : List ℕ) → ((i : ℕ) → i < length l → get_or l i 0 ≡ 0) → l ≡ zeros (length l)
all-zero [] h = refl
all-zero (x ∷ l) h =
    let a : x ≡ 0 = h 0 (omega arith) in
    let b : l ≡ zeros (length l) = all-zero l (λ i k. h (suc i) (omega arith)) in
    λ i. a i ∷ b i

-- zeros, by a test of each byte
pub blank-zeros : (s : List ℕ) → every (λ b. eqb b 0) s ≡ true → s ≡ zeros (length s)
unfolding every
blank-zeros [] h = refl
blank-zeros (x ∷ s) h =
    let a : x ≡ 0 = eqb-true x 0 (and_left (eqb x 0) _ h) in
    let b : s ≡ zeros (length s) = blank-zeros s (and_right (eqb x 0) _ h) in
    λ i. a i ∷ b i

pub zeros-blank : (n : ℕ) → every (λ b. eqb b 0) (zeros n) ≡ true
unfolding every
zeros-blank zero = refl
zeros-blank (suc n) = zeros-blank n

-- a part of a buffer filled with zeros
pub zeros-within : (b : List ℕ) (f n m : ℕ) (l : List ℕ) → f + n ≤ length b → m ≡ n → l ≡ zeros (length (take m (drop f b))) → take f b ++ (l ++ drop m (drop f b)) ≡ put b f (zeros n)
unfolding put
zeros-within b f n m l h em el =
    let size : length (take m (drop f b)) ≡ n = omega (arith, length-take-le m (drop f b) (omega (arith, length-drop f b))) in
    let e : l ≡ zeros n = el ∙ ap zeros size in
    rw e (ap (λ (r : List ℕ). take f b ++ (zeros n ++ r)) (drop-drop m f b ∙ ap (λ (k : ℕ). drop k b) (let z : f + m ≡ f + length (zeros n) = omega (arith, length-zeros n) in z)))

-- zeros behind zeros
pub zeros-more : (b : List ℕ) (f m g n k : ℕ) → f + m ≡ g → g ≤ length b → m + n ≡ k → put (put b f (zeros m)) g (zeros n) ≡ put b f (zeros k)
zeros-more b f m g n k e h ek =
    over-join b f (zeros m) (zeros n) g (omega (arith, length-zeros m)) h
    ∙ ap (λ (x : List ℕ). put b f x) (replicate-append-replicate m n 0 ∙ ap zeros ek)

-- ---- records by their owners
one_of_two : (o n a b : ℕ) → is_owner o ≡ true → n ≡ a + b → suc n ≡ (cond (eqb o 1) 1 0 + a) + (cond (eqb o 2) 1 0 + b)
one_of_two o n a b w e = go (eqb o 1) refl (eqb o 2) refl w
  where
    go : (x : Bool) → eqb o 1 ≡ x → (y : Bool) → eqb o 2 ≡ y → (x || y) ≡ true → suc n ≡ (cond x 1 0 + a) + (cond y 1 0 + b)
    go true p true q z = absurd (let y : ⊥ = omega (arith, eqb-true o 1 p, eqb-true o 2 q) in y)
    go true p false q z = omega arith
    go false p true q z = omega arith
    go false p false q z = absurd (let y : ◌≡◌ {A = ℕ} 0 1 = cc in let x : ⊥ = omega arith in x)

module _ (F : Form) (L : Lawful F) where
  pub by-owner : (s : List Rec) → AllExact F s → length s ≡ count_by F.owner 1 s + count_by F.owner 2 s
  unfolding count_by
  by-owner [] h = refl
  by-owner (r ∷ s) h = one_of_two (F.owner r.0) (length s) _ _ (L.known r.0 h.0) (by-owner s h.1)

  module _ (C : ℕ) (e : F.Extra) (s : List Rec) (exact : AllExact F s) (quotas : QuotasFit F C e) (within : Within F C e s) where
    -- there are no more records than slots
    pub few : length s ≤ C
    few = omega (arith, by-owner s exact, quotas, within 1, within 2)

    -- and fewer, where an owner has fewer than its quota
    pub fewer : (o : ℕ) → is_owner o ≡ true → (count_by F.owner o s ≡ F.quota e C o → ⊥) → length s < C
    fewer o w n = go (eqb o 1) refl (eqb o 2) refl w
      where
        less : count_by F.owner o s < F.quota e C o
        less = omega (arith, within o, n)

        go : (x : Bool) → eqb o 1 ≡ x → (y : Bool) → eqb o 2 ≡ y → (x || y) ≡ true → length s < C
        go true p y q z =
            let k : count_by F.owner 1 s < F.quota e C 1 = rw (eqb-true o 1 p) at less in
            omega (arith, by-owner s exact, quotas, within 2, k)
        go false p true q z =
            let k : count_by F.owner 2 s < F.quota e C 2 = rw (eqb-true o 2 q) at less in
            omega (arith, by-owner s exact, quotas, within 1, k)
        go false p false q z = absurd (let y : ◌≡◌ {A = ℕ} 0 1 = cc in let x : ⊥ = omega arith in x)

  -- places rise
  pub slot_up : (m n : ℕ) → m ≤ n → slot_at F m ≤ slot_at F n
  slot_up m n h = omega (arith, mul-le-mul_left F.width h)

  pub place-back : (m n : ℕ) → slot_at F m ≤ slot_at F n → m ≤ n
  place-back m n h = go (dec_lt n m)
    where
      go : Dec (n < m) → m ≤ n
      go (no q) = omega arith
      go (yes q) = absurd (let z : ⊥ = omega (arith, L.wide, mul-le-mul_left F.width q) in z)

  pub place-next : (i : ℕ) → slot_at F (suc i) ≡ slot_at F i + F.width
  place-next i = omega arith

  pub slots-cons : (r : Rec) (rs : List Rec) → slots F (r ∷ rs) ≡ F.slot r ++ slots F rs
  unfolding slots
  slots-cons r rs = refl

  pub slots-append : (a b : List Rec) → slots F (a ++ b) ≡ slots F a ++ slots F b
  unfolding slots
  slots-append [] b = refl
  slots-append (r ∷ a) b = ap (λ (l : List ℕ). F.slot r ++ l) (slots-append a b) ∙ sym (append_assoc (F.slot r) (slots F a) (slots F b))

  pub length-slots : (rs : List Rec) → AllFit F rs → length (slots F rs) ≡ F.width * length rs
  unfolding slots
  length-slots [] h = omega arith
  length-slots (r ∷ rs) h = omega (arith, length-append (F.slot r) (slots F rs), L.slot-length r h.0, length-slots rs h.1)

  slot_inj : (r q : Rec) → F.Fit r → F.Fit q → F.slot r ≡ F.slot q → r ≡ q
  slot_inj r q h k e = sym (L.record_of-slot r [] h) ∙ ap (λ (x : List ℕ). F.record_of (x ++ [])) e ∙ L.record_of-slot q [] k

  slots_inj : (rs qs : List Rec) (x y : List ℕ) → AllFit F rs → AllFit F qs → length rs ≡ length qs → slots F rs ++ x ≡ slots F qs ++ y → rs ≡ qs
  unfolding slots
  slots_inj [] [] x y h k l e = refl
  slots_inj [] (q ∷ qs) x y h k l e = absurd (let z : ⊥ = omega arith in z)
  slots_inj (r ∷ rs) [] x y h k l e = absurd (let z : ⊥ = omega arith in z)
  slots_inj (r ∷ rs) (q ∷ qs) x y h k l e =
      let e' : F.slot r ++ (slots F rs ++ x) ≡ F.slot q ++ (slots F qs ++ y) =
      sym (append_assoc (F.slot r) (slots F rs) x) ∙ e ∙ append_assoc (F.slot q) (slots F qs) y in
      let p = append-parts (F.slot r) (F.slot q) (slots F rs ++ x) (slots F qs ++ y) (L.slot-length r h.0 ∙ sym (L.slot-length q k.0)) e' in
      let a : r ≡ q = slot_inj r q h.0 k.0 p.0 in
      let b : rs ≡ qs = slots_inj rs qs x y h.1 k.1 (omega arith) p.1 in
      λ i. a i ∷ b i

  -- a book's bytes tell what its header says and its records
  pub layout_inj : (C : ℕ) (d e : F.Extra) (rs qs : List Rec) → AllFit F rs → AllFit F qs → layout F C d rs ≡ layout F C e qs → (d ≡ e) × (rs ≡ qs)
  unfolding layout
  layout_inj C d e rs qs h k q =
      let p = append-parts (F.header d (length rs)) (F.header e (length qs)) _ _ (L.header-length d (length rs) ∙ sym (L.header-length e (length qs))) q in
      let i = L.header_inj d e (length rs) (length qs) p.0 in
      (i.0, slots_inj rs qs _ _ h k i.1 p.1)

  -- the zeros of one slot, taken from the front of the zeros of all unused slots
  zeros-less : (m : ℕ) → drop F.width (zeros (F.width * suc m)) ≡ zeros (F.width * m)
  zeros-less m =
      let W = F.width in
      let e : zeros (W * suc m) ≡ zeros W ++ zeros (W * m) =
      ap zeros (let q : W * suc m ≡ W + W * m = omega arith in q) ∙ sym (replicate-append-replicate W (W * m) 0) in
      ap (λ (l : List ℕ). drop W l) e ∙ drop_at (zeros W) (zeros (W * m)) W (length-replicate W 0)

  pub layout-inserted : (C : ℕ) (e : F.Extra) (a b : List Rec) (r : Rec) → AllFit F a → AllFit F b → F.Fit r → length (a ++ b) < C
      → inserted F e (length a) (length (a ++ b)) (layout F C e (a ++ b)) r ≡ layout F C e (a ++ r ∷ b)
  unfolding inserted layout
  layout-inserted C e a b r ha hb hr full = two ∙ three
    where
      W : ℕ
      W = F.width

      n : ℕ
      n = length (a ++ b)

      m : ℕ
      m = C - suc n

      sa : List ℕ
      sa = slots F a

      sb : List ℕ
      sb = slots F b

      zz : List ℕ
      zz = zeros (W * m)

      pre : List ℕ
      pre = F.header e n ++ sa

      room : C - n ≡ suc m
      room = omega arith

      at : ℕ
      at = F.head + W * length a

      length_pre : length pre ≡ at
      length_pre = omega (arith, length-append (F.header e n) sa, L.header-length e n, length-slots a ha)

      all : at + length sb ≡ F.head + W * n
      all = omega (arith, length-slots b hb, ap (λ (k : ℕ). W * k) (length-append a b))

      parted : layout F C e (a ++ b) ≡ pre ++ (sb ++ zeros (W * suc m))
      parted =
          ap (λ (k : ℕ). F.header e n ++ (slots F (a ++ b) ++ zeros (W * k))) room
          ∙ ap (λ (l : List ℕ). F.header e n ++ (l ++ zeros (W * suc m))) (slots-append a b)
          ∙ simp append_assoc

      old : List ℕ
      old = take W (sb ++ zeros (W * suc m))

      length-old : length old ≡ W
      length-old =
          omega (arith, length-take W (sb ++ zeros (W * suc m)), length-append sb (zeros (W * suc m)), length-zeros (W * suc m))

      one : raised at (F.head + W * n) W (layout F C e (a ++ b)) ≡ pre ++ (old ++ (sb ++ zz))
      one =
          ap (λ (l : List ℕ). raised at (F.head + W * n) W l) parted
          ∙ raised-parts pre sb (zeros (W * suc m)) at (F.head + W * n) W length_pre all
          ∙ ap (λ (l : List ℕ). pre ++ (old ++ (sb ++ l))) (zeros-less m)

      two : inserted F e (length a) n (layout F C e (a ++ b)) r ≡ F.header e (suc n) ++ (sa ++ (F.slot r ++ (sb ++ zz)))
      two =
          ap (λ (l : List ℕ). put (put l at (F.slot r)) 0 (F.header e (suc n))) one
          ∙ ap (λ (l : List ℕ). put l 0 (F.header e (suc n))) (over-parts pre old (sb ++ zz) (F.slot r) at length_pre (length-old ∙ sym (L.slot-length r hr)) ∙ append_assoc (F.header e n) sa (F.slot r ++ (sb ++ zz)))
          ∙ over-parts [] (F.header e n) (sa ++ (F.slot r ++ (sb ++ zz))) (F.header e (suc n)) 0 refl (L.header-length e n ∙ sym (L.header-length e (suc n)))

      more : length (a ++ r ∷ b) ≡ suc n
      more = omega (arith, length-append a (r ∷ b), length-append a b)

      three : F.header e (suc n) ++ (sa ++ (F.slot r ++ (sb ++ zz))) ≡ layout F C e (a ++ r ∷ b)
      three =
          sym
          (ap (λ (k : ℕ). F.header e k ++ (slots F (a ++ r ∷ b) ++ zeros (W * (C - k)))) more
          ∙ ap (λ (l : List ℕ). F.header e (suc n) ++ (l ++ zz)) (slots-append a (r ∷ b) ∙ ap (λ (l : List ℕ). sa ++ l) (slots-cons r b))
          ∙ simp append_assoc)

  -- a book's bytes, parted at one of its slots
  pub layout_parted : (C : ℕ) (e : F.Extra) (a : List Rec) (r : Rec) (b : List Rec)
      → layout F C e (a ++ r ∷ b) ≡ (F.header e (length (a ++ r ∷ b)) ++ slots F a) ++ (F.slot r ++ (slots F b ++ zeros (F.width * (C - length (a ++ r ∷ b)))))
  unfolding layout
  layout_parted C e a r b =
      ap (λ (l : List ℕ). F.header e (length (a ++ r ∷ b)) ++ (l ++ zeros (F.width * (C - length (a ++ r ∷ b))))) (slots-append a (r ∷ b) ∙ ap (λ (l : List ℕ). slots F a ++ l) (slots-cons r b))
      ∙ simp append_assoc

  pub length_before : (e : F.Extra) (n : ℕ) (a : List Rec) → AllFit F a → length (F.header e n ++ slots F a) ≡ slot_at F (length a)
  length_before e n a h = omega (arith, length-append (F.header e n) (slots F a), L.header-length e n, length-slots a h)

  -- a record put in the place of another
  pub layout_replaced : (C : ℕ) (e : F.Extra) (a : List Rec) (q r : Rec) (b : List Rec) → AllFit F a → F.Fit q → F.Fit r
      → put (layout F C e (a ++ q ∷ b)) (slot_at F (length a)) (F.slot r) ≡ layout F C e (a ++ r ∷ b)
  layout_replaced C e a q r b ha hq hr =
      let m : length (a ++ q ∷ b) ≡ length (a ++ r ∷ b) = omega (arith, length-append a (q ∷ b), length-append a (r ∷ b)) in
      ap (λ (l : List ℕ). put l (slot_at F (length a)) (F.slot r)) (layout_parted C e a q b)
      ∙ over-parts (F.header e (length (a ++ q ∷ b)) ++ slots F a) (F.slot q) (slots F b ++ zeros (F.width * (C - length (a ++ q ∷ b)))) (F.slot r) (slot_at F (length a)) (length_before e (length (a ++ q ∷ b)) a ha) (L.slot-length q hq ∙ sym (L.slot-length r hr))
      ∙ ap (λ (n : ℕ). (F.header e n ++ slots F a) ++ (F.slot r ++ (slots F b ++ zeros (F.width * (C - n))))) m
      ∙ sym (layout_parted C e a r b)

  pub length-layout : (C : ℕ) (e : F.Extra) (rs : List Rec) → AllFit F rs → length rs ≤ C → length (layout F C e rs) ≡ F.head + F.width * C
  unfolding layout
  length-layout C e rs h l =
      let m : ℕ = C - length rs in
      let all : F.width * C ≡ F.width * length rs + F.width * m = ap (λ (k : ℕ). F.width * k) (let q : C ≡ length rs + m = omega arith in q) ∙ omega arith in
      omega (
        arith,
        all,
        length-append (F.header e (length rs)) (slots F rs ++ zeros (F.width * m)),
        length-append (slots F rs) (zeros (F.width * m)),
        L.header-length e (length rs),
        length-slots rs h,
        length-zeros (F.width * m),
      )

  pub fit-take : (n : ℕ) (a : List Rec) → AllFit F a → AllFit F (take n a)
  fit-take zero a h = tt
  fit-take (suc n) [] h = tt
  fit-take (suc n) (r ∷ a) h = (h.0, fit-take n a h.1)

  pub fit-drop : (n : ℕ) (a : List Rec) → AllFit F a → AllFit F (drop n a)
  fit-drop zero a h = h
  fit-drop (suc n) [] h = tt
  fit-drop (suc n) (r ∷ a) h = fit-drop n a h.1

  -- Records a, as many bytes as q - p slots have, whatever they are, and records b: with these bytes taken out, a book of both.
  pub layout-removed : (C : ℕ) (e : F.Extra) (h : List ℕ) (a : List Rec) (gap : List ℕ) (b : List Rec) (p q n : ℕ) → length h ≡ F.head → AllFit F a → AllFit F b
      → length a ≡ p → p ≤ q → length gap ≡ F.width * (q - p) → q + length b ≡ n → n ≤ C
      → removed F e p q n (h ++ (slots F a ++ (gap ++ (slots F b ++ zeros (F.width * (C - n)))))) ≡ layout F C e (a ++ b)
  unfolding removed layout
  layout-removed C e h a gap b p q n lh ha hb lp pq lg ln room = two ∙ three
    where
      W : ℕ
      W = F.width

      w : ℕ
      w = W * (q - p)

      left : ℕ
      left = n - (q - p)

      sa : List ℕ
      sa = slots F a

      sb : List ℕ
      sb = slots F b

      zz : List ℕ
      zz = zeros (W * (C - n))

      pre : List ℕ
      pre = h ++ sa

      all : List ℕ
      all = gap ++ (sb ++ zz)

      tail : List ℕ
      tail = drop (length sb) all

      length_pre : length pre ≡ slot_at F p
      length_pre = omega (arith, length-append h sa, lh, length-slots a ha, ap (λ (k : ℕ). W * k) lp)

      lsb : length sb ≡ W * length b
      lsb = length-slots b hb

      -- the places of slots q, n and left
      at_q : W * q ≡ W * p + w
      at_q = ap (λ (k : ℕ). W * k) (let z : q ≡ p + (q - p) = omega arith in z) ∙ omega arith

      at_n : W * n ≡ W * q + W * length b
      at_n = ap (λ (k : ℕ). W * k) (sym ln) ∙ omega arith

      at_left : W * left ≡ W * p + W * length b
      at_left = ap (λ (k : ℕ). W * k) (let z : left ≡ p + length b = omega arith in z) ∙ omega arith

      one : lowered (slot_at F q) (slot_at F n) w (pre ++ all) ≡ pre ++ (sb ++ tail)
      one = lowered-parts pre gap sb zz (slot_at F q) (slot_at F n) w (omega (arith, length_pre, at_q)) lg (omega (arith, lsb, at_n))

      -- what is left behind the slots that moved down: as many bytes as went, and then zeros
      rest : drop w tail ≡ zz
      rest =
          drop-drop w (length sb) all
          ∙ ap (λ (k : ℕ). drop k all) (let z : length sb + w ≡ length gap + length sb = omega (arith, lg) in z)
          ∙ drop-append-add gap (sb ++ zz) (length sb)
          ∙ drop_at sb zz (length sb) refl

      length-tail : length (take w tail) ≡ w
      length-tail = omega (arith, length-take w tail, length-drop (length sb) all, length-append gap (sb ++ zz), length-append sb zz, lg)

      two : removed F e p q n (h ++ (sa ++ all)) ≡ F.header e left ++ (sa ++ (sb ++ (zeros w ++ zz)))
      two =
          ap (λ (l : List ℕ). put (put (lowered (slot_at F q) (slot_at F n) w l) (slot_at F left) (zeros w)) 0 (F.header e left)) (sym (append_assoc h sa all))
          ∙ ap (λ (l : List ℕ). put (put l (slot_at F left) (zeros w)) 0 (F.header e left)) (one ∙ ap (λ (l : List ℕ). pre ++ (sb ++ l)) (sym (take-append-drop w tail) ∙ ap (λ (l : List ℕ). take w tail ++ l) rest) ∙ sym (append_assoc pre sb (take w tail ++ zz)))
          ∙ ap (λ (l : List ℕ). put l 0 (F.header e left)) (over-parts (pre ++ sb) (take w tail) zz (zeros w) (slot_at F left) (omega (arith, length-append pre sb, length_pre, lsb, at_left)) (length-tail ∙ sym (length-zeros w)))
          ∙ ap (λ (l : List ℕ). put l 0 (F.header e left)) (let z : (pre ++ sb) ++ (zeros w ++ zz) ≡ h ++ (sa ++ (sb ++ (zeros w ++ zz))) = simp append_assoc in z)
          ∙ over-parts [] h (sa ++ (sb ++ (zeros w ++ zz))) (F.header e left) 0 refl (lh ∙ sym (L.header-length e left))

      joined : zeros w ++ zz ≡ zeros (W * (C - left))
      joined =
          replicate-append-replicate w (W * (C - n)) 0
          ∙ ap zeros (let z : w + W * (C - n) ≡ W * (q - p + (C - n)) = omega arith in z)
          ∙ ap (λ (k : ℕ). zeros (W * k)) (let z : q - p + (C - n) ≡ C - left = omega arith in z)

      three : F.header e left ++ (sa ++ (sb ++ (zeros w ++ zz))) ≡ layout F C e (a ++ b)
      three =
          ap (λ (l : List ℕ). F.header e left ++ (sa ++ (sb ++ l))) joined
          ∙ sym
          (ap (λ (k : ℕ). F.header e k ++ (slots F (a ++ b) ++ zeros (W * (C - k)))) (let z : length (a ++ b) ≡ left = omega (arith, length-append a b) in z)
          ∙ ap (λ (l : List ℕ). F.header e left ++ (l ++ zeros (W * (C - left)))) (slots-append a b)
          ∙ simp append_assoc)
