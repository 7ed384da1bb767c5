-- Laws of texts behind their length: the bytes tell the text, and a field is filled exactly where the bytes behind its text are zero.
-- Assumes nothing.
use Rattle.std.specs.Prelude.{◌≡◌, refl, List, [], ◌∷◌, ◌++◌, Bool, true, false, ℕ, suc, ◌+◌, ◌-◌, ◌<◌, ◌≤◌, eqb, length, take, drop, get_or}
use Rattle.std.proofs.Common.{sym, ap, ◌∙◌, append_assoc, arith, length-append, length-drop, take_at, length-take-le, take-add, take-suc, get_or-take, get_or-drop, get_or-append-add}
use Rattle.std.proofs.lemmas.List.{get_or-replicate}
use Rattle.text.specs.Part.{every}
use Rattle.text.specs.Put.{put}
use Rattle.book_form.specs.Form.{zeros}
use Rattle.book_form.specs.FormLaws.{length-zeros, all-zero, blank-zeros, zeros-blank}
use Rattle.book_form.specs.MovesLaws.{over-join}
use Rattle.book_form.specs.Counted.{counted, counted_in, CountedOk}
use Rattle.book_form.specs.Tells.{Tells, tells_true, tells_false}

pub length-counted : (m : ℕ) (s : List ℕ) → length s ≤ m → length (counted m s) ≡ suc m
unfolding counted
length-counted m s h = omega (arith, length-append s (zeros (m - length s)), length-zeros (m - length s))

-- the text of a field
pub counted_back : (m : ℕ) (s tail : List ℕ) → counted_in (counted m s ++ tail) ≡ s
unfolding counted counted_in
counted_back m s tail = ap (λ (l : List ℕ). take (length s) l) (append_assoc s (zeros (m - length s)) tail) ∙ take_at s (zeros (m - length s) ++ tail) (length s) refl

-- a field written in three pieces
pub counted_pieces : (b : List ℕ) (at m : ℕ) (s : List ℕ) → at + 1 + m ≤ length b → length s ≤ m
    → put (put (put b at (length s ∷ [])) (at + 1) s) (at + 1 + length s) (zeros (m - length s)) ≡ put b at (counted m s)
unfolding counted
counted_pieces b at m s hb hs =
    let z : List ℕ = zeros (m - length s) in
    ap (λ (x : List ℕ). put x (at + 1 + length s) z) (over-join b at (length s ∷ []) s (at + 1) refl (omega arith))
    ∙ over-join b at (length s ∷ s) z (at + 1 + length s) (omega arith) (omega arith)

-- ---- when a field is filled
pub ok_of-zeros : (m : ℕ) (x : List ℕ) → suc m ≤ length x → get_or x 0 0 ≤ m → ((j : ℕ) → get_or x 0 0 + 1 ≤ j → j < suc m → get_or x j 0 ≡ 0) → CountedOk m x
unfolding counted counted_in
ok_of-zeros m x hx hn zs = record { bytes = bytes; fit = omega (arith, lk) }
  where
    n : ℕ
    n = get_or x 0 0

    y : List ℕ
    y = drop 1 x

    k : List ℕ
    k = take n y

    w : List ℕ
    w = drop n y

    ly : length y ≡ length x - 1
    ly = length-drop 1 x

    lk : length k ≡ n
    lk = length-take-le n y (omega (arith, ly))

    lm : length (take (m - n) w) ≡ m - n
    lm = length-take-le (m - n) w (omega (arith, ly, length-drop n y))

    pad : take (m - n) w ≡ zeros (m - n)
    pad =
        all-zero (take (m - n) w) (λ i h.
        let q : i < m - n = omega (arith, lm) in
        get_or-take (m - n) w i 0 q ∙ get_or-drop n y i 0 ∙ get_or-drop 1 x (n + i) 0 ∙ zs (1 + (n + i)) (omega arith) (omega arith))
        ∙ ap zeros lm

    bytes : take (suc m) x ≡ length k ∷ (k ++ zeros (m - length k))
    bytes =
        ap (λ (q : ℕ). take q x) (let e : suc m ≡ 1 + m = omega arith in e)
        ∙ take-add 1 m x
        ∙ ap (λ (l : List ℕ). l ++ take m y) (take-suc x 0 0 (omega arith))
        ∙ ap (λ (l : List ℕ). n ∷ l) (ap (λ (q : ℕ). take q y) (let e : m ≡ n + (m - n) = omega arith in e) ∙ take-add n (m - n) y ∙ ap (λ (l : List ℕ). k ++ l) pad)
        ∙ ap (λ (q : ℕ). q ∷ (k ++ zeros (m - q))) (sym lk)

-- the length byte of a filled field
pub ok-length : (m : ℕ) (x : List ℕ) → 1 ≤ length x → CountedOk m x → get_or x 0 0 ≡ length (counted_in x)
unfolding counted
ok-length m x hx s = sym (get_or-take (suc m) x 0 0 (omega arith)) ∙ ap (λ (l : List ℕ). get_or l 0 0) s.bytes

pub zeros_of-ok : (m : ℕ) (x : List ℕ) → 1 ≤ length x → CountedOk m x → (j : ℕ) → get_or x 0 0 + 1 ≤ j → j < suc m → get_or x j 0 ≡ 0
unfolding counted
zeros_of-ok m x hx s j lo hi =
    let k : List ℕ = counted_in x in
    let z : List ℕ = zeros (m - length k) in
    let i : ℕ = j - suc (length k) in
    let n = ok-length m x hx s in
    let li : i < m - length k = omega (arith, n, s.fit) in
    sym (get_or-take (suc m) x j 0 hi)
    ∙ ap (λ (l : List ℕ). get_or l j 0) s.bytes
    ∙ ap (λ (q : ℕ). get_or ((length k ∷ k) ++ z) q 0) (let q : j ≡ suc (length k) + i = omega (arith, n) in q)
    ∙ get_or-append-add (length k ∷ k) z i 0
    ∙ get_or-replicate (m - length k) i 0 0 li

-- a part of some bytes
pub part_at : (f m : ℕ) (b : List ℕ) (i : ℕ) → i < m → get_or (take m (drop f b)) i 0 ≡ get_or b (f + i) 0
part_at f m b i h = get_or-take m (drop f b) i 0 h ∙ get_or-drop f b i 0

pub length_part : (f m : ℕ) (b : List ℕ) → f + m ≤ length b → length (take m (drop f b)) ≡ m
length_part f m b h = length-take-le m (drop f b) (omega (arith, length-drop f b))

-- ---- the same, of the field at an offset
module _ (b : List ℕ) (at m : ℕ) (hb : at + 1 + m ≤ length b) where
  lx : length (drop at b) ≡ length b - at
  lx = length-drop at b

  head-is : get_or (drop at b) 0 0 ≡ get_or b at 0
  head-is = get_or-drop at b 0 0 ∙ ap (λ (q : ℕ). get_or b q 0) (let e : at + 0 ≡ at = omega arith in e)

  zero-at : CountedOk m (drop at b) → (j : ℕ) → at + 1 + get_or b at 0 ≤ j → j < at + 1 + m → get_or b j 0 ≡ 0
  zero-at s j lo hi =
      let z = zeros_of-ok m (drop at b) (omega (arith, lx)) s (j - at) (omega (arith, head-is)) (omega arith) in
      ap (λ (q : ℕ). get_or b q 0) (let e : j ≡ at + (j - at) = omega arith in e) ∙ sym (get_or-drop at b (j - at) 0) ∙ z

  -- a length over the field's
  pub tells-long : m < get_or b at 0 → Tells false (CountedOk m (drop at b))
  tells-long h = tells_false (λ s. omega (arith, head-is, ok-length m (drop at b) (omega (arith, lx)) s, s.fit))

  -- the length of the text in a filled field
  pub stored-length : CountedOk m (drop at b) → length (counted_in (drop at b)) ≡ get_or b at 0
  stored-length s = sym (ok-length m (drop at b) (omega (arith, lx)) s) ∙ head-is

  -- filled exactly where the bytes from behind the text on are blank
  pub tells-blank : get_or b at 0 ≤ m → (f n : ℕ) → f ≡ at + 1 + get_or b at 0 → f + n ≡ at + 1 + m → (r : Bool)
      → r ≡ every (λ x. eqb x 0) (take n (drop f b)) → Tells r (CountedOk m (drop at b))
  tells-blank hn f n ef en r e = go r e
    where
      part : List ℕ
      part = take n (drop f b)

      lp : length part ≡ n
      lp = length_part f n b (omega arith)

      go : (v : Bool) → v ≡ every (λ x. eqb x 0) part → Tells v (CountedOk m (drop at b))
      go true h =
          let z : part ≡ zeros (length part) = blank-zeros part (sym h) in
          tells_true (ok_of-zeros m (drop at b) (omega (arith, lx)) (omega (arith, head-is)) (λ j lo hi.
          get_or-drop at b j 0
          ∙ ap (λ (q : ℕ). get_or b q 0) (let q : at + j ≡ f + (at + j - f) = omega (arith, head-is) in q)
          ∙ sym (part_at f n b (at + j - f) (omega (arith, head-is)))
          ∙ ap (λ (l : List ℕ). get_or l (at + j - f) 0) z
          ∙ get_or-replicate (length part) (at + j - f) 0 0 (omega (arith, lp, head-is))))
      go false h = tells_false (λ s.
          let z : part ≡ zeros (length part) = all-zero part (λ i k. let l : i < n = omega (arith, lp) in part_at f n b i l ∙ zero-at s (f + i) (omega arith) (omega arith)) in
          let t : every (λ x. eqb x 0) part ≡ true = ap (every (λ x. eqb x 0)) z ∙ zeros-blank (length part) in
          let y : ◌≡◌ {A = ℕ} 0 1 = cc in
          omega arith)
