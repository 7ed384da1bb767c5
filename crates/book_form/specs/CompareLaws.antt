-- Laws of keys in slots: a key compared with the key of a slot, byte by byte.
-- Assumes nothing.
use Rattle.std.specs.Prelude.{◌≡◌, refl, List, [], ◌∷◌, ◌++◌, length, take, drop, get_or}
use Rattle.std.proofs.Common.{sym, ap, ◌∙◌, add-one, arith, length-drop, drop-drop, drop-cons, get_or-take, get_or-drop, length-take-le, take_all}
use Prim.Native.Nat.{ℕ, zero, suc, ◌+◌, ◌-◌, ◌<◌, ◌≤◌, Ordering, compare}
use Rattle.std.specs.declared.cmp.Ordering.{Ordering as Order}
use Rattle.std.specs.declared.cmp.Ordering.TheVariants.{Less, Equal, Greater}
use Rattle.std.specs.Ordering.{nat_cmp, ordering_index, ordering_then, MatchOrdering}
use Rattle.std.specs.Cmp.{nat_cmp_is}
use Rattle.std.specs.Cmp.Lexicographic.{slice_cmp}
use Rattle.text.specs.Order.{cmp, then}
use Rattle.text.specs.OrderLaws.{Tri, below, equal, above, tri, compare-lt, compare_gt, compare_same, cmp-cons-lt, cmp-cons_gt, cmp-cons-eq}
use Rattle.book_form.specs.Counted.{counted_in, stored}
use Rattle.book_form.specs.Compare.{ordering_of, Agree, Alike}

module _ (a b : List ℕ) (i : ℕ) where
  -- the order of the rest of two keys
  abbrev pub rest : Ordering
  rest = cmp (drop i a) (drop i b)

  pub rest_lt : i < length a → i < length b → get_or a i 0 < get_or b i 0 → rest ≡ Ordering.lt
  rest_lt ha hb h = rw (drop-cons a i 0, drop-cons b i 0) (cmp-cons-lt (get_or a i 0) (get_or b i 0) _ _ h)

  pub rest_gt : i < length a → i < length b → get_or b i 0 < get_or a i 0 → rest ≡ Ordering.gt
  rest_gt ha hb h = rw (drop-cons a i 0, drop-cons b i 0) (cmp-cons_gt (get_or a i 0) (get_or b i 0) _ _ h)

  pub rest_eq : i < length a → i < length b → get_or a i 0 ≡ get_or b i 0 → cmp (drop (i + 1) a) (drop (i + 1) b) ≡ rest
  rest_eq ha hb h = rw (add-one i, drop-cons a i 0, drop-cons b i 0) (sym (cmp-cons-eq (get_or a i 0) (get_or b i 0) _ _ h))

-- the first byte of a slot
first_is : (b : List ℕ) (at : ℕ) → get_or (drop at b) 0 0 ≡ get_or b at 0
first_is b at = get_or-drop at b 0 0 ∙ ap (λ (q : ℕ). get_or b q 0) (let e : at + 0 ≡ at = omega arith in e)

-- the key in a slot
pub length-stored : (b : List ℕ) (at : ℕ) → at + 1 + get_or b at 0 ≤ length b → length (stored b at) ≡ get_or b at 0
unfolding counted_in
length-stored b at h = length-take-le (get_or (drop at b) 0 0) (drop 1 (drop at b)) (omega (arith, length-drop 1 (drop at b), length-drop at b, first_is b at)) ∙ first_is b at

pub get_d-stored : (b : List ℕ) (at i : ℕ) → i < get_or b at 0 → get_or (stored b at) i 0 ≡ get_or b (at + 1 + i) 0
unfolding counted_in
get_d-stored b at i h =
    get_or-take (get_or (drop at b) 0 0) (drop 1 (drop at b)) i 0 (omega (arith, first_is b at))
    ∙ get_or-drop 1 (drop at b) i 0
    ∙ get_or-drop at b (1 + i) 0
    ∙ ap (λ (q : ℕ). get_or b q 0) (let e : at + (1 + i) ≡ at + 1 + i = omega arith in e)

-- a key as a part of the book
pub stored-part : (b : List ℕ) (at n : ℕ) → n ≡ get_or b at 0 → take n (drop (at + 1) b) ≡ stored b at
unfolding counted_in
stored-part b at n e = ap (λ (m : ℕ). take m (drop (at + 1) b)) (e ∙ sym (first_is b at)) ∙ ap (λ (l : List ℕ). take (get_or (drop at b) 0 0) l) (sym (drop-drop 1 at b))

-- The loop that compares: at i the rest decides, and each way out of the loop answers so.
module _ (book key : List ℕ) (at n i : ℕ) (hb : at + 256 ≤ length book) (en : n ≡ get_or book at 0) (hn : n ≤ 255)
    (inv : rest key (stored book at) i ≡ cmp key (stored book at)) where
  lb : length (stored book at) ≡ n
  lb = length-stored book at (omega arith) ∙ sym en

  xb : i < n → get_or (stored book at) i 0 ≡ get_or book (at + 1 + i) 0
  xb h = get_d-stored book at i (omega arith)

  pub out-lt : i < length key → i < n → get_or key i 0 < get_or book (at + 1 + i) 0 → Less ≡ ordering_of (cmp key (stored book at))
  out-lt h k d = ap ordering_of (sym (rest_lt key (stored book at) i h (omega (arith, lb)) (omega (arith, xb k))) ∙ inv)

  pub out_gt : i < length key → i < n → get_or book (at + 1 + i) 0 < get_or key i 0 → Greater ≡ ordering_of (cmp key (stored book at))
  out_gt h k d = ap ordering_of (sym (rest_gt key (stored book at) i h (omega (arith, lb)) (omega (arith, xb k))) ∙ inv)

-- ---- a comparison that starts behind what two keys share
skip-same : (a b : List ℕ) (i : ℕ) → i ≤ length a → i ≤ length b → ((j : ℕ) → j < i → get_or a j 0 ≡ get_or b j 0) → rest a b i ≡ cmp a b
skip-same a b zero ha hb h = refl
skip-same a b (suc i) ha hb h =
    let e : rest a b (i + 1) ≡ rest a b i = rest_eq a b i (omega arith) (omega arith) (h i (omega arith)) in
    ap (λ (n : ℕ). rest a b n) (sym (add-one i)) ∙ e ∙ skip-same a b i (omega arith) (omega arith) (λ j l. h j (omega arith))

pub agree-rest : (key book : List ℕ) (at start : ℕ) → at + 256 ≤ length book → get_or book at 0 ≤ 255 → Agree key book at start → rest key (stored book at) start ≡ cmp key (stored book at)
agree-rest key book at start hb hn g =
    let lb : length (stored book at) ≡ get_or book at 0 = length-stored book at (omega arith) in
    skip-same key (stored book at) start g.short (omega (arith, g.within)) (λ j l. g.same j l ∙ sym (get_d-stored book at j (omega (arith, g.within))))

pub alike-agree : (s key : List ℕ) (at by n r : ℕ) → at + by + 256 ≤ length s → get_or s at 0 ≤ 255 → get_or s (at + by) 0 ≤ 255 → key ≡ stored s at → n ≤ get_or s at 0 → n ≤ get_or s (at + by) 0 → r ≤ n → Alike s (at + 1) (at + by + 1) r → Agree key s (at + by) r
alike-agree s key at by n r hs ha hb ek na nb rn g =
    record {
      short = rw ek (omega (arith, length-stored s at (omega arith)));
      within = omega arith;
      same = λ j l. rw ek (get_d-stored s at j (omega arith) ∙ g j l);
    }

-- ---- keys with as much ahead of them
then-then : (o p q : Ordering) → then o (then p q) ≡ then (then o p) q
then-then Ordering.lt p q = refl
then-then Ordering.eq p q = refl
then-then Ordering.gt p q = refl

pub cmp-ahead : (a c b d : List ℕ) → length a ≡ length c → cmp (a ++ b) (c ++ d) ≡ then (cmp a c) (cmp b d)
unfolding cmp
cmp-ahead [] [] b d h = refl
cmp-ahead [] (y ∷ c) b d h = absurd (let z : ⊥ = omega arith in z)
cmp-ahead (x ∷ a) [] b d h = absurd (let z : ⊥ = omega arith in z)
cmp-ahead (x ∷ a) (y ∷ c) b d h = ap (then (compare x y)) (cmp-ahead a c b d (omega arith)) ∙ then-then (compare x y) (cmp a c) (cmp b d)

-- ---- an order as std has it
-- numbers, bytes and texts compare in std as here
pub cmp_of_numbers : (x y : ℕ) → nat_cmp x y ≡ ordering_of (compare x y)
cmp_of_numbers x y = sym (nat_cmp_is x y (ordering_of (compare x y)) (go (tri x y)))
  where
    go : Tri x y → MatchOrdering (ordering_of (compare x y)) (x < y) (x ≡ y) (y < x)
    go (below p) = rw (compare-lt x y p) p
    go (equal p) = rw (p, compare_same y) refl
    go (above p) = rw (compare_gt x y p) p

then_of : (o p : Ordering) → ordering_then (ordering_of o) (ordering_of p) ≡ ordering_of (then o p)
then_of Ordering.lt p = refl
then_of Ordering.eq p = refl
then_of Ordering.gt p = refl

cmp_of_texts : (a b : List ℕ) → slice_cmp nat_cmp a b ≡ ordering_of (cmp a b)
unfolding cmp
cmp_of_texts [] [] = refl
cmp_of_texts [] (y ∷ b) = refl
cmp_of_texts (x ∷ a) [] = refl
cmp_of_texts (x ∷ a) (y ∷ b) = rw (cmp_of_numbers x y, cmp_of_texts a b) (then_of (compare x y) (cmp a b))

-- the rests of two texts, as parts that reach to their ends
pub cmp_of_rests : (a b : List ℕ) (i m n : ℕ) → m ≡ length a - i → n ≡ length b - i → slice_cmp nat_cmp (take m (drop i a)) (take n (drop i b)) ≡ ordering_of (rest a b i)
cmp_of_rests a b i m n em en =
    rw (take_all m (drop i a) (omega (arith, length-drop i a)), take_all n (drop i b) (omega (arith, length-drop i b))) (cmp_of_texts (drop i a) (drop i b))

-- what is ahead decides, or what follows does: o is the order of both, d that of what is ahead
pub ahead-decides : (o p q : Ordering) (d : Order) → o ≡ then p q → d ≡ ordering_of p → (d ≡ Equal → ⊥) → d ≡ ordering_of o
ahead-decides o Ordering.lt q d e f n = f ∙ ap ordering_of (sym e)
ahead-decides o Ordering.eq q d e f n = absurd (n f)
ahead-decides o Ordering.gt q d e f n = f ∙ ap ordering_of (sym e)

pub ahead-same : (o p q : Ordering) (d r : Order) → o ≡ then p q → d ≡ ordering_of p → d ≡ Equal → r ≡ ordering_of q → r ≡ ordering_of o
ahead-same o Ordering.lt q d r e f n g = absurd (let z : ⊥ = omega (arith, ap ordering_index (sym f ∙ n)) in z)
ahead-same o Ordering.eq q d r e f n g = g ∙ ap ordering_of (sym e)
ahead-same o Ordering.gt q d r e f n g = absurd (let z : ⊥ = omega (arith, ap ordering_index (sym f ∙ n)) in z)
