-- What a component of a kind is, and what a component of a text is to it, one way out of the code after the other.
-- Assumes nothing.
use Rattle.std.specs.Prelude.{refl, ℕ, ◌+◌, ◌-◌, ◌≤◌, ◌<◌, ◌≡◌, Bool, true, false, not, List, [], ◌∷◌, reverse, length, take, drop, get_or}
use Rattle.std.proofs.Math.Path.{sym, ap}
use Rattle.std.proofs.Common.{◌∙◌}
use native.Mathlib.Omega.{arith}
use Rattle.std.proofs.Math.Dec.{eqb}
use borrow.Author.Tests.{lt-ltb, le-ltb, eq-eqb, ne_eqb, not-true, not-false}
use Rattle.text.specs.Number.{numeral_of}
use Rattle.text.specs.Part.{same}
use Rattle.text.specs.PartLaws.{part-rest}
use Rattle.path.specs.declared.name.Name.{Name}
use Rattle.path.specs.Kinds.{Part, word, name, count, pair}
use Rattle.path.specs.Read.{fits, name_fault, is_number}
use Rattle.read_pieces.specs.Pieces.{first_dash}
use Rattle.read_pieces.specs.PairLaws.{pair-none, pair-by, dash-inside, before, after}
use Rattle.diagnose.specs.declared.Why.{Why}
use Rattle.diagnose.specs.declared.shape.Shape.{Shape}
use Rattle.diagnose.specs.declared.shape.Shape.TheVariants.{Word, Named, Count, Pair}
use Rattle.diagnose.specs.Diagnosis.{agree, alike, alike_but, stands, part_why, word_why, name_why, number_why, lacks, is_count}
use Rattle.diagnose.specs.Table.{letter_shape, shape_of, part_by, part_in}

-- ---- the shape
module _ (w : List ℕ) where
  pub shape-word : 3 < length w → Word ≡ shape_of w
  unfolding shape_of
  shape-word h = rw (lt-ltb 3 (length w) h)

  pub shape_letter : (x : Shape) → length w ≤ 3 → x ≡ letter_shape (get_or w 0 0) → x ≡ shape_of w
  unfolding shape_of
  shape_letter x h e = rw (le-ltb 3 (length w) h) e

pub shape-none : (w : List ℕ) (x : Shape) → length w ≡ 0 → x ≡ letter_shape 0 → x ≡ shape_of w
unfolding shape_of
shape-none [] x h e = e
shape-none (b ∷ w) x h e = absurd (omega arith)

-- ---- what fits, by the shape s of the part
module _ (w c : List ℕ) (s : Shape) (e : s ≡ shape_of w) where
  part-is : (p : Part) → part_by w s ≡ p → part_in w ≡ p
  part-is p h = ap (part_by w) (sym e) ∙ h

  pub fits_word : s ≡ Word → (r : Bool) → r ≡ same c w → r ≡ fits (part_in w) c
  unfolding fits
  fits_word h r k = k ∙ sym (ap (λ (p : Part). fits p c) (part-is (word w) (ap (part_by w) h)))

  pub fits-name : (n : Name) → s ≡ Named n → (f : ℕ) → f ≡ name_fault n c → eqb f 0 ≡ fits (part_in w) c
  unfolding fits
  fits-name n h f k = ap (λ (x : ℕ). eqb x 0) k ∙ sym (ap (λ (p : Part). fits p c) (part-is (name n) (ap (part_by w) h)))

  pub fits_count : s ≡ Count → (r : Bool) → r ≡ fits count c → r ≡ fits (part_in w) c
  fits_count h r k = k ∙ sym (ap (λ (p : Part). fits p c) (part-is count (ap (part_by w) h)))

  pub fits-pair : s ≡ Pair → (r : Bool) → r ≡ fits pair c → r ≡ fits (part_in w) c
  fits-pair h r k = k ∙ sym (ap (λ (p : Part). fits p c) (part-is pair (ap (part_by w) h)))

  -- its letters, and whether it stands there
  pub letters-word : s ≡ Word → (m n : ℕ) → m ≡ agree false w c → n ≡ agree false (reverse w) (reverse c) → m + n ≡ alike (part_in w) c
  unfolding alike
  letters-word h m n k l = rw (k, l) (sym (ap (λ (p : Part). alike p c) (part-is (word w) (ap (part_by w) h))))

  pub letters-other : (s ≡ Word → ⊥) → 0 ≡ alike (part_in w) c
  unfolding alike
  letters-other h = go s refl
    where
      go : (x : Shape) → s ≡ x → 0 ≡ alike (part_in w) c
      go Word i = absurd (h i)
      go (Named n) i = sym (ap (λ (p : Part). alike p c) (part-is (name n) (ap (part_by w) i)))
      go Count i = sym (ap (λ (p : Part). alike p c) (part-is count (ap (part_by w) i)))
      go Pair i = sym (ap (λ (p : Part). alike p c) (part-is pair (ap (part_by w) i)))

  pub stands_word : s ≡ Word → (r : Bool) → r ≡ alike_but w c → r ≡ stands (part_in w) c
  unfolding stands
  stands_word h r k = k ∙ sym (ap (λ (p : Part). stands p c) (part-is (word w) (ap (part_by w) h)))

  pub stands-other : (s ≡ Word → ⊥) → true ≡ stands (part_in w) c
  unfolding stands
  stands-other h = go s refl
    where
      go : (x : Shape) → s ≡ x → true ≡ stands (part_in w) c
      go Word i = absurd (h i)
      go (Named n) i = sym (ap (λ (p : Part). stands p c) (part-is (name n) (ap (part_by w) i)))
      go Count i = sym (ap (λ (p : Part). stands p c) (part-is count (ap (part_by w) i)))
      go Pair i = sym (ap (λ (p : Part). stands p c) (part-is pair (ap (part_by w) i)))

  -- whether nothing stands where something has to
  module _ (z : length c ≡ 0) where
    lacks-by : (p : Part) → part_by w s ≡ p → lacks (part_in w) c ≡ not (is_count p)
    lacks-by p h = rw (part-is p h, eq-eqb (length c) 0 z)

    pub lacks-count : s ≡ Count → false ≡ lacks (part_in w) c
    lacks-count h = sym (lacks-by count (ap (part_by w) h))

    pub lacks-other : (s ≡ Count → ⊥) → true ≡ lacks (part_in w) c
    lacks-other h = go s refl
      where
        go : (x : Shape) → s ≡ x → true ≡ lacks (part_in w) c
        go Word i = sym (lacks-by (word w) (ap (part_by w) i))
        go (Named n) i = sym (lacks-by (name n) (ap (part_by w) i))
        go Count i = absurd (h i)
        go Pair i = sym (lacks-by pair (ap (part_by w) i))

  -- what is wrong with it
  pub why-word : s ≡ Word → (r : Why) → r ≡ word_why w c → r ≡ part_why (part_in w) c
  unfolding part_why
  why-word h r k = k ∙ sym (ap (λ (p : Part). part_why p c) (part-is (word w) (ap (part_by w) h)))

  pub why-name : (n : Name) → s ≡ Named n → (r : Why) → r ≡ name_why n c → r ≡ part_why (part_in w) c
  unfolding part_why
  why-name n h r k = k ∙ sym (ap (λ (p : Part). part_why p c) (part-is (name n) (ap (part_by w) h)))

  pub why-count : s ≡ Count → (r : Why) → r ≡ number_why 0 (numeral_of c) → r ≡ part_why (part_in w) c
  unfolding part_why
  why-count h r k = k ∙ sym (ap (λ (p : Part). part_why p c) (part-is count (ap (part_by w) h)))

  pub why-pair : s ≡ Pair → (r : Why) → r ≡ part_why pair c → r ≡ part_why (part_in w) c
  why-pair h r k = k ∙ sym (ap (λ (p : Part). part_why p c) (part-is pair (ap (part_by w) h)))

pub lacks-nothing : (p : Part) (c : List ℕ) → (length c ≡ 0 → ⊥) → false ≡ lacks p c
lacks-nothing p c h = rw (ne_eqb (length c) 0 h)

-- ---- R-h by its first dash d, and the tests of what stands before and after it
module _ (s : List ℕ) (d : ℕ) (e : d ≡ first_dash s) where
  pub pair-no-dash : d ≡ length s → false ≡ fits pair s
  pair-no-dash h = let k : length s ≤ first_dash s = omega arith in sym (pair-none s k)

  module _ (h : d ≡ length s → ⊥) (x : Bool) (f : x ≡ fits count (take (d - 0) s)) where
    inside : first_dash s < length s
    inside = omega (arith, dash-inside s d e h)

    first : is_number (before s inside) ≡ x
    unfolding fits
    first = let z : d - 0 ≡ first_dash s = omega arith in rw (← z) (sym f)

    pub pair-no_number : not x ≡ true → false ≡ fits pair s
    pair-no_number k = sym (pair-by s inside ∙ rw (first, not-true x k))

    pub pair-by-height : not x ≡ false → (y : Bool) → y ≡ fits count (take (length s - (d + 1)) (drop (d + 1) s)) → y ≡ fits pair s
    unfolding fits
    pair-by-height k y g =
        let second : is_number (after s inside) ≡ y = rw (← e) (sym (g ∙ rw part-rest)) in
        sym (pair-by s inside ∙ rw (first, not-false x k, second))
