-- The length of a rendering by three sums, and the tables of the code.
-- Assumes nothing.
use Rattle.std.specs.Prelude.{ℕ, zero, suc, ◌+◌, ◌-◌, ◌≤◌, ◌<◌, ◌≡◌, refl, List, [], ◌∷◌, map, length, get_or}
use Rattle.std.proofs.Common.{◌∙◌, arith, length-append}
use Rattle.text.specs.Number.{width, decimal}
use Rattle.text.specs.NumberLaws.{length-decimal}
use Rattle.text.specs.TableLaws.{span, agree_at}
use Rattle.path.specs.Text.{join_by}
use Rattle.path.specs.Kinds.{Part, word, name, count, pair, Carried, carried, kinds, name_in}
use Rattle.path.specs.declared.name.Name.{Name}
use Rattle.path.specs.declared.name.Name.TheVariants.{Client as client, Connection as connection, Port as port, Channel as channel, Upgrade as upgrade}
use Rattle.path.specs.Read.{show, render, parts_of}
use Rattle.path.specs.ReadLaws.{has_both, kind-has, kind-parts}
use Rattle.path.specs.Length.{part_length, render_length, fixed, names_in, numbers_in, name_count, number_count, first_of}

-- ---- a rendering is that long
abbrev pub lengths : Carried (List ℕ) → Carried ℕ
lengths v = carried (length v.first) (length v.second) v.a v.b

name-length : (n : Name) (v : Carried (List ℕ)) → length (name_in n v) ≡ name_in n (lengths v)
name-length client v = refl
name-length connection v = refl
name-length port v = refl
name-length channel v = refl
name-length upgrade v = refl

part_length_lem : (p : Part) (v : Carried (List ℕ)) → length (show p v) ≡ part_length p (lengths v)
unfolding show
part_length_lem (word w) v = refl
part_length_lem (name n) v = name-length n v
part_length_lem count v = length-decimal v.a
part_length_lem pair v = length-append (decimal v.a) (45 ∷ decimal v.b) ∙ rw (length-decimal v.a, length-decimal v.b)

pub render-length : (ps : List Part) (v : Carried (List ℕ)) → length (render ps v) ≡ render_length ps (lengths v)
unfolding render render_length join_by
render-length [] v = refl
render-length (p ∷ []) v = part_length_lem p v
render-length (p ∷ (q ∷ ps)) v = length-append (show p v) _ ∙ rw (part_length_lem p v, render-length (q ∷ ps) v)

-- ---- the three sums
pub length_sums : (ps : List Part) (v : Carried ℕ) → render_length ps v ≡ fixed ps + (names_in ps v + numbers_in ps v)
unfolding render_length fixed names_in numbers_in
length_sums [] v = refl
length_sums (word w ∷ []) v = omega arith
length_sums (name n ∷ []) v = omega arith
length_sums (count ∷ []) v = omega arith
length_sums (pair ∷ []) v = omega arith
length_sums (word w ∷ (q ∷ ps)) v = omega (arith, length_sums (q ∷ ps) v)
length_sums (name n ∷ (q ∷ ps)) v = omega (arith, length_sums (q ∷ ps) v)
length_sums (count ∷ (q ∷ ps)) v = omega (arith, length_sums (q ∷ ps) v)
length_sums (pair ∷ (q ∷ ps)) v = omega (arith, length_sums (q ∷ ps) v)

-- ---- the table: a kind with one identifier has the first, and one with two has both; with the numbers it is the same
names-all : (v : Carried ℕ) → map (λ e. names_in e.parts v) kinds ≡ map (λ e. first_of (name_count e.parts) v.first v.second) kinds
unfolding names_in name_count first_of kinds
names-all v = refl

numbers-all : (v : Carried ℕ) → map (λ e. numbers_in e.parts v) kinds ≡ map (λ e. first_of (number_count e.parts) (width v.a) (width v.b)) kinds
unfolding numbers_in number_count first_of kinds
numbers-all v = refl

module _ (k : ℕ) (low : 1 ≤ k) (high : k ≤ 19) where
  pub length-by : (v : Carried ℕ) → render_length (parts_of k) v ≡ fixed (parts_of k) + (first_of (name_count (parts_of k)) v.first v.second + first_of (number_count (parts_of k)) (width v.a) (width v.b))
  length-by v =
      length_sums (parts_of k) v ∙ rw (
        kind-parts k low high,
        has_both (λ e. names_in e.parts v) (λ e. first_of (name_count e.parts) v.first v.second) (kind-has k low high) (names-all v),
        has_both (λ e. numbers_in e.parts v) (λ e. first_of (number_count e.parts) (width v.a) (width v.b)) (kind-has k low high) (numbers-all v),
      )

-- ---- the sum of the first n of two, as the code tells it
pub first-none : (r n x y : ℕ) → r ≡ n → r ≡ 0 → 0 ≡ first_of n x y
unfolding first_of
first-none r n x y e h = rw (← e, h)

pub first_one : (r n x y : ℕ) → r ≡ n → r ≡ 1 → x ≡ first_of n x y
unfolding first_of
first_one r n x y e h = rw (← e, h) (omega arith)

pub first-both : (r n x y : ℕ) → r ≡ n → 1 < r → x + y ≡ first_of n x y
unfolding first_of
first-both r zero x y e h = absurd (omega arith)
first-both r (suc zero) x y e h = absurd (omega arith)
first-both r (suc (suc n)) x y e h = omega arith

-- ---- the table of the code, which has a row for each kind: the bytes of its words, its identifiers, its numbers
abbrev pub sizes : List Part → ℕ × ℕ × ℕ
sizes ps = (fixed ps, name_count ps, number_count ps)

abbrev pub row_at : ℕ → ℕ × ℕ × ℕ
row_at i = get_or (map (λ j. sizes (parts_of j)) (span 1 19)) i (0, 0, 0)

pub at-kind : (k : ℕ) → 1 ≤ k → k ≤ 19 → row_at (k - 1) ≡ sizes (parts_of k)
at-kind k low high = agree_at (λ k. row_at (k - 1)) (λ k. sizes (parts_of k)) 1 19 refl k low (omega arith)
