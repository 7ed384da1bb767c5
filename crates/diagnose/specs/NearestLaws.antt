-- The loops of the search for the nearest kind, one turn at a time, and the table of kinds as the code writes it.
-- Assumes nothing.
use Rattle.std.specs.Prelude.{ℕ, zero, suc, max, min, ◌+◌, ◌*◌, ◌-◌, ◌≤◌, ◌<◌, ◌≡◌, refl, Bool, true, false, cond, ◌&&◌, List, [], ◌∷◌, map, reverse, ltb, leb, length, drop, get_or}
use Rattle.std.proofs.Common.{sym, ◌∙◌, arith, add-zero, add-one, drop_of_length-le, drop-cons, leb-true}
use Rattle.std.proofs.Math.Decide.{dec_lt}
use Rattle.text.specs.PartLaws.{and_left, and_right}
use Rattle.text.specs.TableLaws.{span, agree_at}
use Rattle.path.specs.Text.{component, cut_at, place_at}
use Rattle.read_pieces.specs.CutLaws.{component-ends}
use Rattle.path.specs.Kinds.{Part, kinds, kind1}
use Rattle.path.specs.Read.{fits, parts_of}
use Rattle.path.specs.Reads.{kind_at}
use Rattle.path.specs.ReadLaws.{kind-parts}
use Rattle.diagnose.specs.Diagnosis.{alike, along, stands, placed, score, nearest_from, nearest, front, most, letters_but, letters, seven, first_fits, fits_first}
use Rattle.diagnose.specs.Table.{part_in, parts_in, part_by, shape_of, letter_shape, table, starts, kind_text}
use Rattle.diagnose.specs.declared.shape.Shape.{Shape}
use Rattle.diagnose.specs.declared.shape.Shape.TheVariants.{Word, Named, Count, Pair}
use Rattle.diagnose.specs.AgreeLaws.{agree-first, back-length}
use Rattle.diagnose.specs.PiecesLaws.{seven-more, seven-none, parts_more, parts_none}

-- ---- the letters of a part are at most twice its own
pub alike-most : (w c : List ℕ) → alike (part_in w) c ≤ 2 * length w
unfolding alike
alike-most w c = go (shape_of w)
  where
    go : (x : Shape) → alike (part_by w x) c ≤ 2 * length w
    go Word = omega (arith, agree-first false w c, agree-first false (reverse w) (reverse c), back-length w)
    go (Named n) = omega arith
    go Count = omega arith
    go Pair = omega arith

-- ---- parts from the i-th on, components from the j-th on
module _ (g t : List ℕ) (i j : ℕ) where
  -- where either has ended
  module _ (h : min (length (seven g) - i) (length (seven t) - j) ≡ 0) where
    ended : (P : List Part → List (List ℕ) → Type 0) → ((cs : List (List ℕ)) → P [] cs) → ((p : Part) (ps : List Part) → P (p ∷ ps) []) → P (drop i (parts_in g)) (drop j (seven t))
    ended P a b = go (dec_lt i (length (seven g)))
      where
        go : Dec (i < length (seven g)) → P (drop i (parts_in g)) (drop j (seven t))
        go (yes p) = let k : length (seven t) ≤ j = omega (arith, p, h) in rw (parts_more g i p, seven-none t j k) (b _ _)
        go (no p) = let k : length (seven g) ≤ i = omega (arith, p) in rw (parts_none g i k) (a _)

    pub along-past : (n : ℕ) → along n (drop i (parts_in g)) (drop j (seven t)) ≡ 0
    unfolding along
    along-past n = ended (λ ps cs. along n ps cs ≡ 0) (λ cs. refl) (λ p ps. refl)

    pub placed-past : placed (drop i (parts_in g)) (drop j (seven t)) ≡ true
    unfolding placed
    placed-past = ended (λ ps cs. placed ps cs ≡ true) (λ cs. refl) (λ p ps. refl)

    pub front-past : front (drop i (parts_in g)) (drop j (seven t)) ≡ 0
    unfolding front
    front-past = ended (λ ps cs. front ps cs ≡ 0) (λ cs. refl) (λ p ps. refl)

  module _ (h : i < length (seven g)) (k : j < length (seven t)) where
    pub along-more : (n : ℕ) → along n (drop i (parts_in g)) (drop j (seven t)) ≡ n * alike (part_in (component g i)) (component t j) + along 1 (drop (i + 1) (parts_in g)) (drop (j + 1) (seven t))
    unfolding along
    along-more n = rw (parts_more g i h, seven-more t j k)

    pub placed-more : placed (drop i (parts_in g)) (drop j (seven t)) ≡ (stands (part_in (component g i)) (component t j) && placed (drop (i + 1) (parts_in g)) (drop (j + 1) (seven t)))
    unfolding placed
    placed-more = rw (parts_more g i h, seven-more t j k)

    pub front-more : front (drop i (parts_in g)) (drop j (seven t)) ≡ cond (fits (part_in (component g i)) (component t j)) (suc (front (drop (i + 1) (parts_in g)) (drop (j + 1) (seven t)))) 0
    unfolding front
    front-more = rw (parts_more g i h, seven-more t j k)

-- ---- the turns of the loop of `front_of`: i of them fit
module _ (g t : List ℕ) (i : ℕ) (e : front (parts_in g) (seven t) ≡ i + front (drop i (parts_in g)) (drop i (seven t))) where
  pub front-at_end : min (length (seven g)) (length (seven t)) ≤ i → i ≡ front (parts_in g) (seven t)
  front-at_end h = omega (arith, front-past g t i i (omega (arith, h)))

  module _ (h : i < length (seven g)) (k : i < length (seven t)) (w c : List ℕ) (f : w ≡ component g i) (x : c ≡ component t i) (r : Bool) (y : r ≡ fits (part_in w) c) where
    told : fits (part_in (component g i)) (component t i) ≡ r
    told = rw (← f, ← x) (sym y)

    pub front-at-stop : r ≡ false → i ≡ front (parts_in g) (seven t)
    front-at-stop q =
        let z : front (drop i (parts_in g)) (drop i (seven t)) ≡ 0 = front-more g t i i h k ∙ rw (told, q) in
        omega arith

    pub front-at-next : r ≡ true → front (parts_in g) (seven t) ≡ i + 1 + front (drop (i + 1) (parts_in g)) (drop (i + 1) (seven t))
    front-at-next q =
        let z : front (drop i (parts_in g)) (drop i (seven t)) ≡ suc (front (drop (i + 1) (parts_in g)) (drop (i + 1) (seven t))) = front-more g t i i h k ∙ rw (told, q) in
        omega arith

-- the turns of that of `letters_along`: the sum so far, and n for the next
add-three : (k s x y p : ℕ) → k ≡ s + x → x ≡ p + y → k ≡ s + p + y
add-three k s x y p e f = omega arith

product-room : (n m : ℕ) → n ≤ 2 → m ≤ 128 → n * m ≤ 256
product-room zero m h k = omega arith
product-room (suc zero) m h k = omega arith
product-room (suc (suc zero)) m h k = omega arith
product-room (suc (suc (suc n))) m h k = absurd (omega arith)

pub piece-room : (g w : List ℕ) (i : ℕ) → w ≡ component g i → length g ≤ 64 → length w ≤ 64
piece-room g w i e h = omega (arith, component-ends g w i (place_at g i) refl e)

pub letters-room : (n m : ℕ) (w c : List ℕ) → n ≤ 2 → length w ≤ 64 → m ≡ alike (part_in w) c → n * m ≤ 256
letters-room n m w c h k e = product-room n m h (omega (arith, alike-most w c))

pub along-start : (g t : List ℕ) (times at from : ℕ)
    → along times (drop at (parts_in g)) (drop from (seven t)) ≡ 0 + along times (drop (at + 0) (parts_in g)) (drop (from + 0) (seven t))
along-start g t times at from = rw (add-zero at, add-zero from) (omega arith)

module _ (g t : List ℕ) (times at from n sum k : ℕ)
    (e : along times (drop at (parts_in g)) (drop from (seven t)) ≡ sum + along n (drop (at + k) (parts_in g)) (drop (from + k) (seven t))) where
  pub along-at_end : min (length (seven g) - at) (length (seven t) - from) ≤ k → sum ≡ along times (drop at (parts_in g)) (drop from (seven t))
  along-at_end h = omega (arith, along-past g t (at + k) (from + k) (omega (arith, h)) n)

  pub along-at-next : at + k < length (seven g) → from + k < length (seven t) → (w c : List ℕ) → w ≡ component g (at + k) → c ≡ component t (from + k) → (m : ℕ) → m ≡ alike (part_in w) c
      → along times (drop at (parts_in g)) (drop from (seven t)) ≡ sum + n * m + along 1 (drop (at + (k + 1)) (parts_in g)) (drop (from + (k + 1)) (seven t))
  along-at-next h l w c f x m y =
      let z : m ≡ alike (part_in (component g (at + k))) (component t (from + k)) = y ∙ rw (f, x) in
      let p : at + (k + 1) ≡ at + k + 1 = omega arith in
      let q : from + (k + 1) ≡ from + k + 1 = omega arith in
      rw (p, q) (add-three _ sum _ _ (n * m) e (along-more g t (at + k) (from + k) h l n ∙ rw (← z)))

-- the turns of that of `all_placed`
module _ (g t : List ℕ) (i : ℕ) (e : placed (parts_in g) (seven t) ≡ placed (drop i (parts_in g)) (drop i (seven t))) where
  pub placed-at_end : min (length (seven g)) (length (seven t)) ≤ i → true ≡ placed (parts_in g) (seven t)
  placed-at_end h = sym (e ∙ placed-past g t i i (omega (arith, h)))

  module _ (h : i < length (seven g)) (k : i < length (seven t)) (w c : List ℕ) (f : w ≡ component g i) (x : c ≡ component t i) (r : Bool) (y : r ≡ stands (part_in w) c) where
    stood : stands (part_in (component g i)) (component t i) ≡ r
    stood = rw (← f, ← x) (sym y)

    pub placed-at-stop : r ≡ false → false ≡ placed (parts_in g) (seven t)
    placed-at-stop q = sym (e ∙ placed-more g t i i h k ∙ rw (stood, q))

    pub placed-at-next : r ≡ true → placed (parts_in g) (seven t) ≡ placed (drop (i + 1) (parts_in g)) (drop (i + 1) (seven t))
    placed-at-next q = e ∙ placed-more g t i i h k ∙ rw (stood, q)

-- ---- one component, or one part, that may not be there: n is how many there are
module _ (t : List ℕ) (k n : ℕ) (e : n ≡ length (seven t)) where
  pub no-component : (p : Part) → n ≤ k → false ≡ first_fits p (drop k (seven t))
  no-component p h = let z : length (seven t) ≤ k = omega arith in rw (seven-none t k z)

  pub no_part : (c : List ℕ) → n ≤ k → false ≡ fits_first (drop k (parts_in t)) c
  no_part c h = let z : length (seven t) ≤ k = omega arith in rw (parts_none t k z)

  module _ (h : k < n) (d : List ℕ) (f : d ≡ component t k) (r : Bool) where
    pub some-component : (p : Part) → r ≡ fits p d → r ≡ first_fits p (drop k (seven t))
    some-component p y = let z : k < length (seven t) = omega arith in y ∙ rw (seven-more t k z, f)

    pub some-part : (c : List ℕ) → r ≡ fits (part_in d) c → r ≡ fits_first (drop k (parts_in t)) c
    some-part c y = let z : k < length (seven t) = omega arith in y ∙ rw (parts_more t k z, f)

-- what fits from the front on is no more than either has
pub front-most : (ps : List Part) (cs : List (List ℕ)) → front ps cs ≤ length cs
unfolding front
front-most [] cs = omega arith
front-most (p ∷ ps) [] = omega arith
front-most (p ∷ ps) (c ∷ cs) = go (fits p c) (front-most ps cs)
  where
    go : (v : Bool) → front ps cs ≤ length cs → cond v (suc (front ps cs)) 0 ≤ suc (length cs)
    go true h = omega arith
    go false h = omega arith

-- ---- the largest of some values
pub most-more : (f : ℕ → ℕ) (n m : ℕ) → m ≡ n + 1 → max (most f n) (f n) ≡ most f m
unfolding most
most-more f n m e = rw (e, add-one)

pub letters-none : (ps : List Part) (cs : List (List ℕ)) → 0 ≡ most (letters_but ps cs) 0
unfolding most
letters-none ps cs = refl

pub letters-next : (ps : List Part) (cs : List (List ℕ)) (d best a b m r : ℕ) → best ≡ most (letters_but ps cs) d → a ≡ along 2 ps (drop d cs) → b ≡ along 1 (drop d ps) cs → m ≡ max a b → r ≡ max best m
    → r ≡ most (letters_but ps cs) (d + 1)
letters-next ps cs d best a b m r e f g h i = i ∙ rw (h, e, f, g) (most-more (letters_but ps cs) d (d + 1) refl)

pub letters-end : (ps : List Part) (cs : List (List ℕ)) (d best : ℕ) → best ≡ most (letters_but ps cs) d → d ≡ 7 → best ≡ letters ps cs
unfolding letters
letters-end ps cs d best e h = e ∙ rw h

-- ---- the kinds as the code writes them
pub kinds_many : length kinds ≡ 19
unfolding kinds
kinds_many = refl

all-parts : map (λ k. parts_in (kind_text k)) (span 1 19) ≡ map (λ k. (kind_at k).parts) (span 1 19)
unfolding kind_text table starts shape_of letter_shape cut_at kinds
all-parts = refl

all_short : map (λ k. leb (length (kind_text k)) 64) (span 1 19) ≡ map (λ k. true) (span 1 19)
unfolding kind_text table starts
all_short = refl

-- where a kind starts and ends
abbrev rises : ℕ → Bool
rises k = leb 1 (get_or starts k 0) && (leb (get_or starts (k - 1) 0) (get_or starts k 0 - 1) && leb (get_or starts k 0 - 1) 545)

all_rise : map rises (span 1 19) ≡ map (λ k. true) (span 1 19)
unfolding starts
all_rise = refl

pub table-length : length table ≡ 545
unfolding table
table-length = refl

module _ (k : ℕ) (l : 1 ≤ k) (h : k ≤ 19) where
  rising : rises k ≡ true
  rising = agree_at rises (λ n. true) 1 19 all_rise k l (omega arith)

  pub rise_one : 1 ≤ get_or starts k 0
  rise_one = leb-true _ _ (and_left (leb 1 (get_or starts k 0)) _ rising)

  pub rise-next : get_or starts (k - 1) 0 ≤ get_or starts k 0 - 1
  rise-next = leb-true _ _ (and_left (leb (get_or starts (k - 1) 0) (get_or starts k 0 - 1)) _ (and_right (leb 1 (get_or starts k 0)) _ rising))

  pub rise-end : get_or starts k 0 - 1 ≤ 545
  rise-end = leb-true _ _ (and_right (leb (get_or starts (k - 1) 0) (get_or starts k 0 - 1)) _ (and_right (leb 1 (get_or starts k 0)) _ rising))

  pub written-parts : parts_in (kind_text k) ≡ (kind_at k).parts
  written-parts = agree_at (λ n. parts_in (kind_text n)) (λ n. (kind_at n).parts) 1 19 all-parts k l (omega arith)

  pub written_as : parts_in (kind_text k) ≡ parts_of k
  written_as = written-parts ∙ sym (kind-parts k l h)

  pub written-short : length (kind_text k) ≤ 64
  written-short = leb-true _ _ (agree_at (λ n. leb (length (kind_text n)) 64) (λ n. true) 1 19 all_short k l (omega arith))

  -- the next kind of the list
  pub kinds-more : drop (k - 1) kinds ≡ kind_at k ∷ drop k kinds
  kinds-more = let e : suc (k - 1) ≡ k = omega arith in drop-cons kinds (k - 1) kind1 (omega (arith, kinds_many)) ∙ rw e

  module _ (kind best n s : ℕ) (cs : List (List ℕ)) (e : s ≡ score n (parts_in (kind_text k)) cs) where
    pub near-more : nearest_from k kind best n (drop (k - 1) kinds) cs ≡ nearest_from (k + 1) (cond (ltb best s) k kind) (max best s) n (drop k kinds) cs
    unfolding nearest_from
    near-more = rw (kinds-more, e, written-parts)

-- the text g of kind k, and what the code makes of it
pub text-short : (k : ℕ) → 1 ≤ k → k ≤ 19 → (g : List ℕ) → g ≡ kind_text k → length g ≤ 64
text-short k l h g e = rw e (written-short k l h)

pub near_turn : (k : ℕ) → 1 ≤ k → k ≤ 19 → (kind best n : ℕ) (cs : List (List ℕ)) (x : ℕ) → nearest_from k kind best n (drop (k - 1) kinds) cs ≡ x → (g : List ℕ) → g ≡ kind_text k → (s : ℕ) → s ≡ score n (parts_in g) cs
    → (a : ℕ) → a ≡ cond (ltb best s) k kind → (b : ℕ) → b ≡ max best s → nearest_from (k + 1) a b n (drop (k + 1 - 1) kinds) cs ≡ x
near_turn k l h kind best n cs x e g f s i a p b q =
    let z : k + 1 - 1 ≡ k = omega arith in
    rw (z, p, q) (sym (near-more k l h kind best n s cs (rw (← f) i)) ∙ e)

pub near-start : (n : ℕ) (cs : List (List ℕ)) → nearest_from 1 0 4 n (drop (1 - 1) kinds) cs ≡ nearest n cs
unfolding nearest
near-start n cs = refl

pub near-end : (k kind best n : ℕ) (cs : List (List ℕ)) → 20 ≤ k → nearest_from k kind best n (drop (k - 1) kinds) cs ≡ kind
unfolding nearest_from
near-end k kind best n cs h = let l : length kinds ≤ k - 1 = omega (arith, kinds_many) in rw (drop_of_length-le kinds l)
