-- The reasons, one way out of the code after the other; and where their places are.
-- Assumes nothing.
use Rattle.std.specs.Prelude.{ℕ, ◌+◌, ◌-◌, ◌^◌, ◌≤◌, ◌<◌, ◌≡◌, refl, Bool, true, false, cond, List, [], ◌∷◌, eqb, take, drop}
use Rattle.std.proofs.Math.Path.{sym}
use Rattle.std.proofs.Common.{ap, ◌∙◌, length-drop}
use native.Mathlib.Omega.{arith}
use Rattle.std.proofs.Math.ListN.{length}
use Rattle.std.proofs.Math.Seq.{length-take-le, drop-drop}
use Rattle.text.specs.Fault.{numeral_place}
use Rattle.text.specs.Number.{numeral_of, Numeral}
use Rattle.text.specs.FaultLaws.{number-place}
use Rattle.text.specs.PartLaws.{part-rest}
use Rattle.identifiers.specs.Check.{is_value}
use Rattle.path.specs.Text.{cut_at, cut_step, component}
use Rattle.path.specs.Kinds.{Part, pair}
use Rattle.read_pieces.specs.Pieces.{first_dash}
use Rattle.read_pieces.specs.PairLaws.{cut-here, cut-there}
use Rattle.diagnose.specs.declared.Why.{Why}
use Rattle.diagnose.specs.Diagnosis.{why, extra, missing, empty, dash, number_why, numbers_why, pair_by, part_why, lacks, first_fits, fits_first, why_at, seven, how_many}
use Rattle.diagnose.specs.Table.{part_in, parts_in}
use Rattle.diagnose.specs.PiecesLaws.{seven-more, seven-none, parts_more, parts_none, parts-length}

-- ---- a number, by its reading
pub count-told : (c : List ℕ) (x : Numeral) → x ≡ numeral_of c → (r : Why) → r ≡ number_why 0 x → r ≡ number_why 0 (numeral_of c)
count-told c x e r h = h ∙ ap (number_why 0) e

pub count_room : (c : List ℕ) (x : Numeral) → x ≡ numeral_of c → length c < 2 ^ 64 → 0 + numeral_place x < 2 ^ 64
count_room c x e h = let p : numeral_place x ≤ length c = rw e (number-place c) in omega arith

-- ---- R-h by its dashes
three : (c r h y : List ℕ) → pair_by c (r ∷ (h ∷ cut_at 45 y)) ≡ why dash (length r + 1 + length h)
unfolding cut_at
three c r h [] = refl
three c r h (b ∷ y) = go (eqb b 45) (cut_at 45 y)
  where
    go : (v : Bool) (cs : List (List ℕ)) → pair_by c (r ∷ (h ∷ cut_step v b cs)) ≡ why dash (length r + 1 + length h)
    go true cs = refl
    go false [] = refl
    go false (d ∷ cs) = refl

module _ (c : List ℕ) (d : ℕ) (e : d ≡ first_dash c) where
  pub pair_undashed : length c ≤ d → why dash (length c) ≡ part_why pair c
  unfolding part_why
  pair_undashed h = let k : length c ≤ first_dash c = omega arith in rw (cut-here c k)

  module _ (h : d < length c) where
    abbrev rest : List ℕ
    rest = drop (d + 1) c

    cut-first : cut_at 45 c ≡ take d c ∷ cut_at 45 rest
    cut-first = let k : first_dash c < length c = omega arith in cut-there c k ∙ rw (← e)

    before : length (take d c) ≡ d
    before = length-take-le d c (omega arith)

    pub pair-second : (f : ℕ) → f ≡ first_dash rest → f < length rest → why dash (d + 1 + f) ≡ part_why pair c
    unfolding part_why
    pair-second f g l =
        let k : first_dash rest < length rest = omega arith in
        let n : length (take (first_dash rest) rest) ≡ f = length-take-le (first_dash rest) rest (omega arith) ∙ sym g in
        let q : part_why pair c ≡ why dash (length (take d c) + 1 + length (take (first_dash rest) rest)) = rw (cut-first, cut-there rest k) (three c (take d c) (take (first_dash rest) rest) (drop (first_dash rest + 1) rest)) in
        sym (rw (before, n) at q)

    pub pair-numbers : (f : ℕ) → f ≡ first_dash rest → length rest ≤ f → numbers_why d c ≡ part_why pair c
    unfolding part_why
    pair-numbers f g l = let k : length rest ≤ first_dash rest = omega arith in rw (cut-first, cut-here rest k, before)

-- ---- its numbers, x before the dash and y behind it
module _ (c : List ℕ) (d : ℕ) (x : Numeral) (e : x ≡ numeral_of (take (d - 0) c)) where
  before_dash : numeral_of (take d c) ≡ x
  before_dash = let z : d - 0 ≡ d = omega arith in rw (← z) (sym e)

  pub numbers-first : is_value x ≡ false → (r : Why) → r ≡ number_why 0 x → r ≡ numbers_why d c
  numbers-first v r h = h ∙ rw (before_dash, v)

  pub first-room : d < length c → length c < 2 ^ 64 → 0 + numeral_place x < 2 ^ 64
  first-room h l =
      let p : numeral_place x ≤ length (take d c) = rw (← before_dash) (number-place (take d c)) in
      omega (arith, length-take-le d c (omega arith))

  module _ (y : Numeral) (f : y ≡ numeral_of (take (length c - (d + 1)) (drop (d + 1) c))) where
    behind_dash : numeral_of (drop (d + 1) c) ≡ y
    behind_dash = sym (f ∙ rw part-rest)

    pub numbers-second : is_value x ≡ true → (r : Why) → r ≡ number_why (d + 1) y → r ≡ numbers_why d c
    numbers-second v r h = h ∙ rw (before_dash, v, behind_dash)

    pub second-room : d < length c → length c < 2 ^ 64 → d + 1 + numeral_place y < 2 ^ 64
    second-room h l =
        let p : numeral_place y ≤ length (drop (d + 1) c) = rw (← behind_dash) (number-place (drop (d + 1) c)) in
        omega (arith, length-drop (d + 1) c)

-- ---- what is left of a kind and of a text behind f of each
module _ (n m : ℕ) (g t : List ℕ) (f : ℕ) where
  abbrev told : Why
  told = why_at n m (drop f (parts_in g)) (drop f (seven t))

  pub why-used : length (seven g) ≤ f → why extra 0 ≡ told
  unfolding why_at
  why-used h = rw (parts_none g f h)

  module _ (h : f < length (seven g)) where
    pub why-ended : length (seven t) ≤ f → why missing 0 ≡ told
    unfolding why_at
    why-ended k = rw (parts_more g f h, seven-none t f k)

    module _ (k : f < length (seven t)) where
      abbrev p : Part
      p = part_in (component g f)

      abbrev c : List ℕ
      c = component t f

      -- the four ways
      ways : told
          ≡ cond (lacks p c) (why empty 0)
          (cond (first_fits p (drop (f + (n - m)) (seven t))) (why extra 0)
          (cond (fits_first (drop (f + (m - n)) (parts_in g)) c) (why missing 0)
          (part_why p c)))
      unfolding why_at
      ways = rw (← drop-drop (n - m) f (seven t), ← drop-drop (m - n) f (parts_in g), parts_more g f h, seven-more t f k)

      pub why-empty : lacks p c ≡ true → why empty 0 ≡ told
      why-empty a = sym (ways ∙ rw a)

      module _ (a : lacks p c ≡ false) where
        pub why-extra : first_fits p (drop (f + (n - m)) (seven t)) ≡ true → why extra 0 ≡ told
        why-extra b = sym (ways ∙ rw (a, b))

        module _ (b : first_fits p (drop (f + (n - m)) (seven t)) ≡ false) where
          pub why-missing : fits_first (drop (f + (m - n)) (parts_in g)) c ≡ true → why missing 0 ≡ told
          why-missing x = sym (ways ∙ rw (a, b, x))

          pub why-part : fits_first (drop (f + (m - n)) (parts_in g)) c ≡ false → part_why p c ≡ told
          why-part x = sym (ways ∙ rw (a, b, x))

-- ---- the ways out of `why_at`: m parts, s components of n in all, and what its tests told
module _ (g t : List ℕ) (f m : ℕ) (a : m ≡ length (seven g)) where
  abbrev told_at : Why
  told_at = why_at (how_many t) (length (parts_in g)) (drop f (parts_in g)) (drop f (seven t))

  many : length (parts_in g) ≡ m
  many = parts-length g ∙ sym a

  pub at-used : m ≤ f → why 3 0 ≡ told_at
  at-used h = why-used (how_many t) (length (parts_in g)) g t f (omega arith)

  module _ (h : f < m) (s : ℕ) (b : s ≡ length (seven t)) where
    part-here : f < length (seven g)
    part-here = omega arith

    pub at_ended : s ≤ f → why 2 0 ≡ told_at
    at_ended k = why-ended (how_many t) (length (parts_in g)) g t f part-here (omega arith)

    module _ (k : f < s) (w c : List ℕ) (p : w ≡ component g f) (q : c ≡ component t f) (l : Bool) (x : l ≡ lacks (part_in w) c) where
      piece-here : f < length (seven t)
      piece-here = omega arith

      lacking : lacks (part_in (component g f)) (component t f) ≡ l
      lacking = rw (← p, ← q) (sym x)

      pub at-empty : l ≡ true → why 4 0 ≡ told_at
      at-empty e = why-empty (how_many t) (length (parts_in g)) g t f part-here piece-here (lacking ∙ e)

      module _ (e : l ≡ false) (n : ℕ) (d : n ≡ how_many t) (o : ℕ) (u : o ≡ n - m) (r : Bool) (v : r ≡ first_fits (part_in w) (drop (f + o) (seven t))) where
        later : first_fits (part_in (component g f)) (drop (f + (how_many t - length (parts_in g))) (seven t)) ≡ r
        later = let z : how_many t - length (parts_in g) ≡ o = rw (← d, many) (sym u) in rw (z, ← p) (sym v)

        pub at-extra : r ≡ true → why 3 0 ≡ told_at
        at-extra y = why-extra (how_many t) (length (parts_in g)) g t f part-here piece-here (lacking ∙ e) (later ∙ y)

        module _ (y : r ≡ false) (o₂ : ℕ) (u₂ : o₂ ≡ m - n) (r₂ : Bool) (v₂ : r₂ ≡ fits_first (drop (f + o₂) (parts_in g)) c) where
          earlier : fits_first (drop (f + (length (parts_in g) - how_many t)) (parts_in g)) (component t f) ≡ r₂
          earlier = let z : length (parts_in g) - how_many t ≡ o₂ = rw (← d, many) (sym u₂) in rw (z, ← q) (sym v₂)

          pub at-missing : r₂ ≡ true → why 2 0 ≡ told_at
          at-missing i = why-missing (how_many t) (length (parts_in g)) g t f part-here piece-here (lacking ∙ e) (later ∙ y) (earlier ∙ i)

          pub at_part : r₂ ≡ false → (z : Why) → z ≡ part_why (part_in w) c → z ≡ told_at
          at_part i z j = j ∙ (rw (p, q) (why-part (how_many t) (length (parts_in g)) g t f part-here piece-here (lacking ∙ e) (later ∙ y) (earlier ∙ i)))
