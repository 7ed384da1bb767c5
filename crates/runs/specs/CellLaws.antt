-- Calls that each read and change one cell, named by a key. What a cell holds goes by the calls on its key alone, in their order.
-- Assumes nothing.
use Rattle.std.specs.Prelude.{◌≡◌, ◌⊎◌, take}
use Rattle.std.proofs.Math.Path.{refl, sym, ap}
use Rattle.std.proofs.Common.{◌∙◌, inl, inr}
use mathlib.Core.List.{List, [], ◌∷◌, ◌++◌}
use Rattle.std.proofs.Math.Option.{some}
use Prim.Native.Nat.{ℕ, zero, suc, ◌<◌, ◌≤◌}
use Rattle.std.proofs.Math.Decide.{dec_lt}
use native.Mathlib.Omega.{arith}
use Rattle.std.proofs.Math.ListN.{length, get_elem?}
use Rattle.std.proofs.Math.Seq.{take-length}
use Rattle.text.specs.PlaceLaws.{at_some, at_lt, take-suc-at}
use Rattle.runs.specs.Rearranged.{Rearranged}

-- The value for a fact that holds, or for one that does not.
abbrev pub pick : {P X : Type 0} → Dec P → X → X → X
pick (yes p) x y = x
pick (no p) x y = y

pub pick_yes : {P X : Type 0} (d : Dec P) (x y : X) → P → pick d x y ≡ x
pick_yes (yes p) x y h = refl
pick_yes (no p) x y h = absurd (p h)

pub pick_no : {P X : Type 0} (d : Dec P) (x y : X) → (P → ⊥) → pick d x y ≡ y
pick_no (yes p) x y h = absurd (h p)
pick_no (no p) x y h = refl

-- `On c` says that the call c is on the cell in question; `eff c` is what it does to the cell.
module _ {Call Cell : Type 0} (On : Call → Type 0) (on : (c : Call) → Dec (On c)) (eff : Call → Cell → Cell) where
  unfoldable pub touch : Call → Cell → Cell
  touch c x = pick (on c) (eff c x) x

  -- what the cell holds after the calls, if it held x before them
  unfoldable pub cell : Cell → List Call → Cell
  cell x [] = x
  cell x (c ∷ cs) = cell (touch c x) cs

  cell_snoc : (x : Cell) (cs : List Call) (c : Call) → cell x (cs ++ (c ∷ [])) ≡ touch c (cell x cs)
  unfolding cell
  cell_snoc x [] c = refl
  cell_snoc x (b ∷ cs) c = cell_snoc (touch b x) cs c

  cell_on : (x : Cell) (cs : List Call) (i : ℕ) (c : Call) → get_elem? cs i ≡ some c → On c → cell x (take (suc i) cs) ≡ eff c (cell x (take i cs))
  unfolding touch
  cell_on x cs i c e h = rw (take-suc-at cs i c e) (cell_snoc x (take i cs) c ∙ pick_yes (on c) (eff c (cell x (take i cs))) (cell x (take i cs)) h)

  cell_off : (x : Cell) (cs : List Call) (i : ℕ) (c : Call) → get_elem? cs i ≡ some c → (On c → ⊥) → cell x (take (suc i) cs) ≡ cell x (take i cs)
  unfolding touch
  cell_off x cs i c e h = rw (take-suc-at cs i c e) (cell_snoc x (take i cs) c ∙ pick_no (on c) (eff c (cell x (take i cs))) (cell x (take i cs)) h)

  -- no call on the cell stands at a position from f up to, and not at, t
  abbrev pub Quiet : List Call → ℕ → ℕ → Type 0
  Quiet cs f t = (m : ℕ) → f ≤ m → m < t → (d : Call) → get_elem? cs m ≡ some d → On d → ⊥

  pub cell_quiet : (x : Cell) (cs : List Call) (f t : ℕ) → f ≤ t → t ≤ length cs → Quiet cs f t → cell x (take t cs) ≡ cell x (take f cs)
  cell_quiet x cs f zero h l q = ap (λ (n : ℕ). cell x (take n cs)) (let e : zero ≡ f = omega arith in e)
  cell_quiet x cs f (suc t) h l q = go (dec_lt f (suc t)) (λ k. cell_quiet x cs f t k (omega arith) (λ m lo hi. q m lo (omega arith)))
    where
      go : Dec (f < suc t) → (f ≤ t → cell x (take t cs) ≡ cell x (take f cs)) → cell x (take (suc t) cs) ≡ cell x (take f cs)
      go (yes b) r =
          let s = at_some cs t l in
          cell_off x cs t s.0 s.1 (q t (omega arith) (omega arith) s.0 s.1) ∙ r (omega arith)
      go (no b) r = ap (λ (n : ℕ). cell x (take n cs)) (let e : suc t ≡ f = omega arith in e)

  -- the last call on the cell before position n
  pub record Last (cs : List Call) (n : ℕ) : Type 0 where
    pub place : ℕ
    pub call : Call
    pub before : place < n
    pub there : get_elem? cs place ≡ some call
    pub is_on : On call
    pub quiet : Quiet cs (suc place) n

  pub last : (cs : List Call) (n : ℕ) → n ≤ length cs → Last cs n ⊎ Quiet cs 0 n
  last cs zero h = inr (λ m lo hi d e o. absurd (let z : ⊥ = omega arith in z))
  last cs (suc n) h = go (on (at_some cs n h).0) (last cs n (omega arith))
    where
      c : Call
      c = (at_some cs n h).0

      e : get_elem? cs n ≡ some c
      e = (at_some cs n h).1

      more : (f : ℕ) → (On c → ⊥) → Quiet cs f n → Quiet cs f (suc n)
      more f no-c q m lo hi d g o = go₁ (dec_lt m n)
        where
          go₁ : Dec (m < n) → ⊥
          go₁ (yes b) = q m lo b d g o
          go₁ (no b) =
              let k : m ≡ n = omega arith in
              let k₁ : get_elem? cs n ≡ some d = rw k at g in
              let k₂ : d ≡ c = cc e in
              no-c (rw k₂ at o)

      go : Dec (On c) → Last cs n ⊎ Quiet cs 0 n → Last cs (suc n) ⊎ Quiet cs 0 (suc n)
      go (yes o) r = inl (record { place = n; call = c; before = omega arith; there = e; is_on = o; quiet = λ m lo hi d g p. let z : ⊥ = omega arith in z })
      go (no o) (inl r) =
          inl (record { place = r.place; call = r.call; before = omega (arith, r.before); there = r.there; is_on = r.is_on; quiet = more (suc r.place) o r.quiet })
      go (no o) (inr r) = inr (more 0 o r)

  pub cell-last : (x : Cell) (cs : List Call) (n : ℕ) → n ≤ length cs → (r : Last cs n) → cell x (take n cs) ≡ eff r.call (cell x (take r.place cs))
  cell-last x cs n h r =
      cell_quiet x cs (suc r.place) n r.before h r.quiet ∙ cell_on x cs r.place r.call r.there r.is_on

  -- Rearranged lists. Two places, i of `cs` and j of `ds`, have the same calls on the cell before them.
  module _ {Same : Call → Call → Type 0} (same : (c d : Call) → On c → On d → Same c d) (cs ds : List Call) (R : Rearranged Same cs ds) where
    abbrev pub Cut : ℕ → ℕ → Type 0
    Cut i j = (m : ℕ) (c : Call) → get_elem? cs m ≡ some c → On c → ((m < i → R.to m < j) × (R.to m < j → m < i))

    cut-here : (i : ℕ) (c : Call) → get_elem? cs i ≡ some c → On c → Cut i (R.to i)
    cut-here i c e o m d g p = (λ h. R.in_order m i h d c g e (same d c p o), go (dec_lt m i))
      where
        go : Dec (m < i) → R.to m < R.to i → m < i
        go (yes b) h = b
        go (no b) h = go₁ (dec_lt i m)
          where
            go₁ : Dec (i < m) → m < i
            go₁ (yes b₁) = let r = R.in_order i m b₁ c d e g (same c d o p) in omega arith
            go₁ (no b₁) =
                let k : m ≡ i = omega arith in
                let k₁ : R.to i < R.to i = rw k at h in
                omega arith

    back : (m : ℕ) (d : Call) → get_elem? ds m ≡ some d → get_elem? cs (R.from m) ≡ some d
    back m d g =
        let l = at_lt ds m d g in
        let e = R.same_call (R.from m) (R.from_lt m l) in
        sym (rw (R.to_from m l) at e) ∙ g

    cut_quiet : (i j f : ℕ) → Cut i j → Cut f (R.to f) → Quiet cs (suc f) i → Quiet ds (suc (R.to f)) j
    cut_quiet i j f k l q m lo hi d g o = go (dec_lt (R.from m) f)
      where
        n : ℕ
        n = R.from m

        gn : get_elem? cs n ≡ some d
        gn = back m d g

        tn : R.to n ≡ m
        tn = R.to_from m (at_lt ds m d g)

        go : Dec (n < f) → ⊥
        go (yes b) = let r = (l n d gn o).0 b in omega (arith, tn)
        go (no b) = go₁ (dec_lt f n)
          where
            go₁ : Dec (f < n) → ⊥
            go₁ (yes b₁) = q n b₁ ((k n d gn o).1 (rw tn hi)) d gn o
            go₁ (no b₁) =
                let e : n ≡ f = omega arith in
                omega (arith, ap R.to e, tn)

    moved : (fuel i j : ℕ) → i < fuel → i ≤ length cs → j ≤ length ds → Cut i j → (x : Cell) → cell x (take i cs) ≡ cell x (take j ds)
    unfolding cell
    moved zero i j h li lj k x = absurd (let z : ⊥ = omega arith in z)
    moved (suc fuel) i j h li lj k x = go (last cs i li) (λ f hf lf. moved fuel f (R.to f) hf lf)
      where
        go : Last cs i ⊎ Quiet cs 0 i → ((f : ℕ) → f < fuel → f ≤ length cs → R.to f ≤ length ds → Cut f (R.to f) → (y : Cell) → cell y (take f cs) ≡ cell y (take (R.to f) ds)) → cell x (take i cs) ≡ cell x (take j ds)
        go (inl r) ih =
            let f = r.place in
            let here : Cut f (R.to f) = cut-here f r.call r.there r.is_on in
            let lt : f < length cs = omega (arith, r.before) in
            let r' : Last ds j =
            record { place = R.to f; call = r.call; before = (k f r.call r.there r.is_on).0 r.before; there = R.same_call f lt ∙ r.there; is_on = r.is_on; quiet = cut_quiet i j f k here r.quiet } in
            cell-last x cs i li r
            ∙ ap (eff r.call) (ih f (omega (arith, r.before)) (omega arith) (omega (arith, R.to_lt f lt)) here x)
            ∙ sym (cell-last x ds j lj r')
        go (inr q) ih =
            let q' : Quiet ds 0 j = λ m lo hi d g o. q (R.from m) (omega arith) ((k (R.from m) d (back m d g) o).1 (rw (R.to_from m (at_lt ds m d g)) hi)) d (back m d g) o in
            cell_quiet x cs 0 i (omega arith) li q ∙ sym (cell_quiet x ds 0 j (omega arith) lj q')

    -- before a call on the cell it holds the same, in both lists
    pub same-before : (i : ℕ) (c : Call) → get_elem? cs i ≡ some c → On c → (x : Cell) → cell x (take i cs) ≡ cell x (take (R.to i) ds)
    same-before i c e o x =
        let l = at_lt cs i c e in
        let r = R.to_lt i l in
        moved (suc i) i (R.to i) (omega arith) (omega arith) (omega arith) (cut-here i c e o) x

    -- at the end it holds the same, in both lists
    pub same_end : (x : Cell) → cell x cs ≡ cell x ds
    same_end x =
        let k : Cut (length cs) (length ds) = λ m c e o. (λ h. R.to_lt m h, λ h. at_lt cs m c e) in
        let r = moved (suc (length cs)) (length cs) (length ds) (omega arith) (omega arith) (omega arith) k x in
        rw (take-length cs, take-length ds) at r
