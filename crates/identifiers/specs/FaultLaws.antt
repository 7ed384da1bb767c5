-- Laws of the checks that answer a place: the steps of the code, and which refusals have none.
-- Assumes nothing.
use Rattle.std.specs.Prelude.{ℕ, ◌+◌, ◌-◌, ◌^◌, ◌≤◌, ◌<◌, ◌≡◌, refl, true, false, cond, ◌&&◌, List, ◌++◌, eqb, leb, length, drop, get_or}
use Rattle.std.proofs.Math.Nat.{add-sub_cancel_left}
use Rattle.std.proofs.Common.{sym, ap, subst, ◌∙◌, arith, length-drop}
use Rattle.std.proofs.Math.Bool.{Bool, not}
use Rattle.std.proofs.Math.Dec.{ltb}
use Rattle.text.specs.Bytes.{bytes}
use Rattle.text.specs.Fault.{fault, has_place, numeral_fault, numeral_place, Mends}
use Rattle.text.specs.FaultLaws.{number-place, number-mends, refuses}
use Rattle.text.specs.Number.{Numeral, numeral_of}
use Rattle.text.specs.Part.{every, ascii, starts_with}
use Rattle.text.specs.declared.Fault.{Fault}
use Rattle.identifiers.specs.Check.{first, unless, identifier_byte, chars_of, within, index_of, named_of, named_index_of, index_place, plain, indexed, check_of, fault_of}
use Rattle.identifiers.specs.CheckLaws.{first-none, first_some, check-plain, check-form, index-zero}

-- ---- the index d that a text has from `start` on
module _ (s d : List ℕ) (start : ℕ) (e : d ≡ drop start s) where
  abbrev index_fault : Fault
  index_fault = fault (index_of (drop start s)) (start + numeral_place (numeral_of (drop start s)))

  pub index-refused : 1 < length d → get_or d 0 0 ≡ 48 → record { refusal = 7; place = 0 } ≡ index_fault
  index-refused h k = refuses 7 _ _ (ap index_of (sym e) ∙ index-zero d h k) refl

  pub index-answers : (x : Numeral) → x ≡ numeral_of d → index_of d ≡ numeral_fault (numeral_of d) → fault (numeral_fault x) (start + numeral_place x) ≡ index_fault
  index-answers x h k = rw (h, ← k, e)

  pub index-room : (x : Numeral) → x ≡ numeral_of d → start ≤ length s → length s < 2 ^ 64 → start + numeral_place x < 2 ^ 64
  index-room x h l m = rw (h, e) (omega (arith, number-place (drop start s), length-drop start s))

pub named-answers : (name s : List ℕ) → named_of name s ≡ index_of (drop (length name + 1) s)
    → fault (index_of (drop (length name + 1) s)) (length name + 1 + numeral_place (numeral_of (drop (length name + 1) s))) ≡ fault (named_of name s) (index_place name s)
named-answers name s h = rw h

-- ---- 0, 2, 5 and 6 have no place
none_of : (n : ℕ) (t : Bool) → has_place n ≡ false → has_place (unless n t) ≡ false
none_of n true h = refl
none_of n false h = h

none_first : (a b : ℕ) → has_place a ≡ false → has_place b ≡ false → has_place (first a b) ≡ false
none_first a b h k = go (eqb a 0)
  where
    go : (t : Bool) → has_place (cond t b a) ≡ false
    go true = k
    go false = h

within-placeless : (least most n : ℕ) → has_place (within least most n) ≡ false
unfolding within
within-placeless least most n = none_of 6 (leb least n && leb n most) refl

pub plain-placeless : (least most : ℕ) (s : List ℕ) → has_place (check_of (record { least = least; most = most; form = plain }) s) ≡ false
unfolding chars_of
plain-placeless least most s =
    rw (check-plain least most s)
    (none_first (chars_of s) (within least most (length s)) (none_first (unless 2 (ascii s)) (unless 5 (every identifier_byte s)) (none_of 2 (ascii s) refl) (none_of 5 (every identifier_byte s) refl)) (within-placeless least most (length s)))

-- ---- a name and an index, with bytes and length
module _ (least most : ℕ) (name s : List ℕ) where
  abbrev answer : Fault
  answer = fault_of (record { least = least; most = most; form = indexed name }) s

  abbrev asked : ℕ
  asked = check_of (record { least = least; most = most; form = indexed name }) s

  pub length-only : asked ≡ within least most (length s) → record { refusal = within least most (length s); place = 0 } ≡ answer
  unfolding fault_of
  length-only e = refuses (within least most (length s)) asked (index_place name s) e (within-placeless least most (length s))

  module _ (n : ℕ) (e : n ≡ check_of (record { least = least; most = most; form = plain }) s) where
    pub plain-first : (n ≡ 0 → ⊥) → record { refusal = n; place = 0 } ≡ answer
    unfolding fault_of
    plain-first h = refuses n asked (index_place name s) (check-form least most s (indexed name) ∙ rw (← e) (first_some n (named_of name s) h)) (rw e (plain-placeless least most s))

    pub named-last : n ≡ 0 → fault (named_of name s) (index_place name s) ≡ answer
    unfolding fault_of
    named-last h = let k : asked ≡ named_of name s = check-form least most s (indexed name) ∙ rw (← e) (first-none n (named_of name s) h) in rw k

-- ---- a check gives 17, 18 or 19 only by its index, whose place then says what to mend
last_of : (a b : ℕ) → has_place a ≡ false → has_place (first a b) ≡ true → first a b ≡ b
last_of a b h k = go (eqb a 0) k
  where
    go : (t : Bool) → has_place (cond t b a) ≡ true → cond t b a ≡ b
    go true k = refl
    go false k = let z : ◌≡◌ {A = ℕ} 0 1 = cc in absurd (omega arith)

-- two checks of which the first has no place
then-last : (a b : ℕ) → has_place a ≡ false → has_place (first a b) ≡ true → (first a b ≡ b) × (has_place b ≡ true)
then-last a b h k = let e = last_of a b h k in (e, subst (λ (n : ℕ). has_place n ≡ true) e k)

module _ (name s : List ℕ) where
  abbrev index : List ℕ
  index = drop (length name + 1) s

  named-last_of : has_place (named_of name s) ≡ true → named_of name s ≡ numeral_fault (numeral_of index)
  unfolding named_of index_of
  named-last_of h =
      let x = then-last (unless 7 (starts_with (name ++ bytes "-") s)) (index_of index) (none_of 7 (starts_with (name ++ bytes "-") s) refl) h in
      let zeros : Bool = not (starts_with (bytes "0") index && ltb 1 (length index)) in
      x.0 ∙ (then-last (unless 7 zeros) (numeral_fault (numeral_of index)) (none_of 7 zeros refl) x.1).0

  -- the fault n at the index's place
  pub index-mends : (n : ℕ) → has_place n ≡ true → n ≡ named_of name s → (length name + 1 ≤ (fault n (index_place name s)).place) × Mends index n ((fault n (index_place name s)).place - (length name + 1))
  index-mends n h e =
      let k : has_place (named_of name s) ≡ true = subst (λ (m : ℕ). has_place m ≡ true) e h in
      let i : n ≡ numeral_fault (numeral_of index) = e ∙ named-last_of k in
      rw (h, i, add-sub_cancel_left) (omega arith, number-mends index (λ z. let g : has_place 0 ≡ true = subst (λ (m : ℕ). has_place m ≡ true) (i ∙ z) h in let y : ◌≡◌ {A = ℕ} 0 1 = cc in omega arith))

  pub check-last_of : (least most : ℕ) → has_place (check_of (record { least = least; most = most; form = indexed name }) s) ≡ true → check_of (record { least = least; most = most; form = indexed name }) s ≡ named_of name s
  check-last_of least most h =
      let e = check-form least most s (indexed name) in
      e ∙ (then-last (check_of (record { least = least; most = most; form = plain }) s) (named_of name s) (plain-placeless least most s) (subst (λ (n : ℕ). has_place n ≡ true) e h)).0

  pub named-index-last_of : has_place (named_index_of s name) ≡ true → named_index_of s name ≡ named_of name s
  unfolding named_index_of
  named-index-last_of h =
      let x = then-last (unless 2 (ascii s)) (first (unless 2 (ascii name)) (named_of name s)) (none_of 2 (ascii s) refl) h in
      x.0 ∙ (then-last (unless 2 (ascii name)) (named_of name s) (none_of 2 (ascii name) refl) x.1).0
