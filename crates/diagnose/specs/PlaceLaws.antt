-- The byte that is shown stands in the shown component or at its end.
-- Assumes nothing.
use Rattle.std.specs.Prelude.{ℕ, ◌+◌, ◌-◌, ◌≤◌, ◌<◌, ◌≡◌, refl, Bool, true, false, cond, not, ◌&&◌, List, [], ◌∷◌, ◌++◌, eqb, ltb, leb, length, take, drop, get_or, Ok, Err}
use Rattle.std.proofs.Common.{sym, subst, ◌∙◌, arith, length-drop, length-append, length-take-le, ltb-true, ltb-false, leb-true, leb-false, eqb-true, lt-ltb}
use Rattle.text.specs.Bytes.{bytes}
use Rattle.text.specs.Fault.{has_place, numeral_fault, numeral_place}
use Rattle.text.specs.FaultLaws.{number-place}
use Rattle.text.specs.Number.{Numeral, numeral_of}
use Rattle.text.specs.Part.{every, ascii, starts_with}
use Rattle.text.specs.PartLaws.{starts-short}
use Rattle.text.specs.declared.Fault.{Fault}
use Rattle.text.specs.declared.NumberFault.TheVariants.{NoDigits, NotADigit, TooLarge}
use Rattle.identifiers.specs.Check.{Rule, Form, plain, indexed, first, unless, chars_of, within, index_of, named_of, form_of, form_place, check_of, fault_of, identifier_byte, is_value}
use Rattle.identifiers.specs.Check as check
use Rattle.identifiers.specs.CheckLaws.{within_both, first-none}
use Rattle.identifiers.specs.FaultLaws.{check-last_of}
use Rattle.path.specs.declared.name.Name.{Name}
use Rattle.path.specs.declared.name.Name.TheVariants.{Client as client, Connection as connection, Port as port, Channel as channel, Upgrade as upgrade}
use Rattle.path.specs.Text.{component, place_at}
use Rattle.path.specs.TextLaws.{place-within}
use Rattle.path.specs.Kinds.{Part, word, name, count, pair}
use Rattle.path.specs.Read.{is_number}
use Rattle.read_pieces.specs.CutLaws.{component-ends}
use Rattle.read_pieces.specs.Pieces.{first_dash}
use Rattle.diagnose.specs.Diagnosis.{agree, until, why, number_why, numbers_why, word_why, length_why, prefix_why, fault_why, prefix_of, rule_why, name_why, part_why, lacks, first_fits, fits_first, why_at, seven, how_many, start_at}
use Rattle.diagnose.specs.AgreeLaws.{agree-second, until-within}
use Rattle.diagnose.specs.PiecesLaws.{seven-length, seven-more, seven-none}
use Rattle.diagnose.specs.ReasonLaws.{pair_undashed, pair-second, pair-numbers}

-- ---- a check gives 6 by the length alone
not-six : (a b : ℕ) → (a ≡ 6 → ⊥) → (b ≡ 6 → ⊥) → first a b ≡ 6 → ⊥
not-six a b f g = go (eqb a 0)
  where
    go : (v : Bool) → cond v b a ≡ 6 → ⊥
    go true h = g h
    go false h = f h

unless-six : (n : ℕ) (v : Bool) → (n ≡ 6 → ⊥) → unless n v ≡ 6 → ⊥
unless-six n true f h = omega arith
unless-six n false f h = f h

chars-six : (s : List ℕ) → chars_of s ≡ 6 → ⊥
unfolding chars_of
chars-six s = not-six _ _ (unless-six 2 (ascii s) (λ e. omega arith)) (unless-six 5 (every identifier_byte s) (λ e. omega arith))

number-six : (x : Numeral) → numeral_fault x ≡ 6 → ⊥
number-six (Ok n) h = omega arith
number-six (Err (NoDigits i)) h = omega arith
number-six (Err (NotADigit i)) h = omega arith
number-six (Err (TooLarge i)) h = omega arith

form-six : (f : Form) (s : List ℕ) → form_of f s ≡ 6 → ⊥
unfolding named_of index_of
form-six plain s h = omega arith
form-six (indexed n) s h = not-six _ _ (unless-six 7 (starts_with (n ++ bytes "-") s) (λ e. omega arith)) (not-six _ _ (unless-six 7 (not (starts_with (bytes "0") (drop (length n + 1) s) && ltb 1 (length (drop (length n + 1) s)))) (λ e. omega arith)) (number-six (numeral_of (drop (length n + 1) s)))) h

six-form : (r : Rule) (s : List ℕ) → within r.least r.most (length s) ≡ 0 → check_of r s ≡ 6 → ⊥
unfolding check_of
six-form r s z k = not-six (chars_of s) (first (within r.least r.most (length s)) (form_of r.form s)) (chars-six s) (λ q. form-six r.form s (sym (first-none (within r.least r.most (length s)) (form_of r.form s) z) ∙ q)) k

long-by : (r : Rule) (s : List ℕ) → check_of r s ≡ 6 → r.least ≤ length s → r.most ≤ length s
long-by r s e h = go (leb r.most (length s)) refl
  where
    go : (v : Bool) → leb r.most (length s) ≡ v → r.most ≤ length s
    go true f = leb-true _ _ f
    go false f = absurd (six-form r s (within_both r.least r.most (length s) h (omega (arith, leb-false r.most (length s) f))) e)

-- ---- the place of a check's fault
starts-room : (n s : List ℕ) → has_place (named_of n s) ≡ true → length n + 1 ≤ length s
unfolding named_of
starts-room n s h = go (ltb (length s) (length (n ++ bytes "-"))) refl
  where
    go : (v : Bool) → ltb (length s) (length (n ++ bytes "-")) ≡ v → length n + 1 ≤ length s
    go true e =
        let k : false ≡ true = rw (starts-short (n ++ bytes "-") s (ltb-true (length s) (length (n ++ bytes "-")) e)) at h in
        let z : ◌≡◌ {A = ℕ} 0 1 = cc in absurd (omega arith)
    go false e = omega (arith, ltb-false (length s) (length (n ++ bytes "-")) e, length-append n (bytes "-"))

place_of : (least most : ℕ) (f : Form) (s : List ℕ) → (fault_of (record { least = least; most = most; form = f }) s).place ≤ length s
unfolding fault_of
place_of least most plain s = go (has_place (check_of (record { least = least; most = most; form = plain }) s))
  where
    go : (v : Bool) → cond v 0 0 ≤ length s
    go true = omega arith
    go false = omega arith
place_of least most (indexed n) s = go (has_place (check_of (record { least = least; most = most; form = indexed n }) s)) refl
  where
    go : (v : Bool) → has_place (check_of (record { least = least; most = most; form = indexed n }) s) ≡ v → cond v (length n + 1 + numeral_place (numeral_of (drop (length n + 1) s))) 0 ≤ length s
    go true e =
        let k = check-last_of n s least most e in
        let r = starts-room n s (subst (λ (m : ℕ). has_place m ≡ true) k e) in
        omega (arith, number-place (drop (length n + 1) s), length-drop (length n + 1) s)
    go false e = omega arith

place-by : (r : Rule) (s : List ℕ) → (fault_of r s).place ≤ length s
place-by r s = place_of r.least r.most r.form s

-- ---- each reason's
word-place : (w c : List ℕ) → (word_why w c).place ≤ length c
unfolding word_why
word-place w c = agree-second false w c

fault-place : (f : Fault) (least most : ℕ) (w c : List ℕ) → (f.refusal ≡ 6 → least ≤ length c → most ≤ length c) → f.place ≤ length c → (fault_why f least most w c).place ≤ length c
unfolding fault_why length_why prefix_why
fault-place f least most w c h k = go (eqb f.refusal 5) (eqb f.refusal 6) refl (eqb f.refusal 7) (ltb (length c) least) refl
  where
    go : (a b : Bool) → eqb f.refusal 6 ≡ b → (d l : Bool) → ltb (length c) least ≡ l
        → (cond a (why 7 (until identifier_byte c)) (cond b (cond l (why 8 (length c)) (why 9 most)) (cond d (why (cond (ltb (agree false w c) (length w)) 10 11) (agree false w c)) (why (f.refusal - 4) f.place)))).place ≤ length c
    go true b e d l g = until-within identifier_byte c
    go false true e d true g = omega arith
    go false true e d false g = h (eqb-true _ _ e) (ltb-false _ _ g)
    go false false e true l g = agree-second false w c
    go false false e false l g = k

rule-place : (r : Rule) (c : List ℕ) → (rule_why r c).place ≤ length c
unfolding fault_of
rule-place r c = fault-place (fault_of r c) r.least r.most (prefix_of r.form) c (long-by r c) (place-by r c)

name-place : (n : Name) (c : List ℕ) → (name_why n c).place ≤ length c
unfolding name_why
name-place client c = rule-place check.client c
name-place connection c = rule-place check.connection c
name-place port c = rule-place check.port c
name-place channel c = rule-place check.channel c
name-place upgrade c = omega arith

numbers-place : (d : ℕ) (c : List ℕ) → d < length c → (numbers_why d c).place ≤ length c
unfolding number_why
numbers-place d c h = go (is_number (take d c))
  where
    go : (v : Bool) → (cond v (number_why (d + 1) (numeral_of (drop (d + 1) c))) (number_why 0 (numeral_of (take d c)))).place ≤ length c
    go true = omega (arith, number-place (drop (d + 1) c), length-drop (d + 1) c)
    go false = omega (arith, number-place (take d c), length-take-le d c (omega arith))

dashed-place : (c : List ℕ) → first_dash c < length c → (v : Bool) → ltb (first_dash (drop (first_dash c + 1) c)) (length (drop (first_dash c + 1) c)) ≡ v → (part_why pair c).place ≤ length c
dashed-place c h true e =
    let l = ltb-true (first_dash (drop (first_dash c + 1) c)) (length (drop (first_dash c + 1) c)) e in
    rw (← pair-second c (first_dash c) refl h (first_dash (drop (first_dash c + 1) c)) refl l) (omega (arith, length-drop (first_dash c + 1) c))
dashed-place c h false e = rw (← pair-numbers c (first_dash c) refl h (first_dash (drop (first_dash c + 1) c)) refl (ltb-false (first_dash (drop (first_dash c + 1) c)) (length (drop (first_dash c + 1) c)) e)) (numbers-place (first_dash c) c h)

pair_place : (c : List ℕ) → (part_why pair c).place ≤ length c
pair_place c = go (ltb (first_dash c) (length c)) refl
  where
    go : (v : Bool) → ltb (first_dash c) (length c) ≡ v → (part_why pair c).place ≤ length c
    go true e = dashed-place c (ltb-true _ _ e) (ltb (first_dash (drop (first_dash c + 1) c)) (length (drop (first_dash c + 1) c))) refl
    go false e = rw (← pair_undashed c (first_dash c) refl (ltb-false _ _ e)) (omega arith)

pub part-place : (p : Part) (c : List ℕ) → (part_why p c).place ≤ length c
unfolding part_why number_why
part-place (word w) c = word-place w c
part-place (name n) c = name-place n c
part-place count c = omega (arith, number-place c)
part-place pair c = pair_place c

-- ---- the shown one's
at_place : (n m : ℕ) (ps : List Part) (cs : List (List ℕ)) → (why_at n m ps cs).place ≤ length (get_or cs 0 [])
unfolding why_at
at_place n m [] cs = omega arith
at_place n m (p ∷ ps) [] = omega arith
at_place n m (p ∷ ps) (c ∷ cs) = go (lacks p c) (first_fits p (drop (n - m) (c ∷ cs))) (fits_first (drop (m - n) (p ∷ ps)) c)
  where
    go : (x y z : Bool) → (cond x (why 4 0) (cond y (why 3 0) (cond z (why 2 0) (part_why p c)))).place ≤ length c
    go true y z = omega arith
    go false true z = omega arith
    go false false true = omega arith
    go false false false = part-place p c

start-within : (t : List ℕ) (f : ℕ) → start_at t f ≤ length t
unfolding start_at
start-within t f = go (ltb f (how_many t))
  where
    go : (v : Bool) → cond v (place_at t f).start (length t) ≤ length t
    go true = omega (arith, place-within t f)
    go false = omega arith

start-here : (t : List ℕ) (f : ℕ) → f < length (seven t) → start_at t f ≡ (place_at t f).start
unfolding start_at
start-here t f h = rw (lt-ltb f (how_many t) (omega (arith, seven-length t)))

pub byte-within : (n m : ℕ) (ps : List Part) (t : List ℕ) (f : ℕ) → start_at t f + (why_at n m ps (drop f (seven t))).place ≤ length t
byte-within n m ps t f = go (ltb f (length (seven t))) refl
  where
    go : (v : Bool) → ltb f (length (seven t)) ≡ v → start_at t f + (why_at n m ps (drop f (seven t))).place ≤ length t
    go true e =
        let h = ltb-true f (length (seven t)) e in
        let p : (why_at n m ps (drop f (seven t))).place ≤ length (component t f) = rw (seven-more t f h) (at_place n m ps (component t f ∷ drop (f + 1) (seven t))) in
        omega (arith, start-here t f h, component-ends t (component t f) f (place_at t f) refl refl)
    go false e =
        let p : (why_at n m ps (drop f (seven t))).place ≤ 0 = rw (seven-none t f (ltb-false f (length (seven t)) e)) (at_place n m ps []) in
        omega (arith, start-within t f)
