-- A name, `-`, and a number without a leading zero: accepted once the number is read.
-- Assumes nothing.
use Rattle.std.specs.Prelude.{ℕ, zero, suc, ◌+◌, ◌-◌, ◌≤◌, ◌<◌, ◌≡◌, List, [], ◌∷◌, ◌++◌, Bool, true, false, ◌&&◌, eqb, ltb, take, drop, get_or, Some, Ok, Err}
use Rattle.std.proofs.Math.Path.{refl}
use Rattle.std.proofs.Common.{sym, ap, ◌∙◌, append_assoc, inl, inr, arith, take-append-drop, drop_of_length-le, drop-cons, drop-drop, ltb-false}
use Rattle.std.proofs.Math.ListN.{length, length-append}
use Rattle.std.proofs.Math.Seq.{drop_at}
use Rattle.std.proofs.lemmas.Bool.{lt-leb, eqb-false}
use Rattle.text.specs.Bytes.{bytes}
use Rattle.text.specs.Number.{Numeral, is_digit, numeral_of}
use Rattle.text.specs.Part.{every, starts_with}
use Rattle.text.specs.PartLaws.{every_append}
use Rattle.text.specs.Fault.{numeral_fault}
use Rattle.identifiers.specs.Check.{is_value, index_of, named_of, check_of, Rule, indexed, channel, connection, identifier_byte, among}
use Rattle.identifiers.specs.CheckLaws.{index_short, index-other, accepted-by}
use Rattle.identifiers.specs.IndexLaws.{channel-name, connection-name}
use Rattle.path.specs.Read.{is_number}
use Rattle.walk_scan.specs.declared.number.Counted.{Counted}
use Rattle.walk_scan.specs.Run.{rule_run}
use Rattle.walk_scan.specs.WordLaws.{starts_split, starts-whole}
use Rattle.walk_scan.specs.NameLaws.{run_is}
use Rattle.walk_scan.specs.Number.{num_len, num_text, counted_of}
use Rattle.walk_scan.specs.NumberLaws.{no_value, number-every, num-length}
use Rattle.walk_scan.specs.CountLaws.{digit-is, first-at, count-yes, count-is}
use Rattle.walk_scan.specs.Tail.{Stops, at_end, at_slash}
use Rattle.walk_scan.specs.Index.{Leads, Index}

-- ---- a number text as an index
number-some : (c : List ℕ) → is_number c ≡ true → 0 < length c
unfolding numeral_of
number-some [] h = no_value h
number-some (b ∷ c) h = omega arith

no-fault : (x : Numeral) → is_value x ≡ true → numeral_fault x ≡ 0
no-fault (Ok n) h = refl
no-fault (Err fault) h = no_value h

index_good : (c : List ℕ) → is_number c ≡ true → Leads (length c) (get_or c 0 0) → index_of c ≡ 0
index_good c h (inl e) = index_short c (omega arith) ∙ no-fault (numeral_of c) h
index_good c h (inr e) = index-other c (number-some c h) e ∙ no-fault (numeral_of c) h

-- its bytes are identifier bytes
digit_identifier : (b : ℕ) → is_digit b ≡ true → identifier_byte b ≡ true
unfolding identifier_byte
digit_identifier b h =
    let k = digit-is b h in
    let x : b < 65 = omega (arith, k.1) in
    let y : b < 97 = omega (arith, k.1) in
    rw (lt-leb 65 b x, lt-leb 97 b y, h)

number_identifier : (c : List ℕ) → is_number c ≡ true → every identifier_byte c ≡ true
unfolding identifier_byte among
number_identifier c h = number-every identifier_byte digit_identifier refl c h

-- ---- the answers of the code
-- a place where a component ends
pub stops_end : (s : List ℕ) (i : ℕ) → i ≡ length s → Stops (drop i s)
stops_end s i h = let l : length s ≤ i = omega arith in rw (drop_of_length-le s l) at_end

pub stops-slash : (s : List ℕ) (i : ℕ) → i < length s → get_or s i 0 ≡ 47 → Stops (drop i s)
stops-slash s i h e = rw (drop-cons s i 0 h, e) (at_slash (drop (suc i) s))

zero-leads : (n b : ℕ) → (ltb 1 n && eqb b 48) ≡ false → 0 < n → Leads n b
zero-leads n b h l = go (ltb 1 n) refl (eqb b 48) refl h
  where
    go : (x : Bool) → ltb 1 n ≡ x → (y : Bool) → eqb b 48 ≡ y → (x && y) ≡ false → Leads n b
    go true e true f k = no_value (sym k)
    go true e false f k = inr (eqb-false b 48 f)
    go false e y f k = inl (omega (arith, ltb-false 1 n e))

pub index-some : (s : List ℕ) (d : ℕ) (n : Counted) → Some n ≡ counted_of d (drop d s) → n.end - d ≤ 53 → (ltb 1 (n.end - d) && eqb (get_or s d 0) 48) ≡ false → Stops (drop n.end s) → Index s d n.end
index-some s d n is m z k =
    let num = count-yes d (drop d s) n is in
    let e = (count-is d (drop d s) n is).1 in
    let l : d < n.end = omega (arith, e, number-some (num_text (drop d s)) num, num-length (drop d s)) in
    record { some = l; few = omega arith; number = num; ends = e; leads = zero-leads (n.end - d) (get_or s d 0) z (omega arith); stops = k }

-- ---- an identifier of this form at a place of a text
module _ (name : List ℕ) (least most : ℕ) (bytes_ok : every identifier_byte name ≡ true) (low : least ≤ length name + 2) (high : length name + 54 ≤ most) where
  abbrev rule : Rule
  rule = record { least = least; most = most; form = indexed name }

  abbrev stem : List ℕ
  stem = name ++ bytes "-"

  stem-length : length stem ≡ length name + 1
  stem-length = length-append name (bytes "-")

  dash : identifier_byte 45 ≡ true
  unfolding identifier_byte among
  dash = refl

  stem-bytes : every identifier_byte stem ≡ true
  unfolding every
  stem-bytes = every_append identifier_byte name (bytes "-") ∙ rw (bytes_ok, dash)

  named_good : (c : List ℕ) → is_number c ≡ true → length c ≤ 53 → Leads (length c) (get_or c 0 0) → check_of rule (stem ++ c) ≡ 0
  unfolding named_of
  named_good c h m z =
      let n : length (stem ++ c) ≡ length name + 1 + length c = length-append stem c ∙ rw stem-length in
      accepted-by rule (stem ++ c) (every_append identifier_byte stem c ∙ rw stem-bytes (number_identifier c h)) (omega (arith, n, number-some c h)) (omega (arith, n))
      (rw (starts-whole stem c, drop_at stem c (length name + 1) stem-length) (index_good c h z))

  module _ (s : List ℕ) (at e : ℕ) (start : starts_with stem (drop at s) ≡ true) (within : at ≤ length s) (x : Index s (at + (length name + 1)) e) where
    abbrev d : ℕ
    d = at + (length name + 1)

    abbrev text : List ℕ
    text = num_text (drop d s)

    long : length text ≡ e - d
    long = omega (arith, num-length (drop d s), x.ends)

    first_of : (k : ℕ) → 0 < k → (y : List ℕ) → get_or (take k y) 0 0 ≡ get_or y 0 0
    first_of zero l y = absurd (omega arith)
    first_of (suc k) l [] = refl
    first_of (suc k) l (b ∷ y) = refl

    lead : Leads (length text) (get_or text 0 0)
    lead = go x.leads
      where
        go : Leads (e - d) (get_or s d 0) → Leads (length text) (get_or text 0 0)
        go (inl a) = inl (long ∙ a)
        go (inr b) = let f : get_or text 0 0 ≡ get_or s d 0 = first_of (num_len (drop d s)) (omega (arith, x.some, x.ends)) (drop d s) ∙ first-at s d in inr (λ k. b (sym f ∙ k))

    pub indexed-run : e - at ≡ rule_run rule (drop at s)
    indexed-run =
        let good = named_good text x.number (omega (arith, long, x.few)) lead in
        let split : drop d s ≡ text ++ drop e s = sym (take-append-drop (num_len (drop d s)) (drop d s)) ∙ rw (drop-drop (num_len (drop d s)) d s, x.ends) in
        let whole : drop at s ≡ (stem ++ text) ++ drop e s
        = starts_split stem (drop at s) start ∙ rw (stem-length, drop-drop (length name + 1) at s) (ap (λ (l : List ℕ). stem ++ l) split ∙ sym (append_assoc stem text (drop e s))) in
        let n : length (stem ++ text) ≡ length name + 1 + (e - d) = length-append stem _ ∙ rw (stem-length, long) in
        let r = ap (rule_run rule) whole ∙ run_is rule (stem ++ text) (drop e s) x.stops good in
        omega (arith, r, n, x.some)

-- ---- the two identifiers
pub channel-run : (s : List ℕ) (at e : ℕ) → starts_with (bytes "channel-") (drop at s) ≡ true → at ≤ length s → Index s (at + 8) e → e - at ≡ rule_run channel (drop at s)
channel-run s at e h l x = indexed-run (bytes "channel") 8 64 channel-name (omega arith) (omega arith) s at e h l x

pub connection-run : (s : List ℕ) (at e : ℕ) → starts_with (bytes "connection-") (drop at s) ≡ true → at ≤ length s → Index s (at + 11) e → e - at ≡ rule_run connection (drop at s)
connection-run s at e h l x = indexed-run (bytes "connection") 10 64 connection-name (omega arith) (omega arith) s at e h l x
