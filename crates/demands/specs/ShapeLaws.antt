-- Demand 1 by the shape of a contract: calls that write a text, calls that answer a number; and the numbers that the checks give.
-- Assumes nothing.
use Prim.Native.Nat.{ℕ}
use Rattle.std.specs.Prelude.{◌≡◌, refl, cond, ◌&&◌, max, ◌+◌, ◌-◌, eqb, length, Ok, Err}
use Rattle.std.proofs.Common.{sym, ap, subst, ◌∙◌}
use Rattle.std.proofs.Math.Bool.{Bool, true, false, not}
use mathlib.Core.List.{List, [], ◌∷◌, ◌++◌}
use Rattle.std.proofs.Math.Dec.{ltb, leb}
use Rattle.std.proofs.Math.ListN.{drop}
use Rattle.text.specs.Bytes.{bytes}
use Rattle.text.specs.Fault.{numeral_fault}
use Rattle.text.specs.Number.{Numeral, numeral_of, decimal}
use Rattle.text.specs.declared.NumberFault.TheVariants.{NoDigits, NotADigit, TooLarge}
use Rattle.text.specs.declared.Written.{Written}
use Rattle.text.specs.Part.{every, ascii, starts_with}
use Rattle.text.specs.Put.{Wanted, refused, text, accepted, answer, left, refusal, done}
use Rattle.text.specs.PutLaws.{refusal_keeps}
use Rattle.identifiers.specs.Check.{first, unless, identifier_byte, chars_of, within, index_of, named_of, Rule, Form, plain, indexed, form_of, check_of, client, client_type, port, length_of, prefix_length_of, named_index_of}
use Rattle.identifiers.specs.Check as check
use Rattle.identifiers.specs.Owned.{trim, new_client, new_channel}
use Rattle.path.specs.declared.Refusal.{Refusal}
use Rattle.path.specs.declared.Refusal.TheVariants.{TooLong, NotAscii, NotAPath, NoDigits as WithoutDigits, NotADigit as WithoutDigit, TooLarge as AboveAll}
use Rattle.path.specs.Reading.{Reading}
use Rattle.path.specs.Kinds.{Part, word, name, count, pair, Carried, name_in}
use Rattle.path.specs.declared.name.Name.{Name}
use Rattle.path.specs.declared.name.Name.TheVariants.{Client, Connection, Port, Channel, Upgrade}
use Rattle.path.specs.Read.{name_fault, names_fault, render, limited, parts_of, render_of, read_path, key_by, key_of, bytes_by, reading_bytes, refusal_of}
use Rattle.path.specs.Parents.{text_of, consensus_parent, packets_path}
use Rattle.demands.specs.Shape.{Listed, AllZero, Demand1}
use Rattle.demands.specs.Numbers.{readings, renderings, clients, ends}

-- ---- the refusals of what is wanted of a writing call
abbrev pub Wants : List ℕ → Wanted → Type 0
Wants ns (refused n) = Listed ns n
Wants ns (text w) = Unit {0}

module _ (ns : List ℕ) (four : Listed ns 4) where
  pub answer-listed : (x : Wanted) (room : ℕ) → Wants ns x → Listed ns 0 → Listed ns (answer x room).refusal
  unfolding answer
  answer-listed (refused n) room h z = h
  answer-listed (text w) room h z = go (leb (length w) room)
    where
      go : (b : Bool) → Listed ns (cond b (done (length w)) (refusal 4)).refusal
      go true = z
      go false = four

pub answer-zero : (x : Wanted) (room : ℕ) → ((answer x room).refusal ≡ 0 → ⊥) → (answer x room).length ≡ 0
unfolding answer
answer-zero (refused n) room h = refl
answer-zero (text w) room h = go (leb (length w) room) h
  where
    go : (b : Bool) → ((cond b (done (length w)) (refusal 4)).refusal ≡ 0 → ⊥) → (cond b (done (length w)) (refusal 4)).length ≡ 0
    go true h = absurd (h refl)
    go false h = refl

-- ---- the shapes
module _ {L : Type 0} {A R S : L → Type 0} {Pre : (κs : L) → A κs → Type 0} {Post : (κs : L) → A κs → R κs → S κs → Type 0}
    (listed : List ℕ) (before : (κs : L) → A κs → List ℕ) (after : (κs : L) → S κs → List ℕ) (accepts : (κs : L) (a : A κs) → Pre κs a) where
  -- a call that writes what is wanted of it
  pub writes : (answered : (κs : L) → R κs → Written) (wanted : (κs : L) → A κs → Wanted) → Listed listed 0 → Listed listed 4 → ((κs : L) (a : A κs) → Wants listed (wanted κs a))
      → ((κs : L) (a : A κs) (r : R κs) (s : S κs) → Post κs a r s → (answered κs r ≡ answer (wanted κs a) (length (before κs a))) × (after κs s ≡ left (wanted κs a) (before κs a)))
      → Demand1 Pre Post listed (λ κs r. (answered κs r).refusal) (λ κs r. (answered κs r).length ∷ []) before after
  writes answered wanted zero four want says =
      record {
        accepts = accepts;
        numbered = λ κs a r s p. subst (λ (w : Written). Listed listed w.refusal) (sym (says κs a r s p).0) (answer-listed listed four (wanted κs a) (length (before κs a)) (want κs a) zero);
        nothing_else = λ κs a r s p h. (ap (λ (w : Written). w.length) (says κs a r s p).0 ∙ answer-zero (wanted κs a) (length (before κs a)) (λ e. h (ap (λ (w : Written). w.refusal) (says κs a r s p).0 ∙ e)), tt);
        keeps = λ κs a r s p h. (says κs a r s p).1 ∙ refusal_keeps (wanted κs a) (before κs a) (λ e. h (ap (λ (w : Written). w.refusal) (says κs a r s p).0 ∙ e));
      }

  -- the same, where the answer is the refusal number alone
  pub writes-number : (number : (κs : L) → R κs → ℕ) (wanted : (κs : L) → A κs → Wanted) → Listed listed 0 → Listed listed 4 → ((κs : L) (a : A κs) → Wants listed (wanted κs a))
      → ((κs : L) (a : A κs) (r : R κs) (s : S κs) → Post κs a r s → (number κs r ≡ (answer (wanted κs a) (length (before κs a))).refusal) × (after κs s ≡ left (wanted κs a) (before κs a)))
      → Demand1 Pre Post listed number (λ κs r. []) before after
  writes-number number wanted zero four want says =
      record {
        accepts = accepts;
        numbered = λ κs a r s p. subst (Listed listed) (sym (says κs a r s p).0) (answer-listed listed four (wanted κs a) (length (before κs a)) (want κs a) zero);
        nothing_else = λ κs a r s p h. tt;
        keeps = λ κs a r s p h. (says κs a r s p).1 ∙ refusal_keeps (wanted κs a) (before κs a) (λ e. h ((says κs a r s p).0 ∙ e));
      }

module _ {L : Type 0} {A R S : L → Type 0} {Pre : (κs : L) → A κs → Type 0} {Post : (κs : L) → A κs → R κs → S κs → Type 0} (listed : List ℕ) where
  -- a call that answers a number and is lent nothing to write
  pub checks : ((κs : L) (a : A κs) → Pre κs a) → (number : (κs : L) → R κs → ℕ) → ((κs : L) (a : A κs) (r : R κs) (s : S κs) → Post κs a r s → Listed listed (number κs r))
      → Demand1 Pre Post listed number (λ κs r. []) (λ κs a. []) (λ κs s. [])
  checks accepts number says = record { accepts = accepts; numbered = says; nothing_else = λ κs a r s p h. tt; keeps = λ κs a r s p h. refl }

-- ---- the numbers of the checks, for any property that 0 and these have
module _ (P : ℕ → Type 0) (zero : P 0) where
  pub one_of : (n : ℕ) (t : Bool) → P n → P (unless n t)
  one_of n true p = zero
  one_of n false p = p

  pub both_of : (a b : ℕ) → P a → P b → P (first a b)
  both_of a b p q = go (eqb a 0)
    where
      go : (v : Bool) → P (cond v b a)
      go true = q
      go false = p

  numeral_of_lem : P 17 → P 18 → P 19 → (x : Numeral) → P (numeral_fault x)
  numeral_of_lem none other large (Ok v) = zero
  numeral_of_lem none other large (Err (NoDigits i)) = none
  numeral_of_lem none other large (Err (NotADigit i)) = other
  numeral_of_lem none other large (Err (TooLarge i)) = large

  pub named-number : P 7 → P 17 → P 18 → P 19 → (n s : List ℕ) → P (named_of n s)
  unfolding named_of index_of
  named-number seven none other large n s =
      let d : List ℕ = drop (length n + 1) s in
      let starts : Bool = starts_with (n ++ bytes "-") s in
      let zeros : Bool = not (starts_with (bytes "0") d && ltb 1 (length d)) in
      let value : ℕ = numeral_fault (numeral_of d) in
      both_of (unless 7 starts) (first (unless 7 zeros) value) (one_of 7 starts seven) (both_of (unless 7 zeros) value (one_of 7 zeros seven) (numeral_of_lem none other large (numeral_of d)))

  module _ (two : P 2) (five : P 5) (six : P 6) where
    chars_of_lem : (s : List ℕ) → P (chars_of s)
    unfolding chars_of
    chars_of_lem s = both_of (unless 2 (ascii s)) (unless 5 (every identifier_byte s)) (one_of 2 (ascii s) two) (one_of 5 (every identifier_byte s) five)

    within_of : (least most n : ℕ) → P (within least most n)
    unfolding within
    within_of least most n = one_of 6 (leb least n && leb n most) six

    pub plain_of : (least most : ℕ) (s : List ℕ) → P (check_of (record { least = least; most = most; form = plain }) s)
    unfolding check_of
    plain_of least most s = both_of (chars_of s) (first (within least most (length s)) 0) (chars_of_lem s) (both_of (within least most (length s)) 0 (within_of least most (length s)) zero)

    module _ (seven : P 7) (none : P 17) (other : P 18) (large : P 19) where
      named_of_lem : (n s : List ℕ) → P (named_of n s)
      named_of_lem = named-number seven none other large

      pub indexed_of : (least most : ℕ) (n s : List ℕ) → P (check_of (record { least = least; most = most; form = indexed n }) s)
      unfolding check_of
      indexed_of least most n s =
          both_of (chars_of s) (first (within least most (length s)) (named_of n s)) (chars_of_lem s) (both_of (within least most (length s)) (named_of n s) (within_of least most (length s)) (named_of_lem n s))

      module _ (thirteen : P 13) where
        pub name_of : (n : Name) (c : List ℕ) → P (name_fault n c)
        unfolding name_fault
        name_of Client c = plain_of 9 64 c
        name_of Connection c = indexed_of 10 64 (bytes "connection") c
        name_of Port c = plain_of 2 128 c
        name_of Channel c = indexed_of 8 64 (bytes "channel") c
        name_of Upgrade c = both_of (unless 2 (ascii c)) (unless 13 (every (λ b. not (eqb b 47)) c)) (one_of 2 (ascii c) two) (one_of 13 (every (λ b. not (eqb b 47)) c) thirteen)

        pub names_of : (ps : List Part) (v : Carried (List ℕ)) → P (names_fault ps v)
        unfolding names_fault
        names_of [] v = zero
        names_of (word w ∷ ps) v = names_of ps v
        names_of (name n ∷ ps) v = both_of (name_fault n (name_in n v)) (names_fault ps v) (name_of n (name_in n v)) (names_of ps v)
        names_of (count ∷ ps) v = names_of ps v
        names_of (pair ∷ ps) v = names_of ps v

  -- the general checks
  pub chars-number : P 2 → P 5 → (s : List ℕ) → P (chars_of s)
  unfolding chars_of
  chars-number two five s = both_of (unless 2 (ascii s)) (unless 5 (every identifier_byte s)) (one_of 2 (ascii s) two) (one_of 5 (every identifier_byte s) five)

  pub length-number : P 2 → P 6 → (s : List ℕ) (least most : ℕ) → P (length_of s least most)
  unfolding length_of within
  length-number two six s least most = both_of (unless 2 (ascii s)) (unless 6 (leb (max least 1) (length s) && leb (length s) most)) (one_of 2 (ascii s) two) (one_of 6 (leb (max least 1) (length s) && leb (length s) most) six)

  pub prefix-number : P 2 → P 6 → (s : List ℕ) (least most : ℕ) → P (prefix_length_of s least most)
  unfolding prefix_length_of
  prefix-number two six s least most = length-number two six s (least - 2) (most - 21)

  pub named-index-number : P 2 → P 7 → P 17 → P 18 → P 19 → (s n : List ℕ) → P (named_index_of s n)
  unfolding named_index_of
  named-index-number two seven none other large s n =
      both_of (unless 2 (ascii s)) (first (unless 2 (ascii n)) (named_of n s)) (one_of 2 (ascii s) two) (both_of (unless 2 (ascii n)) (named_of n s) (one_of 2 (ascii n) two) (named-number seven none other large n s))

-- ---- what is wanted
pub accepted_wants : (ns : List ℕ) (n : ℕ) (w : List ℕ) → Listed ns n → Wants ns (accepted n w)
accepted_wants ns n w h = go (eqb n 0)
  where
    go : (b : Bool) → Wants ns (cond b (text w) (refused n))
    go true = tt
    go false = h

pub reading-refusal : (w : Refusal) → Listed readings (refusal_of w)
reading-refusal TooLong = refl
reading-refusal NotAscii = refl
reading-refusal NotAPath = refl
reading-refusal (WithoutDigits i) = refl
reading-refusal (WithoutDigit i) = refl
reading-refusal (AboveAll i) = refl

pub key_wants : (t : List ℕ) → Wants readings (key_of t)
unfolding key_of
key_wants t = go (read_path t)
  where
    go : (x : Reading) → Wants readings (key_by t x)
    go (Ok r) = tt
    go (Err w) = reading-refusal w

pub bytes_wants : (x : Reading) → Wants readings (bytes_by x)
bytes_wants (Ok r) = tt
bytes_wants (Err w) = reading-refusal w

pub reading_wants : (t : List ℕ) → Wants readings (reading_bytes t)
unfolding reading_bytes
reading_wants t = bytes_wants (read_path t)

pub render_wants : (k : ℕ) (v : Carried (List ℕ)) → Wants renderings (render_of k v)
unfolding render_of
render_wants k v = go (leb 1 k && leb k 19)
  where
    short : Bool
    short = leb (length (render (parts_of k) v)) 4096

    go : (b : Bool) → Wants renderings (cond b (limited (parts_of k) v) (refused 14))
    go true = accepted_wants renderings (first (names_fault (parts_of k) v) (unless 1 short)) (render (parts_of k) v) (both_of (Listed renderings) refl (names_fault (parts_of k) v) (unless 1 short) (names_of (Listed renderings) refl refl refl refl refl refl refl refl refl (parts_of k) v) (one_of (Listed renderings) refl 1 short refl))
    go false = refl

pub client_wants : (s : List ℕ) (n : ℕ) → Wants clients (new_client s n)
unfolding new_client
client_wants s n = accepted_wants clients (first (unless 2 (ascii s)) (check_of client_type (trim s))) (trim s ++ (bytes "-" ++ decimal n)) (both_of (Listed clients) refl (unless 2 (ascii s)) (check_of client_type (trim s)) (one_of (Listed clients) refl 2 (ascii s) refl) (plain_of (Listed clients) refl refl refl refl 7 43 (trim s)))

pub channel_wants : (ns : List ℕ) (n : ℕ) → Wants ns (new_channel n)
unfolding new_channel
channel_wants ns n = tt

-- texts of parts: without identifiers, with a client, with a port and a channel
module _ (ns : List ℕ) (v : Carried (List ℕ)) where
  pub leaf_wants : (w : List ℕ) → Wants ns (text_of (word w ∷ pair ∷ []) v)
  unfolding text_of names_fault
  leaf_wants w = tt

  pub update_wants : (w u : List ℕ) → Wants ns (text_of (word w ∷ pair ∷ word u ∷ []) v)
  unfolding text_of names_fault
  update_wants w u = tt

pub parent_wants : (v : Carried (List ℕ)) → Wants clients (text_of consensus_parent v)
unfolding text_of names_fault name_fault
parent_wants v = accepted_wants clients (first (check_of client v.first) 0) (render consensus_parent v) (both_of (Listed clients) refl (check_of client v.first) 0 (plain_of (Listed clients) refl refl refl refl 9 64 v.first) refl)

pub packets_wants : (w : List ℕ) (v : Carried (List ℕ)) → Wants ends (text_of (packets_path w) v)
unfolding text_of names_fault name_fault
packets_wants w v =
    accepted_wants ends (first (check_of port v.first) (first (check_of check.channel v.second) 0)) (render (packets_path w) v)
    (both_of (Listed ends) refl (check_of port v.first) (first (check_of check.channel v.second) 0) (plain_of (Listed ends) refl refl refl refl 2 128 v.first) (both_of (Listed ends) refl (check_of check.channel v.second) 0 (indexed_of (Listed ends) refl refl refl refl refl refl refl refl 8 64 (bytes "channel") v.second) refl))
