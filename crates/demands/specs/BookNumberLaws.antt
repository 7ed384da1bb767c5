-- Demand 1 of the book's calls and of the flag: their refusal numbers.
-- Assumes nothing.
use Rattle.std.specs.Prelude.{ℕ, ◌≡◌, refl, Bool, cond, ◌&&◌, ◌||◌, List, [], ◌∷◌, eqb, leb, length, Option, Some, None}
use Rattle.std.proofs.Common.{sym, ap, subst, ◌∙◌, arith}
use Rattle.std.proofs.Math.Bool.{true, false}
use Rattle.std.proofs.Math.Option.{Option as Maybe, none, some}
use Rattle.identifiers.specs.Check.{check_of}
use Rattle.identifiers.specs.Check as check
use Rattle.path.specs.declared.Revision.{Revision}
use Rattle.path.specs.declared.provable.Flag.{Flag}
use Rattle.path.specs.declared.Refusal.{Refusal}
use Rattle.path.specs.declared.Refusal.TheVariants.{TooLong, NotAscii, NotAPath, NoDigits, NotADigit, TooLarge}
use Rattle.path.specs.Read.{why_not, refusal_of}
use Rattle.path.specs.View.{provable, provable_flag}
use Rattle.text.specs.declared.Written.{Written}
use Rattle.book_records.specs.Records.{Key, get, put, del}
use Rattle.book_records.specs.Act.{Rec, Meaning, Answer, act, add_to, take_from, look_in, seen}
use Rattle.book_records.specs.declared.Manner.{Manner}
use Rattle.book_records.specs.declared.Manner.TheVariants.{Plain, Lenient}
use Rattle.book_records.specs.Calls.{Call, write, remove, look, is_owner, Spelled, meaning}
use Rattle.book_records.specs.Refusals.{GoodWrite, GoodRemoval, GoodLookup, Declined, bad_owner_when, too_long_when, not_ascii_when, not_a_path_when, loose, key_too_long_when, retired, bad_length_when, no_room_when}
use Rattle.book_records.specs.CallLaws.{Means, declines, writing, removing, looking}
use Rattle.book_records.proofs.CallLaws.{means}
use Rattle.book.specs.Book.{Current, bytes_with, full_in}
use Rattle.book.specs.Outcome.{Outcome, no_book, this_book, Changed, Looked, Made, no_size, no_slots, new_book, quotas}
use Rattle.book_convert.specs.Convert.{Converted, ConvertedOwners}
use Rattle.book_convert.specs.Convert as convert
use Rattle.book_form.specs.declared.Quotas.{Quotas}
use Rattle.path.specs.declared.Pair.{Pair}
use Rattle.path.specs.Pair.{pair}
use Rattle.book_oldest.specs.Oldest.{oldest_state, pair_of, checked_state, oldest_in, Oldest}
use Rattle.book_oldest.specs.Oldest as oldest
use Rattle.book_clear.specs.declared.Count.{Count}
use Rattle.book_clear.specs.Clear.{gone, count, clear_in, Cleared}
use Rattle.book_clear.specs.Clear as clear
use Rattle.book_clear.specs.ClearLaws.{Way, way}
use Rattle.book_clear.specs.ClearLaws as ways
use Rattle.demands.specs.KeepsLaws.{made-keeps, changed-keeps, found-keeps, converted-keeps, owned-keeps}
use Rattle.demands.specs.AnswerLaws.{written-number, written-zero}
use Rattle.demands.specs.Shape.{one_of, Listed, AllZero, Demand1}
use Rattle.demands.specs.ShapeLaws.{plain_of}
use Rattle.demands.specs.Numbers.{in_manner, write_numbers, remove_numbers, look_numbers, new_numbers, convert_numbers, convert_owners_numbers, oldest_numbers, clear_numbers}

-- ---- the number of an answer, for any property that 0 and the call's refusals have
module _ (P : ℕ → Type 0) (zero : P 0) (c : Call) (own : (n : ℕ) → Declined c n → P n)
    (full-of : (k : Key) (v : List ℕ) → GoodWrite c k v → P 11) (absent-of : (k : Key) → GoodRemoval c k → P 12) (nothing-of : (k : Key) (room : ℕ) → GoodLookup c k room → P 12) where
  act_of : {m : Meaning} → Means c m → (full : Key → List Rec → Bool) (s : List Rec) → P (seen (act full m s).0).number
  unfolding act
  act_of (declines d) full s = own _ d
  act_of (writing {k = k} {v = v} ok) full s = go (get s k) (full k s)
    where
      go : (x : Maybe (List ℕ)) (f : Bool) → P (seen (add_to x f (put s k v) s).0).number
      go (some u) f = zero
      go none true = full-of k v ok
      go none false = zero
  act_of (removing {k = k} ok) full s = go (get s k)
    where
      go : (x : Maybe (List ℕ)) → P (seen (take_from x (del s k) s).0).number
      go none = absent-of k ok
      go (some u) = zero
  act_of (looking {k = k} {room = room} ok) full s = go (get s k)
    where
      go : (x : Maybe (List ℕ)) → P (seen (look_in x s).0).number
      go none = nothing-of k room ok
      go (some u) = zero

  pub outcome_of : P 9 → {b : List ℕ} {a : Answer} {b₁ : List ℕ} → Outcome Current (meaning c) b a b₁ → P (seen a).number
  outcome_of nine (no_book n e f) = subst (λ (x : Answer). P (seen x).number) (sym e) nine
  outcome_of nine (this_book x e f) = subst (λ (y : Answer). P (seen y).number) (sym e) (act_of (means c) (full_in x) x.records)

-- the number of a text that is not read
pub unread_of : (P : ℕ → Type 0) → P 1 → P 2 → P 3 → P 17 → P 18 → P 19 → (w : Refusal) → P (refusal_of w)
unread_of P a b c d e f TooLong = a
unread_of P a b c d e f NotAscii = b
unread_of P a b c d e f NotAPath = c
unread_of P a b c d e f (NoDigits i) = d
unread_of P a b c d e f (NotADigit i) = e
unread_of P a b c d e f (TooLarge i) = f

also : (m : Manner) (ns : List ℕ) (n : ℕ) → Listed ns n → Listed (in_manner m ns) n
also Lenient ns n h = h
also Plain ns n h = go (eqb n 20)
  where
    go : (b : Bool) → (b || one_of ns n) ≡ true
    go true = refl
    go false = h

-- what a call of either manner may give, a plain one may
pub in-plain : (m : Manner) (ns : List ℕ) (n : ℕ) → Listed (in_manner m ns) n → Listed (in_manner Plain ns) n
in-plain Plain ns n h = h
in-plain Lenient ns n h = also Plain ns n h

loose_too : (m : Manner) (t : List ℕ) (ns : List ℕ) → (Spelled m t → ⊥) → Listed (in_manner m ns) 20
loose_too Plain t ns s = refl
loose_too Lenient t ns s = absurd (s tt)

pub write-listed : (m : Manner) (o : ℕ) (t v : List ℕ) {b : List ℕ} {a : Answer} {b₁ : List ℕ} → Outcome Current (meaning (write m o t v)) b a b₁ → Listed (write_numbers m) (seen a).number
write-listed m o t v = outcome_of (Listed (write_numbers m)) (ok 0 refl) (write m o t v) own (λ k u good. ok 11 refl) (λ k good. absurd (let e = good.asked in let z : ◌≡◌ {A = ℕ} 0 1 = cc in let y : ⊥ = omega arith in y)) (λ k room good. absurd (let e = good.asked in let z : ◌≡◌ {A = ℕ} 0 1 = cc in let y : ⊥ = omega arith in y)) (ok 9 refl)
  where
    ok : (n : ℕ) → Listed (9 ∷ 23 ∷ 1 ∷ 2 ∷ 3 ∷ 17 ∷ 18 ∷ 19 ∷ 10 ∷ 25 ∷ 6 ∷ 11 ∷ []) n → Listed (write_numbers m) n
    ok = also m (9 ∷ 23 ∷ 1 ∷ 2 ∷ 3 ∷ 17 ∷ 18 ∷ 19 ∷ 10 ∷ 25 ∷ 6 ∷ 11 ∷ [])

    own : (n : ℕ) → Declined (write m o t v) n → Listed (write_numbers m) n
    own n (bad_owner_when w) = ok 23 refl
    own n (too_long_when w h) = ok 1 refl
    own n (not_ascii_when w h e) = ok 2 refl
    own n (not_a_path_when w h e f) = unread_of (Listed (write_numbers m)) (ok 1 refl) (ok 2 refl) (ok 3 refl) (ok 17 refl) (ok 18 refl) (ok 19 refl) (why_not t)
    own n (loose p s) = loose_too m t (9 ∷ 23 ∷ 1 ∷ 2 ∷ 3 ∷ 17 ∷ 18 ∷ 19 ∷ 10 ∷ 25 ∷ 6 ∷ 11 ∷ []) s
    own n (key_too_long_when p s l) = ok 10 refl
    own n (retired q h r) = ok 25 refl
    own n (bad_length_when q h r f) = ok 6 refl
    own n (no_room_when q h l) = absurd (let z : ◌≡◌ {A = ℕ} 0 1 = cc in let y : ⊥ = omega arith in y)

pub remove-listed : (m : Manner) (o : ℕ) (t : List ℕ) {b : List ℕ} {a : Answer} {b₁ : List ℕ} → Outcome Current (meaning (remove m o t)) b a b₁ → Listed (remove_numbers m) (seen a).number
remove-listed m o t = outcome_of (Listed (remove_numbers m)) (ok 0 refl) (remove m o t) own (λ k u good. absurd (let e = good.asked in let z : ◌≡◌ {A = ℕ} 0 1 = cc in let y : ⊥ = omega arith in y)) (λ k good. ok 12 refl) (λ k room good. ok 12 refl) (ok 9 refl)
  where
    ok : (n : ℕ) → Listed (9 ∷ 23 ∷ 1 ∷ 2 ∷ 3 ∷ 17 ∷ 18 ∷ 19 ∷ 10 ∷ 12 ∷ []) n → Listed (remove_numbers m) n
    ok = also m (9 ∷ 23 ∷ 1 ∷ 2 ∷ 3 ∷ 17 ∷ 18 ∷ 19 ∷ 10 ∷ 12 ∷ [])

    own : (n : ℕ) → Declined (remove m o t) n → Listed (remove_numbers m) n
    own n (bad_owner_when w) = ok 23 refl
    own n (too_long_when w h) = ok 1 refl
    own n (not_ascii_when w h e) = ok 2 refl
    own n (not_a_path_when w h e f) = unread_of (Listed (remove_numbers m)) (ok 1 refl) (ok 2 refl) (ok 3 refl) (ok 17 refl) (ok 18 refl) (ok 19 refl) (why_not t)
    own n (loose p s) = loose_too m t (9 ∷ 23 ∷ 1 ∷ 2 ∷ 3 ∷ 17 ∷ 18 ∷ 19 ∷ 10 ∷ 12 ∷ []) s
    own n (key_too_long_when p s l) = ok 10 refl
    own n (retired q h r) = absurd (let z : ◌≡◌ {A = ℕ} 0 1 = cc in let y : ⊥ = omega arith in y)
    own n (bad_length_when q h r f) = absurd (let z : ◌≡◌ {A = ℕ} 0 1 = cc in let y : ⊥ = omega arith in y)
    own n (no_room_when q h l) = absurd (let z : ◌≡◌ {A = ℕ} 0 1 = cc in let y : ⊥ = omega arith in y)

pub look-listed : (m : Manner) (o : ℕ) (t : List ℕ) (room : ℕ) {b : List ℕ} {a : Answer} {b₁ : List ℕ} → Outcome Current (meaning (look m o t room)) b a b₁ → Listed (look_numbers m) (seen a).number
look-listed m o t room = outcome_of (Listed (look_numbers m)) (ok 0 refl) (look m o t room) own (λ k u good. absurd (let e = good.asked in let z : ◌≡◌ {A = ℕ} 0 1 = cc in let y : ⊥ = omega arith in y)) (λ k good. ok 12 refl) (λ k r good. ok 12 refl) (ok 9 refl)
  where
    ok : (n : ℕ) → Listed (9 ∷ 23 ∷ 1 ∷ 2 ∷ 3 ∷ 17 ∷ 18 ∷ 19 ∷ 10 ∷ 4 ∷ 12 ∷ []) n → Listed (look_numbers m) n
    ok = also m (9 ∷ 23 ∷ 1 ∷ 2 ∷ 3 ∷ 17 ∷ 18 ∷ 19 ∷ 10 ∷ 4 ∷ 12 ∷ [])

    own : (n : ℕ) → Declined (look m o t room) n → Listed (look_numbers m) n
    own n (bad_owner_when w) = ok 23 refl
    own n (too_long_when w h) = ok 1 refl
    own n (not_ascii_when w h e) = ok 2 refl
    own n (not_a_path_when w h e f) = unread_of (Listed (look_numbers m)) (ok 1 refl) (ok 2 refl) (ok 3 refl) (ok 17 refl) (ok 18 refl) (ok 19 refl) (why_not t)
    own n (loose p s) = loose_too m t (9 ∷ 23 ∷ 1 ∷ 2 ∷ 3 ∷ 17 ∷ 18 ∷ 19 ∷ 10 ∷ 4 ∷ 12 ∷ []) s
    own n (key_too_long_when p s l) = ok 10 refl
    own n (retired q h r) = absurd (let z : ◌≡◌ {A = ℕ} 0 1 = cc in let y : ⊥ = omega arith in y)
    own n (bad_length_when q h r f) = absurd (let z : ◌≡◌ {A = ℕ} 0 1 = cc in let y : ⊥ = omega arith in y)
    own n (no_room_when q h l) = ok 4 refl

-- what is said of a pair
record Told (p : Pair) : Type 0 where
  listed : Listed oldest_numbers p.refusal
  zeros : (p.refusal ≡ 0 → ⊥) → AllZero (p.number ∷ p.height ∷ [])

in-records : (o : ℕ) (c : List ℕ) (s : List Rec) → Told (oldest_in o c s)
unfolding oldest_in
in-records o c s = whose (is_owner o)
  where
    state : (x : Option Revision) → Told (pair_of x)
    state (Some p) = record { listed = refl; zeros = λ n. absurd (n refl) }
    state None = record { listed = refl; zeros = λ n. (refl, (refl, tt)) }

    pick : (v : Bool) → Told (cond v (pair_of (oldest_state o c s)) (pair (check_of check.client c) 0 0))
    pick true = state (oldest_state o c s)
    pick false = record { listed = plain_of (Listed oldest_numbers) refl refl refl refl 9 64 c; zeros = λ n. (refl, (refl, tt)) }

    whose : (v : Bool) → Told (cond v (checked_state o c s) (pair 23 0 0))
    whose true = pick (eqb (check_of check.client c) 0)
    whose false = record { listed = refl; zeros = λ n. (refl, (refl, tt)) }

-- and of the count of a clearing, which changes no byte where it is refused
record CountTold (b : List ℕ) (n : Count) (b₁ : List ℕ) : Type 0 where
  listed : Listed clear_numbers n.refusal
  zeros : (n.refusal ≡ 0 → ⊥) → AllZero (n.count ∷ [])
  keeps : (n.refusal ≡ 0 → ⊥) → b₁ ≡ b

count-told : {b : List ℕ} {o : ℕ} {c : List ℕ} {k : ℕ} {n : Count} {b₁ : List ℕ} → Cleared Current b o c k n b₁ → CountTold b n b₁
count-told (clear.Cleared.no_book m e f) = rw e (record { listed = refl; zeros = λ z. (refl, tt); keeps = λ z. f })
count-told {b} {o} {c} {k} {n} {b₁} (clear.Cleared.this_book x e f) = go (way o c k)
  where
    refused : (m : ℕ) → Listed clear_numbers m → clear_in o c k x.records ≡ (count m 0, x.records) → CountTold b n b₁
    refused m l q =
        let g : n ≡ count m 0 = e ∙ ap (λ (y : Count × List Rec). y.0) q in
        rw g (record { listed = l; zeros = λ z. (refl, tt); keeps = λ z. f ∙ ap (λ (y : Count × List Rec). bytes_with x y.1) q ∙ sym x.bytes })

    go : Way o c k → CountTold b n b₁
    go (ways.Way.nobodys w q) = refused 23 refl (q x.records)
    go (ways.Way.refused w z q) = refused (check_of check.client c) (plain_of (Listed clear_numbers) refl refl refl refl 9 64 c) (q x.records)
    go (ways.Way.done w z q) =
        let g : n ≡ count 0 (gone o c k x.records) = e ∙ ap (λ (y : Count × List Rec). y.0) (q x.records) in
        rw g (record { listed = refl; zeros = λ m. absurd (m refl); keeps = λ m. absurd (m refl) })

flag-told : (k : ℕ) → Listed (14 ∷ []) (provable_flag k).refusal × (((provable_flag k).refusal ≡ 0 → ⊥) → AllZero ((provable_flag k).value ∷ []))
unfolding provable_flag
flag-told k = go (leb 1 k && leb k 19)
  where
    flag : Bool → Flag
    flag b = cond b (record { refusal = 0; value = cond (provable k) 1 0 }) (record { refusal = 14; value = 0 })

    go : (b : Bool) → Listed (14 ∷ []) (flag b).refusal × (((flag b).refusal ≡ 0 → ⊥) → AllZero ((flag b).value ∷ []))
    go true = (refl, λ h. absurd (h refl))
    go false = (refl, λ h. (refl, tt))

-- ---- the shapes
module _ {L : Type 0} {A R S : L → Type 0} {Pre : (κs : L) → A κs → Type 0} {Post : (κs : L) → A κs → R κs → S κs → Type 0} (accepts : (κs : L) (a : A κs) → Pre κs a) where
  module _ (number : (κs : L) → R κs → ℕ) (before : (κs : L) → A κs → List ℕ) (after : (κs : L) → S κs → List ℕ) where
    pub made_demand : (one two : (κs : L) → A κs → ℕ) → ((κs : L) (a : A κs) (r : R κs) (s : S κs) → Post κs a r s → Made Current (quotas (one κs a) (two κs a)) (before κs a) (number κs r) (after κs s))
        → Demand1 Pre Post new_numbers number (λ κs r. []) before after
    made_demand one two says =
        record { accepts = accepts; numbered = λ κs a r s p. go (says κs a r s p); nothing_else = λ κs a r s p h. tt; keeps = λ κs a r s p. made-keeps (says κs a r s p) }
      where
        go : {q : Quotas} {b : List ℕ} {r : ℕ} {b₁ : List ℕ} → Made Current q b r b₁ → Listed new_numbers r
        go (no_size n e f) = rw e
        go (no_slots C s n e f) = rw e
        go (new_book C s n e f) = rw e

    pub changed_demand : (listed : List ℕ) (call : (κs : L) → A κs → Call)
        → ((κs : L) (a : A κs) (b : List ℕ) (x : Answer) (b₁ : List ℕ) → Outcome Current (meaning (call κs a)) b x b₁ → Listed listed (seen x).number)
        → ((κs : L) (a : A κs) (r : R κs) (s : S κs) → Post κs a r s → Changed Current (before κs a) (meaning (call κs a)) (number κs r) (after κs s))
        → Demand1 Pre Post listed number (λ κs r. []) before after
    changed_demand listed call numbers says =
        record {
          accepts = accepts;
          numbered = λ κs a r s p. let c = says κs a r s p in subst (Listed listed) (sym c.number) (numbers κs a (before κs a) c.answer (after κs s) c.outcome);
          nothing_else = λ κs a r s p h. tt;
          keeps = λ κs a r s p. changed-keeps (says κs a r s p);
        }

    -- the conversions; `before` and `after` are of the second buffer
    pub converted_demand : (old : (κs : L) → A κs → List ℕ)
        → ((κs : L) (a : A κs) (r : R κs) (s : S κs) → Post κs a r s → Converted (old κs a) (before κs a) (number κs r) (after κs s))
        → Demand1 Pre Post convert_numbers number (λ κs r. []) before after
    converted_demand old says =
        record { accepts = accepts; numbered = λ κs a r s p. go (says κs a r s p); nothing_else = λ κs a r s p h. tt; keeps = λ κs a r s p. converted-keeps (says κs a r s p) }
      where
        go : {o n : List ℕ} {r : ℕ} {n₁ : List ℕ} → Converted o n r n₁ → Listed convert_numbers r
        go (convert.Converted.no_old n e f) = rw e
        go (convert.Converted.other_size x n e f) = rw e
        go (convert.Converted.converted x n e f) = rw e

    pub owned_demand : (old : (κs : L) → A κs → List ℕ) (one two : (κs : L) → A κs → ℕ)
        → ((κs : L) (a : A κs) (r : R κs) (s : S κs) → Post κs a r s → ConvertedOwners (old κs a) (before κs a) (quotas (one κs a) (two κs a)) (number κs r) (after κs s))
        → Demand1 Pre Post convert_owners_numbers number (λ κs r. []) before after
    owned_demand old one two says =
        record { accepts = accepts; numbered = λ κs a r s p. go (says κs a r s p); nothing_else = λ κs a r s p h. tt; keeps = λ κs a r s p. owned-keeps (says κs a r s p) }
      where
        go : {o n : List ℕ} {q : Quotas} {r : ℕ} {n₁ : List ℕ} → ConvertedOwners o n q r n₁ → Listed convert_owners_numbers r
        go (convert.ConvertedOwners.no_old n e f) = rw e
        go (convert.ConvertedOwners.other_size x n e f) = rw e
        go (convert.ConvertedOwners.too_many x n m e f) = rw e
        go (convert.ConvertedOwners.converted x n m e f) = rw e

  pub found_demand : (listed : List ℕ) (manner : (κs : L) → A κs → Manner)
      → ((κs : L) (a : A κs) (n : ℕ) → Listed (look_numbers (manner κs a)) n → Listed listed n)
      → (written : (κs : L) → R κs → Written) (book : (κs : L) → A κs → List ℕ) (owner : (κs : L) → A κs → ℕ) (text before : (κs : L) → A κs → List ℕ) (after : (κs : L) → S κs → List ℕ)
      → ((κs : L) (a : A κs) (r : R κs) (s : S κs) → Post κs a r s → Looked Current (manner κs a) (book κs a) (owner κs a) (text κs a) (before κs a) (written κs r) (after κs s))
      → Demand1 Pre Post listed (λ κs r. (written κs r).refusal) (λ κs r. (written κs r).length ∷ []) before after
  found_demand listed manner in_list written book owner text before after says =
      record {
        accepts = accepts;
        numbered = λ κs a r s p. let c = says κs a r s p in subst (Listed listed) (sym (ap (λ (w : Written). w.refusal) c.written ∙ written-number c.answer)) (in_list κs a _ (look-listed (manner κs a) (owner κs a) (text κs a) (length (before κs a)) c.outcome));
        nothing_else = λ κs a r s p h. let c = says κs a r s p in (ap (λ (w : Written). w.length) c.written ∙ written-zero c.answer (λ e. h (ap (λ (w : Written). w.refusal) c.written ∙ e)), tt);
        keeps = λ κs a r s p. found-keeps (says κs a r s p);
      }

  pub oldest_demand : (pairs : (κs : L) → R κs → Pair) (book : (κs : L) → A κs → List ℕ) (owner : (κs : L) → A κs → ℕ) (client : (κs : L) → A κs → List ℕ)
      → ((κs : L) (a : A κs) (r : R κs) (s : S κs) → Post κs a r s → Oldest Current (book κs a) (owner κs a) (client κs a) (pairs κs r))
      → Demand1 Pre Post oldest_numbers (λ κs r. (pairs κs r).refusal) (λ κs r. (pairs κs r).number ∷ (pairs κs r).height ∷ []) (λ κs a. []) (λ κs s. [])
  oldest_demand pairs book owner client says =
      record { accepts = accepts; numbered = λ κs a r s p. (go (says κs a r s p)).listed; nothing_else = λ κs a r s p. (go (says κs a r s p)).zeros; keeps = λ κs a r s p h. refl }
    where
      go : {b : List ℕ} {o : ℕ} {c : List ℕ} {p : Pair} → Oldest Current b o c p → Told p
      go (oldest.Oldest.no_book n e) = rw e (record { listed = refl; zeros = λ m. (refl, (refl, tt)) })
      go {o = o} {c = c} (oldest.Oldest.this_book x e) = rw e (in-records o c x.records)

  pub cleared_demand : (counts : (κs : L) → R κs → Count) (before : (κs : L) → A κs → List ℕ) (after : (κs : L) → S κs → List ℕ) (owner : (κs : L) → A κs → ℕ) (client : (κs : L) → A κs → List ℕ) (keep : (κs : L) → A κs → ℕ)
      → ((κs : L) (a : A κs) (r : R κs) (s : S κs) → Post κs a r s → Cleared Current (before κs a) (owner κs a) (client κs a) (keep κs a) (counts κs r) (after κs s))
      → Demand1 Pre Post clear_numbers (λ κs r. (counts κs r).refusal) (λ κs r. (counts κs r).count ∷ []) before after
  cleared_demand counts before after owner client keep says =
      record { accepts = accepts; numbered = λ κs a r s p. (count-told (says κs a r s p)).listed; nothing_else = λ κs a r s p. (count-told (says κs a r s p)).zeros; keeps = λ κs a r s p. (count-told (says κs a r s p)).keeps }

  pub provable_demand : (kind : (κs : L) → A κs → ℕ) (flag : (κs : L) → R κs → Flag)
      → ((κs : L) (a : A κs) (r : R κs) (s : S κs) → Post κs a r s → flag κs r ≡ provable_flag (kind κs a))
      → Demand1 Pre Post (14 ∷ []) (λ κs r. (flag κs r).refusal) (λ κs r. (flag κs r).value ∷ []) (λ κs a. []) (λ κs s. [])
  provable_demand kind flag says =
      record {
        accepts = accepts;
        numbered = λ κs a r s p. subst (λ (f : Flag). Listed (14 ∷ []) f.refusal) (sym (says κs a r s p)) (flag-told (kind κs a)).0;
        nothing_else = λ κs a r s p. subst (λ (f : Flag). (f.refusal ≡ 0 → ⊥) → AllZero (f.value ∷ [])) (sym (says κs a r s p)) (flag-told (kind κs a)).1;
        keeps = λ κs a r s p h. refl;
      }
