-- Laws of `Owned`: where the white bytes at the ends of a text stop, and what a new or an owned identifier is.
-- Assumes nothing.
use Rattle.std.specs.Prelude.{◌≡◌, Bool, ℕ, zero, suc, ◌+◌, ◌-◌, ◌/◌, ◌%◌, ◌^◌, ◌≤◌, ◌<◌, take, drop, get_or}
use Rattle.std.proofs.Math.Path.{refl, ap}
use Rattle.std.proofs.Common.{sym, ◌∙◌, add-one, zero-add, arith, length-append, drop_of_length-le, drop-cons, take-suc, le-leb, eq-eqb, ne_eqb, eqb-true}
use Rattle.std.proofs.Math.Bool.{true, false, cond, or-true}
use Rattle.std.proofs.Math.Nat.{sub-zero, zero-sub, suc-sub-suc}
use Rattle.std.proofs.Math.Decide.{dec_lt}
use Rattle.std.proofs.Math.Seq.{take-length}
use mathlib.Core.List.{List, [], ◌∷◌, ◌++◌}
use Rattle.std.proofs.Math.Dec.{eqb}
use Rattle.std.proofs.Math.ListN.{length}
use Rattle.std.proofs.lemmas.List.{length-replicate}
use Rattle.std.specs.List.{AllWithin, HoldsAt}
use Rattle.std.specs.Option.{MatchOption, unwrap_or}
use Rattle.std.specs.declared.option.Option.{Option}
use Rattle.std.specs.declared.option.Option.TheVariants.{None, Some}
use Rattle.text.specs.Bytes.{bytes}
use Rattle.text.specs.Fault.{numeral_fault}
use Rattle.text.specs.Number.{width, numeral_of, decimal}
use Rattle.text.specs.NumberLaws.{by_tens, width_small, width_pos, width_u64, length-decimal, length-decimal-some, length-decimal_u64, decimal_small, decimal-more, Digit, decimal-first, read-decimal}
use Rattle.text.specs.Part.{every, ascii, starts_with}
use Rattle.text.specs.PartLaws.{every_append}
use Rattle.text.specs.Put.{refused, text, refusal, done, answer, left, accepted}
use Rattle.text.specs.PutLaws.{put-zero, answer-fits, left-fits}
use Rattle.identifiers.specs.Check.{first, unless, among, identifier_byte, index_of, named_of, Rule, check_of, client, client_type, channel}
use Rattle.identifiers.specs.CheckLaws.{first-zero, index_short, index-other, accepted-bytes, accepted-length, accepted-by}
use Rattle.identifiers.specs.Owned.{as_written, blank, trim_start, keep, trim_end, trim, new_client, zeros}

-- ---- a text that is accepted, and one that is not
pub accepted-some : (n : ℕ) (s : List ℕ) → (n ≡ 0 → ⊥) → accepted n s ≡ refused n
accepted-some n s h = rw (ne_eqb n 0 h)

pub accepted-none : (n : ℕ) (s : List ℕ) → n ≡ 0 → accepted n s ≡ text s
accepted-none n s h = rw (eq-eqb n 0 h)

-- ---- the start of a text, from i on
module _ (s : List ℕ) (i : ℕ) where
  start_none : length s ≤ i → trim_start (drop i s) ≡ drop i s
  unfolding trim_start
  start_none h = rw (drop_of_length-le s h)

  start-stop : i < length s → blank (get_or s i 0) ≡ false → trim_start (drop i s) ≡ drop i s
  unfolding trim_start
  start-stop l h = rw (drop-cons s i 0 l, h)

-- the bytes before place i are white
start_white : (s : List ℕ) (i : ℕ) → i ≤ length s → ((k : ℕ) → k < i → blank (get_or s k 0) ≡ true) → trim_start s ≡ trim_start (drop i s)
unfolding trim_start
start_white s zero h w = refl
start_white [] (suc i) h w = absurd (omega arith)
start_white (b ∷ s) (suc i) h w = rw (w 0 (omega arith)) (start_white s i (omega arith) (λ k l. w (suc k) (omega arith)))

-- from the first byte that is not white on, or from the end where each is
pub start_found : (s : List ℕ) (r : Option ℕ) → MatchOption r (AllWithin (λ b. blank b ≡ true) s 0 (length s)) (λ i. (i < length s) × HoldsAt (λ b. blank b ≡ false) s i × AllWithin (λ b. blank b ≡ true) s 0 i) → drop (unwrap_or r (length s)) s ≡ trim_start s
start_found s None h = sym (start_white s (length s) (omega arith) (λ k l. h k 0 (omega arith) l) ∙ start_none s (length s) (omega arith))
start_found s (Some i) h = sym (start_white s i (omega arith) (λ k l. h.2 k 0 (omega arith) l) ∙ start-stop s i h.0 (h.1 0))

-- ---- the end of a text
keep_some : (b : ℕ) (s : List ℕ) (x : ℕ) → keep b (s ++ x ∷ []) ≡ b ∷ (s ++ x ∷ [])
keep_some b [] x = refl
keep_some b (y ∷ s) x = refl

-- its last byte is kept, or goes
module _ (x : ℕ) where
  end_kept : blank x ≡ false → (s : List ℕ) → trim_end (s ++ x ∷ []) ≡ s ++ x ∷ []
  unfolding trim_end
  end_kept h [] = rw h
  end_kept h (b ∷ s) = ap (keep b) (end_kept h s) ∙ keep_some b s x

  end-gone : blank x ≡ true → (s : List ℕ) → trim_end (s ++ x ∷ []) ≡ trim_end s
  unfolding trim_end
  end-gone h [] = rw h
  end-gone h (b ∷ s) = ap (keep b) (end-gone h s)

-- up to e, where i is the byte before
module _ (s : List ℕ) (e i : ℕ) (next : e ≡ i + 1) (l : i < length s) where
  end-stop : blank (get_or s i 0) ≡ false → trim_end (take e s) ≡ take e s
  end-stop h = rw (next, add-one, take-suc s i 0 l) (end_kept (get_or s i 0) h (take i s))

  end_more : blank (get_or s i 0) ≡ true → trim_end (take e s) ≡ trim_end (take i s)
  end_more h = rw (next, add-one, take-suc s i 0 l) (end-gone (get_or s i 0) h (take i s))

-- the n bytes before place e are white
end_white : (s : List ℕ) (n e i : ℕ) → e ≡ n + i → e ≤ length s → ((k : ℕ) → i ≤ k → k < e → blank (get_or s k 0) ≡ true) → trim_end (take e s) ≡ trim_end (take i s)
end_white s zero e i h l w = ap (λ n. trim_end (take n s)) (h ∙ zero-add i)
end_white s (suc n) e i h l w = end_more s e (n + i) (omega arith) (omega arith) (w (n + i) (omega arith) (omega arith)) ∙ end_white s n (n + i) i refl (omega arith) (λ k g p. w k g (omega arith))

end_none : (s : List ℕ) (e : ℕ) → e ≡ 0 → trim_end (take e s) ≡ take e s
unfolding trim_end
end_none s e h = rw h

-- up to the last byte that is not white, or nothing where each is
pub end_found :
    (s : List ℕ) (r : Option ℕ) (e : ℕ) → MatchOption r (AllWithin (λ b. blank b ≡ true) s 0 (length s)) (λ i. (i < length s) × HoldsAt (λ b. blank b ≡ false) s i × AllWithin (λ b. blank b ≡ true) s (i + 1) (length s)) → MatchOption r (e ≡ 0) (λ i. e ≡ i + 1) → take e s ≡ trim_end s
end_found s None e h q =
    sym (ap trim_end (sym (take-length s)) ∙ end_white s (length s) (length s) e (omega arith) (omega arith) (λ k l m. h k 0 (omega arith) m) ∙ end_none s e q)
end_found s (Some i) e h q =
    sym (ap trim_end (sym (take-length s)) ∙ end_white s (length s - e) (length s) e (omega (arith, h.0)) (omega arith) (λ k l m. h.2 k 0 (omega arith) m) ∙ end-stop s e i q h.0 (h.1 0))

-- ---- `{name}-{n}`
pub length-named : (name : List ℕ) (n : ℕ) → length (name ++ (bytes "-" ++ decimal n)) ≡ length name + (1 + width n)
length-named name n = rw length-append (omega (arith, length-decimal n))

-- ---- a new client identifier
module _ (s : List ℕ) (n : ℕ) where
  pub new-high : ascii s ≡ false → new_client s n ≡ refused 2
  unfolding new_client
  new-high h = rw h

  module _ (h : ascii s ≡ true) where
    pub new-refused : (check_of client_type (trim s) ≡ 0 → ⊥) → new_client s n ≡ refused (check_of client_type (trim s))
    unfolding new_client
    new-refused k = rw h (accepted-some _ _ k)

    pub new-text : check_of client_type (trim s) ≡ 0 → new_client s n ≡ text (trim s ++ (bytes "-" ++ decimal n))
    unfolding new_client
    new-text k = rw h (accepted-none _ _ k)

-- ---- an owned identifier, in an array that has room for the longest: no answer is 4
drop-zeros : (n m : ℕ) → drop n (zeros m) ≡ zeros (m - n)
drop-zeros zero m = rw sub-zero
drop-zeros (suc n) zero = rw zero-sub
drop-zeros (suc n) (suc m) = rw suc-sub-suc (drop-zeros n m)

module _ (r : Rule) (s : List ℕ) (room : ℕ) (most : r.most ≤ room) where
  pub owned-answer : answer (as_written r s) room ≡ cond (eqb (check_of r s) 0) (done (length s)) (refusal (check_of r s))
  unfolding as_written answer
  owned-answer = go (eqb (check_of r s) 0) refl
    where
      go : (t : Bool) → eqb (check_of r s) 0 ≡ t → answer (cond t (text s) (refused (check_of r s))) room ≡ cond t (done (length s)) (refusal (check_of r s))
      go true e = answer-fits s room (omega (arith, (accepted-length r s (eqb-true _ _ e)).1))
      go false e = refl

  pub owned-bytes : left (as_written r s) (zeros room) ≡ cond (eqb (check_of r s) 0) (s ++ zeros (room - length s)) (zeros room)
  unfolding as_written left
  owned-bytes = go (eqb (check_of r s) 0) refl
    where
      go : (t : Bool) → eqb (check_of r s) 0 ≡ t → left (cond t (text s) (refused (check_of r s))) (zeros room) ≡ cond t (s ++ zeros (room - length s)) (zeros room)
      go true e =
          let k : length s ≤ length (zeros room) = rw (length-replicate {A = ℕ} room 0) (omega (arith, (accepted-length r s (eqb-true _ _ e)).1)) in
          left-fits s (zeros room) k ∙ put-zero (zeros room) s ∙ ap (λ z. s ++ z) (drop-zeros (length s) room)
      go false e = refl

-- ---- a new identifier is an identifier
digit-byte : (b : ℕ) → Digit b → identifier_byte b ≡ true
unfolding identifier_byte
digit-byte b h = rw (le-leb 48 b h.0, le-leb b 57 h.1) (simp or-true)

decimal-bytes : (n : ℕ) → every identifier_byte (decimal n) ≡ true
unfolding every
decimal-bytes =
    by_tens (λ n. every identifier_byte (decimal n) ≡ true)
    (λ n h. rw (decimal_small n h, digit-byte (48 + n) (omega arith)))
    (λ n h k. rw (decimal-more n h, every_append identifier_byte (decimal (n / 10)) ((48 + n % 10) ∷ []), k, digit-byte (48 + n % 10) (omega arith)))

decimal-index : (n : ℕ) → n < 2 ^ 64 → index_of (decimal n) ≡ 0
decimal-index n h = go (dec_lt n 10) ∙ rw (read-decimal n h)
  where
    go : Dec (n < 10) → index_of (decimal n) ≡ numeral_fault (numeral_of (decimal n))
    go (yes k) = index_short (decimal n) (omega (arith, length-decimal n, width_small n k))
    go (no k) =
        let p : 48 < get_or (decimal n) 0 0 = decimal-first n (omega arith) in
        index-other (decimal n) (length-decimal-some n) (λ e. omega arith)

pub new-channel-accepted : (n : ℕ) → n < 2 ^ 64 → check_of channel (bytes "channel-" ++ decimal n) ≡ 0
unfolding every identifier_byte among named_of starts_with
new-channel-accepted n h =
    let least = length-decimal-some n in
    let most = length-decimal_u64 n h in
    accepted-by channel (bytes "channel-" ++ decimal n) (decimal-bytes n) (omega arith) (omega arith) (decimal-index n h)

named-accepted : (name : List ℕ) (n : ℕ) → n < 2 ^ 64 → check_of client_type name ≡ 0 → check_of client (name ++ (bytes "-" ++ decimal n)) ≡ 0
unfolding every identifier_byte among
named-accepted name n h ok =
    let size = accepted-length client_type name ok in
    let all = length-named name n in
    let least = width_pos n in
    let most = width_u64 n h in
    accepted-by client (name ++ (bytes "-" ++ decimal n))
    (rw (every_append identifier_byte name (bytes "-" ++ decimal n), accepted-bytes client_type name ok) (decimal-bytes n))
    (omega arith)
    (omega arith)
    refl

pub new-client-accepted : (s : List ℕ) (n : ℕ) (w : List ℕ) → n < 2 ^ 64 → new_client s n ≡ text w → check_of client w ≡ 0
unfolding new_client
new-client-accepted s n w h e = go (eqb fault 0) refl e
  where
    fault : ℕ
    fault = first (unless 2 (ascii s)) (check_of client_type (trim s))

    go : (t : Bool) → eqb fault 0 ≡ t → cond t (text (trim s ++ (bytes "-" ++ decimal n))) (refused fault) ≡ text w → check_of client w ≡ 0
    go true f k =
        let same : trim s ++ (bytes "-" ++ decimal n) ≡ w = cc in
        rw (← same) (named-accepted (trim s) n h (first-zero (unless 2 (ascii s)) _ (eqb-true fault 0 f)).1)
    go false f k = let z : ◌≡◌ {A = ℕ} 0 1 = cc in absurd (omega arith)

-- so that 64 bytes are room enough
pub new-client-fits : (s : List ℕ) (n : ℕ) (w : List ℕ) → n < 2 ^ 64 → new_client s n ≡ text w → length w ≤ 64
new-client-fits s n w h e = (accepted-length client w (new-client-accepted s n w h e)).1

pub new-channel-fits : (n : ℕ) → n < 2 ^ 64 → length (bytes "channel-" ++ decimal n) ≤ 64
new-channel-fits n h = (accepted-length channel (bytes "channel-" ++ decimal n) (new-channel-accepted n h)).1
