-- Reading a packet key undoes writing it, and writing undoes reading, of the three kinds at once; and no two different parts give one key.
-- Assumes nothing.
use Rattle.std.specs.Prelude.{◌≡◌, Bool, true, false, cond, ℕ, suc, ◌+◌, ◌^◌, ◌≤◌, ◌<◌, eqb, ltb, length, take, drop, get_or, Option, Some, None, Ok, Err}
use Rattle.std.proofs.Math.Path.{refl}
use Rattle.std.proofs.Common.{sym, ap, ◌∙◌, add-one, arith, length-drop, take-append-drop, take_all, drop-cons}
use mathlib.Core.List.{List, [], ◌∷◌, ◌++◌, append_assoc, append-nil}
use Rattle.std.proofs.Math.ListN.{length-append}
use Rattle.std.proofs.Math.Seq.{take_at, get_or_at}
use borrow.Author.Tests.{le-ltb, ltb-false, eq-eqb, eqb-true}
use Rattle.text.specs.Number.{big_endian, big_at, Bytes}
use Rattle.text.specs.NumberLaws.{length_big, big-at, big-there, big-within}
use Rattle.identifiers.specs.Check.{check_of, client}
use Rattle.packet.specs.declared.PacketKey.{PacketKey}
use Rattle.packet.specs.declared.PacketKind.{PacketKind}
use Rattle.packet.specs.declared.PacketKind.TheVariants.{Commitment, Receipt, Acknowledgement}
use Rattle.packet.specs.Key.{marker_of, kind_marked, packet_key, packet, cut_place, client_in, marker_in, read_as, packet_in}

pub clash : {A : Type 0} → ◌≡◌ {A = ℕ} 0 1 → A
clash z = absurd (let y : ⊥ = omega (arith, z) in y)

-- ---- a kind and its marker
pub kind-marker : (k : PacketKind) → kind_marked (marker_of k) ≡ Some k
unfolding kind_marked
kind-marker Commitment = refl
kind-marker Receipt = refl
kind-marker Acknowledgement = refl

pub marker-kind : (m : ℕ) (k : PacketKind) → kind_marked m ≡ Some k → marker_of k ≡ m
unfolding kind_marked
marker-kind m k e = go (eqb m 1) refl (eqb m 2) refl (eqb m 3) refl e
  where
    is : (j : PacketKind) → k ≡ j → m ≡ marker_of j → marker_of k ≡ m
    is j x y = ap marker_of x ∙ sym y

    go : (a : Bool) → eqb m 1 ≡ a → (b : Bool) → eqb m 2 ≡ b → (c : Bool) → eqb m 3 ≡ c → cond a (Some Commitment) (cond b (Some Receipt) (cond c (Some Acknowledgement) None)) ≡ Some k → marker_of k ≡ m
    go true x b y c z q = let e : k ≡ Commitment = cc in is Commitment e (eqb-true m 1 x)
    go false x true y c z q = let e : k ≡ Receipt = cc in is Receipt e (eqb-true m 2 y)
    go false x false y true z q = let e : k ≡ Acknowledgement = cc in is Acknowledgement e (eqb-true m 3 z)
    go false x false y false z q = clash cc

pub no_kind : (m : ℕ) (k : PacketKind) → kind_marked m ≡ None → marker_of k ≡ m → ⊥
no_kind m k e x = let q : kind_marked m ≡ Some k = rw x at (kind-marker k) in clash cc

pub one-marker : (j k : PacketKind) → marker_of j ≡ marker_of k → j ≡ k
one-marker j k e = let q : kind_marked (marker_of k) ≡ Some j = rw e at (kind-marker j) in let p = kind-marker k in cc

-- ---- the parts of a key that was written: the marker is found from the end alone
module _ (k : PacketKind) (c : List ℕ) (n : ℕ) where
  pub key-length : length (packet_key k c n) ≡ length c + 9
  unfolding packet_key
  key-length = rw length-append (omega (arith, length_big 8 n))

  pub cut-there : cut_place (packet_key k c n) ≡ length c
  cut-there = omega (arith, key-length)

  pub client-there : take (length c) (packet_key k c n) ≡ c
  unfolding packet_key
  client-there = take_at c (marker_of k ∷ big_endian 8 n) (length c) refl

  pub marker-there : get_or (packet_key k c n) (length c) 0 ≡ marker_of k
  unfolding packet_key
  marker-there = get_or_at c (marker_of k) (big_endian 8 n) 0 (length c) refl

  pub sequence-there : n < 2 ^ 64 → big_at (length c + 1) 8 (packet_key k c n) ≡ n
  unfolding packet_key
  sequence-there h =
      big-at (c ++ (marker_of k ∷ [])) [] (length c + 1) 8 n (c ++ (marker_of k ∷ big_endian 8 n)) (simp (append_assoc, append-nil)) (rw length-append) (omega arith)

  -- ---- what was written is read
  pub read-written : n < 2 ^ 64 → check_of client c ≡ 0 → packet_in (packet_key k c n) ≡ Ok (packet k (length c) n)
  unfolding packet_in
  read-written h ok =
      let marked : read_as (Some k) (packet_key k c n) ≡ Ok (packet k (length c) n) = rw (cut-there, client-there, eq-eqb (check_of client c) 0 ok, sequence-there h) in
      rw (le-ltb (length (packet_key k c n)) 9 (omega (arith, key-length)), cut-there, marker-there, kind-marker k) marked

-- no two different parts give one key
pub key_one : (j k : PacketKind) (c d : List ℕ) (m n : ℕ) → m < 2 ^ 64 → n < 2 ^ 64 → packet_key j c m ≡ packet_key k d n → (j ≡ k) × (c ≡ d) × (m ≡ n)
key_one j k c d m n a b e =
    let l : length c ≡ length d = omega (arith, key-length j c m, key-length k d n, ap length e) in (
      one-marker j k (sym (marker-there j c m) ∙ rw (l, e) (marker-there k d n)),
      sym (client-there j c m) ∙ rw (l, e) (client-there k d n),
      sym (sequence-there j c m a) ∙ rw (l, e) (sequence-there k d n b),
    )

-- ---- what was read is written
-- what a key that reads has, and what is read
pub record Reads (key : List ℕ) (p : PacketKey) : Type 0 where
  pub size : 9 ≤ length key
  pub marked : kind_marked (marker_in key) ≡ Some p.kind
  pub accepted : check_of client (client_in key) ≡ 0
  pub length-is : p.length ≡ cut_place key
  pub sequence-is : p.sequence.0 ≡ big_at (cut_place key + 1) 8 key

pub key_reads : (key : List ℕ) (p : PacketKey) → packet_in key ≡ Ok p → Reads key p
unfolding packet_in
key_reads key p e = go (ltb (length key) 9) refl (kind_marked (marker_in key)) refl e
  where
    said : (k : PacketKind) → PacketKey
    said k = packet k (cut_place key) (big_at (cut_place key + 1) 8 key)

    is : (k : PacketKind) → p ≡ said k → 9 ≤ length key → kind_marked (marker_in key) ≡ Some k → check_of client (client_in key) ≡ 0 → Reads key p
    is k x size marked ok =
        record {
          size = size;
          marked = marked ∙ ap (λ (q : PacketKey). Some q.kind) (sym x);
          accepted = ok;
          length-is = ap (λ (q : PacketKey). q.length) x;
          sequence-is = ap (λ (q : PacketKey). q.sequence.0) x;
        }

    checked : (k : PacketKind) → 9 ≤ length key → kind_marked (marker_in key) ≡ Some k → (b : Bool) → eqb (check_of client (client_in key)) 0 ≡ b → cond b (Ok (said k)) (Err (check_of client (client_in key))) ≡ Ok p → Reads key p
    checked k x y false z q = clash cc
    checked k x y true z q = let e : p ≡ said k = cc in is k e x y (eqb-true (check_of client (client_in key)) 0 z)

    go : (a : Bool) → ltb (length key) 9 ≡ a → (m : Option PacketKind) → kind_marked (marker_in key) ≡ m → cond a (Err 24) (read_as m key) ≡ Ok p → Reads key p
    go true x m y q = clash cc
    go false x None y q = clash cc
    go false x (Some k) y q = checked k (ltb-false (length key) 9 x) y (eqb (check_of client (client_in key)) 0) refl q

pub written_read : (key : List ℕ) (p : PacketKey) → Bytes key → packet_in key ≡ Ok p → packet_key p.kind (take p.length key) p.sequence.0 ≡ key
unfolding packet_key
written_read key p b e =
    let r = key_reads key p e in
    let s = r.size in
    let n : ℕ = cut_place key in
    let eight : big_endian 8 p.sequence.0 ≡ drop (suc n) key = rw (r.sequence-is, big-there (n + 1) 8 key b (omega arith), add-one) (take_all 8 (drop (suc n) key) (rw length-drop (omega arith))) in
    let nine : drop n key ≡ marker_of p.kind ∷ drop (suc n) key = rw (marker-kind (marker_in key) p.kind r.marked) (drop-cons key n 0 (omega arith)) in
    rw (r.length-is, eight, ← nine) (take-append-drop n key)

-- the sequence that is read fits a u64
pub key-counted : (key : List ℕ) (p : PacketKey) → Bytes key → packet_in key ≡ Ok p → p.sequence.0 < 2 ^ 64
key-counted key p b e = let r = key_reads key p e in let s = r.size in rw r.sequence-is (big-within (cut_place key + 1) 8 key b (omega arith))
