-- The ways out of reading and of writing a packet key.
-- Assumes nothing.
use Rattle.std.specs.Prelude.{◌≡◌, List, ℕ, ◌+◌, ◌-◌, ◌≤◌, ◌<◌, length, take, Option, Some, None, Ok, Err}
use Rattle.std.proofs.Common.{sym, ap, ◌∙◌, arith, lt-ltb, le-ltb, eq-eqb, ne_eqb}
use Rattle.text.specs.Number.{big_at}
use Rattle.text.specs.Put.{refused, text}
use Rattle.identifiers.specs.Check.{check_of, client}
use Rattle.packet.specs.declared.PacketKind.{PacketKind}
use Rattle.packet.specs.Key.{kind_marked, packet_key, packet, cut_place, client_in, marker_in, read_as, packet_in, write_as, packet_wanted}

-- a byte that is none of the three
pub other_byte : (m : ℕ) → (m ≡ 1 → ⊥) → (m ≡ 2 → ⊥) → (m ≡ 3 → ⊥) → None ≡ kind_marked m
unfolding kind_marked
other_byte m a b c = rw (ne_eqb m 1 a, ne_eqb m 2 b, ne_eqb m 3 c)

-- ---- reading
pub read_short : (key : List ℕ) → length key < 9 → Err 24 ≡ packet_in key
unfolding packet_in
read_short key h = rw (lt-ltb (length key) 9 h)

-- nine bytes, the first of them judged as x
module _ (key : List ℕ) (h : 9 ≤ length key) (x : Option PacketKind) (e : x ≡ kind_marked (marker_in key)) where
  pub read_marked : packet_in key ≡ read_as x key
  unfolding packet_in
  read_marked = rw (le-ltb (length key) 9 h, e)

  pub read-unknown : x ≡ None → Err 24 ≡ packet_in key
  read-unknown q = sym (read_marked ∙ ap (λ (y : Option PacketKind). read_as y key) q)

  module _ (k : PacketKind) (q : x ≡ Some k) (r : ℕ) (f : r ≡ check_of client (take (cut_place key - 0) key)) where
    check : r ≡ check_of client (client_in key)
    check = let z : cut_place key - 0 ≡ cut_place key = omega arith in f ∙ ap (λ (i : ℕ). check_of client (take i key)) z

    kept : packet_in key ≡ read_as (Some k) key
    kept = read_marked ∙ ap (λ (y : Option PacketKind). read_as y key) q

    pub read-refused : (r ≡ 0 → ⊥) → Err r ≡ packet_in key
    read-refused n = rw (kept, ← check, ne_eqb r 0 n)

    pub read-key : r ≡ 0 → (v : ℕ) → v ≡ big_at (cut_place key + 1) 8 key → Ok (packet k (cut_place key) v) ≡ packet_in key
    read-key z v g = rw (kept, ← check, eq-eqb r 0 z, ← g)

-- ---- writing, of a kind
module _ (k : PacketKind) (c : List ℕ) (n r : ℕ) (f : r ≡ check_of client c) where
  pub kind-refused : (r ≡ 0 → ⊥) → write_as (Some k) c n ≡ refused r
  kind-refused z = rw (← f, ne_eqb r 0 z)

  pub kind-text : r ≡ 0 → write_as (Some k) c n ≡ text (packet_key k c n)
  kind-text z = rw (← f, eq-eqb r 0 z)

-- ---- writing, the kind judged as x
module _ (m : ℕ) (c : List ℕ) (n : ℕ) (x : Option PacketKind) (e : x ≡ kind_marked m) where
  pub write_marked : packet_wanted m c n ≡ write_as x c n
  unfolding packet_wanted
  write_marked = rw e

  pub write-unknown : x ≡ None → packet_wanted m c n ≡ refused 24
  write-unknown q = write_marked ∙ ap (λ (y : Option PacketKind). write_as y c n) q

  module _ (k : PacketKind) (q : x ≡ Some k) where
    pub write_known : packet_wanted m c n ≡ write_as (Some k) c n
    write_known = write_marked ∙ ap (λ (y : Option PacketKind). write_as y c n) q

    module _ (r : ℕ) (f : r ≡ check_of client c) where
      pub write_refused : (r ≡ 0 → ⊥) → packet_wanted m c n ≡ refused r
      write_refused z = write_known ∙ kind-refused k c n r f z

      pub write-text : r ≡ 0 → packet_wanted m c n ≡ text (packet_key k c n)
      write-text z = write_known ∙ kind-text k c n r f z
