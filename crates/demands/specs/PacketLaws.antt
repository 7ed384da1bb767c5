-- What the calls on packet keys come to, by the definitions that their contracts cite.
-- Assumes nothing.
use Rattle.std.specs.Prelude.{ℕ, ◌+◌, ◌≤◌, ◌<◌, ◌^◌, ◌↔◌, Bool, List, [], ◌∷◌, eqb, ltb, length, take, Option, Some, None, Result, Ok, Err}
use Rattle.std.proofs.Math.Path.{◌≡◌, refl}
use Rattle.std.proofs.Common.{sym, ap, subst, ◌∙◌, arith, ltb-true, ltb-false, eq-eqb, eqb-true}
use Rattle.std.proofs.Math.Bool.{true, false, cond}
use Rattle.std.proofs.Math.Decide.{dec_lt}
use Rattle.std.proofs.lemmas.Bool.{eqb-false}
use Rattle.text.specs.Number.{big_at, Bytes}
use Rattle.text.specs.Part.{ascii}
use Rattle.text.specs.declared.Fault.{Fault}
use Rattle.text.specs.declared.Written.{Written}
use Rattle.text.specs.Put.{text, answer, left}
use Rattle.text.specs.PutLaws.{answer-refused, answer-fits, answer-short}
use Rattle.identifiers.specs.Check.{check_of, client}
use Rattle.path.specs.declared.Refusal.TheVariants.{NotAscii, NotAPath}
use Rattle.path.specs.Read.{read_path, read_fault, reading_bytes, why_not, refusal_of, place_of}
use Rattle.book_records.specs.Act.{Seen}
use Rattle.book_records.specs.Calls.{Call, is_owner}
use Rattle.book_records.specs.Refusals.{Declined, bad_owner_when, not_ascii_when, not_a_path_when}
use Rattle.packet.specs.declared.Packet.{Packet}
use Rattle.packet.specs.declared.PacketKey.{PacketKey}
use Rattle.packet.specs.declared.PacketKind.{PacketKind}
use Rattle.packet.specs.Key.{marker_of, kind_marked, packet_key, packet, cut_place, client_in, marker_in, read_as, packet_in, packet_of, write_as, packet_wanted}
use Rattle.packet.specs.KeyLaws.{kind-marker, marker-kind, no_kind, one-marker, key-length, client-there, read-written, key_one, key_reads, written_read, key-counted}
use Rattle.packet.specs.PathLaws.{short-key, no-kind-fits, no_number, no_path}
use Rattle.packet.specs.WayLaws.{read_short, read_marked, read-unknown, write-unknown, write_refused, write-text}
use Rattle.demands.specs.BookCalls.{Does, permits}
use Rattle.demands.specs.Demand2Laws.{iff_yes, iff-no, wrote}
use Rattle.demands.specs.Packeted.{IsMarker, Marked, WhenV2Read, WhenV2Written, IsPacket, Says}
use Rattle.demands.specs.Held.{ProperBook}
use Rattle.demands.specs.PermittedLaws.{refused_exactly}
use Rattle.demands.specs.Refusals as refusals
use Rattle.demands.specs.Shape.{Listed, AllZero, Demand1}
use Rattle.demands.specs.ShapeLaws.{Wants, plain_of, accepted_wants}
use Rattle.demands.specs.Written.{Done}
use Rattle.demands.specs.Numbers.{packet_reads, packet_writes}

number : {x y : Packet} → x ≡ y → x.refusal ≡ y.refusal
number e = ap (λ (p : Packet). p.refusal) e

written-number : {x y : Written} → x ≡ y → x.refusal ≡ y.refusal
written-number e = ap (λ (w : Written). w.refusal) e

-- the client's checks give neither 24 nor 4
client-numbers : (s : List ℕ) → (check_of client s ≡ 24 → ⊥) × (check_of client s ≡ 4 → ⊥)
client-numbers s = plain_of (λ n. (n ≡ 24 → ⊥) × (n ≡ 4 → ⊥)) (λ e. omega arith, λ e. omega arith) (λ e. omega arith, λ e. omega arith) (λ e. omega arith, λ e. omega arith) (λ e. omega arith, λ e. omega arith) 9 64 s

-- ---- when a reading is refused
module _ (key : List ℕ) where
  marked-number : (k : PacketKind) → (packet_of (read_as (Some k) key)).refusal ≡ check_of client (client_in key)
  marked-number k = go (eqb (check_of client (client_in key)) 0) refl
    where
      go : (b : Bool) → eqb (check_of client (client_in key)) 0 ≡ b → (packet_of (read_as (Some k) key)).refusal ≡ check_of client (client_in key)
      go true e = rw e (sym (eqb-true (check_of client (client_in key)) 0 e))
      go false e = rw e

  module _ (n : ℕ) (e : n ≡ (packet_of (packet_in key)).refusal) where
    unmarked : n ≡ 24 → (Marked key → ⊥) → WhenV2Read key n
    unmarked q not = record { bad_key = iff_yes q not; by_client = λ r d. iff-no (λ w. d (sym w ∙ q)) (λ w. not w.0) }

    checked : Marked key → n ≡ check_of client (client_in key) → WhenV2Read key n
    checked is q =
        record {
          bad_key = iff-no (λ w. (client-numbers (client_in key)).0 (sym q ∙ w)) (λ w. w is);
          by_client = λ r d. (λ w. (is, sym q ∙ w), λ w. q ∙ w.1);
        }

    sized : 9 ≤ length key → (x : Option PacketKind) → kind_marked (marker_in key) ≡ x → WhenV2Read key n
    sized l None z = unmarked (e ∙ ap (λ (a : Result PacketKey ℕ). (packet_of a).refusal) (sym (read-unknown key l (kind_marked (marker_in key)) refl z))) (λ w. no_kind (marker_in key) w.marker.0 z w.marker.1)
    sized l (Some k) z =
        checked (record { size = l; marker = (k, marker-kind (marker_in key) k z) }) (e ∙ ap (λ (a : Result PacketKey ℕ). (packet_of a).refusal) (read_marked key l (Some k) (sym z)) ∙ marked-number k)

    pub when_read : WhenV2Read key n
    when_read = go (ltb (length key) 9) refl
      where
        go : (b : Bool) → ltb (length key) 9 ≡ b → WhenV2Read key n
        go true z = let l = ltb-true (length key) 9 z in unmarked (e ∙ ap (λ (a : Result PacketKey ℕ). (packet_of a).refusal) (sym (read_short key l))) (λ w. omega (arith, w.size))
        go false z = sized (ltb-false (length key) 9 z) (kind_marked (marker_in key)) refl

-- ---- when a writing is refused
module _ (m : ℕ) (c : List ℕ) (s : ℕ) (room : ℕ) (x : Written) (e : x ≡ answer (packet_wanted m c s) room) where
  module _ (k : PacketKind) (z : kind_marked m ≡ Some k) where
    marks : IsMarker m
    marks = (k, marker-kind m k z)

    by-text : check_of client c ≡ 0 → packet_wanted m c s ≡ text (packet_key k c s)
    by-text ok = write-text m c s (kind_marked m) refl k z (check_of client c) refl ok

    fitting : check_of client c ≡ 0 → length c + 9 ≤ room → WhenV2Written m c room x.refusal
    fitting ok l =
        let q : x.refusal ≡ 0 = written-number (rw (by-text ok) at e ∙ answer-fits (packet_key k c s) room (omega (arith, key-length k c s))) in
        record {
          bad_kind_when = iff-no (λ w. omega arith) (λ w. w marks);
          bad_client = λ r a b d. iff-no (λ w. a (sym w ∙ q)) (λ w. a (sym w.1 ∙ ok));
          no_room_when = iff-no (λ w. omega arith) (λ w. omega (arith, w.2));
          done = iff_yes q (marks, ok, l);
        }

    short : check_of client c ≡ 0 → room < length c + 9 → WhenV2Written m c room x.refusal
    short ok l =
        let q : x.refusal ≡ 4 = written-number (rw (by-text ok) at e ∙ answer-short (packet_key k c s) room (omega (arith, key-length k c s))) in
        record {
          bad_kind_when = iff-no (λ w. omega arith) (λ w. w marks);
          bad_client = λ r a b d. iff-no (λ w. b (sym w ∙ q)) (λ w. a (sym w.1 ∙ ok));
          no_room_when = iff_yes q (marks, ok, l);
          done = iff-no (λ w. omega arith) (λ w. omega (arith, w.2));
        }

    refusing : (check_of client c ≡ 0 → ⊥) → WhenV2Written m c room x.refusal
    refusing z₁ =
        let q : x.refusal ≡ check_of client c = written-number (rw (write_refused m c s (kind_marked m) refl k z (check_of client c) refl z₁) at e ∙ answer-refused (check_of client c) room) in
        record {
          bad_kind_when = iff-no (λ w. (client-numbers c).0 (sym q ∙ w)) (λ w. w marks);
          bad_client = λ r a b d. (λ w. (marks, sym q ∙ w), λ w. q ∙ w.1);
          no_room_when = iff-no (λ w. (client-numbers c).1 (sym q ∙ w)) (λ w. z₁ w.1);
          done = iff-no (λ w. z₁ (sym q ∙ w)) (λ w. z₁ w.1);
        }

    of-kind : WhenV2Written m c room x.refusal
    of-kind = go (eqb (check_of client c) 0) refl (dec_lt room (length c + 9))
      where
        go : (b : Bool) → eqb (check_of client c) 0 ≡ b → Dec (room < length c + 9) → WhenV2Written m c room x.refusal
        go false y d = refusing (eqb-false (check_of client c) 0 y)
        go true y (yes l) = short (eqb-true (check_of client c) 0 y) l
        go true y (no l) = fitting (eqb-true (check_of client c) 0 y) (omega arith)

  unknown : kind_marked m ≡ None → WhenV2Written m c room x.refusal
  unknown z =
      let q : x.refusal ≡ 24 = written-number (rw (write-unknown m c s (kind_marked m) refl z) at e ∙ answer-refused 24 room) in
      let not : IsMarker m → ⊥ = λ w. no_kind m w.0 z w.1 in
      record {
        bad_kind_when = iff_yes q not;
        bad_client = λ r a b d. iff-no (λ w. d (sym w ∙ q)) (λ w. not w.0);
        no_room_when = iff-no (λ w. omega arith) (λ w. not w.0);
        done = iff-no (λ w. omega arith) (λ w. not w.0);
      }

  pub when_written : WhenV2Written m c room x.refusal
  when_written = go (kind_marked m) refl
    where
      go : (y : Option PacketKind) → kind_marked m ≡ y → WhenV2Written m c room x.refusal
      go None z = unknown z
      go (Some k) z = of-kind k z

-- ---- what a writing that is done wrote
module _ (m : ℕ) (c : List ℕ) (s : ℕ) (out : List ℕ) (x : Written) (out₁ : List ℕ) (e : x ≡ answer (packet_wanted m c s) (length out)) (f : out₁ ≡ left (packet_wanted m c s) out) where
  pub wrote-packet : (k : PacketKind) → marker_of k ≡ m → check_of client c ≡ 0 → length c + 9 ≤ length out → Done (packet_key k c s) x out₁
  wrote-packet k z ok l = wrote (packet_key k c s) out (omega (arith, key-length k c s)) (packet_wanted m c s) (write-text m c s (kind_marked m) refl k (ap kind_marked (sym z) ∙ kind-marker k) (check_of client c) refl ok) x out₁ e f

  pub written-done : x.refusal ≡ 0 → (k : PacketKind) × (marker_of k ≡ m) × (check_of client c ≡ 0) × Done (packet_key k c s) x out₁
  written-done z = let w = (when_written m c s (length out) x e).done.0 z in (w.0.0, w.0.1, w.1, wrote-packet w.0.0 w.0.1 w.1 w.2)

-- ---- what a reading says, and of what
module _ (key : List ℕ) (b : Bytes key) (y : Packet) (e : y ≡ packet_of (packet_in key)) where
  -- a reading that is done
  pub packet-read : y.refusal ≡ 0 → (p : PacketKey) × (packet_in key ≡ Ok p) × (y ≡ packet_of (Ok p))
  packet-read z =
      let w = ((when_read key y.refusal (number e)).by_client 0 (λ q. omega arith)).0 z in
      let m = w.0.marker in
      let k = m.0 in
      let is : kind_marked (marker_in key) ≡ Some k = ap kind_marked (sym m.1) ∙ kind-marker k in
      let p : PacketKey = packet k (cut_place key) (big_at (cut_place key + 1) 8 key) in
      let found : read_as (Some k) key ≡ Ok p = rw (eq-eqb (check_of client (client_in key)) 0 w.1) in
      let q : packet_in key ≡ Ok p = read_marked key w.0.size (Some k) (sym is) ∙ found in
      (p, q, e ∙ ap packet_of q)

  pub is-packet : (p : PacketKey) → packet_in key ≡ Ok p → IsPacket key p.kind (take p.length key) p.sequence.0
  is-packet p q = let r = key_reads key p q in record { accepted = ap (λ (i : ℕ). check_of client (take i key)) r.length-is ∙ r.accepted; counted = key-counted key p b q; bytes = sym (written_read key p b q) }

  pub says : (k : PacketKind) (c : List ℕ) (n : ℕ) → IsPacket key k c n ↔ Says key y k c n
  says k c n = (to, from)
    where
      to : IsPacket key k c n → Says key y k c n
      to w =
          let q : packet_in key ≡ Ok (packet k (length c) n) = rw w.bytes (read-written k c n w.counted w.accepted) in
          let z : y ≡ packet_of (Ok (packet k (length c) n)) = e ∙ ap packet_of q in
          record {
            done = number z;
            kind = ap (λ (p : Packet). p.kind) z;
            client = ap (λ (p : Packet). take p.length key) z ∙ rw w.bytes (client-there k c n);
            sequence = ap (λ (p : Packet). p.sequence) z;
          }

      from : Says key y k c n → IsPacket key k c n
      from w =
          let r = packet-read w.done in
          let p = r.0 in
          let j : p.kind ≡ k = one-marker p.kind k (sym (ap (λ (z : Packet). z.kind) r.2) ∙ w.kind) in
          let l : take p.length key ≡ c = sym (ap (λ (z : Packet). take z.length key) r.2) ∙ w.client in
          let v : p.sequence.0 ≡ n = sym (ap (λ (z : Packet). z.sequence) r.2) ∙ w.sequence in
          rw (j, l, v) at (is-packet p r.1)

-- ---- both ways
pub read_back : (m : ℕ) (c : List ℕ) (n : ℕ) → n < 2 ^ 64 → (out : List ℕ) (x : Written) (out₁ : List ℕ) → x ≡ answer (packet_wanted m c n) (length out) → out₁ ≡ left (packet_wanted m c n) out → x.refusal ≡ 0
    → (y : Packet) → y ≡ packet_of (packet_in (take x.length out₁)) → (y.refusal ≡ 0) × (y.kind ≡ m) × (take y.length (take x.length out₁) ≡ c) × (y.sequence ≡ n)
read_back m c n small out x out₁ e f z y g =
    let w = written-done m c n out x out₁ e f z in
    let key = w.3.shown in
    let q : y ≡ packet_of (Ok (packet w.0 (length c) n)) = g ∙ ap packet_of (ap packet_in key ∙ read-written w.0 c n small w.2) in (
      number q,
      ap (λ (p : Packet). p.kind) q ∙ w.1,
      ap (λ (p : Packet). take p.length (take x.length out₁)) q ∙ ap (take (length c)) key ∙ client-there w.0 c n,
      ap (λ (p : Packet). p.sequence) q,
    )

pub write-back : (key : List ℕ) (b : Bytes key) (y : Packet) (e : y ≡ packet_of (packet_in key)) → y.refusal ≡ 0
    → (out : List ℕ) (x : Written) (out₁ : List ℕ) → x ≡ answer (packet_wanted y.kind (take y.length key) y.sequence) (length out) → out₁ ≡ left (packet_wanted y.kind (take y.length key) y.sequence) out
    → length key ≤ length out → Done key x out₁
write-back key b y e z out x out₁ f g room =
    let r = packet-read key b y e z in
    let p = r.0 in
    let c : List ℕ = take p.length key in
    let is = is-packet key b y e p r.1 in
    let same : packet_wanted y.kind (take y.length key) y.sequence ≡ packet_wanted (marker_of p.kind) c p.sequence.0 = ap (λ (q : Packet). packet_wanted q.kind (take q.length key) q.sequence) r.2 in
    let l : length key ≡ length c + 9 = ap length is.bytes ∙ key-length p.kind c p.sequence.0 in
    rw (← is.bytes) at (wrote-packet (marker_of p.kind) c p.sequence.0 out x out₁ (rw same at f) (rw same at g) p.kind refl is.accepted (omega arith))

pub one_key : (j m : ℕ) (c d : List ℕ) (n p : ℕ) → n < 2 ^ 64 → p < 2 ^ 64 → (h k : PacketKind) → marker_of h ≡ j → marker_of k ≡ m → packet_key h c n ≡ packet_key k d p → (j ≡ m) × (c ≡ d) × (n ≡ p)
one_key j m c d n p a b h k s t e = let w = key_one h k c d n p a b e in (sym s ∙ ap marker_of w.0 ∙ t, w.1, w.2)

-- ---- a key is no path, and no book takes it
module _ (key : List ℕ) (k : PacketKind) (c : List ℕ) (n : ℕ) (is : IsPacket key k c n) where
  pub unread-key : read_path key ≡ Err (cond (ascii key) NotAPath NotAscii)
  unread-key = rw is.bytes (no_path k c n is.accepted)

  pub declined-key : (a : Call) → a.text ≡ key → Declined a (cond (is_owner a.owner) (cond (ascii key) 3 2) 23)
  declined-key a t = whose (is_owner a.owner) refl
    where
      short : length a.text ≤ 4096
      short = rw (t, is.bytes) (short-key k c n is.accepted)

      go : is_owner a.owner ≡ true → (v : Bool) → ascii key ≡ v → Declined a (cond v 3 2)
      go w false z = not_ascii_when w short (ap ascii t ∙ z)
      go w true z =
          let why : why_not a.text ≡ NotAPath = rw (t, is.bytes) (no_number k c n is.accepted) in
          subst (Declined a) (ap refusal_of why) (not_a_path_when w short (ap ascii t ∙ z) (rw (t, is.bytes) (no-kind-fits k c n is.accepted)))

      whose : (v : Bool) → is_owner a.owner ≡ v → Declined a (cond v (cond (ascii key) 3 2) 23)
      whose true w = go w (ascii key) refl
      whose false w = bad_owner_when w

module _ (key : List ℕ) (b : Bytes key) (y : Packet) (e : y ≡ packet_of (packet_in key)) (z : y.refusal ≡ 0) where
  pub unread-fault : (room : ℕ) → read_fault key room ≡ record { refusal = cond (ascii key) 3 2; place = 0 }
  unfolding read_fault reading_bytes answer
  unread-fault room =
      let r = packet-read key b y e z in
      rw (unread-key key r.0.kind (take r.0.length key) r.0.sequence.0 (is-packet key b y e r.0 r.1)) (go (ascii key))
    where
      go : (v : Bool) → ◌≡◌ {A = Fault} (record { refusal = refusal_of (cond v NotAPath NotAscii); place = place_of (cond v NotAPath NotAscii) }) (record { refusal = cond v 3 2; place = 0 })
      go true = refl
      go false = refl

  pub declined : (a : Call) → a.text ≡ key → (book : List ℕ) (s : Seen) (book₁ : List ℕ) → Does book a s book₁ → ProperBook book → s.number ≡ cond (is_owner a.owner) (cond (ascii key) 3 2) 23
  declined a t book s book₁ did proper =
      let r = packet-read key b y e z in
      let d = declined-key key r.0.kind (take r.0.length key) r.0.sequence.0 (is-packet key b y e r.0 r.1) a t in
      (refused_exactly book a s book₁ (permits book a s book₁ did) (cond (is_owner a.owner) (cond (ascii key) 3 2) 23) (nonzero (is_owner a.owner) (ascii key))).1 (refusals.declined proper d)
    where
      nonzero : (w v : Bool) → ◌≡◌ {A = ℕ} (cond w (cond v 3 2) 23) 0 → ⊥
      nonzero false v q = omega (arith, q)
      nonzero true true q = omega (arith, q)
      nonzero true false q = omega (arith, q)

-- ---- demand 1
read-listed : (key : List ℕ) → Listed packet_reads (packet_of (packet_in key)).refusal
unfolding packet_in
read-listed key = go (ltb (length key) 9) (kind_marked (marker_in key))
  where
    checks : Listed packet_reads (check_of client (client_in key))
    checks = plain_of (Listed packet_reads) refl refl refl refl 9 64 (client_in key)

    go : (v : Bool) (x : Option PacketKind) → Listed packet_reads (packet_of (cond v (Err 24) (read_as x key))).refusal
    go true x = refl
    go false None = refl
    go false (Some k) = rw (marked-number key k) checks

zeros : (x : Result PacketKey ℕ) → ((packet_of x).refusal ≡ 0 → ⊥) → AllZero ((packet_of x).kind ∷ (packet_of x).length ∷ (packet_of x).sequence ∷ [])
zeros (Ok p) h = absurd (h refl)
zeros (Err n) h = (refl, (refl, (refl, tt)))

pub packet_wants : (m : ℕ) (c : List ℕ) (n : ℕ) → Wants packet_writes (packet_wanted m c n)
unfolding packet_wanted
packet_wants m c n = go (kind_marked m)
  where
    go : (x : Option PacketKind) → Wants packet_writes (write_as x c n)
    go None = refl
    go (Some k) = accepted_wants packet_writes (check_of client c) (packet_key k c n) (plain_of (Listed packet_writes) refl refl refl refl 9 64 c)

-- a call that answers what a packet key says and is lent nothing to write
module _ {L : Type 0} {A R S : L → Type 0} {Pre : (κs : L) → A κs → Type 0} {Post : (κs : L) → A κs → R κs → S κs → Type 0} where
  pub packets : ((κs : L) (a : A κs) → Pre κs a) → (given : (κs : L) → R κs → Packet) (key : (κs : L) → A κs → List ℕ)
      → ((κs : L) (a : A κs) (r : R κs) (s : S κs) → Post κs a r s → given κs r ≡ packet_of (packet_in (key κs a)))
      → Demand1 Pre Post packet_reads (λ κs r. (given κs r).refusal) (λ κs r. (given κs r).kind ∷ (given κs r).length ∷ (given κs r).sequence ∷ []) (λ κs a. []) (λ κs s. [])
  packets accepts given key says =
      record {
        accepts = accepts;
        numbered = λ κs a r s p. subst (λ (x : Packet). Listed packet_reads x.refusal) (sym (says κs a r s p)) (read-listed (key κs a));
        nothing_else = λ κs a r s p. subst (λ (x : Packet). (x.refusal ≡ 0 → ⊥) → AllZero (x.kind ∷ x.length ∷ x.sequence ∷ [])) (sym (says κs a r s p)) (zeros (packet_in (key κs a)));
        keeps = λ κs a r s p h. refl;
      }
