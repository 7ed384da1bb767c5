-- Packet keys of IBC version 2, request L11, over the calls that people make: `hp_v2_read` and `hp_v2_write`. A text that is lent holds bytes
-- (`Bytes`) and a sequence is a u64; when a call is not refused is said by `when-read` and `when-written`.
-- Assumes nothing.
use Rattle.std.specs.Prelude.{ℕ, ◌+◌, ◌≤◌, ◌<◌, ◌^◌, ◌≡◌, ◌↔◌, cond, List, length, take}
use Rattle.std.proofs.Common.{sym, ap, ◌∙◌}
use Rattle.text.specs.declared.Fault.{Fault}
use Rattle.text.specs.declared.Written.{Written}
use Rattle.text.specs.Number.{Bytes}
use Rattle.text.specs.Part.{ascii}
use Rattle.text.specs.Refusal.{not_ascii, not_a_path, bad_owner}
use Rattle.identifiers.specs.Check.{check_of, client}
use Rattle.book_records.specs.Act.{Seen}
use Rattle.book_records.specs.Calls.{Call, is_owner}
use Rattle.packet.specs.declared.Packet.{Packet}
use Rattle.packet.specs.declared.PacketKind.{PacketKind}
use Rattle.packet.specs.Key.{marker_of, packet_key}
use Rattle.demands.specs.BookCalls.{Does}
use Rattle.demands.specs.Held.{ProperBook}
use Rattle.demands.specs.PacketCalls.{V2ReadCall, V2WriteCall, reading_packet, writing_packet}
use Rattle.demands.specs.Packeted.{WhenV2Read, WhenV2Written, IsPacket, Says}
use Rattle.demands.specs.PathCalls.{ReadCall, reading}
use Rattle.demands.specs.Written.{Done}
use Rattle.demands.specs.PacketLaws as laws

-- ---- "24 BAD_V2_KEY for too short or an unknown marker, then the client checks; the writer: 24 for an unknown kind, client checks, 4": each
-- exactly when, and 0 where there is no refusal
pub when_read : (key : List ℕ) (y : Packet) → V2ReadCall key y → WhenV2Read key y.refusal
when_read key y call = laws.when_read key y.refusal (ap (λ (p : Packet). p.refusal) (reading_packet call))

module _ (m : ℕ) (c : List ℕ) (n : ℕ) (out : List ℕ) (x : Written) (out₁ : List ℕ) (call : V2WriteCall m c n out x out₁) where
  pub when_written : WhenV2Written m c (length out) x.refusal
  when_written = laws.when_written m c n (length out) x (writing_packet call).0

  -- "under a client identifier, one marker byte, and a sequence of 8 bytes, high byte first"
  pub writes : (k : PacketKind) → marker_of k ≡ m → check_of client c ≡ 0 → length c + 9 ≤ length out → Done (packet_key k c n) x out₁
  writes = laws.wrote-packet m c n out x out₁ (writing_packet call).0 (writing_packet call).1

-- ---- "Key to parts and back must agree both ways, proved once over the three kinds": a reading says this kind, client and sequence exactly
-- when the key is what is written of them
pub reads : (key : List ℕ) → Bytes key → (y : Packet) → V2ReadCall key y → (k : PacketKind) (c : List ℕ) (n : ℕ) → IsPacket key k c n ↔ Says key y k c n
reads key b y call = laws.says key b y (reading_packet call)

-- what was written is read ..
pub read_undoes_write : (m : ℕ) (c : List ℕ) (n : ℕ) → n < 2 ^ 64 → (out : List ℕ) (x : Written) (out₁ : List ℕ) → V2WriteCall m c n out x out₁ → x.refusal ≡ 0
    → (y : Packet) → V2ReadCall (take x.length out₁) y → (y.refusal ≡ 0) × (y.kind ≡ m) × (take y.length (take x.length out₁) ≡ c) × (y.sequence ≡ n)
read_undoes_write m c n small out x out₁ wrote z y read = laws.read_back m c n small out x out₁ (writing_packet wrote).0 (writing_packet wrote).1 z y (reading_packet read)

-- .. and what was read is written
pub write_undoes_read : (key : List ℕ) → Bytes key → (y : Packet) → V2ReadCall key y → y.refusal ≡ 0
    → (out : List ℕ) (x : Written) (out₁ : List ℕ) → V2WriteCall y.kind (take y.length key) y.sequence out x out₁ → length key ≤ length out → Done key x out₁
write_undoes_read key b y read z out x out₁ wrote room = laws.write-back key b y (reading_packet read) z out x out₁ (writing_packet wrote).0 (writing_packet wrote).1 room

-- no two different parts give one key
pub one_key : (j m : ℕ) (c d : List ℕ) (n p : ℕ) → n < 2 ^ 64 → p < 2 ^ 64 → (o u : List ℕ) (x y : Written) (o₁ u₁ : List ℕ) → V2WriteCall j c n o x o₁ → V2WriteCall m d p u y u₁
    → x.refusal ≡ 0 → y.refusal ≡ 0 → take x.length o₁ ≡ take y.length u₁ → (j ≡ m) × (c ≡ d) × (n ≡ p)
one_key j m c d n p a b o u x y o₁ u₁ one two v w e =
    let s = laws.written-done j c n o x o₁ (writing_packet one).0 (writing_packet one).1 v in
    let t = laws.written-done m d p u y u₁ (writing_packet two).0 (writing_packet two).1 w in
    laws.one_key j m c d n p a b s.0 t.0 s.1 t.1 (sym s.3.shown ∙ e ∙ t.3.shown)

-- ---- "These keys stay outside the book": none of them is a path, and every call of a book on one is refused, as on any such text. Of an
-- owner 2 where a byte of its sequence is 128 or more, and else 3
module _ (key : List ℕ) (b : Bytes key) (y : Packet) (read : V2ReadCall key y) (z : y.refusal ≡ 0) where
  pub no_path : (out : List ℕ) (f : Fault) (out₁ : List ℕ) → ReadCall key out f out₁ → f ≡ record { refusal = cond (ascii key) not_a_path not_ascii; place = 0 }
  no_path out f out₁ call = (reading call).0 ∙ laws.unread-fault key b y (reading_packet read) z (length out)

  pub no_book_takes_it : (a : Call) → a.text ≡ key → (book : List ℕ) (s : Seen) (book₁ : List ℕ) → Does book a s book₁ → ProperBook book → s.number ≡ cond (is_owner a.owner) (cond (ascii key) not_a_path not_ascii) bad_owner
  no_book_takes_it a t book s book₁ did proper = laws.declined key b y (reading_packet read) z a t book s book₁ did proper
