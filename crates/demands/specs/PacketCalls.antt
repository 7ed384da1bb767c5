-- One call of `hp_v2_read` and `hp_v2_write`: its arguments, its answer, and its buffer before and after, by name. What each ensures is its
-- contract as the source has it.
-- Assumes nothing.
use Rattle.std.specs.Prelude.{◌≡◌, List, ℕ, length}
use contract.Lifetimes.{Lfts}
use borrow.Fn.World.{ArgsD, ResD}
use borrow.Fn.Kinds.{ended_of}
use denote.Triple.Clauses.{AtExit}
use Rattle.text.specs.declared.Written.{Written}
use Rattle.text.specs.Put.{answer, left}
use Rattle.packet.specs.declared.Packet.{Packet}
use Rattle.packet.specs.Key.{packet_in, packet_of, packet_wanted}
use Rattle.hostpath.specs.contracts.hp_v2_read as r
use Rattle.hostpath.proofs.hp_v2_read.Kinds as rk
use Rattle.hostpath.proofs.hp_v2_read.Reads as rr
use Rattle.hostpath.specs.contracts.hp_v2_write as w
use Rattle.hostpath.proofs.hp_v2_write.Kinds as wk
use Rattle.hostpath.proofs.hp_v2_write.Reads as wr

pub record V2ReadCall (key : List ℕ) (y : Packet) : Type 0 where
  pub lifetimes : Lfts 1
  pub args : ArgsD r.signature lifetimes
  pub result : ResD r.signature lifetimes
  pub exits : AtExit (ended_of 1 rk.ps rk.r) lifetimes
  pub key_in : args.0.now ≡ key
  pub packet_out : result ≡ y
  pub ensures : rr.Post lifetimes args result exits

pub record V2WriteCall (kind : ℕ) (client : List ℕ) (sequence : ℕ) (out : List ℕ) (x : Written) (out₁ : List ℕ) : Type 0 where
  pub lifetimes : Lfts 2
  pub args : ArgsD w.signature lifetimes
  pub result : ResD w.signature lifetimes
  pub exits : AtExit (ended_of 2 wk.ps wk.r) lifetimes
  pub kind_in : args.0 ≡ kind
  pub client_in : args.1.0.now ≡ client
  pub sequence_in : args.1.1.0 ≡ sequence
  pub out_in : args.1.1.1.0.now ≡ out
  pub answer_out : result ≡ x
  pub out_out : exits.1.1.1.0.now ≡ out₁
  pub ensures : wr.Post lifetimes args result exits

-- ---- what they ensure, in those names
pub reading_packet : {key : List ℕ} {y : Packet} → V2ReadCall key y → y ≡ packet_of (packet_in key)
reading_packet x =
    let p : x.result ≡ packet_of (packet_in x.args.0.now) = x.ensures in
    rw (x.key_in, x.packet_out) at p

pub writing_packet : {kind : ℕ} {client : List ℕ} {sequence : ℕ} {out : List ℕ} {y : Written} {out₁ : List ℕ} → V2WriteCall kind client sequence out y out₁
    → (y ≡ answer (packet_wanted kind client sequence) (length out)) × (out₁ ≡ left (packet_wanted kind client sequence) out)
writing_packet x =
    let g = x.args in
    let v = packet_wanted g.0 g.1.0.now g.1.1.0 in
    let p : (x.result ≡ answer v (length g.1.1.1.0.now)) × (x.exits.1.1.1.0.now ≡ left v g.1.1.1.0.now) = x.ensures in
    rw (x.kind_in, x.client_in, x.sequence_in, x.out_in, x.answer_out, x.out_out) at p
