-- `packet` meets its contract.
use Prim.Native.Nat.{◌+◌}
use mathlib.Core.Path.{sym, ◌∙◌}
use Rattle.text.specs.Bytes.{bytes}
use Rattle.walk_scan.specs.WordLaws.{word_room}
use Rattle.walk_families.specs.NameLaws.{packet-no-word, packet-no_number, packet-longer, packet-read}
use native.Mathlib.Omega.{arith}
use Rattle.walk_families.proofs.packet.packet.Goals as goal

pub returns-then-not-is_sequences : goal.returns-then-not-is_sequences
returns-then-not-is_sequences c = packet-no-word c.args.kind c.args.text.now c.args.at c.args.e c.requires c.is_sequences.result c.is_sequences.ensures c.if-not-is_sequences.true

pub overflow_add-end-2 : goal.overflow_add-end-2
overflow_add-end-2 c =
    let r = word_room (bytes "/sequences/") c.args.text.now (c.args.at + c.args.e.port + 10 + c.args.e.channel) (sym c.is_sequences.ensures ∙ c.if-not-is_sequences.false) c.requires.within in
    omega (arith, r)

pub number-requires : goal.number-requires
number-requires c =
    word_room (bytes "/sequences/") c.args.text.now (c.args.at + c.args.e.port + 10 + c.args.e.channel) (sym c.is_sequences.ensures ∙ c.if-not-is_sequences.false) c.requires.within

pub returns-in_err-n : goal.returns-in_err-n
returns-in_err-n c = c.from_residual.ensures ∙ packet-no_number c.args.kind c.args.text.now c.args.at c.args.e c.requires c.is_sequences.result c.is_sequences.ensures c.if-not-is_sequences.false (sym c.in_err-n.was ∙ c.number.ensures)

pub returns-then-n-text : goal.returns-then-n-text
returns-then-n-text c =
    let r = word_room (bytes "/sequences/") c.args.text.now (c.args.at + c.args.e.port + 10 + c.args.e.channel) (sym c.is_sequences.ensures ∙ c.if-not-is_sequences.false) c.requires.within in
    packet-longer c.args.kind c.args.text.now c.args.at c.args.e c.requires c.is_sequences.result c.is_sequences.ensures c.if-not-is_sequences.false c.in_ok-n.n c.in_ok-n.ensures r c.if-n-text.true

pub returns : goal.returns
returns c = packet-read c.args.kind c.args.text.now c.args.at c.args.e c.requires c.is_sequences.result c.is_sequences.ensures c.if-not-is_sequences.false c.in_ok-n.n c.in_ok-n.ensures c.if-n-text.false
