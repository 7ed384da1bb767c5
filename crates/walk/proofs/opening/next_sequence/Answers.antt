-- `next_sequence` meets its contract.
use mathlib.Core.Path.{sym, ◌∙◌}
use Rattle.walk.specs.OpeningLaws.{opens_12, opens_13, opens_14}
use Rattle.walk.proofs.opening.next_sequence.Goals as goal

pub returns-then-is_next_sequence_send : goal.returns-then-is_next_sequence_send
returns-then-is_next_sequence_send c = opens_12 c.args.text.now (sym c.is_next_sequence_send.ensures ∙ c.if-is_next_sequence_send.true)

pub returns-then-is_next_sequence_recv : goal.returns-then-is_next_sequence_recv
returns-then-is_next_sequence_recv c = opens_13 c.args.text.now (sym c.is_next_sequence_recv.ensures ∙ c.if-is_next_sequence_recv.true)

pub returns : goal.returns
returns c =
    let send = sym c.is_next_sequence_send.ensures ∙ c.if-is_next_sequence_send.false in
    let recv = sym c.is_next_sequence_recv.ensures ∙ c.if-is_next_sequence_recv.false in
    opens_14 c.args.text.now c.requires send recv _ c.is_next_sequence_ack.ensures _ c.then_some.ensures
