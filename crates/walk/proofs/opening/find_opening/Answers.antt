-- `find_opening` meets its contract.
use mathlib.Core.Path.{sym, ◌∙◌}
use Rattle.walk.specs.OpeningLaws.{opens_11, opens_15, opens_16, opens_17, no-head}
use Rattle.walk.proofs.opening.find_opening.Goals as goal

pub returns-then-is_head_channel_ends : goal.returns-then-is_head_channel_ends
returns-then-is_head_channel_ends c = opens_11 c.args.text.now (sym c.is_head_channel_ends.ensures ∙ c.if-is_head_channel_ends.true) _ c.is_channel_ends.ensures _ c.then_some.ensures

pub returns-then-is_head_commitments : goal.returns-then-is_head_commitments
returns-then-is_head_commitments c = opens_15 c.args.text.now (sym c.is_head_commitments.ensures ∙ c.if-is_head_commitments.true) _ c.is_commitments.ensures _ c.then_some-then-is_head_commitments.ensures

pub returns-then-is_head_acks : goal.returns-then-is_head_acks
returns-then-is_head_acks c = opens_16 c.args.text.now (sym c.is_head_acks.ensures ∙ c.if-is_head_acks.true) _ c.is_acks.ensures _ c.then_some-then-is_head_acks.ensures

pub returns-then-is_head_receipts : goal.returns-then-is_head_receipts
returns-then-is_head_receipts c = opens_17 c.args.text.now (sym c.is_head_receipts.ensures ∙ c.if-is_head_receipts.true) _ c.is_receipts.ensures _ c.then_some-then-is_head_receipts.ensures

pub next_sequence-requires : goal.next_sequence-requires
next_sequence-requires c = sym c.is_head_next_sequence.ensures ∙ c.if-is_head_next_sequence.true

pub returns-then-is_head_next_sequence : goal.returns-then-is_head_next_sequence
returns-then-is_head_next_sequence c = c.next_sequence.ensures

pub returns : goal.returns
returns c =
    let head-1 = sym c.is_head_channel_ends.ensures ∙ c.if-is_head_channel_ends.false in
    let head-2 = sym c.is_head_commitments.ensures ∙ c.if-is_head_commitments.false in
    let head-3 = sym c.is_head_acks.ensures ∙ c.if-is_head_acks.false in
    let head-4 = sym c.is_head_receipts.ensures ∙ c.if-is_head_receipts.false in
    let head-5 = sym c.is_head_next_sequence.ensures ∙ c.if-is_head_next_sequence.false in
    no-head c.args.text.now (head-1, (head-2, (head-3, (head-4, (head-5, tt)))))
