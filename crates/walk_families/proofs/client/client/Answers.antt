-- `client` meets its contract.
use Prim.Native.Nat.{◌+◌}
use mathlib.Core.Path.{sym, ap, ◌∙◌}
use Rattle.std.specs.Prelude.{Some}
use Rattle.path.specs.declared.PathView.{PathView}
use Rattle.text.specs.Bytes.{bytes}
use Rattle.walk_scan.specs.WordLaws.{starts-room, word_room}
use Rattle.walk_families.specs.ClientLaws.{client-none, client-word, client-other, client-states}
use Rattle.walk_families.proofs.client.client.Goals as goal

pub plain_length-requires : goal.plain_length-requires
plain_length-requires c = starts-room (bytes "clients/") c.args.text.now c.requires

pub returns-in_err-len : goal.returns-in_err-len
returns-in_err-len c = c.from_residual.ensures ∙ client-none c.args.text.now c.requires (sym c.in_err-len.was ∙ c.plain_length.ensures.1)

pub returns-in-Some : goal.returns-in-Some
returns-in-Some c = ap (λ (v : PathView). Some v) c.bare.ensures ∙ client-word c.args.text.now c.requires c.in_ok-len.len c.in_ok-len.ensures.1 c.in-Some.kind c.in-Some.ensures

pub returns-then-not-is_consensus_states : goal.returns-then-not-is_consensus_states
returns-then-not-is_consensus_states c = client-other c.args.text.now c.requires c.in_ok-len.len c.in_ok-len.ensures.1 c.is_consensus_states.result c.is_consensus_states.ensures c.in_default.ensures c.if-not-is_consensus_states.true

pub consensus-requires : goal.consensus-requires
consensus-requires c =
    word_room (bytes "/consensusStates/") c.args.text.now (8 + c.in_ok-len.len) (sym c.is_consensus_states.ensures ∙ c.if-not-is_consensus_states.false) c.in_ok-len.ensures.0

pub returns : goal.returns
returns c = client-states c.args.text.now c.requires c.in_ok-len.len c.in_ok-len.ensures.1 c.is_consensus_states.result c.is_consensus_states.ensures c.in_default.ensures c.if-not-is_consensus_states.false c.consensus.result c.consensus.ensures
