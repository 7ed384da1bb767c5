-- `word_kind` meets its contract.
use mathlib.Core.Path.{sym, ◌∙◌}
use Rattle.walk_families.specs.ClientLaws.{word-long, word-state, word-links}
use Rattle.walk_families.proofs.client.word_kind.Goals as goal

pub returns-then-text-e-ne12 : goal.returns-then-text-e-ne12
returns-then-text-e-ne12 c = word-long c.args.text.now c.args.e c.requires c.if-text-e-ne12.true

pub returns-then-is_client_state : goal.returns-then-is_client_state
returns-then-is_client_state c = word-state c.args.text.now c.args.e c.requires c.if-text-e-ne12.false (sym c.is_client_state.ensures ∙ c.if-is_client_state.true)

pub returns : goal.returns
returns c = word-links c.args.text.now c.args.e c.requires c.if-text-e-ne12.false (sym c.is_client_state.ensures ∙ c.if-is_client_state.false) _ c.is_client_connections.ensures _ c.then_some.ensures
