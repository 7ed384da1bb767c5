-- `by_word` meets its contract.
use mathlib.Core.Path.{sym, ◌∙◌}
use Rattle.walk.specs.ArmLaws.{is-client, is-other}
use Rattle.walk.proofs.dispatch.by_word.Goals as goal

pub client-requires : goal.client-requires
client-requires c = sym c.is_clients_open.ensures ∙ c.if-is_clients_open.true

pub returns-then-is_clients_open : goal.returns-then-is_clients_open
returns-then-is_clients_open c = is-client c.args.text.now c.client.result (sym c.is_clients_open.ensures ∙ c.if-is_clients_open.true) c.client.ensures

pub after_ports-requires : goal.after_ports-requires
after_ports-requires c = c.in-Some.ensures.within

pub returns-in-Some : goal.returns-in-Some
returns-in-Some c = c.in-Some.ensures.decides c.after_ports.result c.after_ports.ensures

pub connections-requires : goal.connections-requires
connections-requires c = sym c.is_head_connections.ensures ∙ c.if-is_head_connections.true

pub returns-then-is_head_connections : goal.returns-then-is_head_connections
returns-then-is_head_connections c = c.connections.ensures

pub returns : goal.returns
returns c =
    let clients = sym c.is_clients_open.ensures ∙ c.if-is_clients_open.false in
    let connections = sym c.is_head_connections.ensures ∙ c.if-is_head_connections.false in
    is-other c.args.text.now c.ports.result (clients, (connections, c.in_default.ensures)) c.ports.ensures
