-- `packet::write_kind` meets its contract.
use native.Mathlib.Omega.{arith}
use Rattle.text.specs.PutLaws.{gives-refusal, gives_same, gives-short, gives-text}
use Rattle.std.specs.Prelude.{Some}
use Rattle.packet.specs.Key.{packet_key, write_as}
use Rattle.packet.specs.KeyLaws.{key-length}
use Rattle.packet.specs.WayLaws.{kind-refused, kind-text}
use Rattle.packet.proofs.write_kind.Goals as goal

pub returns-then-refusal-ne0 : goal.returns-then-refusal-ne0
returns-then-refusal-ne0 c =
    let p = gives-refusal (write_as (Some c.args.kind) c.args.client.now c.args.sequence.0) c.args.out.now _ (kind-refused c.args.kind c.args.client.now c.args.sequence.0 _ c.validate_client_identifier-refusal.ensures c.if-refusal-ne0.true) in record { value = p.0; out_after = p.1 }

pub returns-then-out-client : goal.returns-then-out-client
returns-then-out-client c =
    let w = kind-text c.args.kind c.args.client.now c.args.sequence.0 _ c.validate_client_identifier-refusal.ensures c.if-refusal-ne0.false in
    let p = gives_same (write_as (Some c.args.kind) c.args.client.now c.args.sequence.0) c.args.out.now w (gives-short (packet_key c.args.kind c.args.client.now c.args.sequence.0) c.args.out.now (omega (arith, key-length c.args.kind c.args.client.now c.args.sequence.0))) in record { value = p.0; out_after = p.1 }

pub returns : goal.returns
returns c =
    let w = kind-text c.args.kind c.args.client.now c.args.sequence.0 _ c.validate_client_identifier-refusal.ensures c.if-refusal-ne0.false in
    let p = gives_same (write_as (Some c.args.kind) c.args.client.now c.args.sequence.0) c.args.out.now w (gives-text (packet_key c.args.kind c.args.client.now c.args.sequence.0) c.args.out.now c.put_key-end.ensures) in record { value = p.0; out_after = p.1 }
