-- `packet::write_packet_key` meets its contract.
use Rattle.text.specs.PutLaws.{gives-refusal, gives_same}
use Rattle.packet.specs.Key.{packet_wanted}
use Rattle.packet.specs.WayLaws.{write-unknown, write_known}
use Rattle.packet.proofs.write_packet_key.Goals as goal

pub returns-in_default : goal.returns-in_default
returns-in_default c =
    let p = gives-refusal (packet_wanted c.args.kind c.args.client.now c.args.sequence.0) c.args.out.now 24 (write-unknown _ _ _ _ c.kind_marked.ensures c.in_default.is) in record { value = p.0; out_after = p.1 }

pub returns : goal.returns
returns c =
    let w = write_known c.args.kind c.args.client.now c.args.sequence.0 _ c.kind_marked.ensures _ c.in-Some.is in
    let p = gives_same (packet_wanted c.args.kind c.args.client.now c.args.sequence.0) c.args.out.now w (c.write_kind.ensures.value, c.write_kind.ensures.out_after) in record { value = p.0; out_after = p.1 }
