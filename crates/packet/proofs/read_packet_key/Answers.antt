-- `packet::read_packet_key` meets its contract.
use Rattle.packet.specs.WayLaws.{read_short, read-unknown, read-refused, read-key}
use Rattle.packet.proofs.read_packet_key.Goals as goal

pub returns-then-key-lt9 : goal.returns-then-key-lt9
returns-then-key-lt9 c = read_short c.args.key.now c.if-key-lt9.true

pub returns-in_default : goal.returns-in_default
returns-in_default c =
    read-unknown c.args.key.now c.if-key-lt9.false _ c.kind_marked.ensures c.in_default.is

pub returns-then-refusal-ne0 : goal.returns-then-refusal-ne0
returns-then-refusal-ne0 c =
    read-refused c.args.key.now c.if-key-lt9.false _ c.kind_marked.ensures _ c.in-Some.is _ c.validate_client_identifier-refusal.ensures c.if-refusal-ne0.true

pub returns : goal.returns
returns c =
    read-key c.args.key.now c.if-key-lt9.false _ c.kind_marked.ensures _ c.in-Some.is _ c.validate_client_identifier-refusal.ensures c.if-refusal-ne0.false _ c.read_big_endian.ensures
