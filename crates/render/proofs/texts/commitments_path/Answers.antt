use mathlib.Core.Path.{refl}
use Rattle.text.specs.Bytes.{bytes}
use Rattle.text.specs.PutLaws.{gives_same}
use Rattle.path.specs.Kinds.{carried}
use Rattle.path.specs.Parents.{text_of, packets_path}
use Rattle.render.specs.ParentLaws.{packets-wanted}
use Rattle.render.proofs.texts.commitments_path.Goals as goal

pub returns : goal.returns
returns c =
    let v = carried c.args.port.now c.args.channel.now 0 0 in
    let p = gives_same (text_of (packets_path (bytes "commitments")) v) c.args.out.now (packets-wanted v (bytes "commitments") (bytes "commitments/ports/") refl) (c.checked_packets.ensures.value, c.checked_packets.ensures.out_after) in record { value = p.0; out_after = p.1 }
