-- `wide::rendering::acks_path` meets its contract.
use mathlib.Core.Path.{refl}
use Rattle.text.specs.Bytes.{bytes}
use Rattle.text.specs.PutLaws.{gives_same}
use Rattle.path.specs.Kinds.{carried}
use Rattle.path.specs.Parents.{packets_path}
use Rattle.wide.specs.Mode.{wide}
use Rattle.wide.specs.Render.{text_in}
use Rattle.wide.specs.StepLaws.{packets-wanted}
use Rattle.wide.proofs.rendering.acks_path.Goals as goal

pub returns : goal.returns
returns c =
    let v = carried c.args.port.now c.args.channel.now 0 0 in
    let p = gives_same (text_in wide (packets_path (bytes "acks")) v) c.args.out.now (packets-wanted wide v (bytes "acks") (bytes "acks/ports/") refl) (c.checked_packets.ensures.value, c.checked_packets.ensures.out_after) in record { value = p.0; out_after = p.1 }
