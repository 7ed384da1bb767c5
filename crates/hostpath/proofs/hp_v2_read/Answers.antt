use mathlib.Core.Path.{ap, ◌∙◌}
use Rattle.packet.specs.Key.{packet_of}
use Rattle.hostpath.proofs.hp_v2_read.Goals as goal

pub returns : goal.returns
returns c = c.packet_of.ensures ∙ ap packet_of c.read_packet_key.ensures
