-- `encode::write_bytes` meets its contract.
use Rattle.text.specs.PutLaws.{both}
use Rattle.reading.specs.EncodeLaws.{wrote-view}
use Rattle.reading.proofs.encode.write_bytes.Goals as goal

pub returns : goal.returns
returns c = wrote-view _ (both (rw c.mark.ensures at c.write_head-next.ensures) c.write_carried.ensures)
