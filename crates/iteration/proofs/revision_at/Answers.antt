-- `iteration::revision_at` meets its contract.

use Rattle.iteration.proofs.revision_at.Goals as goal

pub returns : goal.returns
returns c = rw (c.read_big_endian.ensures, c.read_big_endian-2.ensures)
