use Rattle.text.specs.PutLaws.{both}
use Rattle.writers.proofs.parents.write_consensus_leaf.Goals as goal

pub returns : goal.returns
returns c = both c.put_text-next.ensures c.write_revision.ensures
