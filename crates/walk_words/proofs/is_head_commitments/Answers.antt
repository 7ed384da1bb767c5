-- `is_head_commitments` meets its contract.

use Rattle.walk_words.proofs.is_head_commitments.Goals as goal

pub returns : goal.returns
returns c = c.word8.ensures
