-- `is_head_next_sequence` meets its contract.

use Rattle.walk_words.proofs.is_head_next_sequence.Goals as goal

pub returns : goal.returns
returns c = c.word8.ensures
