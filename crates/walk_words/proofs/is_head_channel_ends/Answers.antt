-- `is_head_channel_ends` meets its contract.

use Rattle.walk_words.proofs.is_head_channel_ends.Goals as goal

pub returns : goal.returns
returns c = c.word8.ensures
