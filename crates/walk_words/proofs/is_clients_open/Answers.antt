-- `is_clients_open` meets its contract.

use Rattle.walk_words.proofs.is_clients_open.Goals as goal

pub returns : goal.returns
returns c = c.word8.ensures
