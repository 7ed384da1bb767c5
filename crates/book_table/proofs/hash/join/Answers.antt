-- `book_table::hash::join` meets its contract.
use Rattle.book_table.specs.HashLaws.{joined_is}
use Rattle.book_table.proofs.hash.join.Goals as goal

pub returns : goal.returns
returns c = joined_is _ _ _ _ c.from.ensures c.wrapping_mul_prime.ensures
