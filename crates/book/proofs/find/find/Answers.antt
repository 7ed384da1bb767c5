-- `book::find::find` meets its contract.
use Rattle.std.proofs.Common.{arith}
use Rattle.book.specs.Book.{Current}
use Rattle.book.specs.BookLaws.{lawful, sizes}
use Rattle.book.proofs.find.find.Goals as goal

pub overflow_mul-p : goal.overflow_mul-p
overflow_mul-p c = let z = sizes Current lawful _ _ c.requires in omega (arith, z.most)

pub overflow_add-p : goal.overflow_add-p
overflow_add-p c = let z = sizes Current lawful _ _ c.requires in omega (arith, z.most)

pub compare_key-requires : goal.compare_key-requires
compare_key-requires c = let z = sizes Current lawful _ _ c.requires in omega (arith, z.used)
