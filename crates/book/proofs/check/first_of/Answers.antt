-- `book::check::first_of` meets its contract.
use Rattle.book.specs.CheckWayLaws.{parted-one, parted-two, parted-three}
use Rattle.book.proofs.check.first_of.Goals as goal

pub first_count-requires : goal.first_count-requires
first_count-requires c = record {
  n_bound = rw c.in-Three.is at c.requires.n_bound;
  slots_good = rw c.in-Three.is at c.requires.slots_good;
}

pub returns-in-One : goal.returns-in-One
returns-in-One c = parted-one c.args.version c.args.book.now c.in-One.is c.args.n

pub returns-in-Two : goal.returns-in-Two
returns-in-Two c = parted-two c.args.version c.args.book.now c.in-Two.is c.args.n

pub returns-in-Three : goal.returns-in-Three
returns-in-Three c = parted-three c.args.version c.args.book.now c.in-Three.is c.args.n _ c.first_count.ensures
