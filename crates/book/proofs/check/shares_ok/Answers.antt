-- `book::check::shares_ok` meets its contract.
use Rattle.book.specs.CheckWayLaws.{shares-one, shares-two, shares-three}
use Rattle.book.proofs.check.shares_ok.Goals as goal

pub returns-in-One : goal.returns-in-One
returns-in-One c = shares-one c.args.version c.args.book.now c.in-One.is c.args.n c.args.first

pub returns-in-Two : goal.returns-in-Two
returns-in-Two c = shares-two c.args.version c.args.book.now c.in-Two.is c.args.n c.args.first

pub returns-in-Three : goal.returns-in-Three
returns-in-Three c = shares-three c.args.version c.args.book.now c.in-Three.is c.args.n c.args.first _ _ c.quotas_of.ensures.0 c.shares_fit.ensures
