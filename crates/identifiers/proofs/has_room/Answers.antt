-- `identifiers::has_room` meets its contract.
use Rattle.std.proofs.Common.{◌+◌, arith}
use borrow.Author.Tests.{lt-ltb}
use Rattle.text.specs.Number.{width}
use Rattle.text.specs.NumberLaws.{width_u64}
use Rattle.identifiers.proofs.has_room.Goals as goal

pub returns-then-left-gt20 : goal.returns-then-left-gt20
returns-then-left-gt20 c =
    let most = width_u64 c.args.index (omega arith) in
    rw (lt-ltb 20 _ c.if-left-gt20.true, lt-ltb (c.args.name + width c.args.index) c.args.room (omega arith))
