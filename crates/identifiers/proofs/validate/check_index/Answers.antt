-- `identifiers::validate::check_index` meets its contract.
use mathlib.Core.Path.{◌∙◌}
use Prim.Native.Nat.{◌-◌}
use native.Mathlib.Omega.{arith}
use lib.ListN.{length, take, drop}
use borrow.Author.Rules.{rules}
use Rattle.text.specs.PartLaws.{part-rest}
use Rattle.identifiers.specs.CheckLaws.{index_short, index-other}
use Rattle.identifiers.specs.FaultLaws.{index-refused, index-answers, index-room}
use Rattle.identifiers.proofs.validate.check_index.Goals as goal
use Rattle.identifiers.proofs.validate.check_index.Goals.{then-index-gt1+else-index-eq48, else-index-gt1}

pub returns-then-index-eq48 : goal.returns-then-index-eq48
returns-then-index-eq48 c =
    c.placeless.ensures ∙ index-refused c.args.id.now _ c.args.start (part-rest c.args.start c.args.id.now) (search rules) c.if-index-eq48.true

pub numeral_fault-requires : goal.numeral_fault-requires
numeral_fault-requires c =
    index-room c.args.id.now _ c.args.start (part-rest c.args.start c.args.id.now) _ c.read_number.ensures c.requires (search rules)

pub returns : goal.returns
returns c =
    let d = take (length c.args.id.now - c.args.start) (drop c.args.start c.args.id.now) in
    c.numeral_fault.ensures
    ∙ index-answers c.args.id.now d c.args.start (part-rest c.args.start c.args.id.now) _ c.read_number.ensures (elim c.if-index-gt1.branch [ then-index-gt1+else-index-eq48 w ↦ index-other d (omega arith) w.if-index-eq48.false | else-index-gt1 w ↦ index_short d (omega arith) ])
