-- `identifiers::validate::all_common` meets its contract.
use Rattle.std.proofs.Common.{◌∙◌, ◌-◌, arith, length}
use Rattle.text.specs.PartLaws.{run-last}
use Rattle.identifiers.specs.Check.{identifier_byte}
use Rattle.identifiers.proofs.validate.all_common.Goals as goal

pub returns-then-none_rare : goal.returns-then-none_rare
returns-then-none_rare c =
    let last = length c.args.id.now - 8 in
    λ z. run-last identifier_byte _ last (length c.args.id.now - last) 8 (omega arith) (omega arith) (c.none_rare.ensures c.if-none_rare.true) ∙ c.none_rare-then-none_rare.ensures z
