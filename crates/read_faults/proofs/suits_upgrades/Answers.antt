-- `fault::suits_upgrades` meets its contract.
use lib.Dec.{lit<}
use borrow.Author.Tests.{eq-eqb, ne_eqb}
use Rattle.read_pieces.specs.CutLaws.{cut-components}
use Rattle.read_faults.specs.FaultLaws.{upgrades-by}
use Rattle.read_faults.proofs.suits_upgrades.Goals as goal

pub returns-then-name_fault-ne0 : goal.returns-then-name_fault-ne0
returns-then-name_fault-ne0 c =
    let n = cut-components _ _ 3 c.args.text.is_cut c.requires (lit< tt) in
    rw (upgrades-by _ n, ← c.component.ensures.bytes, ← c.name_fault.ensures, ne_eqb _ 0 c.if-name_fault-ne0.true)

pub returns-then-is_word : goal.returns-then-is_word
returns-then-is_word c =
    let n = cut-components _ _ 3 c.args.text.is_cut c.requires (lit< tt) in
    rw (upgrades-by _ n, ← c.component.ensures.bytes, ← c.name_fault.ensures, eq-eqb _ 0 c.if-name_fault-ne0.false, ← c.is_word.ensures, c.if-is_word.true)

pub returns : goal.returns
returns c =
    let n = cut-components _ _ 3 c.args.text.is_cut c.requires (lit< tt) in
    rw (upgrades-by _ n, ← c.component.ensures.bytes, ← c.name_fault.ensures, eq-eqb _ 0 c.if-name_fault-ne0.false, ← c.is_word.ensures, c.if-is_word.false) c.is_word-2.ensures
