-- `iteration::block::first_above` meets its contract.
use mathlib.Core.Path.{sym, ap, ◌∙◌}
use Rattle.std.specs.Prelude.{Ok}
use Rattle.path.specs.declared.Revision.{Revision}
use Rattle.iteration.specs.Block.{first_above}
use Rattle.iteration.specs.SearchLaws.{no_block, above-none, above-found}
use Rattle.iteration.proofs.block.first_above.Goals as goal

pub returns-then-not-check_block : goal.returns-then-not-check_block
returns-then-not-check_block c = no_block (first_above c.args.pair) c.args.block.now (sym c.check_block.ensures ∙ c.if-not-check_block.true)

pub place-p-requires : goal.place-p-requires
place-p-requires c = sym c.check_block.ensures ∙ c.if-not-check_block.false

pub returns-then-p-block : goal.returns-then-p-block
returns-then-p-block c =
    above-none c.args.pair c.args.block.now (sym c.check_block.ensures ∙ c.if-not-check_block.false) _ c.place-p.ensures c.if-p-block.true

pub returns : goal.returns
returns c =
    ap (λ (p : Revision). Ok p) c.revision_at.ensures
    ∙ above-found c.args.pair c.args.block.now (sym c.check_block.ensures ∙ c.if-not-check_block.false) _ c.place-p.ensures c.if-p-block.false
