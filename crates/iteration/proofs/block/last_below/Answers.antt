-- `iteration::block::last_below` meets its contract.
use mathlib.Core.Path.{sym, ap, ◌∙◌}
use Rattle.std.specs.Prelude.{Ok}
use Rattle.path.specs.declared.Revision.{Revision}
use Rattle.iteration.specs.Block.{last_below}
use Rattle.iteration.specs.SearchLaws.{no_block, below_none, below-found}
use Rattle.iteration.proofs.block.last_below.Goals as goal

pub returns-then-not-check_block : goal.returns-then-not-check_block
returns-then-not-check_block c = no_block (last_below c.args.pair) c.args.block.now (sym c.check_block.ensures ∙ c.if-not-check_block.true)

pub place-p-requires : goal.place-p-requires
place-p-requires c = sym c.check_block.ensures ∙ c.if-not-check_block.false

pub returns-then-p-eq0 : goal.returns-then-p-eq0
returns-then-p-eq0 c =
    below_none c.args.pair c.args.block.now (sym c.check_block.ensures ∙ c.if-not-check_block.false) _ c.place-p.ensures c.if-p-eq0.true

pub returns : goal.returns
returns c =
    ap (λ (p : Revision). Ok p) c.revision_at.ensures
    ∙ below-found c.args.pair c.args.block.now (sym c.check_block.ensures ∙ c.if-not-check_block.false) _ c.place-p.ensures c.if-p-eq0.false
