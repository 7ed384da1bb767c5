use mathlib.Core.Path.{◌≡◌, sym, ◌∙◌}
use Prim.Native.Nat.{◌*◌, ◌/◌, ◌-◌}
use native.Mathlib.Omega.{arith}
use lib.ListN.{length, drop}
use Rattle.iteration.specs.Key.{revision_of}
use Rattle.iteration.specs.BlockLaws.{block_odd, block_start, rising-end, check-none, check-stop, check-more}
use Rattle.iteration.proofs.block.check_block.Goals as goal

pub returns-then-block-ne0 : goal.returns-then-block-ne0
returns-then-block-ne0 c = sym (block_odd c.args.block.now c.if-block-ne0.true)

pub loop-i-init : goal.loop-i-init
loop-i-init c =
    let whole : length c.args.block.now / 38 - 0 ≡ length c.args.block.now / 38 = omega arith in
    rw whole (block_start c.args.block.now c.if-block-ne0.false)

pub returns-in_default : goal.returns-in_default
returns-in_default c = sym (c.loop-i.invariant ∙ check-none _ _ c.loop-i.i c.loop-i-test.true (revision_of c.loop-i.last) c.in_default.ensures)

pub returns-then-not-is_next : goal.returns-then-not-is_next
returns-then-not-is_next c =
    sym (c.loop-i.invariant ∙ check-stop _ _ c.loop-i.i c.loop-i-test.true (revision_of c.loop-i.last) c.in-Some.key c.in-Some.ensures (sym c.is_next.ensures ∙ c.if-not-is_next.true))

pub loop-i-preserved : goal.loop-i-preserved
loop-i-preserved c =
    c.loop-i.invariant ∙ check-more _ _ c.loop-i.i c.loop-i-test.true (revision_of c.loop-i.last) c.in-Some.key c.in-Some.ensures (sym c.is_next.ensures ∙ c.if-not-is_next.false)

pub returns : goal.returns
returns c =
    sym (c.loop-i.invariant ∙ rising-end (revision_of c.loop-i.last) (length c.args.block.now / 38 - c.loop-i.i) (drop (38 * c.loop-i.i) c.args.block.now) (omega arith))
