use mathlib.Core.List.{List}
use Prim.Native.Nat.{ℕ, ◌≤◌}
use native.Mathlib.Omega.{arith}
use Rattle.book.specs.Book.{Current, Counts}
use Rattle.book.specs.BookLaws.{lawful, sizes}
use Rattle.book_oldest.proofs.OldestLaws.{oldest-start, oldest-next, oldest-stop, oldest-end}
use Rattle.book_oldest.proofs.oldest_below.Goals as goal

few : (b : List ℕ) (n : ℕ) → Counts Current b n → n ≤ 200
few b n h = (sizes Current lawful b n h).most

pub loop-i-init : goal.loop-i-init
loop-i-init c =
    oldest-start _ _ c.requires.counts c.args.owner _ _ c.requires.parent_value _ c.keys_before-i.ensures

pub overflow_mul-i : goal.overflow_mul-i
overflow_mul-i c = omega (arith, few _ _ c.requires.counts)

pub overflow_add-i : goal.overflow_add-i
overflow_add-i c = omega (arith, few _ _ c.requires.counts)

pub is_below_parent-requires : goal.is_below_parent-requires
is_below_parent-requires c = omega (arith, (sizes Current lawful _ _ c.requires.counts).used)

pub overflow_mul-i-in-loop-i : goal.overflow_mul-i-in-loop-i
overflow_mul-i-in-loop-i c = omega (arith, few _ _ c.requires.counts)

pub overflow_add-i-in-loop-i : goal.overflow_add-i-in-loop-i
overflow_add-i-in-loop-i c = omega (arith, few _ _ c.requires.counts)

pub overflow_add-i-in-loop-i-2 : goal.overflow_add-i-in-loop-i-2
overflow_add-i-in-loop-i-2 c = omega (arith, few _ _ c.requires.counts)

pub key_at-requires : goal.key_at-requires
key_at-requires c = omega (arith, (sizes Current lawful _ _ c.requires.counts).used)

pub loop-i-preserved : goal.loop-i-preserved
loop-i-preserved c =
    oldest-next _ c.args.n c.requires.counts c.args.owner _ _ c.requires.parent_value _ c.keys_before-i.ensures c.loop-i.best c.loop-i.i c.loop-i.invariant (omega arith) _ c.is_below_parent.ensures c.if-not-is_below_parent.false _ c.key_at.ensures.bytes _ _ c.state_in.ensures c.older-best.ensures

pub returns-then-not-is_below_parent : goal.returns-then-not-is_below_parent
returns-then-not-is_below_parent c =
    oldest-stop _ c.args.n c.requires.counts c.args.owner _ _ c.requires.parent_value c.keys_before-i.result c.keys_before-i.ensures c.loop-i.best c.loop-i.i c.loop-i.invariant (omega arith) _ c.is_below_parent.ensures (omega arith) c.if-not-is_below_parent.true

pub returns-after-loop-i : goal.returns-after-loop-i
returns-after-loop-i c =
    oldest-end _ c.args.n c.requires.counts c.args.owner _ _ c.requires.parent_value _ c.keys_before-i.ensures c.loop-i.best c.loop-i.i c.loop-i.invariant (omega arith)
