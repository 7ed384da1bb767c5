use mathlib.Core.Path.{refl, ap, ◌∙◌}
use mathlib.Core.List.{List}
use Prim.Native.Nat.{ℕ, ◌≤◌}
use native.Mathlib.Omega.{arith}
use Rattle.std.proofs.lemmas.List.{get_or_default}
use Rattle.book.specs.Book.{Current, Counts}
use Rattle.book.specs.BookLaws.{lawful, sizes}
use Rattle.book_clear.specs.declared.role.Role.TheVariants.{Other}
use Rattle.book_clear.specs.Stay.{leaves}
use Rattle.book_clear.specs.SweepLaws.{swept_same, swept-start, swept-left, swept_kept, swept-end}
use Rattle.book_clear.proofs.sweep.sweep.Goals as goal
use Rattle.book_clear.proofs.sweep.sweep.Goals.{then-not-leaves, else-not-leaves}

few : (b : List ℕ) (n : ℕ) → Counts Current b n → n ≤ 200
few b n h = (sizes Current lawful b n h).most

pub loop-i-init : goal.loop-i-init
loop-i-init c = (omega arith, swept-start _ _ _)

pub offset_bounds-roles-i : goal.offset_bounds-roles-i
offset_bounds-roles-i c = omega (arith, few _ _ c.requires.counts)

pub bounds-roles-i : goal.bounds-roles-i
bounds-roles-i c = omega (arith, few _ _ c.requires.counts)

pub move_down-requires : goal.move_down-requires
move_down-requires c =
    let z = sizes Current lawful _ _ c.requires.counts in
    omega (arith, z.most, z.used, c.loop-i.invariant.1.size)

pub loop-i-preserved : goal.loop-i-preserved
loop-i-preserved c =
    let told = c.leaves.ensures ∙ ap (leaves c.args.stay) (get_or_default c.args.roles.now c.loop-i.i _ Other (omega (arith, few _ _ c.requires.counts, c.requires.roles_len))) in
    elim c.if-not-leaves.branch [
      | then-not-leaves w ↦ (omega (arith, w.kept-is), swept_same (swept_kept _ c.args.n c.requires.counts _ _ _ c.loop-i.i c.loop-i.kept c.loop-i.invariant.1 (omega arith) _ told (omega arith) _ refl w.if-not-leaves.true) _ _ (w.book-is ∙ w.move_down.ensures) w.kept-is)
      | else-not-leaves w ↦ (omega (arith, w.kept-is), swept_same (swept-left _ c.args.n c.requires.counts _ _ _ c.loop-i.i c.loop-i.kept c.loop-i.invariant.1 (omega arith) _ told w.if-not-leaves.false) _ _ w.book-is w.kept-is)
    ]

pub close_gap-requires : goal.close_gap-requires
close_gap-requires c =
    let z = sizes Current lawful _ _ c.requires.counts in
    record { start_le_end = omega (arith, z.most, z.used, c.loop-i.invariant.1.size); count_in_bounds = omega (arith, z.most, z.used, c.loop-i.invariant.1.size) }

pub returns : goal.returns
returns c =
    swept-end _ c.args.n c.requires.counts _ _ _ c.loop-i.i c.loop-i.kept c.loop-i.invariant.1 (omega arith) (omega arith) _ c.close_gap.ensures
