-- `start_at` meets its contract.
use Prim.Native.Nat.{◌<◌}
use native.Mathlib.Omega.{arith}
use Rattle.diagnose.specs.PiecesLaws.{count_many, start-shown, start-past}
use borrow.Author.Rules.{rules}
use Rattle.diagnose.proofs.start_at.Goals as goal

pub offset_bounds-starts-f : goal.offset_bounds-starts-f
offset_bounds-starts-f c =
    let h : c.args.f < 8 = omega (arith, count_many _ _ c.args.text.is_cut) in
    search rules

pub bounds-starts-f : goal.bounds-starts-f
bounds-starts-f c =
    let h : c.args.f < 8 = omega (arith, count_many _ _ c.args.text.is_cut) in
    search rules

pub returns-then-f-count : goal.returns-then-f-count
returns-then-f-count c = start-shown _ _ c.args.text.is_cut c.args.f c.if-f-count.true

pub returns : goal.returns
returns c = start-past _ _ c.args.text.is_cut c.args.f c.if-f-count.false
