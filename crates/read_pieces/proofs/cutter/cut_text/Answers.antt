use Prim.Native.Nat.{◌<◌}
use mathlib.Core.Path.{refl, ◌∙◌}
use native.Mathlib.Omega.{arith}
use Rattle.std.proofs.Common.{⊎_elim}
use borrow.Author.Rules.{rules}
use lib.ListN.{length, length-set}
use Rattle.path.specs.Cut.{cut_of}
use Rattle.read_pieces.specs.CutLaws.{fill-slash, fill-full, fill-other, fill_end, fill-is-cut}
use Rattle.read_pieces.proofs.cutter.cut_text.Goals as goal
use Rattle.read_pieces.proofs.cutter.cut_text.Goals.{then-b-eq47+then-count-lt8, else-b-eq47}

pub loop-i-init : goal.loop-i-init
loop-i-init c = (search rules, search rules, refl, fill-is-cut c.args.text.now)

pub loop-i-preserved : goal.loop-i-preserved
loop-i-preserved c =
    let h : c.loop-i.i < length c.args.text.now = c.loop-i-test.true in
    elim c.if-b-eq47.branch [ then-b-eq47+then-count-lt8 w ↦ (omega arith, omega arith, rw w.starts-is (simp length-set (omega arith)), rw (w.starts-is, w.count-is) (fill-slash c.loop-i.i c.args.text.now c.loop-i.starts c.loop-i.count (cut_of c.args.text.now) h c.loop-i.invariant.3 w.if-b-eq47.true w.if-count-lt8.true)) | else-b-eq47 w ↦ (omega arith, omega arith, rw w.starts-is (omega arith), rw (w.starts-is, w.count-is) (⊎_elim (λ x. fill-full c.loop-i.i c.args.text.now c.loop-i.starts c.loop-i.count (cut_of c.args.text.now) h c.loop-i.invariant.3 x.1) (λ x. fill-other c.loop-i.i c.args.text.now c.loop-i.starts c.loop-i.count (cut_of c.args.text.now) h c.loop-i.invariant.3 x) w.else-b-eq47.either)) ]

pub returns : goal.returns
returns c =
    fill_end c.loop-i.i c.args.text.now c.loop-i.starts c.loop-i.count (omega arith) ∙ c.loop-i.invariant.3
