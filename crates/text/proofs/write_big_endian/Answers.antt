use mathlib.Core.Path.{◌≡◌, sym, ◌∙◌}
use Prim.Native.Nat.{◌-◌, ◌/◌, ◌%◌}
use Rattle.text.specs.Number.{big_endian}
use Rattle.text.specs.NumberLaws.{length_big}
use Rattle.text.specs.Put.{put}
use Rattle.text.proofs.Steps as steps
use native.Mathlib.Omega.{arith}
use Rattle.text.proofs.write_big_endian.Goals as goal

pub returns-then-width-eq8-clause-out_after : goal.returns-then-width-eq8-clause-out_after
returns-then-width-eq8-clause-out_after c =
    let e : c.args.width ≡ 8 = c.if-width-eq8.true in
    rw (e, ← steps.big-bytes 8 c.args.v, ← c.to_be_bytes.ensures) c.write_text.ensures.out_after

pub loop-j-preserved : goal.loop-j-preserved
loop-j-preserved c =
    c.loop-j.invariant ∙ steps.put_last big_endian (λ m. m % 256) (λ m. m / 256) steps.big-nil steps.big_snoc c.loop-j.out c.args.at c.loop-j.j c.loop-j.m (c.loop-j.j - 1) (omega arith) (omega arith)

pub returns-clause-out_after : goal.returns-clause-out_after
unfolding put
returns-clause-out_after c =
    rw (length_big c.args.width c.args.v) (sym (c.loop-j.invariant ∙ steps.put-none big_endian (λ m. m % 256) (λ m. m / 256) steps.big-nil steps.big_snoc c.loop-j.out c.args.at c.loop-j.j c.loop-j.m (omega arith)))
