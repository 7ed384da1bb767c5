use mathlib.Core.Path.{refl, sym, ap, ◌∙◌}
use native.Mathlib.Omega.{arith}
use lib.ListN.{length, drop, replicate, length-replicate}
use Rattle.text.specs.Put.{put}
use Rattle.text.specs.PutLaws.{put-nil, put_next, length-put}
use Rattle.letters.specs.CharacterLaws.{turn}
use Rattle.letters.specs.Narrow.{narrow}
use Rattle.letters.specs.TextLaws.{narrow_next, narrow-end}
use Rattle.letters.proofs.picture.narrow.Goals as goal

pub loop-i-init : goal.loop-i-init
loop-i-init c = (omega arith, refl, refl)

pub fill-i-requires : goal.fill-i-requires
fill-i-requires c =
    let x = turn c.args.t.now c.loop-i.i (omega arith) c.character_at-c.ensures c.size_of.ensures in
    omega arith

pub loop-i-smaller : goal.loop-i-smaller
loop-i-smaller c =
    let x = turn c.args.t.now c.loop-i.i (omega arith) c.character_at-c.ensures c.size_of.ensures in
    omega (arith, c.fill-i.ensures.value)

pub loop-i-preserved : goal.loop-i-preserved
loop-i-preserved c =
    let x = turn c.args.t.now c.loop-i.i (omega arith) c.character_at-c.ensures c.size_of.ensures in
    let w = replicate c.size_of.result c.seen_as.result in
    let long = length-replicate c.size_of.result c.seen_as.result in (
      omega (arith, c.fill-i.ensures.value),
      ap length c.fill-i.ensures.out_after ∙ length-put c.loop-i.out c.loop-i.i w (omega arith) ∙ c.loop-i.invariant.1,
      c.loop-i.invariant.2
          ∙ ap (put c.loop-i.out c.loop-i.i) (narrow_next x ∙ rw (← c.seen_as.ensures, ← c.fill-i.ensures.value))
          ∙ put_next c.loop-i.out c.loop-i.i w (narrow (drop c.fill-i.result c.args.t.now)) _ c.fill-i.result (omega arith) (omega (arith, c.fill-i.ensures.value)) c.fill-i.ensures.out_after,
    )

pub shape_of-out : goal.shape_of-out
shape_of-out c = c.loop-i.invariant.1

pub returns : goal.returns
returns c = record {
  value = omega arith;
  out_after = sym (c.loop-i.invariant.2 ∙ rw (narrow-end c.args.t.now c.loop-i.i (omega arith)) (put-nil c.loop-i.out c.loop-i.i));
}
