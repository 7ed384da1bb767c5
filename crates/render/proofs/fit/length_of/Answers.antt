use Rattle.render.specs.RenderLaws.{length-capped}
use native.Mathlib.Omega.{arith}
use Rattle.render.proofs.fit.length_of.Goals as goal

pub returns : goal.returns
returns c =
    length-capped c.args.kind c.requires.0 c.requires.1 c.args.first.now c.args.second.now c.args.a c.args.b _ _ _ (omega (arith, c.min.ensures)) (omega (arith, c.min-2.ensures)) c.render_length.ensures
