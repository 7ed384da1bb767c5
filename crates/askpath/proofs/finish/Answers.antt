use mathlib.Core.Bool.{Bool, true, false}
use Prim.Native.Nat.{ℕ, ◌≤◌}
use native.Mathlib.Omega.{arith}
use Rattle.std.proofs.Common.{length-take}
use Rattle.ask.specs.Answer.{extra}
use Rattle.askpath.proofs.finish.Goals as goal

one_more : (why : Bool) → extra why 1 ≤ 128
unfolding extra
one_more true = omega arith
one_more false = omega arith

pub answer_last-used-requires : goal.answer_last-used-requires
answer_last-used-requires g c = omega (arith, one_more c.args.why, length-take {A = ℕ})
