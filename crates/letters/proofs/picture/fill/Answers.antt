use Rattle.std.proofs.Common.{◌≡◌, ◌+◌, ◌-◌, ℕ, arith, drop-drop, length-take-le, length-drop, drop}
use Rattle.std.proofs.lemmas.List.{length-replicate}
use Rattle.text.specs.Put.{put}
use Rattle.letters.proofs.picture.fill.Goals as goal

pub returns-clause-out_after : goal.returns-clause-out_after
unfolding put
returns-clause-out_after c =
    let n : c.args.at + c.args.n - c.args.at ≡ c.args.n = omega arith in
    let long = length-take-le c.args.n (drop c.args.at c.args.out.now) (rw length-drop (omega arith)) in
    rw (n, rw (n, long) at (c.fill.ensures.after (λ y e. e)), length-replicate {A = ℕ}, drop-drop)
