use mathlib.Core.Path.{sym, ap, ◌∙◌, subst}
use Prim.Native.Nat.{◌+◌, ◌≤◌}
use lib.ListN.{length}
use Rattle.text.specs.Put.{put}
use Rattle.text.specs.PutLaws.{put-nil}
use Rattle.ask.specs.Answer.{saying}
use native.Mathlib.Omega.{arith}
use Rattle.ask.proofs.write_saying.Goals as goal

pub write_reason-requires : goal.write_reason-requires
write_reason-requires c = subst (λ y. c.args.at + length (saying y c.args.w) ≤ length c.args.out.now) c.if-why.true c.requires

pub returns-then-why : goal.returns-then-why
returns-then-why c = let e = sym c.if-why.true in
    record {
      value = c.write_reason.ensures.value ∙ ap (λ y. c.args.at + length (saying y c.args.w)) e;
      out_after = c.write_reason.ensures.out_after ∙ ap (λ y. put c.args.out.now c.args.at (saying y c.args.w)) e;
    }

pub returns : goal.returns
returns c = record {
  value = rw c.if-why.false (omega arith);
  out_after = rw c.if-why.false (sym (put-nil c.args.out.now c.args.at));
}
