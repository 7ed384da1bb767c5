use mathlib.Core.Path.{sym, ap, ◌∙◌}
use Prim.Native.Nat.{◌+◌}
use lib.ListN.{length}
use Rattle.text.specs.Put.{put}
use Rattle.key.specs.KeyLaws.{seen_range}
use Rattle.ask.specs.AnswerLaws.{answer-seen, answer-unread}
use native.Mathlib.Omega.{arith}
use Rattle.ask.proofs.answer_line.Goals as goal

pub write_view-requires : goal.write_view-requires
write_view-requires c =
    let by = sym c.in-Ok.is ∙ c.walk_view.ensures in
    record {
      le_kind = seen_range c.args.line.now _ by;
      v_in_bounds = omega (arith, ap length (answer-seen c.args.why c.args.line.now _ by));
    }

pub write_refusal-requires : goal.write_refusal-requires
write_refusal-requires c =
    omega (arith, ap length (answer-unread c.args.why c.args.line.now _ (sym c.in-Err.is ∙ c.walk_view.ensures)))

pub returns-in-Ok : goal.returns-in-Ok
returns-in-Ok c =
    let e = sym (answer-seen c.args.why c.args.line.now _ (sym c.in-Ok.is ∙ c.walk_view.ensures)) in
    record {
      value = c.write_view.ensures.value ∙ ap (λ l. c.args.at + length l) e;
      out_after = c.write_view.ensures.out_after ∙ ap (put c.args.out.now c.args.at) e;
    }

pub returns-in-Err : goal.returns-in-Err
returns-in-Err c =
    let e = sym (answer-unread c.args.why c.args.line.now _ (sym c.in-Err.is ∙ c.walk_view.ensures)) in
    record {
      value = c.write_refusal.ensures.value ∙ ap (λ l. c.args.at + length l) e;
      out_after = c.write_refusal.ensures.out_after ∙ ap (put c.args.out.now c.args.at) e;
    }
