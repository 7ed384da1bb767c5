use mathlib.Core.Path.{sym, ap, ◌∙◌}
use Rattle.text.specs.Put.{put}
use Rattle.ask.specs.Answer.{mark}
use Rattle.ask.proofs.write_mark.Goals as goal

pub returns-then-exact : goal.returns-then-exact
returns-then-exact c = record {
  value = c.write_text.ensures.value;
  out_after = c.write_text.ensures.out_after ∙ ap (λ e. put c.args.out.now c.args.at (mark e)) (sym c.if-exact.true);
}

pub returns : goal.returns
returns c = record {
  value = c.write_text-2.ensures.value;
  out_after = c.write_text-2.ensures.out_after ∙ ap (λ e. put c.args.out.now c.args.at (mark e)) (sym c.if-exact.false);
}
