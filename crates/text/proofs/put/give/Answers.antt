use native.Mathlib.Omega.{arith}
use mathlib.Core.Path.{sym, ap, ◌∙◌}
use native.Mathlib.Nat.{zero-add}
use Rattle.text.specs.Put.{done}
use Rattle.text.specs.PutLaws.{answer-fits, answer-short, left-fits, left-short}
use Rattle.text.proofs.put.give.Goals as goal

pub returns-then-out-src : goal.returns-then-out-src
returns-then-out-src c = record {
  value = sym (answer-short _ _ (omega arith));
  out_after = sym (left-short _ _ (omega arith));
}

pub returns : goal.returns
returns c = record {
  value = ap done (c.write_text-n.ensures.value ∙ zero-add _) ∙ sym (answer-fits _ _ (omega arith));
  out_after = c.write_text-n.ensures.out_after ∙ sym (left-fits _ _ (omega arith));
}
