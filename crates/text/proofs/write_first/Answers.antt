-- `text::write_first` meets its contract.
use mathlib.Core.Path.{ap, ◌∙◌}
use lib.ListN.{length}
use borrow.Author.Rules.{rules}
use native.Mathlib.Omega.{arith}
use Rattle.text.specs.NumberLaws.{decimal_small, length-decimal-some, length_digits}
use Rattle.text.specs.WidthLaws.{decimal-two}
use Rattle.text.proofs.write_first.Goals as goal

pub write_byte-requires : goal.write_byte-requires
write_byte-requires c = let some = length-decimal-some c.args.n in search rules

pub returns-then-n-lt10 : goal.returns-then-n-lt10
returns-then-n-lt10 c = record {
  value = rw (decimal_small c.args.n (omega arith)) c.write_byte.ensures.value;
  out_after = rw (decimal_small c.args.n (omega arith)) c.write_byte.ensures.out_after;
}

pub write_pair-requires : goal.write_pair-requires
write_pair-requires c =
    let two = ap length (decimal-two c.args.n (omega arith) (omega arith)) ∙ length_digits 2 c.args.n in
    search rules

pub returns : goal.returns
returns c = record {
  value = rw (decimal-two c.args.n (omega arith) (omega arith), length_digits 2 c.args.n) c.write_pair.ensures.value;
  out_after = rw (decimal-two c.args.n (omega arith) (omega arith)) c.write_pair.ensures.out_after;
}
