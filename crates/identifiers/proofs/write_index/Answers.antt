-- `identifiers::write_index` meets its contract.
use native.Mathlib.Omega.{arith}
use borrow.Author.Rules.{rules}
use Rattle.text.specs.NumberLaws.{decimal_small, length-decimal-some}
use Rattle.identifiers.proofs.write_index.Goals as goal

pub write_byte-requires : goal.write_byte-requires
write_byte-requires c = let some = length-decimal-some c.args.n in search rules

pub returns-then-n-lt10 : goal.returns-then-n-lt10
returns-then-n-lt10 c = record {
  value = rw (decimal_small c.args.n (omega arith)) c.write_byte.ensures.value;
  out_after = rw (decimal_small c.args.n (omega arith)) c.write_byte.ensures.out_after;
}
