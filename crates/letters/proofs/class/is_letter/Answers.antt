-- `letters::class::is_letter` meets its contract: a number that is not common is looked for in the part that it can stand in.
use mathlib.Core.Path.{sym, ◌∙◌}
use native.Mathlib.Omega.{arith}
use Rattle.letters.specs.Table.{part1, part2, part3, part4}
use Rattle.letters.specs.TableLaws.{rises1, rises2, rises3, rises4, in1, in2, in3, in4}
use Rattle.letters.proofs.class.is_letter.Goals as goal

pub returns-then-is_common : goal.returns-then-is_common
returns-then-is_common c = sym (c.is_common.ensures c.if-is_common.true)

pub in_ranges-requires : goal.in_ranges-requires
unfolding part1
in_ranges-requires c = rises1

pub returns-in-0-to-2047 : goal.returns-in-0-to-2047
unfolding part1
returns-in-0-to-2047 c = c.in_ranges.ensures ∙ sym (in1 _ (omega arith))

pub in_ranges-requires-in-2048-to-8191 : goal.in_ranges-requires-in-2048-to-8191
unfolding part2
in_ranges-requires-in-2048-to-8191 c = rises2

pub returns-in-2048-to-8191 : goal.returns-in-2048-to-8191
unfolding part2
returns-in-2048-to-8191 c = c.in_ranges-in-2048-to-8191.ensures ∙ sym (in2 _ (omega arith) (omega arith))

pub in_ranges-requires-in-8192-to-65535 : goal.in_ranges-requires-in-8192-to-65535
unfolding part3
in_ranges-requires-in-8192-to-65535 c = rises3

pub returns-in-8192-to-65535 : goal.returns-in-8192-to-65535
unfolding part3
returns-in-8192-to-65535 c = c.in_ranges-in-8192-to-65535.ensures ∙ sym (in3 _ (omega arith) (omega arith))

pub in_ranges-requires-in_default : goal.in_ranges-requires-in_default
unfolding part4
in_ranges-requires-in_default c = rises4

pub returns-in_default : goal.returns-in_default
unfolding part4
returns-in_default c = c.in_ranges-in_default.ensures ∙ sym (in4 _ (omega arith))
