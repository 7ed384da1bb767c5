-- `book::take_record` meets its contract.
use native.Mathlib.Omega.{arith}
use Rattle.book.specs.RecordLaws.{spotted, room, remove-free, remove-taken}
use native.Mathlib.Omega.{arith}
use Rattle.book.proofs.record.take_record.Goals as goal

pub returns-in_default : goal.returns-in_default
returns-in_default c = remove-free _ _ _ _ _ c.requires (spotted _ _ _ _ _ c.find.ensures c.in_default.is)

pub close_gap-requires : goal.close_gap-requires
close_gap-requires c = record { start_le_end = omega (arith, room _ _ _ _ _ c.requires (spotted _ _ _ _ _ c.find.ensures c.in-Ok.is)); count_in_bounds = omega (arith, room _ _ _ _ _ c.requires (spotted _ _ _ _ _ c.find.ensures c.in-Ok.is)) }

pub returns : goal.returns
returns c = remove-taken _ _ _ _ _ c.requires (spotted _ _ _ _ _ c.find.ensures c.in-Ok.is) _ c.close_gap.ensures
