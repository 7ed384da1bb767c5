-- `book::record::replace` meets its contract.
use Rattle.book.specs.RecordLaws.{room, write-taken}
use native.Mathlib.Omega.{arith}
use Rattle.book.proofs.record.replace.Goals as goal

pub overflow_mul-p : goal.overflow_mul-p
overflow_mul-p c = omega (arith, room _ _ _ _ _ c.requires.counts.0 c.requires.counts.1)

pub overflow_add-p : goal.overflow_add-p
overflow_add-p c = omega (arith, room _ _ _ _ _ c.requires.counts.0 c.requires.counts.1)

pub put_slot-requires : goal.put_slot-requires
put_slot-requires c = omega (arith, room _ _ _ _ _ c.requires.counts.0 c.requires.counts.1, c.requires.key_len_bound)

pub returns : goal.returns
returns c = write-taken _ _ _ _ _ c.requires.counts.0 c.requires.counts.1 _ _ c.requires.key_len_bound.0 c.requires.key_len_bound.1 c.put_slot.ensures
