-- `book_table::many::put_entry` meets its contract.
use Rattle.book_table.specs.ManyLaws.{entry_length, entered}
use Rattle.std.proofs.Common.{arith}
use Rattle.book_table.proofs.many.put_entry.Goals as goal

pub overflow_cast-len : goal.overflow_cast-len
overflow_cast-len c = omega (arith, entry_length _ _ _ c.args.out.now c.args.at _ _ c.look_text-w.ensures c.value-2-1.given c.requires.counts.0.0)

pub returns : goal.returns
returns c = entered _ _ _ _ _ _ _ c.look_text-w.ensures c.value-2-1.given c.requires.owner_value.1 _ _ _ c.write_byte.ensures.out_after c.write_byte-2.ensures.out_after c.write_text.ensures.out_after
