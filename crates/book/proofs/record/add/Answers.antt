-- `book::record::add` meets its contract.
use Rattle.book.specs.RecordLaws.{write-no_room, room-left, free-place, write-room}
use native.Mathlib.Omega.{arith}
use Rattle.book.proofs.record.add.Goals as goal

pub returns-then-is_full : goal.returns-then-is_full
returns-then-is_full c = write-no_room _ _ _ _ _ c.requires.counts.0 c.requires.counts.1 _ c.is_full.ensures _ c.if-is_full.true

pub insert-requires : goal.insert-requires
insert-requires c = let l = room-left _ _ _ _ _ c.requires.counts.0 c.requires.counts.1 _ c.is_full.ensures c.requires.counts.2 c.if-is_full.false in
    let p = free-place _ _ _ _ _ c.requires.counts.0 c.requires.counts.1 in
    record { slot_le_count = omega (arith, c.requires.key_len_bound); count_bound = omega (arith, c.requires.key_len_bound); count_in_bounds = omega (arith, c.requires.key_len_bound); key_len_bound = omega (arith, c.requires.key_len_bound) }

pub returns : goal.returns
returns c = write-room _ _ _ _ _ c.requires.counts.0 c.requires.counts.1 _ c.is_full.ensures c.requires.counts.2 c.if-is_full.false _ _ c.requires.key_len_bound.0 c.requires.key_len_bound.1 c.insert.ensures
