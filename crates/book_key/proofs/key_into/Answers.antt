-- `book_key::key_into` meets its contract.
use Rattle.book_key.specs.FieldLaws.{field_loose, loose_kept, field-left, field-long, field_fits}
use Rattle.book_key.proofs.key_into.Goals as goal

pub returns-then-is_loose : goal.returns-then-is_loose
returns-then-is_loose c = record {
  value = field_loose _ _ _ c.requires.0 _ c.is_loose.ensures c.if-is_loose.true;
  field_after = loose_kept _ _ _ c.requires.0 _ c.is_loose.ensures c.if-is_loose.true _;
}

pub returns-then-w-eq-NO_ROOM : goal.returns-then-w-eq-NO_ROOM
returns-then-w-eq-NO_ROOM c = record {
  value = field-long _ _ _ c.requires.0 _ c.is_loose.ensures _ _ c.requires.1 c.write_read-w.ensures.value c.if-is_loose.false c.if-w-eq-NO_ROOM.true;
  field_after = field-left _ _ _ c.requires.0 _ c.is_loose.ensures c.if-is_loose.false _ _ c.write_read-w.ensures.out_after;
}

pub returns : goal.returns
returns c = record {
  value = field_fits _ _ _ c.requires.0 _ c.is_loose.ensures _ _ c.requires.1 c.write_read-w.ensures.value c.if-is_loose.false c.if-w-eq-NO_ROOM.false;
  field_after = field-left _ _ _ c.requires.0 _ c.is_loose.ensures c.if-is_loose.false _ _ c.write_read-w.ensures.out_after;
}
