-- `book_clear::clear_client` meets its contract.
use mathlib.Core.Path.{refl}
use Rattle.identifiers.specs.Check as check
use Rattle.identifiers.specs.CheckLaws.{accepted-length}
use Rattle.book.specs.Book.{Current}
use Rattle.book.specs.BookLaws.{lawful, sizes}
use Rattle.book_clear.specs.NotesLaws.{own-slots, blank}
use Rattle.book_clear.specs.WholeLaws.{cleared_by}
use Rattle.book_clear.proofs.clear_client.Goals as goal

pub stretch_of-slots-requires : goal.stretch_of-slots-requires
stretch_of-slots-requires c = record {
  counts = c.requires.counts;
  client_len_bound = (accepted-length check.client _ c.requires.client_value).1;
}

pub note_slots-requires : goal.note_slots-requires
note_slots-requires c = record {
  own = own-slots c.args.book.now c.args.n c.requires.counts c.args.owner c.args.client.now _ _ c.stretch_of-slots.ensures c.requires.client_value;
  roles_len = refl;
  blank = blank 200;
}

pub stay_of-stay-requires : goal.stay_of-stay-requires
stay_of-stay-requires c = ((sizes Current lawful _ _ c.requires.counts).most, c.note_slots.ensures.roles_len_2)

pub returns : goal.returns
returns c = cleared_by c.args.book.now c.args.n c.requires.counts c.args.owner c.args.client.now _ _ c.stretch_of-slots.ensures _ c.note_slots.ensures.noted_from c.args.keep c.stay_of-stay.result c.stay_of-stay.ensures c.sweep.result _ c.sweep.ensures
