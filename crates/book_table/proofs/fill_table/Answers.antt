use Rattle.std.proofs.Common.{◌≡◌, ap, ◌∙◌, arith}
use Rattle.book_form.specs.Form.{key_at}
use Rattle.book.specs.Book.{Current}
use Rattle.book.specs.BookLaws.{lawful, sizes}
use Rattle.book_table.specs.Table.{filled}
use Rattle.book_table.specs.WayLaws.{fill_none, fill_more, key-there}
use Rattle.book_table.proofs.fill_table.Goals as goal

pub loop-i-init : goal.loop-i-init
loop-i-init c = fill_none _ _ _ c.requires.1 c.clear.ensures

pub overflow_mul-at : goal.overflow_mul-at
overflow_mul-at c = omega (arith, (sizes Current lawful _ _ c.requires.0).most)

pub overflow_add-at : goal.overflow_add-at
overflow_add-at c = omega (arith, (sizes Current lawful _ _ c.requires.0).most)

pub bounds-book-at : goal.bounds-book-at
bounds-book-at c = omega (arith, (sizes Current lawful _ _ c.requires.0).used)

pub overflow_add-at-in-loop-i : goal.overflow_add-at-in-loop-i
overflow_add-at-in-loop-i c = omega (arith, (sizes Current lawful _ _ c.requires.0).most)

pub key_at-requires : goal.key_at-requires
key_at-requires c = omega (arith, (sizes Current lawful _ _ c.requires.0).used)

pub overflow_cast-i : goal.overflow_cast-i
overflow_cast-i c = omega (arith, (sizes Current lawful _ _ c.requires.0).most)

pub loop-i-preserved : goal.loop-i-preserved
loop-i-preserved c =
    fill_more _ _ _ _ c.loop-i.i _ _ c.loop-i.invariant (key-there _ _ c.requires.0 c.loop-i.i (omega arith) _ c.key_at.ensures.bytes) c.home.ensures.0 c.free_spot-p.ensures c.write_byte.ensures.out_after

pub returns : goal.returns
returns c =
    let e : c.loop-i.i ≡ c.args.n = omega arith in
    c.loop-i.invariant.table ∙ ap (filled (key_at Current c.args.book.now)) e
