-- `book_table::many::table_ok` meets its contract.
use Rattle.std.proofs.Common.{ap, ◌∙◌}
use Rattle.text.specs.Part.{same}
use Rattle.book_table.proofs.many.table_ok.Goals as goal

pub returns : goal.returns
returns c = c.equal.ensures ∙ ap (same c.args.table.now) c.fill_table.ensures
