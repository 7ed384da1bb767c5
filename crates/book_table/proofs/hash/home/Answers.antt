-- `book_table::hash::home` meets its contract.
use Rattle.std.proofs.Common.{ℕ, ◌%◌, ap, arith}
use Rattle.book_table.specs.Table.{home}
use Rattle.book_table.proofs.hash.home.Goals as goal

pub returns : goal.returns
unfolding home
returns c = (ap (λ (x : ℕ). x % 512) c.fnv1a.ensures, omega arith)
