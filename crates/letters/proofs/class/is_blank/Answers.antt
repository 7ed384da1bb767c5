-- `letters::class::is_blank` meets its contract.
use Rattle.letters.specs.Table.{blanks}
use Rattle.letters.specs.Class.{is_blank}
use Rattle.letters.specs.TableLaws.{blanks_rise}
use Rattle.letters.proofs.class.is_blank.Goals as goal

pub in_ranges-requires : goal.in_ranges-requires
unfolding blanks
in_ranges-requires c = blanks_rise

pub returns : goal.returns
unfolding is_blank blanks
returns c = c.in_ranges.ensures
