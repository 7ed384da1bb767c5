-- `book_form::insert` meets its contract.
use native.Mathlib.Numerals.{add-one}
use Rattle.book_form.specs.Form.{inserted}
use Rattle.book_form.proofs.insert.Goals as goal

pub returns : goal.returns
unfolding inserted
returns c = cc (c.quotas_of-quotas.ensures.0, add-one c.args.count)
