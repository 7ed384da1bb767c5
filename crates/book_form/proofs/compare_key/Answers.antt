-- `book_form::compare_key` meets its contract.
use Rattle.std.proofs.Common.{ap, ◌∙◌, arith, ◌∷◌, get_or, ◌+◌}
use Prim.Native.Nat.{compare}
use Rattle.text.specs.Order.{cmp}
use Rattle.book_form.specs.Counted.{stored}
use Rattle.book_form.specs.CompareLaws.{cmp_of_numbers, ahead-decides, ahead-same}
use Rattle.book_form.specs.VersionLaws.{owned-key}
use Rattle.book_form.proofs.compare_key.Goals as goal

pub returns-in-Equal : goal.returns-in-Equal
unfolding cmp
returns-in-Equal c =
    let other = get_or c.args.book.now c.args.at 0 in
    ahead-same _ (compare c.args.owner other) (cmp c.args.key.now (stored c.args.book.now (c.args.at + 1))) _ _ (ap (cmp (c.args.owner ∷ c.args.key.now)) (owned-key c.args.book.now c.args.at (omega arith))) (c.cmp.ensures ∙ cmp_of_numbers c.args.owner other) c.in-Equal.is c.compare_from.ensures

pub returns-in_default : goal.returns-in_default
unfolding cmp
returns-in_default c =
    let other = get_or c.args.book.now c.args.at 0 in
    ahead-decides _ (compare c.args.owner other) (cmp c.args.key.now (stored c.args.book.now (c.args.at + 1))) _ (ap (cmp (c.args.owner ∷ c.args.key.now)) (owned-key c.args.book.now c.args.at (omega arith))) (c.cmp.ensures ∙ cmp_of_numbers c.args.owner other) c.in_default.not-Equal
