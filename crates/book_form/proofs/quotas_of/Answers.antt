-- `book_form::quotas_of` meets its contract.
use mathlib.Core.Path.{◌∙◌}
use Rattle.book_form.specs.VersionLaws.{pair_read}
use native.Mathlib.Omega.{arith}
use Rattle.book_form.proofs.quotas_of.Goals as goal

pub returns : goal.returns
returns c = let x = c.read_big_endian.ensures ∙ pair_read c.args.book.now 8 (omega arith) in
    let y = c.read_big_endian-2.ensures ∙ pair_read c.args.book.now 10 (omega arith) in
    (λ i. record { one = x i; two = y i }, omega (arith, c.shared_slice_known-1.given 8, c.shared_slice_known-1.given 9, x), omega (arith, c.shared_slice_known-1.given 10, c.shared_slice_known-1.given 11, y))
