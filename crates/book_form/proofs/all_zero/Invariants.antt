-- `book_form::all_zero` meets its contract.
use Rattle.std.specs.Prelude.{◌≡◌, eqb}
use Rattle.std.specs.Slice.Iter.{chunks_exact_rest, chunks_exact_size}
use Rattle.book_form.specs.BlankLaws.{Left}
use Rattle.book_form.proofs.all_zero.Given as goal

abbrev pub invariant-loop-part : goal.invariant-loop-part
invariant-loop-part l =
    (goal.iterator-loop-part).can_next l.part-iterator ×
    (goal.iterator-loop-part).is_finite l.part-iterator ×
    (chunks_exact_size l.part-iterator ≡ 128) ×
    Left (λ b. eqb b 0) l.s (chunks_exact_rest l.part-iterator)
