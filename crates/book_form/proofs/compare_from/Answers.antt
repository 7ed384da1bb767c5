-- `book_form::compare_from` meets its contract.
use Rattle.std.proofs.Common.{refl, ap, ◌∙◌, arith, List, ℕ, length}
use Rattle.book_form.specs.Compare.{ordering_of}
use Rattle.book_form.specs.CompareLaws.{rest, length-stored, agree-rest, cmp_of_rests}
use Rattle.book_form.proofs.compare_from.Goals as goal

pub slice_bounds-cmp-count-2 : goal.slice_bounds-cmp-count-2
slice_bounds-cmp-count-2 c = omega (arith, ap length c.key_at-other.ensures.bytes, length-stored c.args.book.now c.args.at (omega (arith, c.type_inv.book c.args.at)), c.requires.agree.within)

pub slice_bounds-cmp-start-2 : goal.slice_bounds-cmp-start-2
slice_bounds-cmp-start-2 c = omega (arith, ap length c.key_at-other.ensures.bytes, length-stored c.args.book.now c.args.at (omega (arith, c.type_inv.book c.args.at)), c.requires.agree.within)

pub returns : goal.returns
returns c =
    let s = c.args.start in
    c.cmp.ensures
    ∙ cmp_of_rests c.args.key.now c.key_at-other.result.now s _ _ refl refl
    ∙ ap (λ (l : List ℕ). ordering_of (rest c.args.key.now l s)) c.key_at-other.ensures.bytes
    ∙ ap ordering_of (agree-rest c.args.key.now c.args.book.now c.args.at s (omega arith) (omega (arith, c.type_inv.book c.args.at)) c.requires.agree)
