-- `book_form::compare_stored` meets its contract.
use Rattle.std.proofs.Common.{◌≡◌, sym, ap, ◌∙◌, arith, List, ℕ, ◌+◌}
use Rattle.text.specs.Order.{cmp}
use Rattle.book_form.specs.Compare.{ordering_of}
use Rattle.book_form.specs.Counted.{stored}
use Rattle.book_form.specs.WordsLaws.{high_sum_lem, equal_numbers, next-decides, next-same}
use Rattle.book_form.proofs.compare_stored.Goals as goal

pub returns-then-n-lt8 : goal.returns-then-n-lt8
returns-then-n-lt8 c =
    c.compare_from.ensures ∙ ap (λ (l : List ℕ). ordering_of (cmp l (stored c.args.book.now (c.args.at + c.args.by)))) c.key_at-key.ensures.bytes

pub compare_from-requires-in-Equal : goal.compare_from-requires-in-Equal
compare_from-requires-in-Equal c =
    let x = c.high_eight-x.ensures ∙ high_sum_lem c.args.book.now (c.args.at + 1 + c.apart-i.result) in
    let y = c.high_eight-y.ensures ∙ high_sum_lem c.args.book.now (c.args.at + c.args.by + 1 + c.apart-i.result) in
    record {
      at_in_bounds = omega arith;
      agree = next-same c.args.book.now _ c.args.at c.args.by c.min-n.result c.apart-i.result (omega arith) (λ j. omega (arith, c.type_inv.book j)) c.key_at-key.ensures.bytes (omega (arith, c.min-n.ensures)) (omega (arith, c.from.ensures, c.min-n.ensures)) (omega (arith, c.apart-i.ensures.within)) c.apart-i.ensures.alike c.apart-i.ensures.last (sym x ∙ (let e : c.high_eight-x.result ≡ c.high_eight-y.result = equal_numbers _ _ (sym c.cmp.ensures ∙ c.in-Equal.is) in e) ∙ y);
    }

pub returns-in-Equal : goal.returns-in-Equal
returns-in-Equal c =
    c.compare_from-in-Equal.ensures ∙ ap (λ (l : List ℕ). ordering_of (cmp l (stored c.args.book.now (c.args.at + c.args.by)))) c.key_at-key.ensures.bytes

pub returns-in_default : goal.returns-in_default
returns-in_default c =
    let x = c.high_eight-x.ensures ∙ high_sum_lem c.args.book.now (c.args.at + 1 + c.apart-i.result) in
    let y = c.high_eight-y.ensures ∙ high_sum_lem c.args.book.now (c.args.at + c.args.by + 1 + c.apart-i.result) in
    next-decides c.args.book.now _ c.args.at c.args.by c.min-n.result c.apart-i.result (omega arith) (λ j. omega (arith, c.type_inv.book j)) c.key_at-key.ensures.bytes (omega (arith, c.min-n.ensures)) (omega (arith, c.from.ensures, c.min-n.ensures)) (omega (arith, c.apart-i.ensures.within)) c.apart-i.ensures.alike _ _ x y _ c.cmp.ensures c.in_default.not-Equal
