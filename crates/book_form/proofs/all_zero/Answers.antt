use Rattle.std.proofs.Common.{sym, ap, ◌∙◌, arith, ◌-◌, length, eqb}
use Rattle.std.specs.Slice.Iter.{chunks_exact_rest, chunks_exact_size}
use Rattle.book_form.specs.BlankLaws.{left-start, left-stop, left-next, left-end}
use Rattle.book_form.proofs.all_zero.Goals as goal

pub loop-part-init : goal.loop-part-init
loop-part-init c =
    let i = c.into_iter-part-iterator.ensures.into_iter_gives in
    let size = ap chunks_exact_size i ∙ c.chunks_exact-part-items.ensures.size in
    (omega (arith, size), tt, size, left-start (λ b. eqb b 0) c.args.s.now _ (ap chunks_exact_rest i ∙ c.chunks_exact-part-items.ensures.rest))

pub returns-then-not-blank : goal.returns-then-not-blank
returns-then-not-blank c =
    sym (left-stop (λ b. eqb b 0) c.args.s.now c.in-Some.part.now _ _ c.loop-part.invariant.3 c.in-Some.ensures.steps.1.0 (sym c.blank-in-loop-part.ensures ∙ c.if-not-blank.true))

pub loop-part-preserved : goal.loop-part-preserved
loop-part-preserved c =
    let size = c.in-Some.ensures.steps.0 ∙ c.loop-part.invariant.2 in
    (omega (arith, size), tt, size, left-next (λ b. eqb b 0) c.args.s.now c.in-Some.part.now _ _ c.loop-part.invariant.3 c.in-Some.ensures.steps.1.0 (sym c.blank-in-loop-part.ensures ∙ c.if-not-blank.false))

pub returns : goal.returns
returns c =
    c.blank-2.ensures ∙ left-end (λ b. eqb b 0) c.args.s.now _ (length c.args.s.now - 128) 128 c.loop-part.invariant.3 (omega (arith, c.in-None.ensures.steps.1.0, c.loop-part.invariant.2)) (omega arith) (omega arith)
