use mathlib.Core.Path.{sym, ◌∙◌}
use borrow.Author.Rules.{rules}
use native.Mathlib.Omega.{arith}
use Rattle.text.proofs.Steps as steps
use Rattle.text.proofs.digits_at.Goals as goal

pub returns-then-start-s : goal.returns-then-start-s
returns-then-start-s c = sym (steps.no-digits _ _ (omega arith))

pub loop-i-init : goal.loop-i-init
loop-i-init c = (search rules, steps.some-digits _ _ (omega arith))

pub returns-then-not-is_ascii_digit : goal.returns-then-not-is_ascii_digit
returns-then-not-is_ascii_digit c = sym (c.loop-i.invariant.1 ∙ steps.letter _ _ c.loop-i-test.true c.loop-i.v (sym c.is_ascii_digit.ensures.value ∙ c.if-not-is_ascii_digit.true))

pub returns-then-over : goal.returns-then-over
returns-then-over c =
    let large = c.over.ensures.0 c.if-over.true in
    let digit = c.if-not-is_ascii_digit.ensures.cases in
    sym (c.loop-i.invariant.1 ∙ steps.large _ _ (omega arith) c.loop-i.v (omega arith) (omega arith) (omega arith))

pub overflow_mul-v : goal.overflow_mul-v
overflow_mul-v c = omega (arith, c.over.ensures.1 c.if-over.false)

pub overflow_add-v : goal.overflow_add-v
overflow_add-v c = omega (arith, c.over.ensures.1 c.if-over.false)

pub loop-i-preserved : goal.loop-i-preserved
loop-i-preserved c =
    let fits = c.over.ensures.1 c.if-over.false in
    let digit = c.if-not-is_ascii_digit.ensures.cases in
    (search rules, rw c.from-d.ensures (c.loop-i.invariant.1 ∙ steps.one_more _ _ (omega arith) c.loop-i.v (omega arith) (omega arith) (omega arith)))

pub returns : goal.returns
returns c = sym (c.loop-i.invariant.1 ∙ steps.ended _ _ (omega arith) c.loop-i.v)
