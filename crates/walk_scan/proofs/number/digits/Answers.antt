use mathlib.Core.Path.{refl, sym, ◌∙◌}
use lib.ListN.{get_or}
use Rattle.walk_scan.specs.CountLaws.{digit-is, figures-end, figures-stop, figures-over, figures-more}
use native.Mathlib.Omega.{arith}
use Rattle.walk_scan.proofs.number.digits.Goals as goal

pub loop-i-init : goal.loop-i-init
loop-i-init c = refl

pub overflow_sub-d : goal.overflow_sub-d
overflow_sub-d c = let k = digit-is (get_or c.args.s.now c.loop-i.i 0) (sym c.is_digit.ensures ∙ c.if-not-is_digit.false) in omega (arith, k.0, k.1)

pub overflow_cast-d : goal.overflow_cast-d
overflow_cast-d c = let k = digit-is (get_or c.args.s.now c.loop-i.i 0) (sym c.is_digit.ensures ∙ c.if-not-is_digit.false) in omega (arith, k.0, k.1)

pub over-requires : goal.over-requires
over-requires c = let k = digit-is (get_or c.args.s.now c.loop-i.i 0) (sym c.is_digit.ensures ∙ c.if-not-is_digit.false) in omega (arith, k.0, k.1)

pub returns-then-not-is_digit : goal.returns-then-not-is_digit
returns-then-not-is_digit c = sym (c.loop-i.invariant ∙ figures-stop c.args.s.now c.loop-i.value c.loop-i.i (omega arith) (sym c.is_digit.ensures ∙ c.if-not-is_digit.true))

pub returns-then-over : goal.returns-then-over
returns-then-over c =
    let d = sym c.is_digit.ensures ∙ c.if-not-is_digit.false in
    let o = c.over.ensures.0 c.if-over.true in
    sym (c.loop-i.invariant ∙ figures-over c.args.s.now c.loop-i.value c.loop-i.i (omega arith) d (omega (arith, o)))

pub overflow_mul-value : goal.overflow_mul-value
overflow_mul-value c = omega (arith, c.over.ensures.1 c.if-over.false)

pub overflow_add-value : goal.overflow_add-value
overflow_add-value c = omega (arith, c.over.ensures.1 c.if-over.false)

pub loop-i-preserved : goal.loop-i-preserved
loop-i-preserved c =
    let d = sym c.is_digit.ensures ∙ c.if-not-is_digit.false in
    let o = c.over.ensures.1 c.if-over.false in
    c.loop-i.invariant ∙ figures-more c.args.s.now c.loop-i.value c.loop-i.i (omega arith) d (omega (arith, o))

pub returns : goal.returns
returns c = sym (c.loop-i.invariant ∙ figures-end c.args.s.now c.loop-i.value c.loop-i.i (omega arith))
