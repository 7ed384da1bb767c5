use mathlib.Core.Path.{refl, sym, ap, ◌∙◌}
use native.Mathlib.Omega.{arith}
use Rattle.identifiers.specs.Check.{identifier_byte}
use Rattle.letters.specs.Character.{Character, size_of, whole}
use Rattle.letters.specs.Narrow.{seen_as}
use Rattle.letters.specs.CharacterLaws.{turn, utf8-next, utf8-end}
use Rattle.letters.specs.TextLaws.{chars_ascii, chars_broken, chars-bad, chars_fine, every-next, every-end}
use Rattle.letters.proofs.check.wide_chars.Goals as goal

pub returns-then-plain-ne-NOT_ASCII : goal.returns-then-plain-ne-NOT_ASCII
returns-then-plain-ne-NOT_ASCII c = c.validate_identifier_chars-plain.ensures ∙ sym (chars_ascii c.args.s.now (λ e. c.if-plain-ne-NOT_ASCII.true (c.validate_identifier_chars-plain.ensures ∙ e)))

pub loop-i-init : goal.loop-i-init
loop-i-init c = (omega arith, refl, refl)

pub returns-in_default : goal.returns-in_default
returns-in_default c =
    let x = turn c.args.s.now c.loop-i.i (omega arith) c.character_at.ensures refl in
    sym (chars_broken _ (c.loop-i.invariant.1 ∙ utf8-next x ∙ rw c.in_default.is))

pub returns-then-is_utf8 : goal.returns-then-is_utf8
returns-then-is_utf8 c =
    let x = turn c.args.s.now c.loop-i.i (omega arith) c.character_at.ensures refl in
    let other = ap (λ (z : Character). identifier_byte (seen_as z)) c.in-Some.is ∙ sym (ap identifier_byte c.seen_as.ensures) ∙ sym c.is_identifier_byte.ensures ∙ c.if-not-is_identifier_byte.true in
    sym (chars-bad _ (sym c.is_utf8.ensures ∙ c.if-is_utf8.true) (c.loop-i.invariant.2 ∙ every-next x identifier_byte ∙ rw other))

pub returns-then-not-is_identifier_byte : goal.returns-then-not-is_identifier_byte
returns-then-not-is_identifier_byte c = sym (chars_broken c.args.s.now (sym c.is_utf8.ensures ∙ c.if-is_utf8.false))

pub overflow_add-i : goal.overflow_add-i
overflow_add-i c =
    let x = turn c.args.s.now c.loop-i.i (omega arith) c.character_at.ensures (sym (ap size_of c.in-Some.is)) in
    omega arith

pub loop-i-smaller : goal.loop-i-smaller
loop-i-smaller c =
    let x = turn c.args.s.now c.loop-i.i (omega arith) c.character_at.ensures (sym (ap size_of c.in-Some.is)) in
    omega arith

pub loop-i-preserved : goal.loop-i-preserved
loop-i-preserved c =
    let x = turn c.args.s.now c.loop-i.i (omega arith) c.character_at.ensures (sym (ap size_of c.in-Some.is)) in
    let all = ap whole c.in-Some.is in
    let fits = ap (λ (z : Character). identifier_byte (seen_as z)) c.in-Some.is ∙ sym (ap identifier_byte c.seen_as.ensures) ∙ sym c.is_identifier_byte.ensures ∙ c.if-not-is_identifier_byte.false in
    (omega arith, c.loop-i.invariant.1 ∙ utf8-next x ∙ rw all, c.loop-i.invariant.2 ∙ every-next x identifier_byte ∙ rw fits)

pub returns : goal.returns
returns c =
    sym (chars_fine c.args.s.now (c.loop-i.invariant.1 ∙ utf8-end c.args.s.now c.loop-i.i (omega arith)) (c.loop-i.invariant.2 ∙ every-end identifier_byte c.args.s.now c.loop-i.i (omega arith)))
