-- `letters::picture::mark_of` meets its contract.
use mathlib.Core.Path.{sym, ◌∙◌}
use Rattle.letters.specs.Narrow.{mark_of}
use Rattle.letters.proofs.picture.mark_of.Goals as goal

pub returns-then-is_letter : goal.returns-then-is_letter
unfolding mark_of
returns-then-is_letter c = rw (sym c.is_letter.ensures ∙ c.if-is_letter.true)

pub returns-then-is_blank : goal.returns-then-is_blank
unfolding mark_of
returns-then-is_blank c = rw (sym c.is_letter.ensures ∙ c.if-is_letter.false, sym c.is_blank.ensures ∙ c.if-is_blank.true)

pub returns : goal.returns
unfolding mark_of
returns c = rw (sym c.is_letter.ensures ∙ c.if-is_letter.false, sym c.is_blank.ensures ∙ c.if-is_blank.false)
