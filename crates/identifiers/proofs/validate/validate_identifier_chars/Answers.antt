-- `identifiers::validate::validate_identifier_chars` meets its contract.
use Rattle.std.proofs.Common.{sym, ◌∙◌}
use Rattle.identifiers.specs.CheckLaws.{bytes_chars, chars-other, chars-high}
use Rattle.identifiers.proofs.validate.validate_identifier_chars.Goals as goal
use Rattle.identifiers.proofs.validate.validate_identifier_chars.Goals.{then-all_common-via-then-all_common, then-all_common-via-else-all_common+then-each_identifier}

pub returns-then-all_common : goal.returns-then-all_common
returns-then-all_common c =
    sym
    (bytes_chars _
    (elim c.then-all_common.branch [ then-all_common-via-then-all_common w ↦ c.all_common.ensures w.if-all_common.true | then-all_common-via-else-all_common+then-each_identifier w ↦ sym w.each_identifier.ensures ∙ w.if-each_identifier.true ]))

pub returns-then-all_ascii : goal.returns-then-all_ascii
returns-then-all_ascii c = sym (chars-other _ (sym c.each_identifier.ensures ∙ c.if-each_identifier.false) (sym c.all_ascii.ensures ∙ c.if-all_ascii.true))

pub returns : goal.returns
returns c = sym (chars-high _ (sym c.all_ascii.ensures ∙ c.if-all_ascii.false))
