-- Worked examples, which antt computes: an empty line counts, and a last line without an end; the same input in two reads; and
-- lines where it is asked why.
-- Assumes nothing.
use mathlib.Core.Path.{◌≡◌, refl}
use mathlib.Core.Bool.{true, false}
use mathlib.Core.List.{[], ◌∷◌}
use Rattle.text.specs.Bytes.{bytes}
use Rattle.text.specs.Number.{numeral_of, digits_at, digits_from, decimal, digits, width, width_by}
use Rattle.text.specs.Part.{every, ascii, same}
use Rattle.text.specs.Refusal.{sentence}
use Rattle.path.specs.Text.{cut_at, join_by, places_from}
use Rattle.path.specs.Kinds.{kinds}
use Rattle.path.specs.Read.{name_fault, fits, fits_kind, read_kind, read_first, suits, suits_kind, part_faults, kind_faults, faults_as, why_not, read_path, show, render, parts_of, render_path}
use Rattle.ask.specs.Answer.{reason, line_answer}
use Rattle.ask.specs.Input.{last_answer, answers, whole_answer, answer_at, ended_answers, unfinished, held, steps_answer}

whole : whole_answer false (bytes "clients\n\n/05/upgradedClient\nnextClientSequence") ≡ bytes "3\n3\n0 18 L /5/upgradedClient\n0 1 E nextClientSequence\n"
unfolding whole_answer answers last_answer line_answer read_path why_not faults_as kind_faults suits_kind suits part_faults read_first read_kind fits_kind fits name_fault kinds cut_at join_by places_from parts_of render render_path show every ascii same numeral_of digits_at digits_from decimal digits width width_by
whole = refl

in_two : steps_answer false [] (bytes "clients\n\n/05/upgr" ∷ (bytes "adedClient\nnextClientSequence" ∷ [])) ≡ bytes "3\n3\n0 18 L /5/upgradedClient\n0 1 E nextClientSequence\n"
unfolding steps_answer ended_answers unfinished held answer_at last_answer line_answer read_path why_not faults_as kind_faults suits_kind suits part_faults read_first read_kind fits_kind fits name_fault kinds cut_at join_by places_from parts_of render render_path show every ascii same numeral_of digits_at digits_from decimal digits width width_by
in_two = refl

reasons : whole_answer true (bytes "x/1y/upgradedClient\nclients\n/05/upgradedClient") ≡ bytes "18 3 a byte of the number is no digit: write it in the digits 0 to 9 alone\n3 the text fits none of the nineteen kinds of path: hold its words and numbers against the table of kinds\n0 18 L /5/upgradedClient\n"
unfolding reason sentence whole_answer answers last_answer line_answer read_path why_not faults_as kind_faults suits_kind suits part_faults read_first read_kind fits_kind fits name_fault kinds cut_at join_by places_from parts_of render render_path show every ascii same numeral_of digits_at digits_from decimal digits width width_by
reasons = refl
