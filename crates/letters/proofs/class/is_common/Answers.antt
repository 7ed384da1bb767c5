-- `letters::class::is_common` meets its contract: each range that is asked for is one of the table.
use native.Mathlib.Omega.{arith}
use Rattle.letters.specs.TableLaws.{letter_covered, latin-first, latin-second, greek-first, greek-second, cyrillic, han, hangul}
use Rattle.letters.proofs.class.is_common.Goals as goal

pub returns-in-216-to-246 : goal.returns-in-216-to-246
returns-in-216-to-246 c = λ _. letter_covered 216 246 _ latin-first (omega arith) (omega arith)

pub returns-in-216-to-246-2 : goal.returns-in-216-to-246-2
returns-in-216-to-246-2 c = λ _. letter_covered 248 705 _ latin-second (omega arith) (omega arith)

pub returns-in-216-to-246-3 : goal.returns-in-216-to-246-3
returns-in-216-to-246-3 c = λ _. letter_covered 910 929 _ greek-first (omega arith) (omega arith)

pub returns-in-216-to-246-4 : goal.returns-in-216-to-246-4
returns-in-216-to-246-4 c = λ _. letter_covered 931 1013 _ greek-second (omega arith) (omega arith)

pub returns-in-216-to-246-5 : goal.returns-in-216-to-246-5
returns-in-216-to-246-5 c = λ _. letter_covered 1015 1153 _ cyrillic (omega arith) (omega arith)

pub returns-in-216-to-246-6 : goal.returns-in-216-to-246-6
returns-in-216-to-246-6 c = λ _. letter_covered 19968 42124 _ han (omega arith) (omega arith)

pub returns-in-216-to-246-7 : goal.returns-in-216-to-246-7
returns-in-216-to-246-7 c = λ _. letter_covered 44032 55203 _ hangul (omega arith) (omega arith)
