-- `wide::read::read_path` meets its contract.
use Rattle.std.specs.Prelude.{Some}
use mathlib.Core.Path.{sym, ap, ◌∙◌}
use Rattle.path.specs.Reading.{Reading}
use Rattle.wide.specs.AsciiLaws.{read-ascii}
use Rattle.wide.specs.StepLaws.{read-long, read-other, read-seen}
use Rattle.wide.proofs.read.read_path.Goals as goal

pub returns-then-text-gt4096 : goal.returns-then-text-gt4096
returns-then-text-gt4096 c = read-long _ c.if-text-gt4096.true

pub returns-then-all_ascii : goal.returns-then-all_ascii
returns-then-all_ascii c = ap (λ (r : Reading). Some r) c.walk_path.ensures ∙ sym (read-ascii _ (sym c.all_ascii.ensures ∙ c.if-all_ascii.true))

pub returns-then-not-is_utf8 : goal.returns-then-not-is_utf8
returns-then-not-is_utf8 c = read-other _ c.if-text-gt4096.false (sym c.is_utf8.ensures ∙ c.if-not-is_utf8.true)

pub returns : goal.returns
returns c = ap (λ (r : Reading). Some r) c.read_picture.ensures ∙ read-seen _ c.if-text-gt4096.false (sym c.is_utf8.ensures ∙ c.if-not-is_utf8.false)
