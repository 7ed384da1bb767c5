-- `book::check::blank_after` meets its contract.
use mathlib.Core.Path.{ap, ◌∙◌}
use Prim.Native.Nat.{ℕ}
use lib.Dec.{eqb}
use lib.ListN.{drop}
use Rattle.text.specs.Part.{every}
use Rattle.text.specs.PartLaws.{part-rest}
use Rattle.book.proofs.check.blank_after.Goals as goal

pub returns : goal.returns
returns c = c.all_zero.ensures ∙ ap (every (λ b. eqb b 0)) (part-rest c.slot_at-start.result c.args.book.now ∙ ap (λ (m : ℕ). drop m c.args.book.now) c.slot_at-start.ensures)
