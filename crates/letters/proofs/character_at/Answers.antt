-- `letters::character_at` meets its contract.
use mathlib.Core.Path.{sym, ◌∙◌}
use native.Mathlib.Omega.{arith}
use Rattle.letters.specs.CharacterLaws.{first-end, first_one, first_inner, first_two, first_three, first-four, first_never}
use Rattle.letters.proofs.character_at.Goals as goal

pub returns-then-s-at : goal.returns-then-s-at
returns-then-s-at c = sym (first-end c.args.s.now c.args.at (omega arith))

pub returns-in-0-to-127 : goal.returns-in-0-to-127
returns-in-0-to-127 c =
    sym (first_one c.args.s.now c.args.at (omega arith) c.from-b.result c.from-b.ensures (omega arith))

pub returns-in-192-to-223 : goal.returns-in-192-to-223
returns-in-192-to-223 c =
    c.goes_on.ensures ∙ sym (first_two c.args.s.now c.args.at (omega arith) c.from-b.result c.from-b.ensures (omega arith) (omega arith) (omega arith))

pub returns-in-224-to-239 : goal.returns-in-224-to-239
returns-in-224-to-239 c =
    c.goes_on-in-224-to-239.ensures ∙ sym (first_three c.args.s.now c.args.at (omega arith) c.from-b.result c.from-b.ensures (omega arith) (omega arith) (omega arith))

pub returns-in-240-to-247 : goal.returns-in-240-to-247
returns-in-240-to-247 c =
    c.goes_on-in-240-to-247.ensures ∙ sym (first-four c.args.s.now c.args.at (omega arith) c.from-b.result c.from-b.ensures (omega arith) (omega arith) (omega arith) (omega arith))

pub returns-in_default : goal.returns-in_default
returns-in_default c =
    sym (first_inner c.args.s.now c.args.at (omega arith) c.from-b.result c.from-b.ensures (omega arith) (omega arith))

pub returns-in_default-2 : goal.returns-in_default-2
returns-in_default-2 c =
    sym (first_never c.args.s.now c.args.at (omega arith) c.from-b.result c.from-b.ensures (omega arith) (omega arith) (omega arith))
