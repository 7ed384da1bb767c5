-- `book_form::blank` meets its contract.
use Rattle.std.specs.Prelude.{◌≡◌, ◌&&◌, eqb, drop}
use Rattle.text.specs.Part.{every}
use Rattle.book_form.proofs.blank.Given as goal

abbrev pub invariant-loop-b : goal.invariant-loop-b
invariant-loop-b l = every (λ b. eqb b 0) l.s ≡ (eqb l.all 0 && every (λ b. eqb b 0) (drop l.b-index l.s))
