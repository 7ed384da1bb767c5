-- `book_form::fill_slot` meets its contract.
use native.Mathlib.Omega.{arith}
use Rattle.book_form.proofs.fill_slot.Goals as goal

pub returns-then-i-gap : goal.returns-then-i-gap
returns-then-i-gap c = record { moved = λ h. c.lower_slot.ensures; cleared = λ h. absurd (let z : ⊥ = omega arith in z) }

pub returns-else-i-gap : goal.returns-else-i-gap
returns-else-i-gap c = record { moved = λ h. absurd (let z : ⊥ = omega arith in z); cleared = λ h. c.clear.ensures }
