-- Which of a client's states, times and heights stay: all of them, none, or those from a revision on.
-- Assumes nothing.
use Rattle.std.specs.Prelude.{◌≡◌, Bool, true, false, List, ℕ}
use Rattle.path.specs.declared.Revision.{Revision}
use Rattle.path.specs.Revision.{below}
use Rattle.book_clear.specs.declared.role.Role.{Role}
use Rattle.book_clear.specs.declared.role.Role.TheVariants.{State, Beside, Other}
use Rattle.book_clear.specs.declared.states.Stay.{Stay}
use Rattle.book_clear.specs.declared.states.Stay.TheVariants.{All, Nothing, From}
use Rattle.book_clear.specs.Clear.{goes_with}
use Rattle.book_clear.specs.States.{noted_that}

-- what has the revision p does not stay
abbrev pub leaves_at : Stay → Revision → Bool
leaves_at All p = false
leaves_at Nothing p = true
leaves_at (From q) p = below p q

abbrev pub leaves : Stay → Role → Bool
leaves t (State p) = leaves_at t p
leaves t (Beside p) = leaves_at t p
leaves t Other = false

-- what stays is what does not go, by the first n slots that are noted
abbrev pub StayIs : List Role → ℕ → ℕ → Stay → Type 0
StayIs rs n keep t = (p : Revision) → leaves_at t p ≡ goes_with keep (noted_that (λ q. true) rs n) (noted_that (λ q. below p q) rs n)
