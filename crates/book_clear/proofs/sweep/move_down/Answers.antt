-- `book_clear::sweep::move_down` meets its contract.
use mathlib.Core.Path.{◌≡◌, ap, ◌∙◌}
use Prim.Native.Nat.{ℕ, ◌+◌, ◌*◌, ◌-◌}
use native.Mathlib.Omega.{arith}
use Rattle.book_form.specs.Moves.{lowered}
use Rattle.book_form.specs.MovesLaws.{lowered_still}
use Rattle.book_clear.proofs.sweep.move_down.Goals as goal

-- nothing to move
pub returns-else-kept-i : goal.returns-else-kept-i
returns-else-kept-i c =
    let f : ℕ = 12 + 322 * c.args.i in
    let t : ℕ = 12 + 322 * (c.args.i + 1) in
    lowered_still f t c.args.book.now (omega arith) (omega arith) ∙ ap (λ (w : ℕ). lowered f t w c.args.book.now) (let z : 0 ≡ 322 * (c.args.i - c.args.kept) = omega arith in z)
