-- `book::open_call` meets its contract.
use Rattle.std.proofs.Common.{ℕ, ◌≡◌, refl, sym, ap, ◌∙◌, arith}
use Rattle.std.specs.Prelude.{Result, Ok, Err}
use Rattle.std.specs.Result.{IsErr, IsErrAnd}
use Rattle.book.specs.Open.{opened}
use Rattle.book.specs.OpenLaws.{open_none, open_nobody, open-some}
use Rattle.book.proofs.open_call.Goals as goal

err-is : {X : Type 0} (r : Result X ℕ) (n : ℕ) → IsErr r → IsErrAnd r (λ k. k ≡ n) → r ≡ Err n
err-is (Ok x) n h e = let y : ◌≡◌ {A = ℕ} 0 1 = cc in absurd (omega arith)
err-is (Err k) n h e = ap (λ (z : ℕ). Err z) e

pub returns-in_default : goal.returns-in_default
returns-in_default c = open_none _ _ _ _ _ c.check_book.ensures _ c.in_default.is refl

pub returns-then-not-is_owner : goal.returns-then-not-is_owner
returns-then-not-is_owner c = open_nobody _ _ _ _ _ c.check_book.ensures _ _ c.in-Some.is (sym c.is_owner.ensures ∙ c.if-not-is_owner.true) refl

pub returns-in_err-made : goal.returns-in_err-made
returns-in_err-made c = open-some _ _ _ _ _ c.check_book.ensures _ _ c.in-Some.is (sym c.is_owner.ensures ∙ c.if-not-is_owner.false) (err-is _ _ c.from_residual.ensures.0 c.from_residual.ensures.1 ∙ ap (opened c.in-Some.count) (sym c.in_err-made.was ∙ c.key_of.ensures))

pub returns : goal.returns
returns c = open-some _ _ _ _ _ c.check_book.ensures _ _ c.in-Some.is (sym c.is_owner.ensures ∙ c.if-not-is_owner.false) (ap (opened c.in-Some.count) (sym c.in_ok-made.was ∙ c.key_of.ensures))
