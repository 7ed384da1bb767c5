-- A flag that tells whether a thing holds.
-- Assumes nothing.
use Rattle.std.specs.Prelude.{◌≡◌, refl, Bool, true, false, ℕ}
use Rattle.std.proofs.Common.{arith}

pub record Tells (r : Bool) (P : Type 0) : Type 0 where
  pub holds : r ≡ true → P
  pub fails : r ≡ false → P → ⊥

pub tells_true : {P : Type 0} → P → Tells true P
tells_true p = record { holds = λ e. p; fails = λ e q. let z : ◌≡◌ {A = ℕ} 0 1 = cc in omega arith }

pub tells_false : {P : Type 0} → (P → ⊥) → Tells false P
tells_false n = record { holds = λ e. absurd (let z : ◌≡◌ {A = ℕ} 0 1 = cc in let y : ⊥ = omega arith in y); fails = λ e q. n q }

pub one_told : {P : Type 0} (r q : Bool) → Tells r P → Tells q P → r ≡ q
one_told true true x y = refl
one_told true false x y = absurd (y.fails refl (x.holds refl))
one_told false true x y = absurd (x.fails refl (y.holds refl))
one_told false false x y = refl
