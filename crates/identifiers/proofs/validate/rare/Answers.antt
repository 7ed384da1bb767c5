-- `identifiers::validate::rare` meets its contract: antt computes it over all bytes.
use mathlib.Core.Path.{◌≡◌, refl}
use mathlib.Core.Bool.{true, cond}
use Prim.Native.Nat.{ℕ, ◌<◌}
use native.Mathlib.Omega.{arith}
use lib.Dec.{ltb, eqb}
use borrow.Author.Tests.{eq-eqb}
use Rattle.text.specs.TableLaws.{agree_at}
use Rattle.identifiers.specs.Check.{among, identifier_byte}
use Rattle.identifiers.proofs.validate.rare.Goals as goal

-- what the code computes
abbrev rare_of : ℕ → ℕ
rare_of b = cond (ltb b 45) 1 (cond (eqb b 47) 1 (cond (ltb b 58) 0 (cond (ltb b 97) 1 (cond (ltb b 123) 0 1))))

common : (b high letter digit slash r : ℕ) → high ≡ cond (ltb b 123) 0 1 → letter ≡ cond (ltb b 97) 1 high → digit ≡ cond (ltb b 58) 0 letter → slash ≡ cond (eqb b 47) 1 digit → r ≡ cond (ltb b 45) 1 slash → b < 256 → r ≡ 0 → identifier_byte b ≡ true
unfolding identifier_byte among
common b high letter digit slash r e₁ e₂ e₃ e₄ e₅ h z =
    let e : rare_of b ≡ 0 = rw (← e₁, ← e₂, ← e₃, ← e₄, ← e₅) z in
    rw (eq-eqb (rare_of b) 0 e) at (agree_at (λ b. cond (eqb (rare_of b) 0) (identifier_byte b) true) (λ b. true) 0 256 refl b (omega arith) (omega arith))

pub returns : goal.returns
returns c =
    λ z.
    common c.args.b _ _ _ _ _ c.told-high.ensures c.told-letter.ensures c.told-digit.ensures c.told-slash.ensures c.told.ensures (omega arith) z
