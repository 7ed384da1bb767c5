-- What the case of an answer that a match took tells.
-- Assumes nothing.
use Rattle.std.specs.Prelude.{Ok, Err}
use mathlib.Core.Path.{◌≡◌, refl}
use mathlib.Core.Bool.{false}
use Prim.Native.Nat.{ℕ}
use Rattle.text.specs.Number.{Numeral}
use Rattle.identifiers.specs.Check.{is_value}

-- a numeral of another case is no value
pub no_value : (n : Numeral) → ((x : ℕ) → n ≡ Ok x → ⊥) → is_value n ≡ false
no_value (Ok v) h = absurd (h v refl)
no_value (Err fault) h = refl
