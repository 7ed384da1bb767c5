-- What it tells of a number text whether it has a value.
-- Assumes nothing.
use Rattle.std.specs.Prelude.{Ok, Err}
use Rattle.std.specs.Result.{is_ok}
use mathlib.Core.Path.{◌≡◌, refl}
use Rattle.text.specs.Number.{Numeral}
use Rattle.identifiers.specs.Check.{is_value}

pub ok-value : (n : Numeral) → is_value n ≡ is_ok n
ok-value (Ok v) = refl
ok-value (Err fault) = refl
