-- The 26 bytes of a reading taken apart.
-- Assumes nothing.
use Rattle.std.specs.Prelude.{ℕ, Bool, cond, List, get_or}
use Rattle.text.specs.Number.{big_at}
use Rattle.path.specs.declared.Place.{Place}
use Rattle.path.specs.declared.Path.{Path}
use Rattle.path.specs.View.{kind_of, carried_of}

-- kind; 1 exact or 0 loose; start and length of the first identifier and of the second; two numbers
pub record Told : Type 0 where
  pub kind : ℕ
  pub mark : ℕ
  pub first : Place
  pub second : Place
  pub a : ℕ
  pub b : ℕ

unfoldable pub told : List ℕ → Told
told bs =
    record {
      kind = get_or bs 0 0;
      mark = get_or bs 1 0;
      first = record { start = big_at 2 2 bs; len = big_at 4 2 bs };
      second = record { start = big_at 6 2 bs; len = big_at 8 2 bs };
      a = big_at 10 8 bs;
      b = big_at 18 8 bs;
    }

-- what a reading says
abbrev pub told_of : Path → Bool → Told
told_of p e = record { kind = kind_of p; mark = cond e 1 0; first = (carried_of p).first; second = (carried_of p).second; a = (carried_of p).a; b = (carried_of p).b }
