-- `identifiers::validate::is_identifier_byte` meets its contract: antt computes each way out of it over all bytes that take it.
use mathlib.Core.Path.{refl}
use Prim.Native.Nat.{◌-◌, ◌/◌, ◌%◌, ◌^◌}
use native.Mathlib.Omega.{arith}
use lib.Dec.{ltb, eqb}
use Rattle.text.specs.TableLaws.{agree_at}
use Rattle.identifiers.specs.Check.{among, identifier_byte}
use Rattle.identifiers.proofs.validate.is_identifier_byte.Goals as goal

pub returns-then-b-gt96 : goal.returns-then-b-gt96
unfolding identifier_byte among
returns-then-b-gt96 c = agree_at (λ b. ltb b 123) identifier_byte 97 159 refl c.args.b (omega arith) (omega arith)

pub returns-then-b-lt64 : goal.returns-then-b-lt64
unfolding identifier_byte among
returns-then-b-lt64 c = agree_at (λ b. eqb (_ / 2 ^ b % 2) 1) identifier_byte 0 64 refl c.args.b (omega arith) (omega arith)

pub returns : goal.returns
unfolding identifier_byte among
returns c = agree_at (λ b. eqb (_ / 2 ^ (b - 64) % 2) 1) identifier_byte 64 33 refl c.args.b (omega arith) (omega arith)
