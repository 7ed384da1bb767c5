use mathlib.Core.Path.{sym, ◌∙◌}
use native.Mathlib.Omega.{arith}
use Rattle.identifiers.specs.Check.{identifier_byte}
use Rattle.diagnose.specs.AgreeLaws.{until_end, until_stop, until-more}
use Rattle.diagnose.proofs.alike.identifier_run.Goals as goal

pub returns-then-not-is_identifier_byte : goal.returns-then-not-is_identifier_byte
returns-then-not-is_identifier_byte c =
    omega (arith, c.loop-i.invariant, until_stop identifier_byte c.args.c.now c.loop-i.i (omega arith) (sym c.is_identifier_byte.ensures ∙ c.if-not-is_identifier_byte.true))

pub loop-i-preserved : goal.loop-i-preserved
loop-i-preserved c =
    omega (arith, c.loop-i.invariant, until-more identifier_byte c.args.c.now c.loop-i.i (omega arith) (sym c.is_identifier_byte.ensures ∙ c.if-not-is_identifier_byte.false))

pub returns : goal.returns
returns c =
    omega (arith, c.loop-i.invariant, until_end identifier_byte c.args.c.now c.loop-i.i (omega arith))
