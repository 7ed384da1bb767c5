-- `fault` meets its contract.
use mathlib.Core.Path.{◌≡◌, sym, ◌∙◌}
use mathlib.Core.Bool.{true, false}
use Rattle.text.specs.Part.{ascii}
use Rattle.reading.proofs.fault.Goals as goal

pub returns-then-all_ascii : goal.returns-then-all_ascii
returns-then-all_ascii c = let h : ascii c.args.text.now ≡ true = sym c.all_ascii.ensures ∙ c.if-all_ascii.true in rw h c.number_fault.ensures

pub returns-else-all_ascii : goal.returns-else-all_ascii
returns-else-all_ascii c = let h : ascii c.args.text.now ≡ false = sym c.all_ascii.ensures ∙ c.if-all_ascii.false in rw h
