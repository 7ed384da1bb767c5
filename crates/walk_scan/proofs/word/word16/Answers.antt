-- `word16` meets its contract.
use mathlib.Core.Path.{◌≡◌, sym, ◌∙◌}
use mathlib.Core.Bool.{false, ◌&&◌}
use Prim.Native.Nat.{◌+◌, ◌-◌}
use Rattle.walk_scan.specs.WordLaws.{starts_none, and_none, and-stop}
use Rattle.text.specs.Number.{low_bytes}
use Rattle.text.specs.Part.{starts_with}
use lib.ListN.{drop}
use native.Mathlib.Omega.{arith}
use Rattle.walk_scan.proofs.word.word16.Goals.{then-n-s, else-n-s}
use Rattle.walk_scan.proofs.word.word16.Goals as goal

pub returns-else-is_eight : goal.returns-else-is_eight
returns-else-is_eight c =
    let none : false ≡ (starts_with (low_bytes 8 c.args.a) (drop c.args.at c.args.s.now) && starts_with (low_bytes 8 c.args.b) (drop (c.args.at + (c.args.n - 8)) c.args.s.now)) = elim c.if-n-s.branch [
      | then-n-s w ↦ and-stop _ _ (sym w.is_eight.ensures ∙ sym w.value-is ∙ c.if-is_eight.false)
      | else-n-s w ↦ and_none _ _ (starts_none c.args.s.now (c.args.at + (c.args.n - 8)) c.args.b (omega (arith, w.if-n-s.false)))
    ] in
    c.if-is_eight.false ∙ none
