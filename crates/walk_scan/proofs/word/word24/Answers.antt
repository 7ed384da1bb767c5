-- `word24` meets its contract.
use mathlib.Core.Path.{◌≡◌, sym, ◌∙◌}
use mathlib.Core.Bool.{false, ◌&&◌}
use Prim.Native.Nat.{◌+◌, ◌-◌}
use Rattle.text.specs.Number.{low_bytes}
use Rattle.text.specs.Part.{starts_with}
use lib.ListN.{drop}
use Rattle.walk_scan.specs.WordLaws.{starts_none, and_none, and-stop}
use native.Mathlib.Omega.{arith}
use Rattle.walk_scan.proofs.word.word24.Goals.{then-n-s, else-n-s, then-is_eight, else-is_eight}
use Rattle.walk_scan.proofs.word.word24.Goals as goal

pub returns-else-is_eight-2 : goal.returns-else-is_eight-2
returns-else-is_eight-2 c =
    let none : false ≡ (starts_with (low_bytes 8 c.args.a) (drop c.args.at c.args.s.now) && (starts_with (low_bytes 8 c.args.b) (drop (c.args.at + 8) c.args.s.now) && starts_with (low_bytes 8 c.args.c) (drop (c.args.at + (c.args.n - 8)) c.args.s.now))) = elim c.if-is_eight.branch [
      | then-is_eight w ↦ and_none _ _ (sym (and-stop _ _ (sym w.is_eight-then-is_eight.ensures ∙ sym w.value-is ∙ c.if-is_eight-2.false)))
      | else-is_eight w ↦ (elim c.if-n-s.branch [
        | then-n-s u ↦ and-stop _ _ (sym u.is_eight.ensures ∙ sym u.value-is ∙ w.if-is_eight.false)
        | else-n-s u ↦ and_none _ _ (sym (and_none _ _ (starts_none c.args.s.now (c.args.at + (c.args.n - 8)) c.args.c (omega (arith, u.if-n-s.false)))))
      ])
    ] in
    c.if-is_eight-2.false ∙ none
