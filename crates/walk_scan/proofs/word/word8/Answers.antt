-- `word8` meets its contract.
use mathlib.Core.Path.{sym, ap, ◌∙◌}
use mathlib.Core.List.{List}
use Prim.Native.Nat.{ℕ}
use lib.ListN.{drop, length-drop}
use borrow.Author.Tests.{lt-leb}
use Rattle.text.specs.Part.{starts_with}
use Rattle.text.specs.PartLaws.{starts-short}
use Rattle.walk_scan.specs.WordLaws.{eight-whole}
use native.Mathlib.Omega.{arith}
use Rattle.walk_scan.proofs.word.word8.Goals as goal

pub returns-then-s-at-ge8 : goal.returns-then-s-at-ge8
returns-then-s-at-ge8 c =
    c.is_eight.ensures ∙ ap (λ (x : List ℕ). starts_with x (drop c.args.at c.args.s.now)) (eight-whole c.args.w.now _ (omega arith) (c.eight.ensures.value, c.eight.ensures.bytes))

pub returns-else-s-at-ge8 : goal.returns-else-s-at-ge8
returns-else-s-at-ge8 c = lt-leb 8 _ c.if-s-at-ge8.false ∙ sym (starts-short c.args.w.now (drop c.args.at c.args.s.now) (rw length-drop (omega arith)))
