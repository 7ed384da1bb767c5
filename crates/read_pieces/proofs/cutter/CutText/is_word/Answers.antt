-- `cutter::CutText::is_word` meets its contract.
use mathlib.Core.Path.{ap, ◌∙◌}
use mathlib.Core.List.{List}
use Prim.Native.Nat.{ℕ}
use Rattle.text.specs.Part.{same}
use Rattle.read_pieces.proofs.cutter.CutText.is_word.Goals as goal

pub returns : goal.returns
returns c = c.equal.ensures ∙ ap (λ (l : List ℕ). same l c.args.w.now) c.component.ensures.bytes
