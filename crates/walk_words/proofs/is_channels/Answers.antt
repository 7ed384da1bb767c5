-- `is_channels` meets its contract.
use mathlib.Core.Path.{◌∙◌}
use Rattle.text.specs.Bytes.{bytes}
use Rattle.walk_scan.specs.WordLaws.{eight-word, word_two}
use native.Mathlib.Omega.{arith}
use Rattle.walk_words.proofs.is_channels.Goals as goal

pub returns : goal.returns
returns c =
    c.word16.ensures ∙ word_two (bytes "/channels/") 10 c.args.s.now c.args.at _ _ (eight-word _ _ (omega arith) (c.eight.ensures.value, c.eight.ensures.bytes)) (eight-word _ _ (omega arith) (c.eight-2.ensures.value, c.eight-2.ensures.bytes)) (omega arith)
