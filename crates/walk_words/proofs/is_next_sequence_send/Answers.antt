-- `is_next_sequence_send` meets its contract.
use mathlib.Core.Path.{◌∙◌}
use Rattle.text.specs.Bytes.{bytes}
use Rattle.walk_scan.specs.WordLaws.{eight-word, word-three}
use native.Mathlib.Omega.{arith}
use Rattle.walk_words.proofs.is_next_sequence_send.Goals as goal

pub returns : goal.returns
returns c =
    c.word24.ensures ∙ word-three (bytes "nextSequenceSend/ports/") 23 c.args.s.now c.args.at _ _ _ (eight-word _ _ (omega arith) (c.eight.ensures.value, c.eight.ensures.bytes)) (eight-word _ _ (omega arith) (c.eight-2.ensures.value, c.eight-2.ensures.bytes)) (eight-word _ _ (omega arith) (c.eight-3.ensures.value, c.eight-3.ensures.bytes)) (omega arith) (omega arith)
