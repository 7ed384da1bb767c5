use mathlib.Core.List.{[]}
use Prim.Native.Nat.{◌-◌}
use lib.ListN.{get_or}
use Rattle.text.specs.PutLaws.{gives-short, gives-text}
use Rattle.writers.specs.Texts.{sequence_texts}
use Rattle.render.specs.RenderLaws.{word-length}
use native.Mathlib.Omega.{arith}
use Rattle.render.proofs.fit.fit_word.Goals as goal

pub returns-then-out-render_length : goal.returns-then-out-render_length
returns-then-out-render_length c =
    let p = gives-short (get_or sequence_texts (c.args.kind - 1) []) c.args.out.now (omega (arith, word-length c.args.kind (omega arith) (omega arith), c.render_length.ensures)) in record { value = p.0; out_after = p.1 }

pub write_next_sequence-length-requires : goal.write_next_sequence-length-requires
write_next_sequence-length-requires c =
    (omega arith, omega arith, omega (arith, word-length c.args.kind (omega arith) (omega arith), c.render_length.ensures))

pub returns : goal.returns
returns c =
    let p = gives-text (get_or sequence_texts (c.args.kind - 1) []) c.args.out.now c.write_next_sequence-length.ensures in record { value = p.0; out_after = p.1 }
