use lib.ListN.{length-append}
use Rattle.text.specs.NumberLaws.{width_u64, length-decimal}
use Rattle.text.specs.PutLaws.{gives-short, gives-text}
use Rattle.writers.specs.Texts.{leaf_text}
use native.Mathlib.Omega.{arith}
use Rattle.render.proofs.texts.fit_leaf.Goals as goal

pub overflow_add-number_width : goal.overflow_add-number_width
overflow_add-number_width c = omega (arith, width_u64 c.args.number (omega arith))

pub overflow_add-number_width-2 : goal.overflow_add-number_width-2
overflow_add-number_width-2 c = omega (arith, width_u64 c.args.number (omega arith), width_u64 c.args.height (omega arith))

pub overflow_add-number_width-3 : goal.overflow_add-number_width-3
overflow_add-number_width-3 c = omega (arith, width_u64 c.args.number (omega arith), width_u64 c.args.height (omega arith))

pub returns-then-out-number_width : goal.returns-then-out-number_width
returns-then-out-number_width c =
    let p = gives-short (leaf_text c.args.number c.args.height c.args.rest.now) c.args.out.now (simp length-append (omega (arith, length-decimal c.args.number, length-decimal c.args.height))) in record { value = p.0; out_after = p.1 }

pub write_consensus_leaf-length-requires : goal.write_consensus_leaf-length-requires
write_consensus_leaf-length-requires c = simp length-append (omega (arith, length-decimal c.args.number, length-decimal c.args.height))

pub returns : goal.returns
returns c =
    let p = gives-text (leaf_text c.args.number c.args.height c.args.rest.now) c.args.out.now c.write_consensus_leaf-length.ensures in record { value = p.0; out_after = p.1 }
