use lib.ListN.{length-append}
use Rattle.text.specs.PutLaws.{gives-short, gives-text}
use Rattle.writers.specs.Texts.{parent_text}
use native.Mathlib.Omega.{arith}
use Rattle.render.proofs.texts.fit_parent.Goals as goal

pub returns-then-out-client : goal.returns-then-out-client
returns-then-out-client c =
    let p = gives-short (parent_text c.args.client.now) c.args.out.now (simp length-append (omega arith)) in record { value = p.0; out_after = p.1 }

pub write_consensus_parent-length-requires : goal.write_consensus_parent-length-requires
write_consensus_parent-length-requires c = simp length-append (omega arith)

pub returns : goal.returns
returns c =
    let p = gives-text (parent_text c.args.client.now) c.args.out.now c.write_consensus_parent-length.ensures in record { value = p.0; out_after = p.1 }
