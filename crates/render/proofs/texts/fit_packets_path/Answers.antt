use lib.ListN.{length-append}
use Rattle.text.specs.PutLaws.{gives-short, gives-text}
use Rattle.writers.specs.Texts.{packets_text}
use native.Mathlib.Omega.{arith}
use Rattle.render.proofs.texts.fit_packets_path.Goals as goal

pub returns-then-not-fit : goal.returns-then-not-fit
returns-then-not-fit c =
    let p = gives-short (packets_text c.args.first.now c.args.port.now c.args.channel.now) c.args.out.now (simp length-append (omega (arith, c.fit.ensures.1 c.if-not-fit.true))) in record { value = p.0; out_after = p.1 }

pub write_packets_path-length-requires : goal.write_packets_path-length-requires
write_packets_path-length-requires c = simp length-append (omega (arith, c.fit.ensures.0 c.if-not-fit.false))

pub returns : goal.returns
returns c =
    let p = gives-text (packets_text c.args.first.now c.args.port.now c.args.channel.now) c.args.out.now c.write_packets_path-length.ensures in record { value = p.0; out_after = p.1 }
