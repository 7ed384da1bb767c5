-- `channel_length` meets its contract.
use mathlib.Core.Path.{sym, ap, ◌∙◌}
use Rattle.text.specs.Bytes.{bytes}
use Rattle.walk_scan.specs.Run.{nonzero}
use Rattle.walk_scan.specs.RunLaws.{nonzero-some}
use Rattle.walk_scan.specs.IndexLaws.{channel-run}
use Rattle.walk_scan.specs.NameLaws.{channel-by-name}
use Rattle.walk_scan.specs.WordLaws.{word_room}
use native.Mathlib.Omega.{arith}
use Rattle.walk_scan.proofs.name.channel_length.Goals as goal

pub index_end-requires : goal.index_end-requires
index_end-requires c = word_room (bytes "channel-") c.args.s.now c.args.at (sym c.word8.ensures ∙ c.if-word8.true) (omega arith)

pub returns-in-Some : goal.returns-in-Some
returns-in-Some c =
    let x = c.in-Some.ensures.1 in
    (omega (arith, c.in-Some.ensures.0, x.some), nonzero-some _ _ (λ z. omega (arith, z, x.some)) (channel-run c.args.s.now c.args.at c.in-Some.e (sym c.word8.ensures ∙ c.if-word8.true) (omega arith) x))

pub returns : goal.returns
returns c = (c.checked.ensures.0, c.checked.ensures.1 ∙ ap nonzero (channel-by-name _))
