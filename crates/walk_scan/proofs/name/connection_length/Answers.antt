-- `connection_length` meets its contract.
use mathlib.Core.Path.{sym, ap, ◌∙◌}
use Rattle.text.specs.Bytes.{bytes}
use Rattle.walk_scan.specs.Run.{nonzero}
use Rattle.walk_scan.specs.RunLaws.{nonzero-some}
use Rattle.walk_scan.specs.IndexLaws.{connection-run}
use Rattle.walk_scan.specs.NameLaws.{connection-by-name}
use Rattle.walk_scan.specs.WordLaws.{eight-word, word_two, word_room}
use native.Mathlib.Omega.{arith}
use Rattle.walk_scan.proofs.name.connection_length.Goals as goal

pub index_end-requires : goal.index_end-requires
index_end-requires c =
    word_room (bytes "connection-") c.args.s.now c.args.at (sym (word_two (bytes "connection-") 11 c.args.s.now c.args.at _ _ (eight-word _ _ (omega arith) (c.eight.ensures.value, c.eight.ensures.bytes)) (eight-word _ _ (omega arith) (c.eight-2.ensures.value, c.eight-2.ensures.bytes)) (omega arith)) ∙ sym c.word16.ensures ∙ c.if-word16.true) (omega arith)

pub returns-in-Some : goal.returns-in-Some
returns-in-Some c =
    let x = c.in-Some.ensures.1 in
    let word = sym (word_two (bytes "connection-") 11 c.args.s.now c.args.at _ _ (eight-word _ _ (omega arith) (c.eight.ensures.value, c.eight.ensures.bytes)) (eight-word _ _ (omega arith) (c.eight-2.ensures.value, c.eight-2.ensures.bytes)) (omega arith)) ∙ sym c.word16.ensures ∙ c.if-word16.true in
    (omega (arith, c.in-Some.ensures.0, x.some), nonzero-some _ _ (λ z. omega (arith, z, x.some)) (connection-run c.args.s.now c.args.at c.in-Some.e word (omega arith) x))

pub returns : goal.returns
returns c = (c.checked.ensures.0, c.checked.ensures.1 ∙ ap nonzero (connection-by-name _))
