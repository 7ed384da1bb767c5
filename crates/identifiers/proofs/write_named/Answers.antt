-- `identifiers::write_named` meets its contract.
use mathlib.Core.Path.{sym, ap, ◌∙◌}
use mathlib.Core.List.{[], ◌∷◌}
use Prim.Native.Nat.{◌+◌}
use native.Mathlib.Omega.{arith}
use lib.ListN.{length}
use borrow.Author.Tests.{ltb-true, ltb-false}
use Rattle.text.specs.Number.{width}
use Rattle.text.specs.NumberLaws.{length-decimal}
use Rattle.text.specs.Put.{done}
use Rattle.text.specs.PutLaws.{put_next, answer-fits, answer-short, left-fits, left-short}
use Rattle.identifiers.specs.OwnedLaws.{length-named}
use Rattle.identifiers.proofs.write_named.Goals as goal

pub returns-then-not-has_room : goal.returns-then-not-has_room
returns-then-not-has_room c =
    let short = ltb-false (length c.args.name.now + width c.args.counter) (length c.args.out.now) (sym c.has_room.ensures ∙ c.if-not-has_room.true) in
    let e = length-named c.args.name.now c.args.counter in
    record {
      value = sym (answer-short _ _ (omega arith));
      out_after = sym (left-short _ _ (omega arith));
    }

pub write_index-end-requires : goal.write_index-end-requires
write_index-end-requires c =
    let room = ltb-true (length c.args.name.now + width c.args.counter) (length c.args.out.now) (sym c.has_room.ensures ∙ c.if-not-has_room.false) in
    omega (arith, length-decimal c.args.counter)

pub returns : goal.returns
returns c =
    let room = ltb-true (length c.args.name.now + width c.args.counter) (length c.args.out.now) (sym c.has_room.ensures ∙ c.if-not-has_room.false) in
    let e = length-named c.args.name.now c.args.counter in
    let d = length-decimal c.args.counter in
    record {
      value = ap done (omega arith) ∙ sym (answer-fits _ _ (omega arith));
      out_after = sym
          (left-fits _ _ (omega arith)
          ∙ put_next c.args.out.now 0 c.args.name.now _ c.write_text-dash.new.out c.write_text-dash.result (omega arith) c.write_text-dash.ensures.value c.write_text-dash.ensures.out_after
          ∙ put_next c.write_text-dash.new.out c.write_text-dash.result (45 ∷ []) _ c.write_byte-index.new.out c.write_byte-index.result (omega arith) c.write_byte-index.ensures.value c.write_byte-index.ensures.out_after
          ∙ sym c.write_index-end.ensures.out_after);
    }
