-- `write_walk` meets its contract.
use Rattle.std.specs.Prelude.{Err}
use mathlib.Core.Path.{refl, ◌∙◌}
use lib.ListN.{length}
use Rattle.text.specs.Put.{left}
use Rattle.path.specs.declared.Refusal.TheVariants.{TooLong}
use Rattle.reading.specs.EncodeLaws.{bytes-refused, fault-refused, answer-reading, bytes-reading}
use Rattle.reading.specs.RefusedLaws.{too_long_when}
use Rattle.walk.specs.BytesLaws.{put-fault, put-bytes}
use Rattle.walk.specs.ViewLaws.{refused-read, all_first, all-second}
use Rattle.walk.proofs.write_walk.Goals as goal

pub returns-then-text-gt4096 : goal.returns-then-text-gt4096
unfolding left
returns-then-text-gt4096 c =
    let h = too_long_when c.args.text.now c.if-text-gt4096.true in
    let e = bytes-refused (Err TooLong) TooLong refl ∙ bytes-reading _ _ h in
    record {
      value = fault-refused (Err TooLong) _ TooLong _ refl c.fault_of.ensures ∙ answer-reading _ _ h _;
      out_after = rw (← e);
    }

pub returns-in-Some : goal.returns-in-Some
returns-in-Some c =
    let e = all_first c.args.text.now c.in-Some.c c.in-Some.ensures in
    record {
      value = put-fault c.args.text.now c.in-Some.c e c.if-text-gt4096.false (length c.args.out.now) c.put_walk.result c.put_walk.ensures.value;
      out_after = put-bytes c.args.text.now c.in-Some.c e c.if-text-gt4096.false c.args.out.now _ c.put_walk.ensures.out_after;
    }

pub returns-in_default-walk_rest : goal.returns-in_default-walk_rest
unfolding left
returns-in_default-walk_rest c =
    let whole = all-second c.args.text.now c.in_default.ensures _ c.in_default-walk_rest.ensures in
    let h = refused-read c.args.text.now c.if-text-gt4096.false whole c.fault.result c.fault.ensures in
    let e = bytes-refused (Err c.fault.result) c.fault.result refl ∙ bytes-reading _ _ h in
    record {
      value = fault-refused (Err c.fault.result) _ c.fault.result _ refl c.fault_of-in_default-walk_rest.ensures ∙ answer-reading _ _ h _;
      out_after = rw (← e);
    }

pub returns : goal.returns
returns c =
    let e = all-second c.args.text.now c.in_default.ensures _ c.in-Some-walk_rest.ensures in
    record {
      value = put-fault c.args.text.now c.in-Some-walk_rest.w e c.if-text-gt4096.false (length c.args.out.now) c.put_walk-2.result c.put_walk-2.ensures.value;
      out_after = put-bytes c.args.text.now c.in-Some-walk_rest.w e c.if-text-gt4096.false c.args.out.now _ c.put_walk-2.ensures.out_after;
    }
