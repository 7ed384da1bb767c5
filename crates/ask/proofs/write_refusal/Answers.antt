use mathlib.Core.Path.{sym, ap, ◌∙◌}
use mathlib.Core.List.{◌∷◌, []}
use Prim.Native.Nat.{◌+◌}
use lib.ListN.{length}
use Rattle.text.specs.declared.Fault.{Fault}
use Rattle.text.specs.Number.{decimal}
use Rattle.text.specs.Put.{put}
use Rattle.text.specs.PutLaws.{put_two}
use Rattle.path.specs.Read.{refusal_of}
use Rattle.ask.specs.Answer.{saying}
use Rattle.ask.specs.AnswerLaws.{refused-length}
use native.Mathlib.Omega.{arith}
use Rattle.ask.proofs.write_refusal.Goals as goal

pub write_number-number-requires : goal.write_number-number-requires
write_number-number-requires c = omega (arith, refused-length c.args.why c.args.w, ap (λ (f : Fault). length (decimal f.refusal)) c.fault_of-fault.ensures)

pub write_saying-end-requires : goal.write_saying-end-requires
write_saying-end-requires c = omega (arith, refused-length c.args.why c.args.w, ap (λ (f : Fault). length (decimal f.refusal)) c.fault_of-fault.ensures, c.write_number-number.ensures.value)

pub write_byte-requires : goal.write_byte-requires
write_byte-requires c = omega (arith, refused-length c.args.why c.args.w, ap (λ (f : Fault). length (decimal f.refusal)) c.fault_of-fault.ensures, c.write_number-number.ensures.value, c.write_saying-end.ensures.value)

pub returns : goal.returns
returns c = let l = refused-length c.args.why c.args.w in
    let n = c.write_number-number.ensures.value ∙ ap (λ (y : Fault). c.args.at + length (decimal y.refusal)) c.fault_of-fault.ensures in
    let o = c.write_number-number.ensures.out_after ∙ ap (λ (y : Fault). put c.args.out.now c.args.at (decimal y.refusal)) c.fault_of-fault.ensures in
    let e = put_two c.args.out.now c.args.at (decimal (refusal_of c.args.w)) (saying c.args.why c.args.w) (10 ∷ []) c.write_number-number.new.out c.write_saying-end.new.out c.write_number-number.result c.write_saying-end.result o n c.write_saying-end.ensures.out_after c.write_saying-end.ensures.value (omega (arith, n, c.write_saying-end.ensures.value)) in
    record {
      value = omega (arith, n, c.write_saying-end.ensures.value, c.write_byte.ensures.value);
      out_after = c.write_byte.ensures.out_after ∙ sym e;
    }
