-- `wide::client_id::write_client_id` meets its contract.
use mathlib.Core.Path.{sym, ap, ◌∙◌}
use Rattle.text.specs.Put.{refused}
use Rattle.text.specs.PutLaws.{gives-refusal}
use Rattle.identifiers.specs.Check.{client_type}
use Rattle.wide.specs.Mode.{wide}
use Rattle.wide.specs.Check.{check_in, new_client_in}
use Rattle.wide.specs.StepLaws.{trim-wide, new-other, new-refused, new-text}
use Rattle.wide.proofs.client_id.write_client_id.Goals as goal

pub returns-then-not-is_utf8 : goal.returns-then-not-is_utf8
returns-then-not-is_utf8 c =
    let p = gives-refusal (new_client_in wide c.args.client_type.now c.args.counter) c.args.out.now 21 (new-other c.args.client_type.now c.args.counter (sym c.is_utf8.ensures ∙ c.if-not-is_utf8.true)) in record { value = p.0; out_after = p.1 }

pub returns-then-refusal-ne0 : goal.returns-then-refusal-ne0
returns-then-refusal-ne0 c =
    let u = sym c.is_utf8.ensures ∙ c.if-not-is_utf8.false in
    let t = c.wide_trim-name.ensures.bytes ∙ trim-wide c.args.client_type.now in
    let v = c.validate_client_type-refusal.ensures ∙ ap (check_in wide client_type) t in
    let p = gives-refusal (new_client_in wide c.args.client_type.now c.args.counter) c.args.out.now _ (new-refused c.args.client_type.now c.args.counter u (λ z. c.if-refusal-ne0.true (v ∙ z)) ∙ ap refused (sym v)) in record { value = p.0; out_after = p.1 }

pub returns : goal.returns
returns c =
    let u = sym c.is_utf8.ensures ∙ c.if-not-is_utf8.false in
    let t = c.wide_trim-name.ensures.bytes ∙ trim-wide c.args.client_type.now in
    let v = c.validate_client_type-refusal.ensures ∙ ap (check_in wide client_type) t in
    let e = new-text c.args.client_type.now c.args.counter u (sym v ∙ c.if-refusal-ne0.false) in
    record {
      value = rw (e, ← t) c.write_named.ensures.value;
      out_after = rw (e, ← t) c.write_named.ensures.out_after;
    }
