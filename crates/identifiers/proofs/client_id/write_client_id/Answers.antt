-- `identifiers::client_id::write_client_id` meets its contract.
use mathlib.Core.Path.{sym, ap, ◌∙◌}
use Rattle.text.specs.Put.{refused, answer, left}
use Rattle.identifiers.specs.Check.{check_of, client_type}
use Rattle.identifiers.specs.Owned.{trim, trim_end}
use Rattle.identifiers.specs.OwnedLaws.{new-high, new-refused, new-text}
use Rattle.identifiers.proofs.client_id.write_client_id.Goals as goal

pub returns-then-not-all_ascii : goal.returns-then-not-all_ascii
unfolding answer left
returns-then-not-all_ascii c = let e = new-high _ c.args.counter (sym c.all_ascii.ensures ∙ c.if-not-all_ascii.true) in
    record {
      value = rw e;
      out_after = rw e;
    }

pub returns-then-refusal-ne0 : goal.returns-then-refusal-ne0
unfolding answer left trim
returns-then-refusal-ne0 c =
    let low = sym c.all_ascii.ensures ∙ c.if-not-all_ascii.false in
    let t = c.trim_end-name.ensures ∙ ap trim_end c.trim_start.ensures in
    let v = c.validate_client_type-refusal.ensures ∙ ap (check_of client_type) t in
    let e = new-refused c.args.client_type.now c.args.counter low (λ z. c.if-refusal-ne0.true (v ∙ z)) ∙ ap refused (sym v) in
    record {
      value = rw e;
      out_after = rw e;
    }

pub returns : goal.returns
unfolding trim
returns c =
    let low = sym c.all_ascii.ensures ∙ c.if-not-all_ascii.false in
    let t = c.trim_end-name.ensures ∙ ap trim_end c.trim_start.ensures in
    let v = c.validate_client_type-refusal.ensures ∙ ap (check_of client_type) t in
    let e = new-text c.args.client_type.now c.args.counter low (sym v ∙ c.if-refusal-ne0.false) in
    record {
      value = rw (e, ← t) c.write_named.ensures.value;
      out_after = rw (e, ← t) c.write_named.ensures.out_after;
    }
