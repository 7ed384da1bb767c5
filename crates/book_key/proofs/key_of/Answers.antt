-- `book_key::key_of` meets its contract.
use Rattle.std.proofs.Common.{sym, ap, ◌∙◌}
use Rattle.text.specs.declared.Written.{Written}
use Rattle.book_key.specs.Field.{made_key}
use Rattle.book_key.specs.FieldLaws.{kind-made}
use Rattle.book_key.specs.MadeLaws.{made-refused, made-done}
use Rattle.book_key.proofs.key_of.Goals as goal

pub returns-then-refusal-ne0 : goal.returns-then-refusal-ne0
unfolding made_key
returns-then-refusal-ne0 c = rw (← c.key_into-made.ensures.value) (made-refused _ _ c.if-refusal-ne0.true)

pub returns : goal.returns
unfolding made_key
returns c =
    let value = c.key_into-made.ensures.value in
    let kind = c.kind_seen.ensures ∙ kind-made _ _ _ c.walk_view-read.ensures (sym (ap (λ (x : Written). x.refusal) value) ∙ c.if-refusal-ne0.false) in
    rw (← kind, ← value, ← c.key_into-made.ensures.field_after) (made-done _ _ c.if-refusal-ne0.false)
