use mathlib.Core.Path.{sym, ◌∙◌}
use Rattle.text.specs.PutLaws.{gives-refusal, gives_same}
use Rattle.path.specs.Read.{key_of}
use Rattle.key.specs.KeyLaws.{seen_range, seen_key, unread-key}
use Rattle.key.proofs.write_read.Goals as goal

pub write_seen-requires : goal.write_seen-requires
write_seen-requires c = seen_range _ _ (sym c.in-Ok.is ∙ c.requires)

pub returns-in-Ok : goal.returns-in-Ok
returns-in-Ok c =
    let e = seen_key c.args.text.now _ (sym c.in-Ok.is ∙ c.requires) in
    let p = gives_same (key_of c.args.text.now) c.args.out.now (sym e) (c.write_seen.ensures.value, c.write_seen.ensures.out_after) in record { value = p.0; out_after = p.1 }

pub returns-in-Err : goal.returns-in-Err
returns-in-Err c =
    let e = unread-key c.args.text.now _ (sym c.in-Err.is ∙ c.requires) in
    let p = gives-refusal (key_of c.args.text.now) c.args.out.now _ e in record { value = rw c.fault_of-fault.ensures p.0; out_after = p.1 }
