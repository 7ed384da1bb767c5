use mathlib.Core.Path.{sym}
use Rattle.text.specs.PutLaws.{gives-refusal, gives_same}
use Rattle.key.specs.Key.{shown_by}
use Rattle.key.specs.KeyLaws.{shown-refused, shown-seen, view_range}
use Rattle.key.proofs.write_shown.Goals as goal

pub returns-in_default : goal.returns-in_default
returns-in_default c =
    let p = gives-refusal (shown_by c.args.text.now c.args.reading) c.args.out.now _ (shown-refused c.args.text.now c.args.reading _ c.in_default.is) in record { value = rw c.refusal_of.ensures p.0; out_after = p.1 }

pub write_seen-requires : goal.write_seen-requires
write_seen-requires c = view_range _ _ _ c.view.ensures

pub returns : goal.returns
returns c =
    let e = shown-seen c.args.text.now c.args.reading _ _ c.in-Ok.is _ c.view.ensures in
    let p = gives_same (shown_by c.args.text.now c.args.reading) c.args.out.now (sym e) (c.write_seen.ensures.value, c.write_seen.ensures.out_after) in record { value = p.0; out_after = p.1 }
