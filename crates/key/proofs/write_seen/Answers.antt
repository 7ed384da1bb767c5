use mathlib.Core.Path.{sym}
use Rattle.text.specs.PutLaws.{gives_same}
use Rattle.key.specs.Key.{shown_at}
use Rattle.key.specs.KeyLaws.{shown-lent}
use Rattle.key.proofs.write_seen.Goals as goal

pub returns : goal.returns
returns c =
    let e = shown-lent c.args.text.now c.args.v _ _ c.part.ensures.bytes c.part-2.ensures.bytes in
    let p = gives_same (shown_at c.args.text.now c.args.v) c.args.out.now (sym e) (c.fit_kind.ensures.value, c.fit_kind.ensures.out_after) in record { value = p.0; out_after = p.1 }
