use mathlib.Core.Path.{◌≡◌, ap, ◌∙◌}
use Prim.Native.Nat.{ℕ, ◌+◌, ◌-◌}
use lib.ListN.{length, take, drop}
use Rattle.book_form.specs.declared.Version.TheVariants.{One, Two}
use Rattle.book_form.specs.Counted.{stored}
use Rattle.book_form.specs.CountedLaws.{length_part}
use Rattle.book_form.specs.Version.{V1, V2}
use Rattle.book_form.specs.VersionLaws.{version_lawful}
use Rattle.book_convert.specs.Convert.{same}
use Rattle.book_convert.specs.ConvertLaws.{copies, start-room, copy_start, copy_done, plain-next}
use native.Mathlib.Omega.{arith}
use Rattle.book_convert.proofs.copy_records.Goals as goal

pub put_front-requires : goal.put_front-requires
put_front-requires c = record { n_bound = omega (arith, start-room V1 (version_lawful One) V2 (version_lawful Two) _ _ _ c.requires); in_bounds = omega (arith, start-room V1 (version_lawful One) V2 (version_lawful Two) _ _ _ c.requires) }

pub loop-i-init : goal.loop-i-init
loop-i-init c = (copy_start V1 (version_lawful One) V2 (version_lawful Two) _ _ _ c.requires tt same _ _ c.clear.ensures c.put_front.ensures, omega arith)

pub slot_at-at-requires : goal.slot_at-at-requires
slot_at-at-requires c = omega (arith, (copies V1 (version_lawful One) V2 (version_lawful Two) _ _ _ c.requires c.loop-i.i (omega arith)).few)

pub overflow_add-start : goal.overflow_add-start
overflow_add-start c = omega (arith, c.slot_at-at.ensures, (copies V1 (version_lawful One) V2 (version_lawful Two) _ _ _ c.requires c.loop-i.i (omega arith)).few)

pub overflow_add-end : goal.overflow_add-end
overflow_add-end c = omega (arith, c.slot_at-at.ensures, (copies V1 (version_lawful One) V2 (version_lawful Two) _ _ _ c.requires c.loop-i.i (omega arith)).few)

pub slot_at-requires : goal.slot_at-requires
slot_at-requires c = omega (arith, (copies V1 (version_lawful One) V2 (version_lawful Two) _ _ _ c.requires c.loop-i.i (omega arith)).few)

pub key_at-requires : goal.key_at-requires
key_at-requires c = omega (arith, c.slot_at-at.ensures, (copies V1 (version_lawful One) V2 (version_lawful Two) _ _ _ c.requires c.loop-i.i (omega arith)).from)

pub slice_bounds-put_fields-end : goal.slice_bounds-put_fields-end
slice_bounds-put_fields-end c = omega (arith, c.slot_at-at.ensures, (copies V1 (version_lawful One) V2 (version_lawful Two) _ _ _ c.requires c.loop-i.i (omega arith)).from)

pub put_fields-requires : goal.put_fields-requires
put_fields-requires c =
    let k = copies V1 (version_lawful One) V2 (version_lawful Two) _ _ _ c.requires c.loop-i.i (omega arith) in
    omega (arith, c.slot_at.ensures, c.loop-i.invariant.1, k.to, ap length (c.key_at.ensures.bytes ∙ ap (stored c.args.old.now) c.slot_at-at.ensures), k.fit.1, length_part (c.slot_at-at.result + 256) (c.slot_at-at.result + 256 + 32 - (c.slot_at-at.result + 256)) c.args.old.now (omega (arith, c.slot_at-at.ensures, k.from)))

pub loop-i-preserved : goal.loop-i-preserved
loop-i-preserved c =
    let v = ap (λ (m : ℕ). take m (drop (c.slot_at-at.result + 256) c.args.old.now)) (let q : c.slot_at-at.result + 256 + 32 - (c.slot_at-at.result + 256) ≡ 32 = omega arith in q) in
    (plain-next _ _ _ c.requires c.loop-i.i (omega arith) c.slot_at-at.result c.slot_at-at.ensures _ _ c.key_at.ensures.bytes v _ c.slot_at.ensures _ _ c.loop-i.invariant.0 c.put_fields.ensures, omega (arith, c.loop-i.invariant.1))

pub returns : goal.returns
returns c = copy_done V1 (version_lawful One) V2 (version_lawful Two) _ _ _ c.requires tt same c.loop-i.i (omega arith) _ c.loop-i.invariant.0
