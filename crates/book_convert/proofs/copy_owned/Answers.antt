use Rattle.book_form.specs.declared.Version.TheVariants.{Two, Three}
use Rattle.book_form.specs.Version.{V2, V3}
use Rattle.book_form.specs.VersionLaws.{version_lawful}
use Rattle.book_convert.specs.Convert.{firsts}
use Rattle.book_convert.specs.ConvertLaws.{copies, start-room, copy_start, copy_done}
use Rattle.book_convert.specs.OwnersLaws.{owned_value, owned-short, owned-next}
use native.Mathlib.Omega.{arith}
use Rattle.book_convert.proofs.copy_owned.Goals as goal

pub put_header-requires : goal.put_header-requires
put_header-requires c = record { n_bound = omega (arith, c.requires.one_bound, start-room V2 (version_lawful Two) V3 (version_lawful Three) _ _ _ c.requires.ready); in_bounds = omega (arith, c.requires.one_bound, start-room V2 (version_lawful Two) V3 (version_lawful Three) _ _ _ c.requires.ready) }

pub loop-i-init : goal.loop-i-init
loop-i-init c = (λ e k. k, omega arith)

pub slot_at-at-requires : goal.slot_at-at-requires
slot_at-at-requires c = omega (arith, (copies V2 (version_lawful Two) V3 (version_lawful Three) _ _ _ c.requires.ready c.loop-i.i (omega arith)).few)

pub slot_at-requires : goal.slot_at-requires
slot_at-requires c = omega (arith, (copies V2 (version_lawful Two) V3 (version_lawful Three) _ _ _ c.requires.ready c.loop-i.i (omega arith)).few)

pub key_at-requires : goal.key_at-requires
key_at-requires c = omega (arith, c.slot_at-at.ensures, (copies V2 (version_lawful Two) V3 (version_lawful Three) _ _ _ c.requires.ready c.loop-i.i (omega arith)).from)

pub text_at-requires : goal.text_at-requires
text_at-requires c =
    rw c.slot_at-at.ensures (omega (arith, (copies V2 (version_lawful Two) V3 (version_lawful Three) _ _ _ c.requires.ready c.loop-i.i (omega arith)).from, owned_value _ _ _ c.requires.ready c.loop-i.i (omega arith)))

pub put_slot-requires : goal.put_slot-requires
put_slot-requires c =
    let k = owned-short _ _ _ c.requires.ready c.loop-i.i (omega arith) _ c.slot_at-at.ensures _ _ c.key_at.ensures.bytes c.text_at.ensures.bytes in
    omega (arith, c.slot_at.ensures, c.loop-i.invariant.1, (copies V2 (version_lawful Two) V3 (version_lawful Three) _ _ _ c.requires.ready c.loop-i.i (omega arith)).to, k)

pub loop-i-preserved : goal.loop-i-preserved
loop-i-preserved c =
    (λ e z. owned-next _ _ _ c.requires.ready c.loop-i.i (omega arith) _ c.slot_at-at.ensures _ _ c.key_at.ensures.bytes c.text_at.ensures.bytes _ c.slot_at.ensures e _ _ (c.loop-i.invariant.0 e z) c.put_slot.ensures, omega (arith, c.loop-i.invariant.1))

pub returns : goal.returns
returns c =
    copy_done V2 (version_lawful Two) V3 (version_lawful Three) _ _ _ c.requires.ready _ firsts c.loop-i.i (omega arith) _ (c.loop-i.invariant.0 _ (copy_start V2 (version_lawful Two) V3 (version_lawful Three) _ _ _ c.requires.ready _ firsts _ _ c.clear.ensures c.put_header.ensures))
