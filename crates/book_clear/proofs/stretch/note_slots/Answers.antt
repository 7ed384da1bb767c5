use Rattle.std.proofs.Common.{refl, ap, ◌∙◌, ◌<◌, arith, length, length-set}
use Rattle.book_clear.specs.Clear.{role_of}
use Rattle.book_clear.specs.NotesLaws.{note-start, note-next, note-end}
use Rattle.book_clear.proofs.stretch.note_slots.Goals as goal

pub loop-i-init : goal.loop-i-init
loop-i-init c = ((λ h. refl), c.requires.roles_len, note-start _ _ _ _ c.requires.blank)

pub loop-i-preserved : goal.loop-i-preserved
loop-i-preserved c =
    let room : c.loop-i.i < length c.loop-i.roles = omega (arith, c.requires.own.few) in (
      (λ h. absurd (omega arith)),
      length-set c.loop-i.roles c.loop-i.i c.role_of.result ∙ c.loop-i.invariant.1,
      note-next c.args.book.now c.args.client.now c.args.slots.start c.loop-i.i c.loop-i.roles c.loop-i.invariant.2 (omega arith) room c.role_of.result (c.role_of.ensures ∙ ap (role_of c.args.client.now) c.key_at.ensures.bytes) _ refl _ refl,
    )

pub returns : goal.returns
returns c = record {
  noted_from = note-end _ _ _ c.loop-i.i _ _ c.loop-i.invariant.2 (λ h. omega arith) c.loop-i.invariant.0;
  roles_len_2 = c.loop-i.invariant.1;
}
