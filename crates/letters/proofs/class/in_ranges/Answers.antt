-- `letters::class::in_ranges` meets its contract.
use Rattle.std.proofs.Common.{Ok, Err, sym}
use Rattle.std.proofs.lemmas.List.Sorted.{searched}
use Rattle.letters.specs.ClassLaws.{rises-sorted, inside_end, inside_place}
use Rattle.letters.proofs.class.in_ranges.Goals as goal

pub returns-in-Ok : goal.returns-in-Ok
returns-in-Ok c =
    let h = searched c.args.t.now c.args.v (Ok c.in-Ok.field-0) c.in-Ok.ensures.position (rises-sorted 127 c.args.t.now c.requires) in
    sym (inside_end 127 c.args.t.now c.requires c.in-Ok.field-0 c.args.v h.0 h.1)

pub returns-in-Err : goal.returns-in-Err
returns-in-Err c =
    let h = searched c.args.t.now c.args.v (Err c.in-Err.i) c.in-Err.ensures.position (rises-sorted 127 c.args.t.now c.requires) in
    inside_place 127 c.args.t.now c.requires c.in-Err.i c.args.v h.0 h.1 h.2
