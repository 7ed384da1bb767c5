-- `book::record::look_record` meets its contract.
use mathlib.Core.Path.{◌≡◌, ap}
use lib.ListN.{length}
use Rattle.book.specs.RecordLaws.{spotted, room, look-free}
use Rattle.book.proofs.RecordLaws.{look-taken}
use native.Mathlib.Omega.{arith}
use Rattle.book.proofs.record.look_record.Goals as goal

pub returns-in_default : goal.returns-in_default
returns-in_default c = look-free _ _ _ _ _ c.requires.counts (spotted _ _ _ _ _ c.find.ensures c.in_default.is) _

pub overflow_mul-p : goal.overflow_mul-p
overflow_mul-p c = omega (arith, room _ _ _ _ _ c.requires.counts (spotted _ _ _ _ _ c.find.ensures c.in-Ok.is))

pub overflow_add-p : goal.overflow_add-p
overflow_add-p c = omega (arith, room _ _ _ _ _ c.requires.counts (spotted _ _ _ _ _ c.find.ensures c.in-Ok.is))

pub overflow_add-p-2 : goal.overflow_add-p-2
overflow_add-p-2 c = omega (arith, room _ _ _ _ _ c.requires.counts (spotted _ _ _ _ _ c.find.ensures c.in-Ok.is))

pub overflow_add-p-3 : goal.overflow_add-p-3
overflow_add-p-3 c = omega (arith, room _ _ _ _ _ c.requires.counts (spotted _ _ _ _ _ c.find.ensures c.in-Ok.is))

pub text_at-requires : goal.text_at-requires
text_at-requires c = omega (arith, room _ _ _ _ _ c.requires.counts (spotted _ _ _ _ _ c.find.ensures c.in-Ok.is))

pub write_text-n-requires : goal.write_text-n-requires
write_text-n-requires c = omega (arith, ap length c.text_at.ensures.bytes, room _ _ _ _ _ c.requires.counts (spotted _ _ _ _ _ c.find.ensures c.in-Ok.is), c.requires.in_bounds)

pub returns : goal.returns
returns c = let q : c.write_text-n.result ≡ length c.text_at.result.now = omega (arith, c.write_text-n.ensures.value) in
    look-taken _ _ _ _ _ c.requires.counts (spotted _ _ _ _ _ c.find.ensures c.in-Ok.is) _ _ _ c.write_text-n.result c.text_at.ensures.bytes q c.write_text-n.ensures.out_after
