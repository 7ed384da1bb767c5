use Rattle.std.proofs.Common.{sym, ◌∙◌, arith}
use Rattle.book_table.specs.WayLaws.{table-sound, passed_start, passed-more, slot-there, ended-free, ended-found, ended-all}
use Rattle.book_table.proofs.probe.Goals as goal

pub loop-d-init : goal.loop-d-init
loop-d-init c = passed_start _ _ _ _ c.requires

pub bounds-table-h : goal.bounds-table-h
bounds-table-h c = omega (arith, (table-sound _ _ c.args.key.now _ c.requires).size)

pub returns-then-v-eq0 : goal.returns-then-v-eq0
returns-then-v-eq0 c = ended-free _ _ _ _ c.requires _ c.loop-d.d _ c.home-h.ensures.0 c.from-v.ensures c.loop-d.invariant c.if-v-eq0.true

pub compare_key-requires : goal.compare_key-requires
compare_key-requires c = slot-there _ _ _ _ c.requires _ c.loop-d.d _ c.home-h.ensures.0 c.from-v.ensures c.if-v-eq0.false

pub returns-then-is_eq : goal.returns-then-is_eq
returns-then-is_eq c = ended-found _ _ _ _ c.requires _ c.loop-d.d _ c.home-h.ensures.0 c.from-v.ensures c.if-v-eq0.false _ c.compare_key.ensures (sym c.is_eq.ensures ∙ c.if-is_eq.true)

pub loop-d-preserved : goal.loop-d-preserved
loop-d-preserved c = passed-more _ _ _ _ c.requires _ c.loop-d.d _ c.home-h.ensures.0 c.from-v.ensures c.if-v-eq0.false _ c.compare_key.ensures c.loop-d.invariant (sym c.is_eq.ensures ∙ c.if-is_eq.false)

pub returns : goal.returns
returns c = ended-all _ _ _ _ c.requires c.loop-d.d c.loop-d.invariant (omega arith)
