use Rattle.key.proofs.write_rendering.Goals as goal

pub write_kind-requires : goal.write_kind-requires
write_kind-requires c =
    (c.requires.le_kind.0, c.requires.le_kind.1, rw (c.part.ensures.bytes, c.part-2.ensures.bytes) c.requires.b_in_bounds)

pub returns : goal.returns
returns c = record {
  value = rw (← c.part.ensures.bytes, ← c.part-2.ensures.bytes) c.write_kind.ensures.next;
  out_after = rw (← c.part.ensures.bytes, ← c.part-2.ensures.bytes) c.write_kind.ensures.after;
}
