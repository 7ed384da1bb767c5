-- They are the bytes of the reading.
-- Assumes nothing.
use Rattle.std.specs.Prelude.{ℕ, ◌≤◌, ◌≡◌, refl, List, length, Some}
use Rattle.std.proofs.Common.{ap, ◌∙◌}
use Rattle.text.specs.declared.Fault.{Fault}
use Rattle.text.specs.Put.{Wanted, text, left, answer}
use Rattle.path.specs.Reading.{Reading, Read}
use Rattle.path.specs.declared.PathView.{PathView}
use Rattle.path.specs.Kinds.{kinds}
use Rattle.path.specs.Read.{read_first, reading_bytes, read_fault}
use Rattle.reading.specs.Encode.{view_bytes}
use Rattle.reading.specs.EncodeLaws.{bytes_read, fault-read, answer-reading, bytes-reading}
use Rattle.walk_families.specs.Flat.{flat}
use Rattle.walk.specs.Bytes.{put_fault}
use Rattle.walk.specs.ViewLaws.{view-read}

module _ (t : List ℕ) (w : PathView) (e : Some w ≡ flat t (read_first kinds t)) (short : length t ≤ 4096) where
  pub put-fault : (room : ℕ) (f : Fault) → f ≡ put_fault w room → f ≡ read_fault t room
  put-fault room f g =
      let q = view-read t w e short in
      let b = bytes_read (Read q.0 w.exact) q.0 w.exact w refl q.2 in
      g ∙ fault-read (Read q.0 w.exact) room q.0 w.exact refl (text (view_bytes w)) b (answer (text (view_bytes w)) room) refl ∙ answer-reading t (Read q.0 w.exact) q.1 room

  pub put-bytes : (old new : List ℕ) → new ≡ left (text (view_bytes w)) old → new ≡ left (reading_bytes t) old
  put-bytes old new g =
      let q = view-read t w e short in
      let b = bytes_read (Read q.0 w.exact) q.0 w.exact w refl q.2 in
      g ∙ ap (λ (x : Wanted). left x old) (b ∙ bytes-reading t (Read q.0 w.exact) q.1)
