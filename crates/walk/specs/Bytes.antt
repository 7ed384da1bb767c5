-- The answer that writes the 26 bytes of what was walked.
-- Assumes nothing.
use Rattle.std.specs.Prelude.{ℕ}
use Rattle.text.specs.declared.Fault.{Fault}
use Rattle.text.specs.Put.{text, answer}
use Rattle.path.specs.declared.PathView.{PathView}
use Rattle.reading.specs.Encode.{view_bytes}

abbrev pub put_fault : PathView → ℕ → Fault
put_fault w room = record { refusal = (answer (text (view_bytes w)) room).refusal; place = 0 }
