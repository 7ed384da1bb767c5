-- What a text reads as: a path with the mark of its text, or why it is none.
-- Assumes nothing.
use Rattle.std.specs.Prelude.{Bool, Result, Ok}
use Rattle.path.specs.declared.Path.{Path}
use Rattle.path.specs.declared.ReadPath.{ReadPath}
use Rattle.path.specs.declared.Refusal.{Refusal}

abbrev pub Reading : Type 0
Reading = Result ReadPath Refusal

abbrev pub Read : Path → Bool → Reading
Read p e = Ok (record { path = p; exact = e })
