-- On ASCII texts the two modes are one: once for all checks, once for reading, once for rendering.
-- Assumes nothing.
use Rattle.std.specs.Prelude.{ℕ, ◌-◌, ◌≡◌, Bool, ltb, length, Err, Some}
use Rattle.std.proofs.Math.Path.{refl}
use Rattle.std.proofs.Math.Bool.{true, false, cond}
use mathlib.Core.List.{List}
use Rattle.text.specs.Part.{ascii}
use Rattle.identifiers.specs.Check.{chars_of, length_of, prefix_length_of, named_index_of, named_index_fault, Rule, check_of}
use Rattle.path.specs.declared.Refusal.TheVariants.{TooLong}
use Rattle.path.specs.Reading.{Reading}
use Rattle.path.specs.Kinds.{kinds}
use Rattle.path.specs.Read.{read_first, reading_of, read_path, key_of, reading_bytes, read_fault}
use Rattle.letters.specs.CharacterLaws.{ascii-utf8}
use Rattle.letters.specs.NarrowLaws.{ascii-narrow}
use Rattle.wide.specs.Mode.{wide}
use Rattle.wide.specs.Check.{chars_in, length_in, prefix_length_in, named_index_in, named_index_fault_in, check_in}
use Rattle.wide.specs.Read.{read_in, key_in, reading_bytes_in, read_fault_in}

-- ---- the checks
module _ (s : List ℕ) (low : ascii s ≡ true) where
  pub chars_ascii : chars_in wide s ≡ chars_of s
  unfolding wide chars_in chars_of
  chars_ascii = rw (ascii-utf8 s low, ascii-narrow s low, low)

  pub length_ascii : (least most : ℕ) → length_in wide s least most ≡ length_of s least most
  unfolding wide length_in length_of
  length_ascii least most = rw (ascii-utf8 s low, low)

  pub prefix_ascii : (least most : ℕ) → prefix_length_in wide s least most ≡ prefix_length_of s least most
  unfolding prefix_length_in prefix_length_of
  prefix_ascii least most = length_ascii (least - 2) (most - 21)

  pub named_ascii : (w : List ℕ) → ascii w ≡ true → named_index_fault_in wide s w ≡ named_index_fault s w
  unfolding wide named_index_in named_index_fault_in named_index_of named_index_fault
  named_ascii w h = rw (ascii-utf8 s low, low, ascii-utf8 w h, h)

  pub check-ascii : (r : Rule) → check_in wide r s ≡ check_of r s
  unfolding check_in check_of
  check-ascii r = rw chars_ascii

-- ---- reading
module _ (t : List ℕ) (low : ascii t ≡ true) where
  pub read-ascii : read_in wide t ≡ Some (read_path t)
  unfolding wide read_in read_path
  read-ascii = rw (ascii-utf8 t low, ascii-narrow t low, low) (go (ltb 4096 (length t)) (reading_of t (read_first kinds t)))
    where
      go : (a : Bool) (r : Reading) → cond a (Some (Err TooLong)) (Some (cond a (Err TooLong) r)) ≡ Some (cond a (Err TooLong) r)
      go true r = refl
      go false r = refl

  pub key-ascii : key_in wide t ≡ key_of t
  unfolding key_in key_of
  key-ascii = rw read-ascii

  pub bytes-ascii : reading_bytes_in wide t ≡ reading_bytes t
  unfolding reading_bytes_in reading_bytes
  bytes-ascii = rw read-ascii

  pub fault-read-ascii : (room : ℕ) → read_fault_in wide t room ≡ read_fault t room
  unfolding read_fault_in read_fault
  fault-read-ascii room = rw (bytes-ascii, read-ascii)
