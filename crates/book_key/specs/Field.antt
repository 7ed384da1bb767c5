-- Which flat readings a call refuses for their spelling; and the key of a call, owned: what is written into a field of zeros, with its kind.
-- Assumes nothing.
use Rattle.std.specs.Prelude.{ℕ, Bool, false, cond, not, eqb, leb, length, replicate, Result, Ok, Err}
use Rattle.text.specs.Put.{Wanted, refused, text, left}
use Rattle.path.specs.declared.PathView.{PathView}
use Rattle.path.specs.declared.Refusal.{Refusal}
use Rattle.book_records.specs.declared.Manner.{Manner}
use Rattle.book_records.specs.declared.Manner.TheVariants.{Plain, Lenient}
use Rattle.book_records.specs.Calls.{kind_in, key_answer}
use Rattle.book_key.specs.declared.MadeKey.{MadeKey}

-- by the mark, as `is_loose` of the reading
abbrev pub loose_by : Manner → Result PathView Refusal → Bool
loose_by Plain (Ok v) = not v.exact
loose_by Plain (Err w) = false
loose_by Lenient x = false

-- the kind of a flat reading, 0 where nothing was read
abbrev pub kind_seen : Result PathView Refusal → ℕ
kind_seen (Ok v) = v.kind
kind_seen (Err w) = 0

-- the kind of a key that a field of 255 bytes takes
unfoldable pub kind_made : Wanted → ℕ
kind_made (refused n) = 0
kind_made (text k) = cond (leb (length k) 255) (kind_in k) 0

-- the key with its kind, or its refusal
unfoldable pub made_key : Wanted → Result MadeKey ℕ
made_key w = let a = key_answer w in cond (eqb a.refusal 0) (Ok (record { kind = kind_made w; key = record { bytes = left w (replicate 255 0); len = a.length } })) (Err a.refusal)
