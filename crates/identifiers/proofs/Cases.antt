-- Worked cases of new identifiers; those of the checks stand in `demands` (Cases).
-- Assumes nothing.
use mathlib.Core.Path.{◌≡◌, refl}
use mathlib.Core.List.{[], ◌∷◌, ◌++◌}
use Rattle.text.specs.Bytes.{bytes}
use Rattle.text.specs.Number.{width_by, width, digits, decimal}
use Rattle.text.specs.Part.{every, ascii}
use Rattle.text.specs.Put.{text}
use Rattle.identifiers.specs.Check.{among, identifier_byte, chars_of, within, check_of}
use Rattle.identifiers.specs.Owned.{trim_start, trim_end, trim, new_client, new_channel}

-- a new identifier: bytes 9 to 13 and 32 go at both ends, and only there
pub trimmed : new_client (9 ∷ 11 ∷ 32 ∷ bytes "07-tendermint" ++ 13 ∷ 12 ∷ 10 ∷ []) 4 ≡ text (bytes "07-tendermint-4")
unfolding new_client check_of chars_of ascii every identifier_byte among within trim trim_start trim_end decimal digits width width_by
trimmed = refl

pub numbered : new_channel 27 ≡ text (bytes "channel-27")
unfolding new_channel decimal digits width width_by
numbered = refl
