-- The kinds as the code writes them, in the words of their table: one text, a space between two of them.
-- Assumes nothing.
use Rattle.std.specs.Prelude.{ℕ, ◌-◌, cond, List, [], ◌∷◌, map, eqb, ltb, length, take, drop, get_or}
use Rattle.text.specs.Bytes.{bytes}
use Rattle.path.specs.declared.name.Name.TheVariants.{Client as client, Connection as connection, Port as port, Channel as channel, Upgrade as upgrade}
use Rattle.path.specs.Kinds.{Part, word, name, count, pair}
use Rattle.diagnose.specs.declared.shape.Shape.{Shape}
use Rattle.diagnose.specs.declared.shape.Shape.TheVariants.{Word, Named, Count, Pair}
use Rattle.diagnose.specs.Diagnosis.{seven}

-- what a letter stands for: C, K, P, H, U, R-h, and S or n
unfoldable pub letter_shape : ℕ → Shape
letter_shape b =
    cond (eqb b 67) (Named client)
    (cond (eqb b 75) (Named connection)
    (cond (eqb b 80) (Named port)
    (cond (eqb b 72) (Named channel)
    (cond (eqb b 85) (Named upgrade)
    (cond (eqb b 82) Pair Count)))))

-- a component of a kind: no word is shorter than four letters
unfoldable pub shape_of : List ℕ → Shape
shape_of w = cond (ltb 3 (length w)) Word (letter_shape (get_or w 0 0))

abbrev pub part_by : List ℕ → Shape → Part
part_by w Word = word w
part_by w (Named n) = name n
part_by w Count = count
part_by w Pair = pair

abbrev pub part_in : List ℕ → Part
part_in w = part_by w (shape_of w)

-- the parts of a kind that is written so
abbrev pub parts_in : List ℕ → List Part
parts_in g = map part_in (seven g)

unfoldable pub table : List ℕ
table = bytes "nextClientSequence nextConnectionSequence nextChannelSequence clients/C/clientState clients/C/consensusStates/R-h clients/C/consensusStates/R-h/processedTime clients/C/consensusStates/R-h/processedHeight clients/C/connections connections/K ports/P channelEnds/ports/P/channels/H nextSequenceSend/ports/P/channels/H nextSequenceRecv/ports/P/channels/H nextSequenceAck/ports/P/channels/H commitments/ports/P/channels/H/sequences/S acks/ports/P/channels/H/sequences/S receipts/ports/P/channels/H/sequences/S U/n/upgradedClient U/n/upgradedConsState"

-- where each kind starts, and one place more
unfoldable pub starts : List ℕ
starts = 0 ∷ 19 ∷ 42 ∷ 62 ∷ 84 ∷ 114 ∷ 158 ∷ 204 ∷ 226 ∷ 240 ∷ 248 ∷ 279 ∷ 315 ∷ 351 ∷ 386 ∷ 429 ∷ 465 ∷ 505 ∷ 524 ∷ 546 ∷ []

-- kind k as it is written
unfoldable pub kind_text : ℕ → List ℕ
kind_text k = take (get_or starts k 0 - 1 - get_or starts (k - 1) 0) (drop (get_or starts (k - 1) 0) table)
