-- An opening that stands there, and one that does not.
-- Assumes nothing.
use Rattle.std.specs.Prelude.{ℕ, ◌≡◌, refl, List, [], ◌∷◌, Bool, true, false, cond, ◌&&◌, length, drop, Option, MatchOption}
use Rattle.std.specs.Bool.{then_some}
use Rattle.std.proofs.Common.{sym}
use Rattle.text.specs.Bytes.{bytes}
use Rattle.text.specs.Part.{starts_with}
use Rattle.text.specs.PartLaws.{and_left, and_right}
use Rattle.path.specs.declared.PathView.{PathView}
use Rattle.path.specs.Read.{read_first}
use Rattle.walk_scan.specs.Tail.{tail_of}
use Rattle.walk_scan.specs.WordLaws.{starts-room}
use Rattle.walk_families.specs.Flat.{walked, flat, listed, ends_of}
use Rattle.walk.specs.declared.opening.Opening.{Opening}
use Rattle.walk.specs.Opening.{NoneOf, openings, Opens}
use Rattle.walk.specs.ArmLaws.{is_11, is_12, is_13, is_14, is_15, is_16, is_17}
use Rattle.walk.specs.OpenLaws.{differ, differ-starts, begins, begins-not}

-- the openings that a text which starts with u may have
abbrev pub alike : List ℕ → List (List ℕ) → List (List ℕ)
alike u [] = []
alike u (h ∷ hs) = cond (differ h u) (alike u hs) (h ∷ alike u hs)

alike-none : (u t : List ℕ) → starts_with u t ≡ true → (hs : List (List ℕ)) → NoneOf (alike u hs) t → NoneOf hs t
alike-none u t s [] n = n
alike-none u t s (h ∷ hs) n = go (differ h u) refl (alike-none u t s hs) n
  where
    go : (v : Bool) → differ h u ≡ v → (NoneOf (alike u hs) t → NoneOf hs t) → NoneOf (cond v (alike u hs) (h ∷ alike u hs)) t → NoneOf (h ∷ hs) t
    go true d ih k = (differ-starts h u t d s, ih k)
    go false d ih k = (k.0, ih k.1)

-- each opening begins with one of hs
abbrev begun : List (List ℕ) → List (List ℕ) → Bool
begun hs [] = true
begun hs (s ∷ ss) = begins hs s && begun hs ss

begun-none : (hs : List (List ℕ)) (t : List ℕ) → NoneOf hs t → (ss : List (List ℕ)) → begun hs ss ≡ true → NoneOf ss t
begun-none hs t n [] b = tt
begun-none hs t n (s ∷ ss) b = (begins-not hs s t (and_left (begins hs s) (begun hs ss) b) n, begun-none hs t n ss (and_right (begins hs s) (begun hs ss) b))

abbrev pub heads : List (List ℕ)
heads = bytes "channelE" ∷ bytes "commitme" ∷ bytes "acks/por" ∷ bytes "receipts" ∷ bytes "nextSequ" ∷ []

module _ (t : List ℕ) where
  -- the opening of kind k stands there
  stands : (w : List ℕ) (k : ℕ) → starts_with w t ≡ true → ((r : Option PathView) → r ≡ walked k (tail_of (ends_of k) (length w) (drop (length w) t)) → r ≡ flat t (read_first listed t)) → Opens t (record { kind = k; at = length w })
  stands w k h d = record { within = starts-room w t h; decides = d }

  pub no-head : NoneOf heads t → NoneOf openings t
  unfolding starts_with
  no-head n = begun-none heads t n openings refl

  abbrev pub Opened : Option Opening → Type 0
  Opened o = MatchOption o (NoneOf openings t) (Opens t)

  -- at the head u, where w alone begins so
  by-head : (u w : List ℕ) (k : ℕ) → starts_with u t ≡ true → alike u openings ≡ w ∷ []
      → (starts_with w t ≡ true → (r : Option PathView) → r ≡ walked k (tail_of (ends_of k) (length w) (drop (length w) t)) → r ≡ flat t (read_first listed t))
      → (v : Bool) → v ≡ starts_with w t → (o : Option Opening) → o ≡ then_some v (record { kind = k; at = length w }) → Opened o
  by-head u w k s a d true e o f = rw f (stands w k (sym e) (d (sym e)))
  by-head u w k s a d false e o f = rw f (alike-none u t s openings (rw a (sym e, tt)))

  pub opens_11 : starts_with (bytes "channelE") t ≡ true → (v : Bool) → v ≡ starts_with (bytes "channelEnds/ports/") t → (o : Option Opening) → o ≡ then_some v (record { kind = 11; at = 18 }) → Opened o
  opens_11 s = by-head (bytes "channelE") (bytes "channelEnds/ports/") 11 s refl (λ h r. is_11 t r h)

  pub opens_15 : starts_with (bytes "commitme") t ≡ true → (v : Bool) → v ≡ starts_with (bytes "commitments/ports/") t → (o : Option Opening) → o ≡ then_some v (record { kind = 15; at = 18 }) → Opened o
  opens_15 s = by-head (bytes "commitme") (bytes "commitments/ports/") 15 s refl (λ h r. is_15 t r h)

  pub opens_16 : starts_with (bytes "acks/por") t ≡ true → (v : Bool) → v ≡ starts_with (bytes "acks/ports/") t → (o : Option Opening) → o ≡ then_some v (record { kind = 16; at = 11 }) → Opened o
  opens_16 s = by-head (bytes "acks/por") (bytes "acks/ports/") 16 s refl (λ h r. is_16 t r h)

  pub opens_17 : starts_with (bytes "receipts") t ≡ true → (v : Bool) → v ≡ starts_with (bytes "receipts/ports/") t → (o : Option Opening) → o ≡ then_some v (record { kind = 17; at = 15 }) → Opened o
  opens_17 s = by-head (bytes "receipts") (bytes "receipts/ports/") 17 s refl (λ h r. is_17 t r h)

  pub opens_12 : starts_with (bytes "nextSequenceSend/ports/") t ≡ true → Opens t (record { kind = 12; at = 23 })
  opens_12 h = stands (bytes "nextSequenceSend/ports/") 12 h (λ r. is_12 t r h)

  pub opens_13 : starts_with (bytes "nextSequenceRecv/ports/") t ≡ true → Opens t (record { kind = 13; at = 23 })
  opens_13 h = stands (bytes "nextSequenceRecv/ports/") 13 h (λ r. is_13 t r h)

  pub opens_14 : starts_with (bytes "nextSequ") t ≡ true → starts_with (bytes "nextSequenceSend/ports/") t ≡ false → starts_with (bytes "nextSequenceRecv/ports/") t ≡ false
      → (v : Bool) → v ≡ starts_with (bytes "nextSequenceAck/ports/") t → (o : Option Opening) → o ≡ then_some v (record { kind = 14; at = 22 }) → Opened o
  opens_14 s h i true e o f = rw f (stands (bytes "nextSequenceAck/ports/") 14 (sym e) (λ r. is_14 t r (sym e)))
  opens_14 s h i false e o f = rw f (alike-none (bytes "nextSequ") t s openings (h, (i, (sym e, tt))))
