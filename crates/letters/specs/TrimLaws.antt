-- What is left of a UTF-8 text without the white space at its ends is UTF-8, and its picture is the trimmed picture.
-- Assumes nothing.
use Rattle.std.specs.Prelude.{ℕ, zero, suc, ◌+◌, ◌*◌, ◌-◌, ◌≤◌, ◌<◌, ◌≡◌, refl, Bool, true, false, ◌&&◌, List, [], ◌∷◌, ◌++◌, take, drop, replicate}
use Rattle.std.proofs.Common.{sym, ◌∙◌, append-nil, arith, length-drop, drop_of_length-le, take-add}
use Rattle.std.proofs.Math.Path.{ap}
use Rattle.std.proofs.Math.ListN.{length}
use Rattle.std.proofs.Math.Seq.{length-take-le}
use Rattle.text.specs.PartLaws.{and_left, and_right}
use Rattle.identifiers.specs.Owned.{blank, trim_end, trim}
use Rattle.letters.specs.Character.{Character, goes_on, character_of, size_of, whole, characters, each, utf8}
use Rattle.letters.specs.CharacterLaws.{Goes, stops, ends, goes, Begins, alone, nothing, longer, begins, size-within, characters-none, characters-step, rest, walk, utf8-none, utf8-step, utf8_append, characters-append}
use Rattle.letters.specs.Narrow.{seen_as, picture, pictures, narrow}
use Rattle.letters.specs.NarrowLaws.{narrow-none, narrow_step, narrow-append, length-narrow}
use Rattle.letters.specs.Text.{leading, wide_trim}
use Rattle.letters.specs.TextLaws.{end-some, end-white, end-other, leading_narrow, leading_chars}
use Rattle.letters.specs.Trimmed.{white, keep_first, trim_front, trim_back}
use Rattle.letters.specs.WhiteLaws.{white-seen}

-- ---- a character by itself
-- only its own bytes are looked at
goes-take : (n size least v : ℕ) (s : List ℕ) → goes_on n size least v (take n s) ≡ goes_on n size least v s
unfolding goes_on
goes-take zero size least v s = refl
goes-take (suc n) size least v [] = refl
goes-take (suc n) size least v (b ∷ s) = rw (goes-take n size least (v * 64 + (b - 128)) s)

goes-size : {n size least : ℕ} {s : List ℕ} {c : Character} → Goes n size least s c → whole c ≡ true → size_of c ≡ size
goes-size stops h = let z : ◌≡◌ {A = ℕ} 0 1 = cc in absurd (omega arith)
goes-size (ends l k f) h = refl

-- of n bytes after its first
goes-alone : (n least v : ℕ) (s : List ℕ) → whole (goes_on n (suc n) least v s) ≡ true → goes_on n (suc n) least v (take (size_of (goes_on n (suc n) least v s) - 1) s) ≡ goes_on n (suc n) least v s
goes-alone n least v s h =
    let e : size_of (goes_on n (suc n) least v s) - 1 ≡ n = omega (arith, goes-size (goes n (suc n) least v s) h) in
    rw e (goes-take n (suc n) least v s)

first_alone : (b : ℕ) (s : List ℕ) → whole (character_of (b ∷ s)) ≡ true → character_of (b ∷ take (size_of (character_of (b ∷ s)) - 1) s) ≡ character_of (b ∷ s)
first_alone b s h = go (begins b)
  where
    part : List ℕ
    part = take (size_of (character_of (b ∷ s)) - 1) s

    go : Begins b → character_of (b ∷ part) ≡ character_of (b ∷ s)
    go (alone k e) = e part ∙ sym (e s)
    go (nothing k e) = e part ∙ sym (e s)
    go (longer n least v k m e) = e part ∙ rw (e s) (goes-alone n least v s (rw (e s) at h))

-- the first character of a text as a text
module _ (t : List ℕ) (l : 0 < length t) (h : whole (character_of t) ≡ true) where
  own : character_of (take (size_of (character_of t)) t) ≡ character_of t
  own = go t l h
    where
      go : (t : List ℕ) → 0 < length t → whole (character_of t) ≡ true → character_of (take (size_of (character_of t)) t) ≡ character_of t
      go [] l h = absurd (omega arith)
      go (b ∷ s) l h =
          let e : size_of (character_of (b ∷ s)) ≡ suc (size_of (character_of (b ∷ s)) - 1) = omega (arith, size-within (b ∷ s) l) in
          rw e (first_alone b s h)

  own-characters : characters (take (size_of (character_of t)) t) ≡ character_of t ∷ []
  own-characters =
      let n = length-take-le (size_of (character_of t)) t (size-within t l).1 in
      let k : 0 < length (take (size_of (character_of t)) t) = omega (arith, n, size-within t l) in
      characters-step (take (size_of (character_of t)) t) k
      ∙ rw (own, drop_of_length-le (take (size_of (character_of t)) t) {i = size_of (character_of t)} (omega (arith, n)), characters-none)

  own-utf8 : utf8 (take (size_of (character_of t)) t) ≡ true
  unfolding utf8 each
  own-utf8 = rw (own-characters, h)

  own-narrow : narrow (take (size_of (character_of t)) t) ≡ picture (character_of t)
  unfolding narrow pictures
  own-narrow = rw own-characters (append-nil (picture (character_of t)))

-- ---- white space at the end
record Ended (t : List ℕ) : Type 0 where
  k : ℕ
  inside : k ≤ length t
  left : trim_end (narrow t) ≡ narrow (take k t)
  well : utf8 (take k t) ≡ true
  chars : characters (take k t) ≡ trim_back (characters t)

ended-none : (t : List ℕ) → trim_end (narrow t) ≡ [] → trim_back (characters t) ≡ [] → Ended t
ended-none t e d = record { k = 0; inside = omega arith; left = e ∙ sym narrow-none; well = utf8-none; chars = characters-none ∙ sym d }

end-nothing : trim_end (narrow []) ≡ []
unfolding trim_end
end-nothing = rw narrow-none

back-nothing : trim_back (characters []) ≡ []
unfolding trim_back
back-nothing = rw characters-none

-- a text without a picture has no characters, and none without characters has one
no-picture : (s : List ℕ) → narrow s ≡ [] → characters s ≡ []
no-picture [] e = characters-none
no-picture (b ∷ s) e = absurd (omega (arith, length-narrow (b ∷ s), ap length e))

back-white : (t : List ℕ) → 0 < length t → white (character_of t) ≡ true → trim_back (characters (rest t)) ≡ [] → trim_back (characters t) ≡ []
unfolding trim_back
back-white t l h e = rw (characters-step t l, e, h)

back_kept : (t : List ℕ) → 0 < length t → (s : List ℕ) → characters s ≡ trim_back (characters (rest t)) → (narrow s ≡ [] → white (character_of t) ≡ false) → character_of t ∷ characters s ≡ trim_back (characters t)
unfolding trim_back narrow pictures
back_kept t l s e w = rw (characters-step t l, ← e) (go (characters s) refl)
  where
    go : (cs : List Character) → characters s ≡ cs → character_of t ∷ cs ≡ keep_first (character_of t) cs
    go [] d = rw (w (rw d))
    go (c ∷ cs) d = refl

ended : (t : List ℕ) → utf8 t ≡ true → Ended t
ended = walk (λ t. utf8 t ≡ true → Ended t) (λ h. ended-none [] end-nothing back-nothing) more
  where
    more : (t : List ℕ) → 0 < length t → (utf8 (rest t) ≡ true → Ended (rest t)) → utf8 t ≡ true → Ended t
    more t l ih h = go (trim_end (narrow (rest t))) refl (blank m) refl
      where
        n : ℕ
        n = size_of (character_of t)

        m : ℕ
        m = seen_as (character_of t)

        both : (whole (character_of t) && utf8 (rest t)) ≡ true
        both = sym (utf8-step t l) ∙ h

        x : Ended (rest t)
        x = ih (and_right (whole (character_of t)) _ both)

        -- the first character stays
        kept : trim_end (narrow t) ≡ replicate n m ++ trim_end (narrow (rest t)) → (narrow (take x.k (rest t)) ≡ [] → white (character_of t) ≡ false) → Ended t
        kept e d =
            let w = and_left (whole (character_of t)) _ both in
            record {
              k = n + x.k;
              inside = omega (arith, size-within t l, x.inside, length-drop n t);
              left = e ∙ rw (take-add n x.k t, narrow-append (take n t) (take x.k (rest t)) (own-utf8 t l w), own-narrow t l w, x.left);
              well = rw (take-add n x.k t, utf8_append (take n t) (take x.k (rest t)) (own-utf8 t l w)) x.well;
              chars = rw (take-add n x.k t, characters-append (take n t) (take x.k (rest t)) (own-utf8 t l w), own-characters t l w) (back_kept t l (take x.k (rest t)) x.chars d);
            }

        go : (q : List ℕ) → trim_end (narrow (rest t)) ≡ q → (p : Bool) → blank m ≡ p → Ended t
        go [] e true f =
            ended-none t (ap trim_end (narrow_step t l) ∙ end-white n m (narrow (rest t)) e f)
            (back-white t l (sym (white-seen (character_of t)) ∙ f) (sym x.chars ∙ no-picture (take x.k (rest t)) (sym x.left ∙ e)))
        go [] e false f = kept (ap trim_end (narrow_step t l) ∙ end-other n m (narrow (rest t)) e f ∙ rw e (sym (append-nil (replicate n m)))) (λ d. sym (white-seen (character_of t)) ∙ f)
        go (y ∷ q) e p f =
            kept (ap trim_end (narrow_step t l) ∙ end-some n m (narrow (rest t)) y q e ∙ rw e)
            (λ d. let c : y ∷ q ≡ [] = sym e ∙ x.left ∙ d in let z : ◌≡◌ {A = ℕ} 0 1 = cc in absurd (omega (arith, z)))

-- ---- at both ends
module _ (t : List ℕ) (h : utf8 t ≡ true) where
  trim-at : (k : ℕ) × (k ≤ length (drop (leading t) t)) × (wide_trim t ≡ take k (drop (leading t) t)) × (trim (narrow t) ≡ narrow (take k (drop (leading t) t))) × (utf8 (take k (drop (leading t) t)) ≡ true)
  unfolding wide_trim trim
  trim-at =
      let x = leading_narrow t in
      let y = ended (drop (leading t) t) (x.2 h) in
      let size : length (trim_end (narrow (drop (leading t) t))) ≡ y.k = ap length y.left ∙ length-narrow (take y.k (drop (leading t) t)) ∙ length-take-le y.k (drop (leading t) t) y.inside in
      (y.k, y.inside, rw (x.1, size), rw x.1 y.left, y.well)

  pub trim-narrow : narrow (wide_trim t) ≡ trim (narrow t)
  trim-narrow = let x = trim-at in ap narrow x.2 ∙ sym x.3

  -- what is trimmed, in characters
  pub trim_chars : characters (wide_trim t) ≡ trim_back (trim_front (characters t))
  unfolding wide_trim trim
  trim_chars =
      let x = leading_narrow t in
      let y = ended (drop (leading t) t) (x.2 h) in
      let size : length (trim_end (narrow (drop (leading t) t))) ≡ y.k = ap length y.left ∙ length-narrow (take y.k (drop (leading t) t)) ∙ length-take-le y.k (drop (leading t) t) y.inside in
      rw (x.1, size) (y.chars ∙ ap trim_back (leading_chars t))

  pub trim-utf8 : utf8 (wide_trim t) ≡ true
  trim-utf8 = let x = trim-at in ap utf8 x.2 ∙ x.4
