-- Laws of `Text`: the ways out of the check of characters, and one turn of each loop that trims.
-- Assumes nothing.
use Rattle.std.specs.Prelude.{ℕ, zero, suc, ◌+◌, ◌-◌, ◌≤◌, ◌<◌, ◌≡◌, Bool, cond, ◌&&◌, List, [], ◌∷◌, ◌++◌, length, take, drop, replicate}
use Rattle.std.proofs.Math.Path.{refl}
use Rattle.std.proofs.Common.{sym, ap, ◌∙◌, zero-add, arith, length-append, length-drop, drop_of_length-le, drop-drop}
use Rattle.std.proofs.Math.Bool.{true, false}
use Rattle.std.proofs.Math.Nat.{sub-zero}
use Rattle.std.proofs.lemmas.List.{length-replicate}
use Rattle.text.specs.Part.{every, ascii}
use Rattle.text.specs.PartLaws.{and_right, every_append}
use Rattle.identifiers.specs.Check.{identifier_byte, chars_of}
use Rattle.identifiers.specs.Owned.{blank, trim_start, keep, trim_end, trim}
use Rattle.letters.specs.Character.{Character, character_of, size_of, whole, characters, utf8}
use Rattle.letters.specs.CharacterLaws.{rest, walk, size-within, characters-none, characters-step, utf8-step, ascii-utf8, Turn, turn, characters-next}
use Rattle.letters.specs.Narrow.{seen_as, pictures, narrow}
use Rattle.letters.specs.NarrowLaws.{narrow-none, ascii-narrow, length-narrow, every-run}
use Rattle.letters.specs.Text.{wide_chars, leading, wide_trim}
use Rattle.letters.specs.Trimmed.{white, trim_front}
use Rattle.letters.specs.WhiteLaws.{white-seen}

-- ---- the characters of an identifier
module _ (t : List ℕ) where
  pub chars_ascii : (chars_of t ≡ 2 → ⊥) → wide_chars t ≡ chars_of t
  unfolding chars_of wide_chars
  chars_ascii h = go (ascii t) refl h
    where
      go : (p : Bool) → ascii t ≡ p → (chars_of t ≡ 2 → ⊥) → wide_chars t ≡ chars_of t
      go true e k = rw (e, ascii-utf8 t e, ascii-narrow t e)
      go false e k = absurd (k (rw e))

  pub chars_broken : utf8 t ≡ false → wide_chars t ≡ 21
  unfolding wide_chars
  chars_broken h = rw h

  pub chars-bad : utf8 t ≡ true → every identifier_byte (narrow t) ≡ false → wide_chars t ≡ 5
  unfolding wide_chars
  chars-bad h k = rw (h, k)

  pub chars_fine : utf8 t ≡ true → every identifier_byte (narrow t) ≡ true → wide_chars t ≡ 0
  unfolding wide_chars
  chars_fine h k = rw (h, k)

-- ---- one turn of a loop over characters, at the place i, where c begins, of n bytes
module _ {s : List ℕ} {i : ℕ} {c : Character} {n : ℕ} (x : Turn s i c n) where
  pub narrow_next : narrow (drop i s) ≡ replicate n (seen_as c) ++ narrow (drop (i + n) s)
  unfolding narrow pictures
  narrow_next = rw (characters-next x, ← x.size)

  pub every-next : (f : ℕ → Bool) → every f (narrow (drop i s)) ≡ (f (seen_as c) && every f (narrow (drop (i + n) s)))
  every-next f = ap (every f) narrow_next ∙ every_append f (replicate n (seen_as c)) (narrow (drop (i + n) s)) ∙ rw (every-run f n (seen_as c) x.some)

pub narrow-end : (s : List ℕ) (i : ℕ) → length s ≤ i → narrow (drop i s) ≡ []
narrow-end s i h = rw (drop_of_length-le s h) narrow-none

pub every-end : (f : ℕ → Bool) (s : List ℕ) (i : ℕ) → length s ≤ i → every f (narrow (drop i s)) ≡ true
unfolding every
every-end f s i h = rw (narrow-end s i h)

-- ---- white space at the start
start-white : (n m : ℕ) (r : List ℕ) → blank m ≡ true → trim_start (replicate n m ++ r) ≡ trim_start r
unfolding trim_start
start-white zero m r h = refl
start-white (suc n) m r h = rw h (start-white n m r h)

start-other : (n m : ℕ) (r : List ℕ) → 1 ≤ n → blank m ≡ false → trim_start (replicate n m ++ r) ≡ replicate n m ++ r
unfolding trim_start
start-other zero m r l h = absurd (omega arith)
start-other (suc n) m r l h = rw h

module _ {s : List ℕ} {i : ℕ} {c : Character} {n : ℕ} (x : Turn s i c n) where
  pub white-next : blank (seen_as c) ≡ true → trim_start (narrow (drop i s)) ≡ trim_start (narrow (drop (i + n) s))
  white-next h = ap trim_start (narrow_next x) ∙ start-white n (seen_as c) (narrow (drop (i + n) s)) h

  pub white-stop : blank (seen_as c) ≡ false → trim_start (narrow (drop i s)) ≡ narrow (drop i s)
  white-stop h = rw (narrow_next x) (start-other n (seen_as c) (narrow (drop (i + n) s)) x.some h)

-- the place where it ends
pub leading_at : (s : List ℕ) (i : ℕ) → i ≤ length s → trim_start (narrow s) ≡ narrow (drop i s) → i ≡ leading s
unfolding leading
leading_at s i h e = rw (e, length-narrow s, length-narrow (drop i s), length-drop) (omega arith)

pub white-none : (s : List ℕ) (i : ℕ) → length s ≤ i → trim_start (narrow (drop i s)) ≡ narrow (drop i s)
unfolding trim_start
white-none s i h = rw (narrow-end s i h)

-- ---- white space at the end
pub end-some : (n m : ℕ) (r : List ℕ) (x : ℕ) (q : List ℕ) → trim_end r ≡ x ∷ q → trim_end (replicate n m ++ r) ≡ replicate n m ++ (x ∷ q)
unfolding trim_end
end-some zero m r x q h = h
end-some (suc n) m r x q h = ap (keep m) (end-some n m r x q h) ∙ go n
  where
    go : (n : ℕ) → keep m (replicate n m ++ (x ∷ q)) ≡ m ∷ (replicate n m ++ (x ∷ q))
    go zero = refl
    go (suc n) = refl

pub end-white : (n m : ℕ) (r : List ℕ) → trim_end r ≡ [] → blank m ≡ true → trim_end (replicate n m ++ r) ≡ []
unfolding trim_end
end-white zero m r h k = h
end-white (suc n) m r h k = ap (keep m) (end-white n m r h k) ∙ rw k

pub end-other : (n m : ℕ) (r : List ℕ) → trim_end r ≡ [] → blank m ≡ false → trim_end (replicate n m ++ r) ≡ replicate n m
unfolding trim_end
end-other zero m r h k = h
end-other (suc n) m r h k = ap (keep m) (end-other n m r h k) ∙ go n
  where
    go : (n : ℕ) → keep m (replicate n m) ≡ m ∷ replicate n m
    go zero = rw k
    go (suc n) = refl

-- where a text ends of which what stands before i ends at `end`, and of the others k bytes are left
abbrev pub end_at : ℕ → ℕ → ℕ → ℕ
end_at end i zero = end
end_at end i (suc k) = i + suc k

end-at : (end i k : ℕ) → 0 < k → end_at end i k ≡ i + k
end-at end i zero h = absurd (omega arith)
end-at end i (suc k) h = refl

end-run : (end i n m : ℕ) (r : List ℕ) → 1 ≤ n → end_at end i (length (trim_end (replicate n m ++ r))) ≡ end_at (cond (blank m) end (i + n)) (i + n) (length (trim_end r))
end-run end i n m r l = go (trim_end r) refl (blank m) refl
  where
    go : (q : List ℕ) → trim_end r ≡ q → (p : Bool) → blank m ≡ p → end_at end i (length (trim_end (replicate n m ++ r))) ≡ end_at (cond p end (i + n)) (i + n) (length q)
    go [] e true f = rw (end-white n m r e f)
    go [] e false f = rw (end-other n m r e f, length-replicate) (end-at end i n l)
    go (x ∷ q) e p f = rw (end-some n m r x q e, length-append, length-replicate) (end-at end i (n + suc (length q)) (omega arith) ∙ omega arith)

module _ {s : List ℕ} {i : ℕ} {c : Character} {n : ℕ} (x : Turn s i c n) where
  pub end-next : (end : ℕ) → end_at end i (length (trim_end (narrow (drop i s)))) ≡ end_at (cond (blank (seen_as c)) end (i + n)) (i + n) (length (trim_end (narrow (drop (i + n) s))))
  end-next end = rw (narrow_next x) (end-run end i n (seen_as c) (narrow (drop (i + n) s)) x.some)

pub end-start : (k : ℕ) → k ≡ end_at 0 0 k
end-start zero = refl
end-start (suc k) = omega arith

pub end-end : (end i : ℕ) (s : List ℕ) → length s ≤ i → end_at end i (length (trim_end (narrow (drop i s)))) ≡ end
unfolding trim_end
end-end end i s h = rw (narrow-end s i h)

-- ---- the same of the characters
front-none : characters [] ≡ trim_front (characters [])
unfolding trim_front
front-none = rw characters-none

front-white : (t : List ℕ) → 0 < length t → white (character_of t) ≡ true → trim_front (characters (rest t)) ≡ trim_front (characters t)
unfolding trim_front
front-white t l h = rw (characters-step t l, h)

front-other : (t : List ℕ) → 0 < length t → white (character_of t) ≡ false → characters t ≡ trim_front (characters t)
unfolding trim_front
front-other t l h = rw (characters-step t l, h)

-- ---- both: what is left after the white space at the start has the picture that is left of the text's
pub record Led (t : List ℕ) : Type 0 where
  pub k : ℕ
  pub inside : k ≤ length t
  pub left : trim_start (narrow t) ≡ narrow (drop k t)
  pub well : utf8 t ≡ true → utf8 (drop k t) ≡ true
  pub chars : characters (drop k t) ≡ trim_front (characters t)

lead : (t : List ℕ) → Led t
lead = walk Led (record { k = 0; inside = omega arith; left = white-none [] 0 (omega arith); well = λ h. h; chars = front-none }) more
  where
    more : (t : List ℕ) → 0 < length t → Led (rest t) → Led t
    more t l x = go (blank (seen_as (character_of t))) refl
      where
        n : ℕ
        n = size_of (character_of t)

        go : (p : Bool) → blank (seen_as (character_of t)) ≡ p → Led t
        go true e =
            let h = rw (length-drop n t) at x.inside in
            record {
              k = n + x.k;
              inside = omega (arith, size-within t l);
              left = white-next (turn t 0 l refl refl) e ∙ rw zero-add (x.left ∙ ap narrow (drop-drop x.k n t));
              well = λ u. rw (drop-drop x.k n t) at (x.well (and_right (whole (character_of t)) _ (sym (utf8-step t l) ∙ u)));
              chars = rw (drop-drop x.k n t) at (x.chars ∙ front-white t l (sym (white-seen (character_of t)) ∙ e));
            }
        go false e = record { k = 0; inside = omega arith; left = white-stop (turn t 0 l refl refl) e; well = λ h. h; chars = front-other t l (sym (white-seen (character_of t)) ∙ e) }

pub leading_narrow : (t : List ℕ) → (leading t ≤ length t) × (trim_start (narrow t) ≡ narrow (drop (leading t) t)) × (utf8 t ≡ true → utf8 (drop (leading t) t) ≡ true)
leading_narrow t = let x = lead t in rw (← leading_at t x.k x.inside x.left) (x.inside, x.left, x.well)

pub leading_chars : (t : List ℕ) → characters (drop (leading t) t) ≡ trim_front (characters t)
leading_chars t = let x = lead t in rw (← leading_at t x.k x.inside x.left) x.chars

end-length : (p : List ℕ) → length (trim_end p) ≤ length p
unfolding trim_end
end-length [] = omega arith
end-length (b ∷ p) = omega (arith, go (trim_end p), end-length p)
  where
    go : (q : List ℕ) → length (keep b q) ≤ suc (length q)
    go [] = two (blank b)
      where
        two : (v : Bool) → length (cond v [] (b ∷ [])) ≤ 1
        two true = omega arith
        two false = omega arith
    go (x ∷ q) = omega arith

pub end-within : (t : List ℕ) (end : ℕ) → end ≡ length (trim_end (narrow t)) → end ≤ length t
end-within t end e = omega (arith, end-length (narrow t), length-narrow t)

-- the part that is left, as the code takes it
pub trimmed-part : (s b : List ℕ) (start end : ℕ) → start ≡ leading s → b ≡ drop start s → end ≡ length (trim_end (narrow b)) → take (end - 0) b ≡ wide_trim s
unfolding wide_trim trim
trimmed-part s b start end e f g = rw (sub-zero, g, f, e, ← (leading_narrow s).1)
