-- In the mode `plain` each definition is the plain call's.
-- Assumes nothing.
use Rattle.std.specs.Prelude.{ℕ, suc, ◌-◌, ◌≤◌, ◌≡◌, refl, Bool, cond, List, [], ◌∷◌, ltb, length, take, drop, Err, Option, Some, None}
use Rattle.std.proofs.Common.{ap, arith}
use Rattle.std.proofs.Math.Bool.{true, false}
use Rattle.text.specs.Part.{ascii}
use Rattle.identifiers.specs.Check.{chars_of, length_of, prefix_length_of, named_index_of, named_index_fault, Rule, check_of}
use Rattle.identifiers.specs.Owned.{blank, keep, trim_start, trim_end, trim}
use Rattle.path.specs.declared.Refusal.TheVariants.{TooLong, NotAscii}
use Rattle.path.specs.Reading.{Reading}
use Rattle.path.specs.Kinds.{kinds}
use Rattle.path.specs.Read.{read_first, reading_of, read_path, read_place, key_by, key_of, bytes_by, reading_bytes, read_fault}
use Rattle.wide.specs.Mode.{plain}
use Rattle.wide.specs.Check.{chars_in, length_in, prefix_length_in, named_index_in, named_index_fault_in, check_in, trim_in}
use Rattle.wide.specs.Read.{read_in, place_in, key_by_in, key_in, bytes_by_in, reading_bytes_in, read_fault_in}

-- ---- the checks
pub chars-plain : (s : List ℕ) → chars_in plain s ≡ chars_of s
unfolding plain chars_in chars_of
chars-plain s = refl

pub length-plain : (s : List ℕ) (least most : ℕ) → length_in plain s least most ≡ length_of s least most
unfolding plain length_in length_of
length-plain s least most = refl

pub prefix-plain : (s : List ℕ) (least most : ℕ) → prefix_length_in plain s least most ≡ prefix_length_of s least most
unfolding prefix_length_in prefix_length_of
prefix-plain s least most = length-plain s (least - 2) (most - 21)

pub named-plain : (s w : List ℕ) → named_index_fault_in plain s w ≡ named_index_fault s w
unfolding plain named_index_in named_index_fault_in named_index_of named_index_fault
named-plain s w = refl

pub check-plain : (r : Rule) (s : List ℕ) → check_in plain r s ≡ check_of r s
unfolding check_in check_of
check-plain r s = rw (chars-plain s)

-- ---- trimming: what is left of a text is a part of it
start_shorter : (s : List ℕ) → length (trim_start s) ≤ length s
unfolding trim_start
start_shorter [] = omega arith
start_shorter (b ∷ s) = go (blank b) (start_shorter s)
  where
    go : (t : Bool) → length (trim_start s) ≤ length s → length (cond t (trim_start s) (b ∷ s)) ≤ suc (length s)
    go true h = omega (arith, h)
    go false h = omega arith

start-part : (s : List ℕ) → drop (length s - length (trim_start s)) s ≡ trim_start s
unfolding trim_start
start-part [] = refl
start-part (b ∷ s) = go (blank b) (start-part s)
  where
    go : (t : Bool) → drop (length s - length (trim_start s)) s ≡ trim_start s → drop (suc (length s) - length (cond t (trim_start s) (b ∷ s))) (b ∷ s) ≡ cond t (trim_start s) (b ∷ s)
    go true h = let e : suc (length s) - length (trim_start s) ≡ suc (length s - length (trim_start s)) = omega (arith, start_shorter s) in rw e h
    go false h = let e : suc (length s) - suc (length s) ≡ 0 = omega arith in rw e

end-part : (s : List ℕ) → take (length (trim_end s)) s ≡ trim_end s
unfolding trim_end
end-part [] = refl
end-part (b ∷ s) = go (trim_end s) (end-part s)
  where
    one : (t : Bool) → take (length (cond t [] (b ∷ []))) (b ∷ s) ≡ cond t [] (b ∷ [])
    one true = refl
    one false = refl

    go : (r : List ℕ) → take (length r) s ≡ r → take (length (keep b r)) (b ∷ s) ≡ keep b r
    go [] e = one (blank b)
    go (x ∷ r) e = ap (λ z. b ∷ z) e

pub trim-plain : (s : List ℕ) → trim_in plain s ≡ trim s
unfolding plain trim_in trim
trim-plain s = rw (start-part s) (end-part (trim_start s))

-- ---- reading: what is said of each answer, and of a text that is not ASCII, holds of the reading
module _ (t : List ℕ) (P : Option Reading → Reading → Type 0) (of : (r : Reading) → P (Some r) r) (other : P None (Err NotAscii)) where
  by-reading : P (read_in plain t) (read_path t)
  unfolding plain read_in read_path
  by-reading = go (ltb 4096 (length t)) (ascii t) (reading_of t (read_first kinds t))
    where
      go : (a b : Bool) (x : Reading) → P (cond a (Some (Err TooLong)) (cond b (Some (cond a (Err TooLong) (cond b x (Err NotAscii)))) None)) (cond a (Err TooLong) (cond b x (Err NotAscii)))
      go true b x = of (Err TooLong)
      go false true x = of x
      go false false x = other

pub key-plain : (t : List ℕ) → key_in plain t ≡ key_of t
unfolding plain key_in key_of
key-plain t = by-reading t (λ w r. key_by_in plain t w ≡ key_by t r) (λ r. refl) refl

pub bytes-plain : (t : List ℕ) → reading_bytes_in plain t ≡ reading_bytes t
unfolding plain reading_bytes_in reading_bytes
bytes-plain t = by-reading t (λ w r. bytes_by_in plain w ≡ bytes_by r) (λ r. refl) refl

pub read_plain : (t : List ℕ) (room : ℕ) → read_fault_in plain t room ≡ read_fault t room
unfolding read_fault_in read_fault
read_plain t room = rw (bytes-plain t, by-reading t (λ w r. place_in w ≡ read_place r) (λ r. refl) refl)
