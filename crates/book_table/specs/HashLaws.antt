-- Laws of the hash: one byte joined, and one byte more.
-- Assumes nothing.
use Rattle.std.specs.Prelude.{◌≡◌, ℕ, ◌+◌, ◌*◌, ◌%◌, ◌^◌, ◌<◌, ◌≤◌, List, ◌∷◌, length, drop, bit_xor, slice_index}
use Rattle.std.proofs.Math.Path.{sym}
use Rattle.std.proofs.Common.{ap, ◌∙◌, drop_of_length-le, drop-cons}
use Rattle.std.proofs.Math.Numerals.{add-one}
use Rattle.book_table.specs.Hash.{prime, offset, joined, fnv_from, fnv}

-- the product of what a byte is joined to by xor
pub joined_is : (h b w r : ℕ) → w ≡ b → r ≡ (bit_xor h w * prime) % 2 ^ 64 → r ≡ joined h b
unfolding joined
joined_is h b w r e er = er ∙ ap (λ (x : ℕ). (bit_xor h x * prime) % 2 ^ 64) e

-- the first byte is joined to the offset
pub fnv-start : (b h : ℕ) (s : List ℕ) → h ≡ joined offset b → fnv (b ∷ s) ≡ fnv_from h (drop 0 s)
unfolding fnv_from
fnv-start b h s e = ap (λ (x : ℕ). fnv_from x s) (sym e)

module _ (v h i : ℕ) (s : List ℕ) (e : v ≡ fnv_from h (drop i s)) where
  pub fnv-done : length s ≤ i → h ≡ v
  unfolding fnv_from
  fnv-done l = sym (e ∙ rw (drop_of_length-le s {i = i} l))

  pub fnv-more : i < length s → (r : ℕ) → r ≡ joined h (slice_index s i) → v ≡ fnv_from r (drop (i + 1) s)
  unfolding fnv_from
  fnv-more l r er = e ∙ rw (drop-cons s i 0 l, add-one i, er)
