-- The 64-bit FNV-1a value of a text: from the offset, each byte is joined by xor, and the product with the prime wraps.
-- Assumes nothing.
use Rattle.std.specs.Prelude.{◌≡◌, ℕ, ◌*◌, ◌%◌, ◌^◌, List, [], ◌∷◌, bit_xor, refl}
use Rattle.text.specs.Bytes.{bytes}

abbrev pub prime : ℕ
prime = 1099511628211

abbrev pub offset : ℕ
offset = 14695981039346656037

unfoldable pub joined : ℕ → ℕ → ℕ
joined h b = (bit_xor h b * prime) % 2 ^ 64

unfoldable pub fnv_from : ℕ → List ℕ → ℕ
fnv_from h [] = h
fnv_from h (b ∷ s) = fnv_from (joined h b) s

abbrev pub fnv : List ℕ → ℕ
fnv s = fnv_from offset s

-- published vectors
of_a : fnv (bytes "a") ≡ 12638187200555641996
unfolding fnv_from joined
of_a = refl

of_foobar : fnv (bytes "foobar") ≡ 9625390261332436968
unfolding fnv_from joined
of_foobar = refl
