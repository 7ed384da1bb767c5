-- Nothing is lost in the 26 bytes of a reading.
-- Assumes nothing.
use Prim.Native.Nat.{ℕ, ◌^◌, ◌<◌, ◌≤◌}
use Rattle.std.specs.Prelude.{◌≡◌, Bool, length}
use Rattle.std.proofs.Math.Path.{refl}
use Rattle.std.proofs.Math.Bool.{cond}
use mathlib.Core.List.{List, [], ◌∷◌, ◌++◌, append_assoc, append-nil}
use Rattle.std.proofs.Common.{arith}
use Rattle.std.proofs.Math.ListN.{length-append}
use Rattle.text.specs.Number.{big_endian, big_at}
use Rattle.text.specs.NumberLaws.{length_big, big-at}
use Rattle.path.specs.declared.Place.{Place}
use Rattle.path.specs.declared.Path.{Path}
use Rattle.path.specs.Reading.{Read}
use Rattle.path.specs.Kinds.{Carried}
use Rattle.path.specs.PlaceLaws.{read_lies}
use Rattle.path.specs.Read.{place_bytes, read_path}
use Rattle.path.specs.View.{kind_of, carried_of}
use Rattle.path.specs.BackLaws.{read_reads, read_short, read-valid}
use Rattle.demands.specs.Told.{Told, told, told_of}

-- ---- the 26 bytes
abbrev pub bytes26 : Path → Bool → List ℕ
bytes26 p e = kind_of p ∷ cond e 1 0 ∷ (place_bytes (carried_of p).first ++ (place_bytes (carried_of p).second ++ (big_endian 8 (carried_of p).a ++ big_endian 8 (carried_of p).b)))

module _ (t : List ℕ) (p : Path) (e : Bool) (h : read_path t ≡ Read p e) where
  c : Carried Place
  c = carried_of p

  x : ℕ → List ℕ
  x v = big_endian 2 v

  y : ℕ → List ℕ
  y v = big_endian 8 v

  lx : (v : ℕ) → length (x v) ≡ 2
  unfolding x
  lx v = length_big 2 v

  ly : (v : ℕ) → length (y v) ≡ 8
  unfolding y
  ly v = length_big 8 v

  small : (m : ℕ) → m ≤ length t → m < 256 ^ 2
  small m l = let z : 256 ^ 2 ≡ 65536 = refl in omega (arith, read_short t p e h, z)

  large : (m : ℕ) → m < 2 ^ 64 → m < 256 ^ 8
  large m l = let z : 256 ^ 8 ≡ 2 ^ 64 = refl in omega (arith, l, z)

  -- nothing is lost in 2-byte places
  pub told_back : told (bytes26 p e) ≡ told_of p e
  unfolding told c x y
  told_back =
      let w = read_lies t p (read_reads t p e h) in
      let u = read-valid t p e h in
      let bs : List ℕ = bytes26 p e in
      let head : List ℕ = kind_of p ∷ cond e 1 0 ∷ [] in
      let s₁ = c.first.start in
      let l₁ = c.first.len in
      let s₂ = c.second.start in
      let l₂ = c.second.len in
      let p₁ : big_at 2 2 bs ≡ s₁ = big-at head (x l₁ ++ (place_bytes c.second ++ (y c.a ++ y c.b))) 2 2 s₁ bs (simp append_assoc) refl (small s₁ (omega (arith, w.0))) in
      let p₂ : big_at 4 2 bs ≡ l₁ = big-at (head ++ x s₁) (place_bytes c.second ++ (y c.a ++ y c.b)) 4 2 l₁ bs (simp append_assoc) (omega (arith, length-append head (x s₁), lx s₁)) (small l₁ (omega (arith, w.0))) in
      let p₃ : big_at 6 2 bs ≡ s₂ = big-at (head ++ place_bytes c.first) (x l₂ ++ (y c.a ++ y c.b)) 6 2 s₂ bs (simp append_assoc) (omega (arith, length-append head (place_bytes c.first), length-append (x s₁) (x l₁), lx s₁, lx l₁)) (small s₂ (omega (arith, w.1))) in
      let p₄ : big_at 8 2 bs ≡ l₂ = big-at (head ++ (place_bytes c.first ++ x s₂)) (y c.a ++ y c.b) 8 2 l₂ bs (simp append_assoc) (omega (arith, length-append head (place_bytes c.first ++ x s₂), length-append (place_bytes c.first) (x s₂), length-append (x s₁) (x l₁), lx s₁, lx l₁, lx s₂)) (small l₂ (omega (arith, w.1))) in
      let p₅ : big_at 10 8 bs ≡ c.a = big-at (head ++ (place_bytes c.first ++ place_bytes c.second)) (y c.b) 10 8 c.a bs (simp append_assoc) (omega (arith, length-append head (place_bytes c.first ++ place_bytes c.second), length-append (place_bytes c.first) (place_bytes c.second), length-append (x s₁) (x l₁), length-append (x s₂) (x l₂), lx s₁, lx l₁, lx s₂, lx l₂)) (large c.a u.a) in
      let p₆ : big_at 18 8 bs ≡ c.b = big-at (head ++ (place_bytes c.first ++ (place_bytes c.second ++ y c.a))) [] 18 8 c.b bs (simp (append_assoc, append-nil)) (omega (arith, length-append head (place_bytes c.first ++ (place_bytes c.second ++ y c.a)), length-append (place_bytes c.first) (place_bytes c.second ++ y c.a), length-append (place_bytes c.second) (y c.a), length-append (x s₁) (x l₁), length-append (x s₂) (x l₂), lx s₁, lx l₁, lx s₂, lx l₂, ly c.a)) (large c.b u.b) in
      λ i. record { kind = kind_of p; mark = cond e 1 0; first = record { start = p₁ i; len = p₂ i }; second = record { start = p₃ i; len = p₄ i }; a = p₅ i; b = p₆ i }

  pub length26 : length (bytes26 p e) ≡ 26
  unfolding c x y
  length26 =
      let s₁ = c.first.start in
      let l₁ = c.first.len in
      let s₂ = c.second.start in
      let l₂ = c.second.len in
      omega (arith, length-append (place_bytes c.first) (place_bytes c.second ++ (y c.a ++ y c.b)), length-append (place_bytes c.second) (y c.a ++ y c.b), length-append (y c.a) (y c.b), length-append (x s₁) (x l₁), length-append (x s₂) (x l₂), lx s₁, lx l₁, lx s₂, lx l₂, ly c.a, ly c.b)
