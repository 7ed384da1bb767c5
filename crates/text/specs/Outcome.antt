-- A contract leaves one outcome: any two that it permits, from the same arguments, are the same.
-- Assumes nothing.
use Rattle.std.specs.Prelude.{◌≡◌, ℕ, List}
use Rattle.std.specs.Borrow.{Bor}

-- Post is a contract as Rattle makes it of the source: of lifetimes, arguments, result, and the parameters at exit
module _ {L : Type 0} {A R S : L → Type 0} (Post : (κs : L) → A κs → R κs → S κs → Type 0) where
  -- one result
  abbrev pub One : Type 0
  One = (κs : L) (a : A κs) (r₁ r₂ : R κs) (s₁ s₂ : S κs) → Post κs a r₁ s₁ → Post κs a r₂ s₂ → r₁ ≡ r₂

  -- one result, and one content of the buffer
  abbrev pub OneWith : ((κs : L) → S κs → List ℕ) → Type 0
  OneWith buffer = (κs : L) (a : A κs) (r₁ r₂ : R κs) (s₁ s₂ : S κs) → Post κs a r₁ s₁ → Post κs a r₂ s₂ → (r₁ ≡ r₂) × (buffer κs s₁ ≡ buffer κs s₂)

-- two parts of one text: the same bytes, and they point to the same place
abbrev pub SamePart : Bor (List ℕ) → Bor (List ℕ) → Type 0
SamePart r q = (r.now ≡ q.now) × (r.ref_ptr.0 ≡ q.ref_ptr.0) × (r.ref_ptr.1 ≡ q.ref_ptr.1)

-- one part
module _ {L : Type 0} {A S : L → Type 0} (Post : (κs : L) → A κs → Bor (List ℕ) → S κs → Type 0) where
  abbrev pub OnePart : Type 0
  OnePart = (κs : L) (a : A κs) (r₁ r₂ : Bor (List ℕ)) (s₁ s₂ : S κs) → Post κs a r₁ s₁ → Post κs a r₂ s₂ → SamePart r₁ r₂
