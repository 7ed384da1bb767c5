-- Laws of `Runs`: functions that do on a buffer what a machine does on a state, and what holds at the points of a run.
-- Assumes nothing.
use Rattle.std.proofs.Math.Path.{◌≡◌}
use Rattle.std.specs.Prelude.{refl, List, ◌∷◌}
use Rattle.std.proofs.Math.Option.{some}
use Prim.Native.Nat.{ℕ, zero, suc}
use native.Mathlib.Omega.{arith}
use Rattle.std.proofs.Math.ListN.{get_elem?}
use Rattle.runs.specs.MachineLaws.{Independent, answers, final}
use Rattle.runs.specs.Runs.{Runs, stop, next, before}

module _ (M : Independent) {B : Type 0} (Does : B → M.Call → M.Answer → B → Type 0) (bytes : M.State → B)
    (sim : (s : M.State) (c : M.Call) (a : M.Answer) (b : B) → M.Good s → Does (bytes s) c a b → (a ≡ (M.step s c).0) × (b ≡ bytes (M.step s c).1)) where
  -- on the bytes of a good state the functions do what the machine does
  pub simulates : {b b₁ : B} {cs : List M.Call} {rs : List M.Answer} → Runs Does b cs rs b₁ → (s : M.State) → M.Good s → b ≡ bytes s
      → (rs ≡ answers M.step s cs) × (b₁ ≡ bytes (final M.step s cs))
  unfolding answers final
  simulates stop s g e = (refl, e)
  simulates (next {b₁ = b₁} {c = c} {cs = cs} {a = a} {rs = rs} d r) s g e =
      let w : (a ≡ (M.step s c).0) × (b₁ ≡ bytes (M.step s c).1) = sim s c a b₁ g (rw e at d) in
      let h = simulates r (M.step s c).1 (M.good s c g) w.1 in
      ((λ i. w.0 i ∷ h.0 i), h.1)

-- ---- the points of a run
module _ {B Call Answer : Type 0} {Does : B → Call → Answer → B → Type 0} where
  -- there the function does what the contract permits
  pub does_at : {b b₁ : B} {cs : List Call} {rs : List Answer} (r : Runs Does b cs rs b₁) (i : ℕ) (c : Call) (a : Answer) → get_elem? cs i ≡ some c → get_elem? rs i ≡ some a
      → (b₂ : B) × Does (before r i) c a b₂
  unfolding before
  does_at stop i c a e f = let z : ◌≡◌ {A = ℕ} 0 1 = cc in absurd (let y : ⊥ = omega arith in y)
  does_at (next {b = b} {b₁ = b₁} {c = c'} {a = a'} d r) zero c a e f =
      let p : c' ≡ c = cc in
      let q : a' ≡ a = cc in
      (b₁, rw (← p, ← q) d)
  does_at (next d r) (suc i) c a e f = does_at r i c a e f

  -- what every call keeps is so at every point, and at the end
  module _ (Good : B → Type 0) (keep : (b : B) (c : Call) (a : Answer) (b₁ : B) → Does b c a b₁ → Good b → Good b₁) where
    pub kept_at : {b b₁ : B} {cs : List Call} {rs : List Answer} (r : Runs Does b cs rs b₁) → Good b → (i : ℕ) → Good (before r i)
    unfolding before
    kept_at stop g i = g
    kept_at (next d r) g zero = g
    kept_at (next {b = b} {b₁ = b₁} {c = c} {a = a} d r) g (suc i) = kept_at r (keep b c a b₁ d g) i

    pub kept-end : {b b₁ : B} {cs : List Call} {rs : List Answer} → Runs Does b cs rs b₁ → Good b → Good b₁
    kept-end stop g = g
    kept-end (next {b = b} {b₁ = b₁} {c = c} {a = a} d r) g = kept-end r (keep b c a b₁ d g)
