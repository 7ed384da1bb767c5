-- Every component of an ASCII text can stand as U: it is ASCII, and it has no `/`.
-- Assumes nothing.
use Prim.Native.Nat.{ℕ, zero, suc}
use Rattle.std.specs.Prelude.{◌≡◌, Bool, not, ◌||◌, eqb, ltb, get_or}
use Rattle.std.proofs.Math.Path.{refl}
use Rattle.std.proofs.Math.Bool.{true, false}
use mathlib.Core.List.{List, [], ◌∷◌}
use Rattle.text.specs.Part.{every, ascii}
use Rattle.text.specs.PartLaws.{and_left, and_right}
use Rattle.path.specs.Text.{cut_at, cut_step, component}
use Rattle.path.specs.Kinds.{name}
use Rattle.path.specs.declared.name.Name.TheVariants.{Upgrade as upgrade}
use Rattle.path.specs.Read.{name_fault, fits}

-- what each byte but x passes, each byte of a text between two x passes
module _ (f : ℕ → Bool) (x : ℕ) where
  step : (v : Bool) (b : ℕ) (cs : List (List ℕ)) (k : ℕ) → (v || f b) ≡ true → ((j : ℕ) → every f (get_or cs j []) ≡ true) → every f (get_or (cut_step v b cs) k []) ≡ true
  unfolding every
  step true b cs zero h ih = refl
  step true b cs (suc k) h ih = ih k
  step false b [] zero h ih = rw h
  step false b [] (suc k) h ih = refl
  step false b (c ∷ cs) zero h ih = rw h (ih zero)
  step false b (c ∷ cs) (suc k) h ih = ih (suc k)

  pub cut-each : (t : List ℕ) (k : ℕ) → every (λ b. eqb b x || f b) t ≡ true → every f (get_or (cut_at x t) k []) ≡ true
  unfolding every cut_at
  cut-each [] zero h = refl
  cut-each [] (suc k) h = refl
  cut-each (b ∷ t) k h = step (eqb b x) b (cut_at x t) k (and_left (eqb b x || f b) _ h) (λ j. cut-each t j (and_right (eqb b x || f b) _ h))

either-holds : (v : Bool) → (v || not v) ≡ true
either-holds true = refl
either-holds false = refl

or_right : (v w : Bool) → w ≡ true → (v || w) ≡ true
or_right true w h = refl
or_right false w h = h

each-or-not : (x : ℕ) (t : List ℕ) → every (λ b. eqb b x || not (eqb b x)) t ≡ true
unfolding every
each-or-not x [] = refl
each-or-not x (b ∷ t) = rw (either-holds (eqb b x)) (each-or-not x t)

each_or : (f : ℕ → Bool) (x : ℕ) (t : List ℕ) → every f t ≡ true → every (λ b. eqb b x || f b) t ≡ true
unfolding every
each_or f x [] h = refl
each_or f x (b ∷ t) h = rw (or_right (eqb b x) (f b) (and_left (f b) _ h)) (each_or f x t (and_right (f b) _ h))

pub upgrade-fits : (t : List ℕ) (k : ℕ) → ascii t ≡ true → fits (name upgrade) (component t k) ≡ true
unfolding ascii fits name_fault
upgrade-fits t k h =
    rw (
      cut-each (λ b. ltb b 128) 47 t k (each_or (λ b. ltb b 128) 47 t h),
      cut-each (λ b. not (eqb b 47)) 47 t k (each-or-not 47 t),
    )
