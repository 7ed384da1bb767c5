-- What a diagnosis tells: its refusal is the reader's, and it shows nothing where the text reads; the components before the shown one fit,
-- and the shown one does not.
-- Assumes nothing.
use Rattle.std.specs.Prelude.{ℕ, zero, suc, ◌<◌, ◌≡◌, refl, Bool, true, false, cond, List, [], ◌∷◌, eqb, ltb, length, get_or, Ok, Err}
use Rattle.std.proofs.Common.{arith}
use Rattle.path.specs.declared.Path.{Path}
use Rattle.path.specs.Reading.{Reading, Read}
use Rattle.path.specs.Kinds.{Part, count}
use Rattle.path.specs.Read.{fits, parts_of, read_path, number_of, refusal_of}
use Rattle.path.specs.View.{kind_of}
use Rattle.diagnose.specs.Diagnosis.{front, diagnosis, shown_as, shown, diagnosis_by, diagnosis_of, nearest, how_many, seven}

-- ---- the refusal is the reader's
shown-refusal : (t : List ℕ) (r k : ℕ) → (shown t r k).refusal ≡ r
unfolding shown shown_as
shown-refusal t r k = go (eqb k 0)
  where
    go : (v : Bool) → (cond v (diagnosis r 0 1 1 0) (shown_as t r k (front (parts_of k) (seven t)))).refusal ≡ r
    go true = refl
    go false = refl

by-refusal : (t : List ℕ) (x : Reading) → (diagnosis_by t x).refusal ≡ number_of x
unfolding diagnosis_by
by-refusal t (Ok r) = refl
by-refusal t (Err w) = go (ltb (refusal_of w) 3)
  where
    go : (v : Bool) → (cond v (diagnosis (refusal_of w) 0 0 0 0) (shown t (refusal_of w) (nearest (how_many t) (seven t)))).refusal ≡ refusal_of w
    go true = refl
    go false = shown-refusal t (refusal_of w) (nearest (how_many t) (seven t))

pub same-refusal : (t : List ℕ) → (diagnosis_of t).refusal ≡ number_of (read_path t)
unfolding diagnosis_of
same-refusal t = by-refusal t (read_path t)

-- where the text reads, its kind and nothing else
pub read-nothing : (t : List ℕ) (p : Path) (e : Bool) → read_path t ≡ Read p e → diagnosis_of t ≡ diagnosis 0 (kind_of p) 0 0 0
unfolding diagnosis_of diagnosis_by
read-nothing t p e h = rw h

-- ---- the components before the shown one fit
pub front_fits : (ps : List Part) (cs : List (List ℕ)) (i : ℕ) → i < front ps cs → fits (get_or ps i count) (get_or cs i []) ≡ true
unfolding front
front_fits [] cs i h = absurd (omega arith)
front_fits (p ∷ ps) [] i h = absurd (omega arith)
front_fits (p ∷ ps) (c ∷ cs) i h = go (fits p c) refl i h (front_fits ps cs)
  where
    go : (v : Bool) → fits p c ≡ v → (i : ℕ) → i < cond v (suc (front ps cs)) 0 → ((j : ℕ) → j < front ps cs → fits (get_or ps j count) (get_or cs j []) ≡ true)
        → fits (get_or (p ∷ ps) i count) (get_or (c ∷ cs) i []) ≡ true
    go true e zero h ih = e
    go true e (suc j) h ih = ih j (omega arith)
    go false e j h ih = absurd (omega arith)

-- and it does not, where neither the kind nor the text has ended
pub front-stops : (ps : List Part) (cs : List (List ℕ)) → front ps cs < length ps → front ps cs < length cs → fits (get_or ps (front ps cs) count) (get_or cs (front ps cs) []) ≡ false
unfolding front
front-stops [] cs h k = absurd (omega arith)
front-stops (p ∷ ps) [] h k = absurd (omega arith)
front-stops (p ∷ ps) (c ∷ cs) h k = go (fits p c) refl h k (front-stops ps cs)
  where
    go : (v : Bool) → fits p c ≡ v → cond v (suc (front ps cs)) 0 < suc (length ps) → cond v (suc (front ps cs)) 0 < suc (length cs)
        → (front ps cs < length ps → front ps cs < length cs → fits (get_or ps (front ps cs) count) (get_or cs (front ps cs) []) ≡ false)
        → fits (get_or (p ∷ ps) (cond v (suc (front ps cs)) 0) count) (get_or (c ∷ cs) (cond v (suc (front ps cs)) 0) []) ≡ false
    go true e h k ih = ih (omega arith) (omega arith)
    go false e h k ih = e
