-- Laws of `View`.
-- Assumes nothing.
use Rattle.std.specs.Prelude.{ℕ, ◌≡◌, refl, Bool, List, Ok, Err}
use Rattle.std.proofs.Math.Path.{ap}
use Rattle.std.proofs.Common.{subst, arith}
use Rattle.std.specs.Borrow.{Bor}
use Rattle.path.specs.declared.Place.{Place}
use Rattle.path.specs.declared.Path.{Path}
use Rattle.path.specs.declared.PathView.{PathView}
use Rattle.path.specs.declared.Refusal.{Refusal}
use Rattle.path.specs.Reading.{Reading, Read}
use Rattle.path.specs.View.{Shows, view_of, viewed_by, kind_of, carried_of}

-- a place by another name
pub shows-at : (r x : Bor (List ℕ)) (p q : Place) → p ≡ q → Shows r x p → Shows r x q
shows-at r x p q e h = subst (λ (z : Place). Shows r x z) e h

-- what a view of p has
module _ (v : PathView) (p : Path) (x : Bool) (e : v ≡ view_of p x) where
  pub view-kind : v.kind ≡ kind_of p
  unfolding view_of
  view-kind = ap (λ (z : PathView). z.kind) e

  pub view-exact : v.exact ≡ x
  unfolding view_of
  view-exact = ap (λ (z : PathView). z.exact) e

  pub view_first : v.first ≡ (carried_of p).first
  unfolding view_of
  view_first = ap (λ (z : PathView). z.first) e

  pub view-second : v.second ≡ (carried_of p).second
  unfolding view_of
  view-second = ap (λ (z : PathView). z.second) e

  pub view-a : v.a ≡ (carried_of p).a
  unfolding view_of
  view-a = ap (λ (z : PathView). z.a) e

  pub view-b : v.b ≡ (carried_of p).b
  unfolding view_of
  view-b = ap (λ (z : PathView). z.b) e

-- ---- what a flat reading tells of the reading
-- some path was read, and v is what it shows
pub record IsSeen (r : Reading) (v : PathView) : Type 0 where
  pub path : Path
  pub mark : Bool
  pub read : r ≡ Read path mark
  pub shows : v ≡ view_of path mark

pub is_seen : (r : Reading) (v : PathView) → Ok v ≡ viewed_by r → IsSeen r v
unfolding viewed_by
is_seen (Ok r) v h = record { path = r.path; mark = r.exact; read = refl; shows = cc }
is_seen (Err w) v h = let z : ◌≡◌ {A = ℕ} 0 1 = cc in absurd (omega arith)

-- or it was refused
pub is-unread : (r : Reading) (w : Refusal) → Err w ≡ viewed_by r → r ≡ Err w
unfolding viewed_by
is-unread (Ok r) w h = let z : ◌≡◌ {A = ℕ} 0 1 = cc in absurd (omega arith)
is-unread (Err u) w h = cc
