-- A path and its flat form undo each other.
-- Assumes nothing.
use Rattle.std.specs.Prelude.{ℕ, ◌≡◌, Bool}
use Rattle.std.proofs.Common.{sym, ap, ◌∙◌}
use Rattle.path.specs.declared.Place.{Place}
use Rattle.path.specs.declared.Path.{Path}
use Rattle.path.specs.declared.PathView.{PathView}
use Rattle.path.specs.Kinds.{Carried}
use Rattle.path.specs.View.{view_of}
use Rattle.path.specs.Reads.{kind_at, typed_of}
use Rattle.path.specs.ReadLaws.{path-made}

-- the path that a kind makes, by its number
pub by_kind : (k j : ℕ) (v : Carried Place) → k ≡ j → (kind_at j).make v ≡ (kind_at k).make v
by_kind k j v h = ap (λ (i : ℕ). (kind_at i).make v) (sym h)

-- the path of what a path shows is that path
pub typed-view : (p : Path) (e : Bool) → typed_of (view_of p e) ≡ p
unfolding view_of
typed-view p e = sym (path-made p)

-- and what the path of a flat form shows is that form, where some path shows it
pub view_typed : (v : PathView) (p : Path) (e : Bool) → v ≡ view_of p e → view_of (typed_of v) v.exact ≡ v
unfolding view_of
view_typed v p e h = ap (λ (x : PathView). view_of (typed_of x) x.exact) h ∙ ap (λ (q : Path). view_of q e) (typed-view p e) ∙ sym h
