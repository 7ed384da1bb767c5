-- Request L12, what lies below a path, as theorems: of what `hp_render` writes, and of the records of a proper book. `Rendered` is in `Below` of
-- specs/, and the words are in `Above`. They stand here, since they rest on a definition that an edit of must-fail/ turns.
-- Assumes nothing.
use Rattle.std.specs.Prelude.{ℕ, ◌≤◌, ◌<◌, ◌≡◌, refl, ◌⊎◌, ◌↔◌, List, ◌++◌, false, length, take}
use Rattle.std.proofs.Common.{sym, ap, ◌∙◌}
use Rattle.std.proofs.Math.Option.{some}
use Rattle.std.proofs.Math.ListN.{get_elem?}
use Rattle.text.specs.Bytes.{bytes}
use Rattle.text.specs.declared.Written.{Written}
use Rattle.text.specs.Order.{cmp, Before}
use Rattle.text.specs.Part.{starts_with}
use Rattle.path.specs.Kinds.{Carried}
use Rattle.path.specs.Valid.{Valid}
use Rattle.book_records.specs.Act.{Rec}
use Rattle.book.specs.Book.{Current, Book}
use Rattle.demands.specs.Above.{Above, renders, Upgrade, ItsTimeOrHeight, AboveUpgrade, SomeAbove, Stands, Neighbours}
use Rattle.demands.proofs.BelowLaws as laws
use Rattle.demands.proofs.NeighbourLaws as near
use Rattle.demands.specs.Below.{Rendered, rendered}

module _ (j k : ℕ) (v w : Carried (List ℕ)) (p : Valid j v) (q : Valid k w) (t u : List ℕ) (one : Rendered j v t) (other : Rendered k w u) where
  -- ---- "for two typed paths of which the longer is not kind 18 or 19, the rendering of one followed by `/` begins the rendering of the
  -- other exactly when the first is a consensus state and the second is its processed time or processed height"
  pub lies_below : (length t < length u → Upgrade k → ⊥) → Above t u ↔ ItsTimeOrHeight j v k w
  lies_below = rw ((rendered p one).1, (rendered q other).1) (laws.lies_below j k v w p q)

  -- ---- "Without that premise `ports/55` and `ports/55/upgradedClient` break it": what stands above an upgrade path, and nothing else does
  pub above_upgrade : Upgrade k → Above t u ↔ AboveUpgrade j v w.first w.a
  above_upgrade is = rw ((rendered p one).1, (rendered q other).1) (laws.upgrade-below j k v w p q is)

  -- both, for any two paths
  pub above_exactly : Above t u ↔ (ItsTimeOrHeight j v k w ⊎ (Upgrade k × AboveUpgrade j v w.first w.a))
  above_exactly = rw ((rendered p one).1, (rendered q other).1) (laws.above_exactly j k v w p q)

-- an upgrade path has a path above it exactly where U is one of three words, or `ports` with a height of two digits or more
pub some_above : (k : ℕ) (w : Carried (List ℕ)) → Valid k w → Upgrade k → (u : List ℕ) → Rendered k w u
    → ((j : ℕ) × (v : Carried (List ℕ)) × Valid j v × Above (renders j v) u) ↔ SomeAbove w.first w.a
some_above k w q is u other = rw (rendered q other).1 (laws.some_above k w q is)

-- ---- in a proper book
module _ (b : List ℕ) (x : Book Current b) where
  -- an owner's records stand together, and of these those whose texts begin alike: so do those below a path
  pub together : (o : ℕ) (t : List ℕ) (i m j : ℕ) (h l : List ℕ) (s : Rec) → Stands x.records o i h → get_elem? x.records m ≡ some s → Stands x.records o j l → i < m → m < j → Above t h → Above t l
      → (k : List ℕ) × Stands x.records o m k × Above t k
  together o t i m j h l s r e q lo hi a c =
      let k = near.own-between b x o i m j h l s r q e lo hi in
      let f = near.in_order b x o i m h k.0 r k.1 lo in
      let g = near.in_order b x o m j k.0 l k.1 q hi in
      (k.0, k.1, near.starts-together (t ++ bytes "/") h k.0 l f g a c)

  -- behind an owner's record of a consensus state stand those of its processed height and of its processed time, with none between
  pub neighbours : (o : ℕ) (v : Carried (List ℕ)) → Valid 5 v → (i : ℕ) → Stands x.records o i (renders 5 v) → Neighbours x.records o i v
  neighbours o v ok i st = near.neighbours b x o v ok i st
