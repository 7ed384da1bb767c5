-- From the walk to the reading.
-- Assumes nothing.
use Rattle.std.specs.Prelude.{ℕ, ◌≤◌, ◌≡◌, List, ◌++◌, cond, length, Option, Some, None, MatchOption, Ok, Err}
use Rattle.std.proofs.Math.Path.{refl, ap}
use Rattle.std.proofs.Common.{sym, ◌∙◌, le-ltb}
use Rattle.text.specs.Part.{ascii, same}
use Rattle.path.specs.declared.Path.{Path}
use Rattle.path.specs.Reading.{Read}
use Rattle.path.specs.declared.Refusal.{Refusal}
use Rattle.path.specs.declared.Refusal.TheVariants.{NotAscii}
use Rattle.path.specs.declared.PathView.{PathView}
use Rattle.path.specs.Kinds.{Kind, kinds}
use Rattle.path.specs.Read.{carried_from, render_path, or_else, read_first, why_not, read_path}
use Rattle.path.specs.Reads.{typed_of}
use Rattle.path.specs.ReadLaws.{is-reads, made_range}
use Rattle.path.specs.TypedLaws.{typed-view}
use Rattle.path.specs.AsciiLaws.{first-low, kinds-low}
use Rattle.path.specs.View.{kind_of, carried_of, seen, view_of, viewed_by}
use Rattle.read_pieces.specs.CountLaws.{read-append}
use Rattle.reading.specs.RefusedLaws.{no_path}
use Rattle.walk_families.specs.Flat.{flat, counters, listed, upgrades}

-- ---- a table in two parts
module _ (es fs : List Kind) (t : List ℕ) where
  first_part : (w : PathView) → Some w ≡ flat t (read_first es t) → Some w ≡ flat t (read_first (es ++ fs) t)
  first_part w e = rw (read-append es fs t) (go (read_first es t) e)
    where
      go : (a : Option Path) → Some w ≡ flat t a → Some w ≡ flat t (or_else a (read_first fs t))
      go (Some p) k = k
      go None k = absurd cc

  second-part : None ≡ flat t (read_first es t) → (u : Option PathView) → u ≡ flat t (read_first fs t) → u ≡ flat t (read_first (es ++ fs) t)
  second-part e u f = f ∙ rw (read-append es fs t) (go (read_first es t) e)
    where
      go : (a : Option Path) → None ≡ flat t a → flat t (read_first fs t) ≡ flat t (or_else a (read_first fs t))
      go (Some p) k = absurd cc
      go None k = refl

  -- what the first part reads, or else the second
  pub either_part : (a : Option PathView) → a ≡ flat t (read_first es t) → (u : Option PathView) → MatchOption a (u ≡ flat t (read_first fs t)) (λ w. u ≡ Some w) → u ≡ flat t (read_first (es ++ fs) t)
  either_part None e u f = second-part e u f
  either_part (Some w) e u f = f ∙ first_part w e

-- the whole table
all_kinds : counters ++ (listed ++ upgrades) ≡ kinds
unfolding kinds listed
all_kinds = refl

module _ (t : List ℕ) where
  pub all_first : (w : PathView) → Some w ≡ flat t (read_first counters t) → Some w ≡ flat t (read_first kinds t)
  all_first w e = first_part counters (listed ++ upgrades) t w e ∙ rw all_kinds

  pub all-second : None ≡ flat t (read_first counters t) → (u : Option PathView) → u ≡ flat t (read_first (listed ++ upgrades) t) → u ≡ flat t (read_first kinds t)
  all-second e u f = second-part counters (listed ++ upgrades) t e u f ∙ rw all_kinds

  pub all-either : (a : Option PathView) → a ≡ flat t (read_first counters t) → (u : Option PathView) → MatchOption a (u ≡ flat t (read_first (listed ++ upgrades) t)) (λ w. u ≡ Some w) → u ≡ flat t (read_first kinds t)
  all-either a e u f = either_part counters (listed ++ upgrades) t a e u f ∙ rw all_kinds

-- what is read has a kind
some-kind : (t : List ℕ) (p : Path) → read_first kinds t ≡ Some p → (1 ≤ kind_of p) × (kind_of p ≤ 19)
some-kind t p h = let r = is-reads t p h in rw r.made (made_range r.listed (carried_from 0 r.kind.parts t))

-- and is the reading, with its mark
found-is : (t : List ℕ) (p : Path) → length t ≤ 4096 → read_first kinds t ≡ Some p → Read p (same t (render_path t p)) ≡ read_path t
unfolding read_path
found-is t p short h = rw (le-ltb 4096 (length t) short, first-low kinds t p kinds-low h, h)

-- nothing was read
unread : (t : List ℕ) → None ≡ flat t (read_first kinds t) → None ≡ read_first kinds t
unread t = go (read_first kinds t)
  where
    go : (a : Option Path) → None ≡ flat t a → None ≡ a
    go (Some p) k = absurd cc
    go None k = refl

pub refused-read : (t : List ℕ) → length t ≤ 4096 → None ≡ flat t (read_first kinds t) → (r : Refusal) → r ≡ cond (ascii t) (why_not t) NotAscii → Err r ≡ read_path t
refused-read t short h r f = ap Err f ∙ no_path t short (unread t h)

-- a path was
module _ (t : List ℕ) (w : PathView) (e : Some w ≡ flat t (read_first kinds t)) where
  was_read : (p : Path) × (read_first kinds t ≡ Some p) × (w ≡ seen (kind_of p) (same t (render_path t p)) (carried_of p))
  was_read = go (read_first kinds t) refl e
    where
      go : (a : Option Path) → read_first kinds t ≡ a → Some w ≡ flat t a → (p : Path) × (read_first kinds t ≡ Some p) × (w ≡ seen (kind_of p) (same t (render_path t p)) (carried_of p))
      go (Some p) k f = (p, k, cc)
      go None k f = absurd cc

  pub kind_range : (1 ≤ w.kind) × (w.kind ≤ 19)
  kind_range = let q = was_read in let r = some-kind t q.0 q.1 in rw q.2 r

  -- w is what a path shows that is read
  pub view-read : length t ≤ 4096 → (p : Path) × (Read p w.exact ≡ read_path t) × (w ≡ view_of p w.exact)
  unfolding view_of
  view-read short =
      let q = was_read in (
        q.0,
        ap (λ (x : PathView). Read q.0 x.exact) q.2 ∙ found-is t q.0 short q.1,
        q.2 ∙ ap (view_of q.0) (sym (ap (λ (x : PathView). x.exact) q.2)),
      )

  pub typed-read : length t ≤ 4096 → (p : Path) → p ≡ typed_of w → Read p w.exact ≡ read_path t
  typed-read short p f = let q = view-read short in ap (λ (z : Path). Read z w.exact) (f ∙ ap typed_of q.2 ∙ typed-view q.0 w.exact) ∙ q.1

  pub seen_read : length t ≤ 4096 → Ok w ≡ viewed_by (read_path t)
  unfolding viewed_by
  seen_read short = let q = view-read short in ap Ok q.2 ∙ ap viewed_by q.1
