-- What is read has a kind, its places lie in the text, it is ASCII, and the exact mark goes by the length of the rendering.
-- Assumes nothing.
use Rattle.std.specs.Prelude.{ℕ, ◌+◌, ◌≤◌, ◌<◌, ◌^◌, ◌≡◌, Bool, List, eqb, Some}
use Rattle.std.proofs.Math.Path.{sym}
use Rattle.std.proofs.Common.{◌∙◌, arith, length-take, length-drop, le-ltb}
use Rattle.std.proofs.Math.ListN.{length}
use Rattle.text.specs.Part.{same}
use Rattle.path.specs.declared.Place.{Place}
use Rattle.path.specs.declared.Path.{Path}
use Rattle.path.specs.declared.PathView.{PathView}
use Rattle.path.specs.Reading.{Read}
use Rattle.path.specs.Text.{part_of}
use Rattle.path.specs.Kinds.{kinds, carried}
use Rattle.path.specs.Read.{parts_of, texts_of, render_path, carried_from, read_first, read_path}
use Rattle.path.specs.View.{kind_of, carried_of, view_of}
use Rattle.path.specs.AsciiLaws.{first-low, kinds-low}
use Rattle.path.specs.Reads.{Reads}
use Rattle.path.specs.ReadLaws.{made_range, is-reads}
use Rattle.path.specs.PlaceLaws.{read_lies}
use Rattle.path.specs.ExactLaws.{exact-by-length}
use Rattle.path.specs.Length.{render_length}
use Rattle.path.specs.MeasureLaws.{render-length}

-- ---- what is read has a kind, and its places lie in the text
lies-length : (t : List ℕ) (p : Place) → p.start + p.len ≤ length t → length (part_of t p) ≡ p.len
lies-length t p h = simp (length-take, length-drop) (omega arith)

module _ (t : List ℕ) (p : Path) (h : Some p ≡ read_first kinds t) where
  found : Reads t p
  found = is-reads t p (sym h)

  found-kind : (1 ≤ kind_of p) × (kind_of p ≤ 19)
  found-kind = rw found.made (made_range found.listed (carried_from 0 found.kind.parts t))

  found_first : (carried_of p).first.start + (carried_of p).first.len ≤ length t
  found_first = (read_lies t p found).0

  found-second : (carried_of p).second.start + (carried_of p).second.len ≤ length t
  found-second = (read_lies t p found).1

  exact_mark : (n : ℕ) → n ≡ render_length (parts_of (kind_of p)) (carried (carried_of p).first.len (carried_of p).second.len (carried_of p).a (carried_of p).b) → eqb n (length t) ≡ same t (render_path t p)
  unfolding render_path
  exact_mark n e =
      let l : n ≡ length (render_path t p) = e ∙ sym (render-length (parts_of (kind_of p)) (texts_of t (carried_of p)) ∙ rw (lies-length t (carried_of p).first found_first, lies-length t (carried_of p).second found-second)) in
      rw l (sym (exact-by-length found))

  -- its view may be measured
  pub found_measured : length t ≤ 4096 → (x : Bool) (v : PathView) → v ≡ view_of p x → (1 ≤ v.kind) × (v.kind ≤ 19) × (v.first.len + v.second.len < 2 ^ 63)
  unfolding view_of
  found_measured short x v e = rw e (found-kind.0, found-kind.1, omega (arith, found_first, found-second))

  -- it is ASCII, and the mark goes by the length
  pub found-read : length t ≤ 4096 → (x : Bool) (v : PathView) → v ≡ view_of p x → (n : ℕ) → n ≡ render_length (parts_of v.kind) (carried v.first.len v.second.len v.a v.b) → Read p (eqb n (length t)) ≡ read_path t
  unfolding view_of read_path
  found-read short x v e n l = rw (le-ltb 4096 (length t) short, first-low kinds t p kinds-low (sym h), ← h, exact_mark n (l ∙ rw e))
