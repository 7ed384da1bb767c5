-- A view and a reading, rendered with the parts of a text that stand at their places.
-- Assumes nothing.
use Rattle.std.specs.Prelude.{ℕ, List, Ok, Err}
use Rattle.text.specs.Put.{Wanted, refused}
use Rattle.path.specs.declared.PathView.{PathView}
use Rattle.path.specs.Reading.{Reading}
use Rattle.path.specs.Kinds.{carried}
use Rattle.path.specs.Text.{shown_of}
use Rattle.path.specs.Read.{render, parts_of, refusal_of}
use Rattle.path.specs.View.{view_of}
use Rattle.render.specs.Render.{short}

-- what a view shows, where it is not too long
unfoldable pub shown_at : List ℕ → PathView → Wanted
shown_at t v = short (render (parts_of v.kind) (carried (shown_of t v.first) (shown_of t v.second) v.a v.b))

-- the text, or the reading's refusal. Of the reading of that text it is the key, and of the reading of its picture the wide one
unfoldable pub shown_by : List ℕ → Reading → Wanted
shown_by t (Ok r) = shown_at t (view_of r.path r.exact)
shown_by t (Err w) = refused (refusal_of w)
