-- When wide rendering and the writing of a wide key are refused: the words of the plain calls, with 21 in the place of 2 and the wide checks.
-- Assumes nothing.
use Rattle.std.specs.Prelude.{ℕ, List}
use Rattle.text.specs.Refusal.{bad_utf8}
use Rattle.text.specs.declared.Written.{Written}
use Rattle.path.specs.Kinds.{Carried}
use Rattle.path.specs.Number.{NumberWrong}
use Rattle.letters.specs.Character.{utf8}
use Rattle.letters.specs.Narrow.{narrow}
use Rattle.wide.specs.Mode.{wide}
use Rattle.wide.specs.Render.{name_fault_in}
use Rattle.demands.specs.Rendered.{WhenRenderedBy, WhenKeyedBy}
use Rattle.demands.specs.WideWritten.{fits_wide, NoWideKind}

-- the answer x of `hp_wide_render`
abbrev pub WhenWideRendered : ℕ → Carried (List ℕ) → List ℕ → Written → Type 0
WhenWideRendered k v out x = WhenRenderedBy (name_fault_in wide) k v utf8 bad_utf8 out x

-- the answer x of `hp_wide_key`
abbrev pub WhenWideKeyed : List ℕ → List ℕ → Written → Type 0
WhenWideKeyed t out x = WhenKeyedBy utf8 bad_utf8 narrow NoWideKind (NumberWrong fits_wide) t out x
