-- `book_form::header_ok` meets its contract.
use mathlib.Core.Path.{sym, ap, ◌∙◌}
use mathlib.Core.List.{List, [], ◌∷◌}
use Prim.Native.Nat.{ℕ}
use lib.ListN.{take, get_or}
use Rattle.text.specs.Part.{same}
use Rattle.book_form.specs.VersionLaws.{header-bytes}
use native.Mathlib.Omega.{arith}
use Rattle.book_form.proofs.header_ok.Goals as goal

pub returns : goal.returns
returns c = c.equal.ensures ∙ ap (λ (l : List ℕ). same (take 8 c.args.book.now) l) (ap (λ (v : ℕ). 72 ∷ 80 ∷ 66 ∷ 0 ∷ v ∷ get_or c.args.book.now 5 0 ∷ get_or c.args.book.now 6 0 ∷ 0 ∷ []) c.version_number.ensures ∙ sym (header-bytes _ (get_or c.args.book.now 5 0) (get_or c.args.book.now 6 0) (omega (arith, c.shared_slice_known-1.given 5)) (omega (arith, c.shared_slice_known-1.given 6))))
