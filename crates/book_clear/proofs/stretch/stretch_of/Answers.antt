-- `book_clear::stretch::stretch_of` meets its contract.
use Rattle.book_clear.specs.Notes.{stem}
use Rattle.writers.specs.Texts.{parent_text}
use Rattle.text.specs.PutLaws.{put-zero}
use lib.Seq.{take_at}
use lib.ListN.{take}
use Prim.Native.Nat.{◌-◌}
use mathlib.Core.List.{◌∷◌, [], ◌++◌}
use mathlib.Core.Path.{◌≡◌}
use Rattle.book_clear.specs.NotesLaws.{stretched}
use native.Mathlib.Omega.{arith}
use Rattle.book_clear.proofs.stretch.stretch_of.Goals as goal

pub returns : goal.returns
returns c =
    let e : take (c.write_stem-slash.result - 0) c.write_stem-slash.new.out ≡ stem c.args.client.now = rw (c.write_stem-slash.ensures.after, put-zero) (take_at (stem c.args.client.now) _ (c.write_stem-slash.result - 0) (omega (arith, c.write_stem-slash.ensures.next))) in
    let f : take (c.write_stem-zero.result - 0) c.write_stem-zero.new.out ≡ parent_text c.args.client.now ++ (48 ∷ []) = rw (c.write_stem-zero.ensures.after, put-zero) (take_at (parent_text c.args.client.now ++ (48 ∷ [])) _ (c.write_stem-zero.result - 0) (omega (arith, c.write_stem-zero.ensures.next))) in
    stretched c.args.book.now c.args.n c.requires.counts c.args.owner c.args.client.now c.keys_before-from.result c.keys_before-stop.result (rw e at c.keys_before-from.ensures) (rw f at c.keys_before-stop.ensures)
