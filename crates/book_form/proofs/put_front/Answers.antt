-- `book_form::put_front` meets its contract.
use Rattle.std.proofs.Common.{ap, ◌∙◌, ℕ, []}
use Rattle.text.specs.Put.{put}
use Rattle.book_form.specs.Version.{header}
use Rattle.book_form.specs.VersionLaws.{header-front}
use Rattle.book_form.proofs.put_front.Goals as goal

pub returns : goal.returns
returns c =
    c.write_text.ensures.out_after
    ∙ ap (put c.args.book.now 0) (header-front c.version_number.result c.args.n _ c.requires.n_bound c.to_be_bytes-count.ensures)
    ∙ ap (λ (v : ℕ). put c.args.book.now 0 (header v c.args.n [])) c.version_number.ensures
