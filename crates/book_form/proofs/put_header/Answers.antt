-- `book_form::put_header` meets its contract.
use Rattle.std.proofs.Common.{ap, ◌∙◌, ◌∷◌, [], List, ℕ, get_or}
use Rattle.text.specs.Put.{put}
use Rattle.book_form.specs.VersionLaws.{header-whole}
use Rattle.book_form.proofs.put_header.Goals as goal

pub returns : goal.returns
returns c =
    c.write_text.ensures.out_after
    ∙ ap (λ (b : List ℕ). put b 8 (get_or c.to_be_bytes-one.result 0 0 ∷ get_or c.to_be_bytes-one.result 1 0 ∷ get_or c.to_be_bytes-two.result 0 0 ∷ get_or c.to_be_bytes-two.result 1 0 ∷ [])) c.put_front.ensures
    ∙ header-whole c.args.book.now c.args.n c.args.quotas _ _ c.requires.in_bounds c.requires.n_bound.1 c.requires.n_bound.2 c.to_be_bytes-one.ensures c.to_be_bytes-two.ensures
