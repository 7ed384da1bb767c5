-- `book::check::check_book` meets its contract.
use mathlib.Core.Path.{sym, ◌∙◌}
use Rattle.book_form.specs.Version.{form_of}
use Rattle.book_form.specs.VersionLaws.{version_lawful}
use Rattle.book.specs.CheckLaws.{no_good, no-rising, no-rest, to-book}
use Rattle.book.specs.ShareLaws.{no_shares, within_shares}
use Rattle.book.proofs.check.check_book.Goals as goal

pub returns-in_err-n : goal.returns-in_err-n
returns-in_err-n c = rw c.from_residual.ensures c.in_err-n.ensures

pub returns-then-not-slots_good : goal.returns-then-not-slots_good
returns-then-not-slots_good c = no_good (form_of c.args.version) (version_lawful c.args.version) _ _ c.in_ok-n.ensures _ c.slots_good.ensures (c.if-not-slots_good.true)

pub returns-then-not-rising : goal.returns-then-not-rising
returns-then-not-rising c = no-rising (form_of c.args.version) (version_lawful c.args.version) _ _ c.in_ok-n.ensures _ c.rising.ensures (c.if-not-rising.true)

pub returns-then-not-shares_ok : goal.returns-then-not-shares_ok
returns-then-not-shares_ok c = no_shares c.args.version _ _ _ c.in_ok-n.ensures c.first_of-first.ensures _ c.shares_ok.ensures (c.if-not-shares_ok.true)

pub returns-then-not-blank_after : goal.returns-then-not-blank_after
returns-then-not-blank_after c = no-rest (form_of c.args.version) (version_lawful c.args.version) _ _ c.in_ok-n.ensures _ c.blank_after.ensures (c.if-not-blank_after.true)

pub returns : goal.returns
returns c = let f = c.in_ok-n.ensures in
    to-book (form_of c.args.version) _ _ f (c.slots_good.ensures.holds (c.if-not-slots_good.false)) (c.rising.ensures.holds (c.if-not-rising.false)) (within_shares c.args.version _ _ _ f c.first_of-first.ensures (c.shares_ok.ensures.holds (c.if-not-shares_ok.false))) (sym c.blank_after.ensures ∙ c.if-not-blank_after.false)
