-- `book_clear::clear` meets its contract.
use mathlib.Core.Path.{refl}
use Rattle.book.specs.RecordLaws.{judged-holds, judged-none}
use Rattle.book_clear.specs.Clear as clearing
use Rattle.book_clear.specs.WholeLaws.{clear_nobody, clear-refused, clear-done}
use Rattle.book_clear.proofs.clear.Goals as goal

pub returns-in_default : goal.returns-in_default
returns-in_default c = clearing.Cleared.no_book (judged-none _ _ c.check_book.ensures c.in_default.is) refl refl

pub returns-then-not-is_owner : goal.returns-then-not-is_owner
returns-then-not-is_owner c = clear_nobody c.args.book.now c.args.owner c.args.client.now c.args.keep _ (judged-holds _ _ _ c.check_book.ensures c.in-Some.is) _ c.is_owner.ensures (c.if-not-is_owner.true)

pub returns-then-refusal-ne0 : goal.returns-then-refusal-ne0
returns-then-refusal-ne0 c = clear-refused c.args.book.now c.args.owner c.args.client.now c.args.keep _ (judged-holds _ _ _ c.check_book.ensures c.in-Some.is) _ c.is_owner.ensures (c.if-not-is_owner.false) _ c.validate_client_identifier-refusal.ensures c.if-refusal-ne0.true

pub returns : goal.returns
returns c = clear-done c.args.book.now c.args.owner c.args.client.now c.args.keep _ (judged-holds _ _ _ c.check_book.ensures c.in-Some.is) _ c.is_owner.ensures (c.if-not-is_owner.false) _ c.validate_client_identifier-refusal.ensures c.if-refusal-ne0.false c.clear_client.result _ c.clear_client.ensures
