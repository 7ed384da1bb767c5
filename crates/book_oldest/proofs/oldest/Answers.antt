-- `book_oldest::oldest` meets its contract.
use mathlib.Core.Path.{refl, sym, ◌∙◌}
use Rattle.identifiers.specs.Check as check
use Rattle.identifiers.specs.CheckLaws.{accepted-length}
use Rattle.book.specs.Book.{Current}
use Rattle.book_oldest.specs.Oldest as o
use Rattle.book_oldest.proofs.OldestLaws.{oldest_nobody, oldest-refused, oldest-by}
use Rattle.book.specs.RecordLaws.{judged-holds, judged-none}
use Rattle.book_oldest.proofs.oldest.Goals as goal

pub returns-in_default : goal.returns-in_default
returns-in_default c = o.Oldest.no_book (judged-none _ _ c.check_book.ensures c.in_default.is) refl

pub returns-then-not-is_owner : goal.returns-then-not-is_owner
returns-then-not-is_owner c = oldest_nobody Current _ _ _ _ (judged-holds _ _ _ c.check_book.ensures c.in-Some.is) _ c.is_owner.ensures (c.if-not-is_owner.true)

pub returns-then-refusal-ne0 : goal.returns-then-refusal-ne0
returns-then-refusal-ne0 c = oldest-refused Current _ _ _ _ (judged-holds _ _ _ c.check_book.ensures c.in-Some.is) _ c.is_owner.ensures (c.if-not-is_owner.false) _ c.validate_client_identifier-refusal.ensures c.if-refusal-ne0.true

pub oldest_state-requires : goal.oldest_state-requires
oldest_state-requires c = record {
  counts = judged-holds _ _ _ c.check_book.ensures c.in-Some.is;
  client_len_bound = (accepted-length check.client _ (sym c.validate_client_identifier-refusal.ensures ∙ c.if-refusal-ne0.false)).1;
}

pub returns-in_default-oldest_state : goal.returns-in_default-oldest_state
returns-in_default-oldest_state c = oldest-by Current _ _ _ _ (judged-holds _ _ _ c.check_book.ensures c.in-Some.is) _ c.is_owner.ensures (c.if-not-is_owner.false) _ c.validate_client_identifier-refusal.ensures c.if-refusal-ne0.false _ c.oldest_state.ensures _ c.in_default-oldest_state.is

pub returns : goal.returns
returns c = oldest-by Current _ _ _ _ (judged-holds _ _ _ c.check_book.ensures c.in-Some.is) _ c.is_owner.ensures (c.if-not-is_owner.false) _ c.validate_client_identifier-refusal.ensures c.if-refusal-ne0.false _ c.oldest_state.ensures _ c.in-Some-oldest_state.is
