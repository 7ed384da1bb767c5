-- `book_clear::role::plain_state` meets its contract.
use borrow.Author.Tests.{not-false}
use Rattle.book_clear.specs.QuickLaws.{plain-state, plain-within}
use native.Mathlib.Omega.{arith}
use Rattle.book_clear.proofs.role.plain_state.Goals as goal

pub bounds-key-dash : goal.bounds-key-dash
bounds-key-dash c = omega (arith, plain-within c.args.key.now c.args.at c.in_ok-r.r c.in_ok-r.ensures c.requires, c.if-dash-key.false)

pub returns : goal.returns
returns c = plain-state c.args.key.now c.args.at c.in_ok-r.r c.in_ok-h.h c.in_ok-r.ensures (not-false _ c.if-not-r.false) (omega (arith, plain-within c.args.key.now c.args.at c.in_ok-r.r c.in_ok-r.ensures c.requires, c.if-dash-key.false)) c.if-key-dash-ne45.false c.in_ok-h.ensures (not-false _ c.if-not-h.false) c.if-h-key.false
