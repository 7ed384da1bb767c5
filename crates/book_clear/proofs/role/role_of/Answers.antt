-- `book_clear::role::role_of` meets its contract.
use mathlib.Core.Path.{refl}
use Rattle.book_clear.specs.QuickLaws.{stem-room, note-five}
use Rattle.book_clear.proofs.role.role_of.Goals as goal

pub plain_state-requires : goal.plain_state-requires
plain_state-requires c = stem-room c.args.client.now c.args.key.now c.requires.1

pub returns-in-Some : goal.returns-in-Some
returns-in-Some c = note-five c.args.client.now c.args.key.now c.requires.2 c.requires.0 c.requires.1 _ refl c.in-Some.state.number.0 c.in-Some.state.height.0 c.in-Some.ensures
