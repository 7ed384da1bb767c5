-- `book_form::head` meets its contract.
use mathlib.Core.Path.{sym, ap}
use Rattle.book_form.specs.declared.Version.{Version}
use Rattle.book_form.specs.Version.{form_of}
use Rattle.book_form.proofs.head.Goals as goal

pub returns-in-One : goal.returns-in-One
returns-in-One c = ap (λ (v : Version). (form_of v).head) (sym c.in-One.is)

pub returns-in-Two : goal.returns-in-Two
returns-in-Two c = ap (λ (v : Version). (form_of v).head) (sym c.in-Two.is)

pub returns-in-Three : goal.returns-in-Three
returns-in-Three c = ap (λ (v : Version). (form_of v).head) (sym c.in-Three.is)
