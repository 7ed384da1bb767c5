-- What a call on a buffer may answer and leave, by the outcome types of the three contracts.
-- Assumes nothing.
use Rattle.std.specs.Prelude.{ℕ, ◌≡◌, List, [], length, take}
use Rattle.text.specs.declared.Written.{Written}
use Rattle.book_records.specs.Act.{Seen}
use Rattle.book_records.specs.Calls.{Asked, to_write, to_remove, to_look, Call, meaning}
use Rattle.book.specs.Book.{Current}
use Rattle.book.specs.Outcome.{Changed, Found}

-- The three contracts as one: the call c on the bytes b may be answered by a, and leave the bytes b₁
-- A lookup is lent some buffer of its room, and gives as many bytes of it as it answers.
pub record FoundIn (room : ℕ) (b : List ℕ) (c : Call) (a : Seen) : Type 0 where
  pub out : List ℕ
  pub out₁ : List ℕ
  pub size : length out ≡ room
  pub written : Written
  pub found : Found Current b (meaning c) out written out₁
  pub number : a.number ≡ written.refusal
  pub gives : a.value ≡ take written.length out₁

abbrev pub PermittedTo : Asked → List ℕ → Call → Seen → List ℕ → Type 0
PermittedTo (to_write v) b c a b₁ = Changed Current b (meaning c) a.number b₁ × (a.value ≡ [])
PermittedTo to_remove b c a b₁ = Changed Current b (meaning c) a.number b₁ × (a.value ≡ [])
PermittedTo (to_look room) b c a b₁ = FoundIn room b c a × (b₁ ≡ b)

abbrev pub Permitted : List ℕ → Call → Seen → List ℕ → Type 0
Permitted b c a b₁ = PermittedTo c.asked b c a b₁
