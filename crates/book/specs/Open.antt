-- What every call on a book starts from.
-- Assumes nothing.
use Rattle.std.specs.Prelude.{ℕ, ◌≡◌, true, false, List, Result, Ok, Err}
use Rattle.text.specs.Refusal.{bad_book, bad_owner}
use Rattle.book_records.specs.declared.Manner.{Manner}
use Rattle.book_records.specs.Calls.{is_owner, key_for}
use Rattle.book_key.specs.declared.MadeKey.{MadeKey}
use Rattle.book_key.specs.Field.{made_key}
use Rattle.book.specs.declared.Opened.{Opened}
use Rattle.book.specs.Book.{Current, Book, Counts}

-- in a book of n records: the key and its kind, or its refusal
abbrev pub opened : ℕ → Result MadeKey ℕ → Result Opened ℕ
opened n (Ok k) = Ok (record { count = n; kind = k.kind; key = k.key })
opened n (Err f) = Err f

-- the bytes b are no book; or o is no owner; or they are one with so many records, and the key is that of the text t
pub data Opens (m : Manner) (b : List ℕ) (o : ℕ) (t : List ℕ) (r : Result Opened ℕ) : Type 0 where
  no_book : (Book Current b → ⊥) → r ≡ Err bad_book → Opens m b o t r
  no_owner : Book Current b → is_owner o ≡ false → r ≡ Err bad_owner → Opens m b o t r
  this_book : (n : ℕ) → Counts Current b n → is_owner o ≡ true → r ≡ opened n (made_key (key_for m t)) → Opens m b o t r
