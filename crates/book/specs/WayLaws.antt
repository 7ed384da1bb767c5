-- The ways out of a call, one law each: what the code has found, and the outcome that it then has.
-- Assumes nothing.
use Rattle.std.specs.Prelude.{ℕ, ◌≡◌, true, false, List}
use Rattle.std.proofs.Math.Path.{refl}
use Rattle.std.proofs.Common.{sym, ap, ◌∙◌}
use Rattle.std.proofs.Math.Option.{none, some}
use Rattle.book_records.specs.Records.{Key, get, put, del}
use Rattle.book_records.specs.Act.{Rec, Meaning, refuses, writes, removes, looks, Answer, says, done, gives, act}
use Rattle.book_form.specs.Form.{Form}
use Rattle.book.specs.Book.{Book, bytes_with, full_in, acts}
use Rattle.book.specs.Outcome.{Outcome, this_book}

module _ {F : Form} {b : List ℕ} (x : Book F b) where
  outcome : (m : Meaning) (a : Answer) (s : List Rec) (b₁ : List ℕ) → acts x m ≡ (a, s) → b₁ ≡ bytes_with x s → Outcome F m b a b₁
  outcome m a s b₁ e f = this_book x (sym (ap (λ (q : Answer × List Rec). q.0) e)) (f ∙ sym (ap (λ (q : Answer × List Rec). bytes_with x q.1) e))

  -- what the call's own arguments refuse
  pub way-refused : (m : Meaning) (n : ℕ) → m ≡ refuses n → Outcome F m b (says n) b
  unfolding act
  way-refused m n e = rw e (outcome (refuses n) (says n) x.records b refl x.bytes)

  -- a write under a key that is there, is new, or finds no room
  pub way_replaced : (k : Key) (v u b₁ : List ℕ) → get x.records k ≡ some u → b₁ ≡ bytes_with x (put x.records k v) → Outcome F (writes k v) b done b₁
  unfolding act
  way_replaced k v u b₁ g f = outcome (writes k v) done (put x.records k v) b₁ (rw g) f

  pub way-added : (k : Key) (v b₁ : List ℕ) → get x.records k ≡ none → full_in x k x.records ≡ false → b₁ ≡ bytes_with x (put x.records k v) → Outcome F (writes k v) b done b₁
  unfolding act
  way-added k v b₁ g l f = outcome (writes k v) done (put x.records k v) b₁ (rw (g, l)) f

  pub way-full : (k : Key) (v : List ℕ) → get x.records k ≡ none → full_in x k x.records ≡ true → Outcome F (writes k v) b (says 11) b
  unfolding act
  way-full k v g w = outcome (writes k v) (says 11) x.records b (rw (g, w)) x.bytes

  -- a removal
  pub way-removed : (k : Key) (u b₁ : List ℕ) → get x.records k ≡ some u → b₁ ≡ bytes_with x (del x.records k) → Outcome F (removes k) b done b₁
  unfolding act
  way-removed k u b₁ g f = outcome (removes k) done (del x.records k) b₁ (rw g) f

  pub way-absent : (k : Key) → get x.records k ≡ none → Outcome F (removes k) b (says 12) b
  unfolding act
  way-absent k g = outcome (removes k) (says 12) x.records b (rw g) x.bytes

  -- a lookup
  pub way-found : (k : Key) (u : List ℕ) → get x.records k ≡ some u → Outcome F (looks k) b (gives u) b
  unfolding act
  way-found k u g = outcome (looks k) (gives u) x.records b (rw g) x.bytes

  pub way-not_found : (k : Key) → get x.records k ≡ none → Outcome F (looks k) b (says 12) b
  unfolding act
  way-not_found k g = outcome (looks k) (says 12) x.records b (rw g) x.bytes
