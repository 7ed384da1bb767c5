-- Any two outcomes of a call are equal, and a new book is one.
-- Assumes nothing.
use Rattle.std.specs.Prelude.{◌≡◌, refl, List, [], ℕ}
use Rattle.std.proofs.Common.{sym, ap, ◌∙◌, arith}
use Rattle.text.specs.declared.Written.{Written}
use Rattle.text.specs.Put as buffer
use Rattle.book_records.specs.Act.{Rec, Meaning, Answer, says, number, act, count_by, full_by}
use Rattle.book_form.specs.Form.{Form, layout}
use Rattle.book_form.specs.FormLaws.{Lawful, place-back}
use Rattle.book.specs.Book.{Sized, Book, bytes_with, full_in, acts}
use Rattle.book.specs.BookLaws.{one-book}
use Rattle.book.specs.Outcome.{Outcome, no_book, this_book, Changed, written_by, Found, shown, Made}
use Rattle.book.specs.Outcome as o

-- no book
pub changed-none : {F : Form} {b : List ℕ} {m : Meaning} → (Book F b → ⊥) → Changed F b m 9 b
changed-none n = record { answer = says 9; outcome = no_book n refl refl; number = refl }

pub found_none : {F : Form} {b : List ℕ} {m : Meaning} {out : List ℕ} → (Book F b → ⊥) → Found F b m out (buffer.refusal 9) out
found_none n = record { answer = says 9; outcome = no_book n refl refl; written = refl; value = refl }

module _ {F : Form} (L : Lawful F) where
  -- the bytes tell what the calls do
  same-acts : {b : List ℕ} (x y : Book F b) (m : Meaning) → acts x m ≡ acts y m
  same-acts {b} x y m =
      let o = one-book F L b x y in
      ap (λ (C : ℕ). act (full_by F.owner (F.quota x.extra C)) m x.records) o.0
      ∙ ap (λ (e : F.Extra). act (full_by F.owner (F.quota e y.slots)) m x.records) o.1
      ∙ ap (λ (s : List Rec). act (full_in y) m s) o.2

  same_bytes : {b : List ℕ} (x y : Book F b) (s : List Rec) → bytes_with x s ≡ bytes_with y s
  same_bytes {b} x y s =
      let o = one-book F L b x y in
      ap (λ (C : ℕ). layout F C x.extra s) o.0 ∙ ap (λ (e : F.Extra). layout F y.slots e s) o.1

  pub one-outcome : {m : Meaning} {b : List ℕ} {a a' : Answer} {b₁ b₂ : List ℕ} → Outcome F m b a b₁ → Outcome F m b a' b₂ → (a ≡ a') × (b₁ ≡ b₂)
  one-outcome (no_book n e f) (no_book n' e' f') = (e ∙ sym e', f ∙ sym f')
  one-outcome (no_book n e f) (this_book x e' f') = absurd (n x)
  one-outcome (this_book x e f) (no_book n e' f') = absurd (n x)
  one-outcome {m} (this_book x e f) (this_book y e' f') =
      let o = same-acts x y m in
      (e ∙ ap (λ (q : Answer × List Rec). q.0) o ∙ sym e', f ∙ ap (λ (q : Answer × List Rec). bytes_with x q.1) o ∙ same_bytes x y (acts y m).1 ∙ sym f')

  pub one_changed : {b : List ℕ} {m : Meaning} {r q : ℕ} {b₁ b₂ : List ℕ} → Changed F b m r b₁ → Changed F b m q b₂ → (r ≡ q) × (b₁ ≡ b₂)
  one_changed x y =
      let o = one-outcome x.outcome y.outcome in
      (x.number ∙ ap number o.0 ∙ sym y.number, o.1)

  pub one_found : {b : List ℕ} {m : Meaning} {out : List ℕ} {r q : Written} {out₁ out₂ : List ℕ} → Found F b m out r out₁ → Found F b m out q out₂ → (r ≡ q) × (out₁ ≡ out₂)
  one_found {out = out} x y =
      let o = (one-outcome x.outcome y.outcome).0 in
      (x.written ∙ ap written_by o ∙ sym y.written, x.value ∙ ap (λ (a : Answer). shown a out) o ∙ sym y.value)

  same_size : (b : List ℕ) (C D : ℕ) → Sized F b C → Sized F b D → C ≡ D
  same_size b C D s t = omega (arith, place-back F L C D (omega (arith, s.size, t.size)), place-back F L D C (omega (arith, s.size, t.size)))

  pub one-made : (e : F.Extra) (b : List ℕ) (r q : ℕ) (b₁ b₂ : List ℕ) → Made F e b r b₁ → Made F e b q b₂ → (r ≡ q) × (b₁ ≡ b₂)
  one-made x b r q b₁ b₂ (o.Made.no_size n e f) (o.Made.no_size k g h) = (e ∙ sym g, f ∙ sym h)
  one-made x b r q b₁ b₂ (o.Made.no_size n e f) (o.Made.no_slots C s k g h) = absurd (n C s)
  one-made x b r q b₁ b₂ (o.Made.no_size n e f) (o.Made.new_book C s k g h) = absurd (n C s)
  one-made x b r q b₁ b₂ (o.Made.no_slots C s n e f) (o.Made.no_size k g h) = absurd (k C s)
  one-made x b r q b₁ b₂ (o.Made.no_slots C s n e f) (o.Made.no_slots D t k g h) = (e ∙ sym g, f ∙ sym h)
  one-made x b r q b₁ b₂ (o.Made.no_slots C s n e f) (o.Made.new_book D t k g h) = absurd (n (rw (same_size b C D s t) k))
  one-made x b r q b₁ b₂ (o.Made.new_book C s k e f) (o.Made.no_size n g h) = absurd (n C s)
  one-made x b r q b₁ b₂ (o.Made.new_book C s k e f) (o.Made.no_slots D t n g h) = absurd (n (rw (same_size b D C t s) k))
  one-made x b r q b₁ b₂ (o.Made.new_book C s k e f) (o.Made.new_book D t l g h) = (e ∙ sym g, f ∙ rw (same_size b C D s t) (sym h))

pub made-book : (F : Form) (e : F.Extra) (b : List ℕ) (b₁ : List ℕ) → Made F e b 0 b₁ → Book F b₁
unfolding count_by
made-book F x b b₁ (o.Made.no_size n e f) = absurd (let z : ⊥ = omega (arith, e) in z)
made-book F x b b₁ (o.Made.no_slots C s n e f) = absurd (let z : ⊥ = omega (arith, e) in z)
made-book F x b b₁ (o.Made.new_book C s k e f) =
    record { slots = C; extra = x; records = []; least = s.least; most = s.most; fit = tt; exact = tt; sorted = tt; quotas = k; within = λ o. omega arith; bytes = f }
