-- Request L6, of the generated contracts: a plain call that is not refused with 20 and the lenient call of the same owner on the same text do the same.
-- That 20 is given exactly where the call is plain and its text is not its own key is a row of `book_records` (Refusals), and so part of demand 3.
-- Assumes nothing.
use Rattle.std.specs.Prelude.{ℕ, ◌≡◌, ◌⊎◌, List, length}
use Rattle.std.proofs.Common.{sym, ap, subst, ◌∙◌, inl, inr}
use Rattle.text.specs.Refusal.{loose}
use Rattle.text.specs.declared.Written.{Written}
use Rattle.book_records.specs.declared.Manner.TheVariants.{Plain, Lenient}
use Rattle.book_records.specs.Act.{Meaning, refuses, Answer, number, act}
use Rattle.book_records.specs.Calls.{to_write, to_remove, to_look}
use Rattle.book_records.specs.MannerLaws.{plain-or-loose}
use Rattle.book.specs.Book.{Current, acts}
use Rattle.book.specs.BookLaws.{lawful}
use Rattle.book.specs.Outcome.{Outcome, no_book, this_book, Changed, Found, written_by, shown}
use Rattle.book.specs.OutcomeLaws.{one-outcome}
use Rattle.demands.specs.AnswerLaws.{written-number}
use Rattle.demands.specs.BookCalls.{Writes, Removes, Looks, wrote, removed, looked}

-- an outcome that is not 20 is that of the other meaning
same_outcome : {m n : Meaning} {b : List ℕ} {x y : Answer} {b₁ b₂ : List ℕ} → (m ≡ refuses loose) ⊎ (m ≡ n) → Outcome Current m b x b₁ → Outcome Current n b y b₂
    → (number x ≡ loose → ⊥) → (x ≡ y) × (b₁ ≡ b₂)
unfolding act
same_outcome {b = b} {x = x} {b₁ = b₁} (inr e) o p not-loose = one-outcome lawful (subst (λ (m : Meaning). Outcome Current m b x b₁) e o) p
same_outcome (inl e) (no_book n f g) (no_book k h i) not-loose = (f ∙ sym h, g ∙ sym i)
same_outcome (inl e) (no_book n f g) (this_book k h i) not-loose = absurd (n k)
same_outcome (inl e) (this_book k f g) p not-loose = absurd (not-loose (ap number f ∙ ap (λ (m : Meaning). number (acts k m).0) e))

same_changed : {m n : Meaning} {b : List ℕ} {r s : ℕ} {b₁ b₂ : List ℕ} → (m ≡ refuses loose) ⊎ (m ≡ n) → Changed Current b m r b₁ → Changed Current b n s b₂ → (r ≡ loose → ⊥) → (r ≡ s) × (b₁ ≡ b₂)
same_changed e x y not-loose =
    let o = same_outcome e x.outcome y.outcome (λ z. not-loose (x.number ∙ z)) in
    (x.number ∙ ap number o.0 ∙ sym y.number, o.1)

same_found : {m n : Meaning} {b out : List ℕ} {r s : Written} {out₁ out₂ : List ℕ} → (m ≡ refuses loose) ⊎ (m ≡ n) → Found Current b m out r out₁ → Found Current b n out s out₂ → (r.refusal ≡ loose → ⊥) → (r ≡ s) × (out₁ ≡ out₂)
same_found {out = out} e x y not-loose =
    let o = (same_outcome e x.outcome y.outcome (λ z. not-loose (ap (λ (w : Written). w.refusal) x.written ∙ written-number x.answer ∙ z))).0 in
    (x.written ∙ ap written_by o ∙ sym y.written, x.value ∙ ap (λ (a : Answer). shown a out) o ∙ sym y.value)

-- ---- the theorem, of each of the three
pub write_same : (b : List ℕ) (o : ℕ) (t v : List ℕ) (r s : ℕ) (b₁ b₂ : List ℕ) → Writes Plain b o t v r b₁ → Writes Lenient b o t v s b₂ → (r ≡ loose → ⊥) → (r ≡ s) × (b₁ ≡ b₂)
write_same b o t v r s b₁ b₂ x y = same_changed (plain-or-loose o t (to_write v)) (wrote Plain b o t v r b₁ x) (wrote Lenient b o t v s b₂ y)

pub remove_same : (b : List ℕ) (o : ℕ) (t : List ℕ) (r s : ℕ) (b₁ b₂ : List ℕ) → Removes Plain b o t r b₁ → Removes Lenient b o t s b₂ → (r ≡ loose → ⊥) → (r ≡ s) × (b₁ ≡ b₂)
remove_same b o t r s b₁ b₂ x y = same_changed (plain-or-loose o t to_remove) (removed Plain b o t r b₁ x) (removed Lenient b o t s b₂ y)

pub lookup_same : (b : List ℕ) (o : ℕ) (t out : List ℕ) (r s : Written) (out₁ out₂ : List ℕ) → Looks Plain b o t out r out₁ → Looks Lenient b o t out s out₂ → (r.refusal ≡ loose → ⊥) → (r ≡ s) × (out₁ ≡ out₂)
lookup_same b o t out r s out₁ out₂ x y = same_found (plain-or-loose o t (to_look (length out))) (looked Plain b o t out r out₁ x) (looked Lenient b o t out s out₂ y)
