-- A refusal changes no byte (demand 1).
-- Assumes nothing.
use Rattle.std.specs.Prelude.{ℕ, ◌≡◌, refl, Bool, true, false, List}
use Rattle.std.proofs.Common.{sym, ap, ◌∙◌}
use Rattle.std.proofs.Math.Option.{Option, none, some}
use Rattle.text.specs.declared.Written.{Written}
use Rattle.book_records.specs.Records.{Key, get, put, del}
use Rattle.book_records.specs.Act.{Rec, Meaning, refuses, writes, removes, looks, Answer, says, done, gives, add_to, take_from, look_in, act, seen}
use Rattle.book.specs.Book.{Current, bytes_with, full_in}
use Rattle.book.specs.Outcome.{Outcome, no_book, this_book, Changed, Found, shown, Made, no_size, no_slots, new_book}
use Rattle.book_convert.specs.Convert.{Converted, ConvertedOwners}
use Rattle.book_convert.specs.Convert as convert
use Rattle.book_form.specs.declared.Quotas.{Quotas}
use Rattle.demands.specs.AnswerLaws.{written-number}

-- ---- a refusal changes no byte
act-keeps : (full : Key → List Rec → Bool) (m : Meaning) (s : List Rec) → ((seen (act full m s).0).number ≡ 0 → ⊥) → (act full m s).1 ≡ s
unfolding act
act-keeps full (refuses n) s z = refl
act-keeps full (writes k v) s z = go (get s k) (full k s) z
  where
    go : (x : Option (List ℕ)) (f : Bool) → ((seen (add_to x f (put s k v) s).0).number ≡ 0 → ⊥) → (add_to x f (put s k v) s).1 ≡ s
    go (some u) f z = absurd (z refl)
    go none true z = refl
    go none false z = absurd (z refl)
act-keeps full (removes k) s z = go (get s k) z
  where
    go : (x : Option (List ℕ)) → ((seen (take_from x (del s k) s).0).number ≡ 0 → ⊥) → (take_from x (del s k) s).1 ≡ s
    go none z = refl
    go (some u) z = absurd (z refl)
act-keeps full (looks k) s z = go (get s k)
  where
    go : (x : Option (List ℕ)) → (look_in x s).1 ≡ s
    go none = refl
    go (some u) = refl

outcome-keeps : {m : Meaning} {b : List ℕ} {a : Answer} {b₁ : List ℕ} → Outcome Current m b a b₁ → ((seen a).number ≡ 0 → ⊥) → b₁ ≡ b
outcome-keeps (no_book n e f) z = f
outcome-keeps {m} (this_book x e f) z =
    f ∙ ap (bytes_with x) (act-keeps (full_in x) m x.records (λ q. z (ap (λ (y : Answer). (seen y).number) e ∙ q))) ∙ sym x.bytes

pub changed-keeps : {b : List ℕ} {m : Meaning} {r : ℕ} {b₁ : List ℕ} → Changed Current b m r b₁ → (r ≡ 0 → ⊥) → b₁ ≡ b
changed-keeps x z = outcome-keeps x.outcome (λ e. z (x.number ∙ e))

shown-keeps : (a : Answer) (out : List ℕ) → ((seen a).number ≡ 0 → ⊥) → shown a out ≡ out
shown-keeps (says n) out z = refl
shown-keeps done out z = refl
shown-keeps (gives v) out z = absurd (z refl)

pub found-keeps : {b : List ℕ} {m : Meaning} {out : List ℕ} {r : Written} {out₁ : List ℕ} → Found Current b m out r out₁ → (r.refusal ≡ 0 → ⊥) → out₁ ≡ out
found-keeps {out = out} x z = x.value ∙ shown-keeps x.answer out (λ e. z (ap (λ (w : Written). w.refusal) x.written ∙ written-number x.answer ∙ e))

pub made-keeps : {q : Quotas} {b : List ℕ} {r : ℕ} {b₁ : List ℕ} → Made Current q b r b₁ → (r ≡ 0 → ⊥) → b₁ ≡ b
made-keeps (no_size n e f) z = f
made-keeps (no_slots C s n e f) z = f
made-keeps (new_book C s n e f) z = absurd (z e)

pub converted-keeps : {old new : List ℕ} {r : ℕ} {new₁ : List ℕ} → Converted old new r new₁ → (r ≡ 0 → ⊥) → new₁ ≡ new
converted-keeps (convert.Converted.no_old n e f) z = f
converted-keeps (convert.Converted.other_size x n e f) z = f
converted-keeps (convert.Converted.converted x n e f) z = absurd (z e)

pub owned-keeps : {old new : List ℕ} {q : Quotas} {r : ℕ} {new₁ : List ℕ} → ConvertedOwners old new q r new₁ → (r ≡ 0 → ⊥) → new₁ ≡ new
owned-keeps (convert.ConvertedOwners.no_old n e f) z = f
owned-keeps (convert.ConvertedOwners.other_size x n e f) z = f
owned-keeps (convert.ConvertedOwners.too_many x n m e f) z = f
owned-keeps (convert.ConvertedOwners.converted x n m e f) z = absurd (z e)
