-- Demand 1 of filling a table and of many lookups: their refusal numbers.
-- Assumes nothing.
use Rattle.std.specs.Prelude.{ℕ, ◌≡◌, refl, List, [], ◌∷◌, length}
use Rattle.std.proofs.Common.{ap, ◌∙◌}
use Rattle.text.specs.declared.Written.{Written}
use Rattle.text.specs.Put.{text, answer}
use Rattle.book.specs.Book.{Current}
use Rattle.book_table.specs.Lines.{lines}
use Rattle.book_table.specs.Many.{table_of, entries, looked_up, Fills, LooksMany}
use Rattle.book_table.specs.Many as many
use Rattle.demands.specs.Numbers.{fill_numbers, many_numbers}
use Rattle.demands.specs.RoomLaws.{Way, short, fits, way, number}
use Rattle.demands.specs.Shape.{Listed, AllZero, Demand1}

-- what demand 1 says of an answer and a buffer
record Told (listed : List ℕ) (r : ℕ) (others : List ℕ) (out out₁ : List ℕ) : Type 0 where
  numbered : Listed listed r
  zeros : (r ≡ 0 → ⊥) → AllZero others
  keeps : (r ≡ 0 → ⊥) → out₁ ≡ out

filled-told : {b out : List ℕ} {r : ℕ} {out₁ : List ℕ} → Fills Current b out r out₁ → Told fill_numbers r [] out out₁
filled-told (many.Fills.no_book n e f) = record { numbered = rw e; zeros = λ z. tt; keeps = λ z. f }
filled-told {b} {out} {r} {out₁} (many.Fills.this_book x e f) = go (way (table_of x) out (answer (text (table_of x)) (length out)) out₁ refl f)
  where
    go : Way (table_of x) out (answer (text (table_of x)) (length out)) out₁ → Told fill_numbers r [] out out₁
    go (short l a o) = record { numbered = rw (e ∙ ap number a); zeros = λ z. tt; keeps = λ z. o }
    go (fits l a o) = record { numbered = rw (e ∙ ap number a); zeros = λ z. tt; keeps = λ z. absurd (z (e ∙ ap number a)) }

many-told : {b : List ℕ} {o : ℕ} {table texts out : List ℕ} {r : Written} {out₁ : List ℕ} → LooksMany Current b o table texts out r out₁ → Told many_numbers (number r) (r.length ∷ []) out out₁
many-told (many.LooksMany.no_book n e f) = record { numbered = rw e; zeros = λ z. (ap (λ (w : Written). w.length) e, tt); keeps = λ z. f }
many-told (many.LooksMany.no_owner x w e f) = record { numbered = rw e; zeros = λ z. (ap (λ (w : Written). w.length) e, tt); keeps = λ z. f }
many-told (many.LooksMany.bad_table_when x w n e f) = record { numbered = rw e; zeros = λ z. (ap (λ (w : Written). w.length) e, tt); keeps = λ z. f }
many-told {b} {o} {table} {texts} {out} {r} {out₁} (many.LooksMany.this_table x w g e f) = go (way (entries (looked_up x o) (lines texts)) out r out₁ e f)
  where
    go : Way (entries (looked_up x o) (lines texts)) out r out₁ → Told many_numbers (number r) (r.length ∷ []) out out₁
    go (short l a o) = record { numbered = rw a; zeros = λ z. (ap (λ (w : Written). w.length) a, tt); keeps = λ z. o }
    go (fits l a o) = record { numbered = rw a; zeros = λ z. absurd (z (ap number a)); keeps = λ z. absurd (z (ap number a)) }

module _ {L : Type 0} {A R S : L → Type 0} {Pre : (κs : L) → A κs → Type 0} {Post : (κs : L) → A κs → R κs → S κs → Type 0} (accepts : (κs : L) (a : A κs) → Pre κs a) where
  pub filled_demand : (numbers : (κs : L) → R κs → ℕ) (book before : (κs : L) → A κs → List ℕ) (after : (κs : L) → S κs → List ℕ)
      → ((κs : L) (a : A κs) (r : R κs) (s : S κs) → Post κs a r s → Fills Current (book κs a) (before κs a) (numbers κs r) (after κs s))
      → Demand1 Pre Post fill_numbers numbers (λ κs r. []) before after
  filled_demand numbers book before after says =
      record {
        accepts = accepts;
        numbered = λ κs a r s p. (filled-told (says κs a r s p)).numbered;
        nothing_else = λ κs a r s p. (filled-told (says κs a r s p)).zeros;
        keeps = λ κs a r s p. (filled-told (says κs a r s p)).keeps;
      }

  pub looked_many_demand : (written : (κs : L) → R κs → Written) (book : (κs : L) → A κs → List ℕ) (owner : (κs : L) → A κs → ℕ) (table texts before : (κs : L) → A κs → List ℕ) (after : (κs : L) → S κs → List ℕ)
      → ((κs : L) (a : A κs) (r : R κs) (s : S κs) → Post κs a r s → LooksMany Current (book κs a) (owner κs a) (table κs a) (texts κs a) (before κs a) (written κs r) (after κs s))
      → Demand1 Pre Post many_numbers (λ κs r. (written κs r).refusal) (λ κs r. (written κs r).length ∷ []) before after
  looked_many_demand written book owner table texts before after says =
      record {
        accepts = accepts;
        numbered = λ κs a r s p. (many-told (says κs a r s p)).numbered;
        nothing_else = λ κs a r s p. (many-told (says κs a r s p)).zeros;
        keeps = λ κs a r s p. (many-told (says κs a r s p)).keeps;
      }
