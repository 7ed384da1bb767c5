-- The theorem of the conversion of version 1 (ConvertCall).
-- Assumes nothing.
use Rattle.std.specs.Prelude.{ℕ, ◌≡◌, List, ◌↔◌, length}
use Rattle.std.proofs.Common.{sym, ap, ◌∙◌, arith}
use Rattle.book_form.specs.declared.Version.TheVariants.{One}
use Rattle.book_form.specs.Form.{layout, slot_at}
use Rattle.book_form.specs.Version.{V1, V2}
use Rattle.book_form.specs.VersionLaws.{version_lawful}
use Rattle.book.specs.Book.{Book}
use Rattle.book.specs.BookLaws.{one-book}
use Rattle.book_convert.specs.Convert.{Converted}
use Rattle.book_convert.specs.Convert.Converted.{no_old, other_size, converted}
use Rattle.book_convert.specs.ConvertLaws.{converted-book}
use Rattle.demands.specs.ConvertCall.{Converts, SameSlots, Conversion, ConvertDemand}

pub outcome : {old new : List ℕ} {r : ℕ} {new₁ : List ℕ} → Converts old new r new₁ → Converted old new r new₁
outcome x =
    let p : Converted x.args.0.now x.args.1.0.now x.result x.exits.1.0.now = x.ensures in
    rw (x.old_in, x.new_in, x.number_out, x.new_out) at p

-- the slots of the old book, by its bytes
same-slots : {old : List ℕ} (x y : Book V1 old) (new : List ℕ) → SameSlots V2 x new → SameSlots V2 y new
same-slots {old} x y new h = h ∙ ap (slot_at V2) (one-book V1 (version_lawful One) old x y).0

conversion : {old new : List ℕ} {r : ℕ} {new₁ : List ℕ} → Converted old new r new₁ → Conversion old new r new₁
conversion {old} {new} {r} {new₁} c = record { bad_book_when = bad c; no_room_when = room c; done = made c; same_records = λ e x. converted-book c e x }
  where
    bad : Converted old new r new₁ → (r ≡ 9) ↔ (Book V1 old → ⊥)
    bad (no_old n e f) = (λ q. n, λ q. e)
    bad (other_size x n e f) = (λ q. absurd (let z : ⊥ = omega (arith, e) in z), λ q. absurd (q x))
    bad (converted x n e f) = (λ q. absurd (let z : ⊥ = omega (arith, e) in z), λ q. absurd (q x))

    room : Converted old new r new₁ → (r ≡ 4) ↔ ((x : Book V1 old) × (SameSlots V2 x new → ⊥))
    room (no_old n e f) = (λ q. absurd (let z : ⊥ = omega (arith, e) in z), λ q. absurd (n q.0))
    room (other_size x n e f) = (λ q. (x, n), λ q. e)
    room (converted x n e f) = (λ q. absurd (let z : ⊥ = omega (arith, e) in z), λ q. absurd (q.1 (same-slots x q.0 new n)))

    made : Converted old new r new₁ → (r ≡ 0) ↔ ((x : Book V1 old) × SameSlots V2 x new)
    made (no_old n e f) = (λ q. absurd (let z : ⊥ = omega (arith, e) in z), λ q. absurd (n q.0))
    made (other_size x n e f) = (λ q. absurd (let z : ⊥ = omega (arith, e) in z), λ q. absurd (n (same-slots q.0 x new q.1)))
    made (converted x n e f) = (λ q. (x, n), λ q. e)

-- two conversions of one book, into buffers of one size
alike : {old new new' : List ℕ} {r r' : ℕ} {new₁ new₁' : List ℕ} → Converted old new r new₁ → Converted old new' r' new₁' → length new ≡ length new' → (r ≡ r') × (r ≡ 0 → new₁ ≡ new₁')
alike (no_old n e f) (no_old m g k) l = (e ∙ sym g, λ z. absurd (let q : ⊥ = omega (arith, e) in q))
alike (no_old n e f) (other_size y m g k) l = absurd (n y)
alike (no_old n e f) (converted y m g k) l = absurd (n y)
alike (other_size x n e f) (no_old m g k) l = absurd (m x)
alike (other_size x n e f) (other_size y m g k) l = (e ∙ sym g, λ z. absurd (let q : ⊥ = omega (arith, e) in q))
alike {new = new} (other_size x n e f) (converted y m g k) l = absurd (n (same-slots y x new (l ∙ m)))
alike (converted x n e f) (no_old m g k) l = absurd (m x)
alike {new' = new'} (converted x n e f) (other_size y m g k) l = absurd (m (same-slots x y new' (sym l ∙ n)))
alike {old} (converted x n e f) (converted y m g k) l =
    let o = one-book V1 (version_lawful One) old x y in
    (e ∙ sym g, λ z. f ∙ ap (λ (C : ℕ). layout V2 C tt x.records) o.0 ∙ ap (layout V2 y.slots tt) o.2 ∙ sym k)

-- THE THEOREM
pub convert_demand : ConvertDemand
convert_demand =
    record {
      each = λ old new r new₁ x. conversion (outcome x);
      whatever_held = λ old new new' r r' new₁ new₁' x y l. alike (outcome x) (outcome y) l;
    }
