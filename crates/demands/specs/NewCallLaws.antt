-- The theorem of making a book (NewCall).
-- Assumes nothing.
use Rattle.std.specs.Prelude.{ℕ, ◌+◌, ◌<◌, ◌≤◌, ◌≡◌, List, []}
use Rattle.std.proofs.Math.Path.{refl, sym, ap}
use Rattle.std.proofs.Common.{◌∙◌}
use native.Mathlib.Omega.{arith}
use Rattle.std.proofs.Math.ListN.{length}
use Rattle.book_records.specs.Act.{count_by}
use Rattle.book_form.specs.declared.Quotas.{Quotas}
use Rattle.book_form.specs.Form.{QuotasFit, layout, slot_at}
use Rattle.book_form.specs.FormLaws.{length-layout}
use Rattle.book.specs.Book.{Current, Sized}
use Rattle.book.specs.BookLaws.{lawful}
use Rattle.book.specs.SizeLaws.{book-sized, one_size}
use Rattle.book.specs.Outcome.{Made, no_size, no_slots, new_book, quotas}
use Rattle.demands.specs.Held.{ProperBook}
use Rattle.demands.specs.NewCall.{NewCall, BookLength, NewSays, NewDemand}

-- the book of C slots without records
blank : (C : ℕ) (q : Quotas) → 1 ≤ C → C ≤ 200 → QuotasFit Current C q → ProperBook (layout Current C q [])
unfolding count_by
blank C q l m f = record { slots = C; extra = q; records = []; least = l; most = m; fit = tt; exact = tt; sorted = tt; quotas = f; within = λ o. omega arith; bytes = refl }

blank-size : (C : ℕ) (q : Quotas) → length (layout Current C q []) ≡ slot_at Current C
blank-size C q = length-layout Current lawful C q [] tt (omega arith)

outcome : {b : List ℕ} {one two : ℕ} {r : ℕ} {b₁ : List ℕ} → NewCall b one two r b₁ → Made Current (quotas one two) b r b₁
outcome x =
    let p : Made Current (quotas x.args.1.0 x.args.1.1.0) x.args.0.now x.result x.exits.0.now = x.ensures in
    rw (x.book_in, x.one_in, x.two_in, x.number_out, x.book_out) at p

-- as long as some book with C slots, and of its size
sized : {b : List ℕ} {C : ℕ} → BookLength b C → Sized Current b C
sized h =
    let s = rw h.slots at (book-sized Current lawful h.like h.book) in
    record { least = s.least; most = s.most; size = sym h.same ∙ s.size }

like : {b : List ℕ} (C : ℕ) → Sized Current b C → BookLength b C
unfolding blank
like C s = let q = quotas 0 0 in record { like = layout Current C q []; book = blank C q s.least s.most (omega arith); slots = refl; same = blank-size C q ∙ sym s.size }

module _ (b : List ℕ) (one two : ℕ) (r : ℕ) (b₁ : List ℕ) where
  new-says : Made Current (quotas one two) b r b₁ → NewSays b one two r b₁
  unfolding blank
  new-says (no_size n e f) =
      record {
        bad_book_when = (λ q C h. n C (sized h), λ q. e);
        no_slots = (λ q. absurd (let z : ⊥ = omega (arith, e) in z), λ h. absurd (n h.0 (sized h.1)));
        done = (λ q. absurd (let z : ⊥ = omega (arith, e) in z), λ h. absurd (n h.0 (sized h.1)));
        refusal_keeps = λ z. f;
        empty = λ q. absurd (let z : ⊥ = omega (arith, e) in z);
        same_size = ap length f;
      }
  new-says (no_slots C s n e f) =
      let more : C < one + two = omega arith in
      record {
        bad_book_when = (λ q. absurd (let z : ⊥ = omega (arith, e) in z), λ m. absurd (m C (like C s)));
        no_slots = (λ q. (C, like C s, more), λ q. e);
        done = (λ q. absurd (let z : ⊥ = omega (arith, e) in z), λ h. absurd (let z : ⊥ = omega (arith, one_size Current lawful b C h.0 s (sized h.1), more, h.2) in z));
        refusal_keeps = λ z. f;
        empty = λ q. absurd (let z : ⊥ = omega (arith, e) in z);
        same_size = ap length f;
      }
  new-says (new_book C s n e f) =
      record {
        bad_book_when = (λ q. absurd (let z : ⊥ = omega (arith, e) in z), λ m. absurd (m C (like C s)));
        no_slots = (λ q. absurd (let z : ⊥ = omega (arith, e) in z), λ h. absurd (let z : ⊥ = omega (arith, one_size Current lawful b C h.0 s (sized h.1), n, h.2) in z));
        done = (λ q. (C, like C s, n), λ h. e);
        refusal_keeps = λ z. absurd (z e);
        empty = λ q. (rw f (blank C (quotas one two) s.least s.most n), refl, refl, refl);
        same_size = ap length f ∙ blank-size C (quotas one two) ∙ sym s.size;
      }

alike : {q : Quotas} {b b' : List ℕ} {r r' : ℕ} {b₁ b₁' : List ℕ} → Made Current q b r b₁ → Made Current q b' r' b₁' → length b ≡ length b' → (r ≡ r') × (r ≡ 0 → b₁ ≡ b₁')
alike {q} {b} {b'} {r} {r'} {b₁} {b₁'} x y l = go x y
  where
    along : (C : ℕ) → Sized Current b C → Sized Current b' C
    along C s = record { least = s.least; most = s.most; size = sym l ∙ s.size }

    back : (C : ℕ) → Sized Current b' C → Sized Current b C
    back C s = record { least = s.least; most = s.most; size = l ∙ s.size }

    fits : (C D : ℕ) → Sized Current b C → Sized Current b' D → QuotasFit Current C q → QuotasFit Current D q
    fits C D s t = let c : C ≡ D = one_size Current lawful b C D s (back D t) in λ h. omega arith

    unfits : (C D : ℕ) → Sized Current b C → Sized Current b' D → QuotasFit Current D q → QuotasFit Current C q
    unfits C D s t = let c : C ≡ D = one_size Current lawful b C D s (back D t) in λ h. omega arith

    go : Made Current q b r b₁ → Made Current q b' r' b₁' → (r ≡ r') × (r ≡ 0 → b₁ ≡ b₁')
    go (no_size n e f) (no_size m g h) = (e ∙ sym g, λ z. absurd (let w : ⊥ = omega (arith, e) in w))
    go (no_size n e f) (no_slots D t m g h) = absurd (n D (back D t))
    go (no_size n e f) (new_book D t m g h) = absurd (n D (back D t))
    go (no_slots C s n e f) (no_size m g h) = absurd (m C (along C s))
    go (no_slots C s n e f) (no_slots D t m g h) = (e ∙ sym g, λ z. absurd (let w : ⊥ = omega (arith, e) in w))
    go (no_slots C s n e f) (new_book D t m g h) = absurd (n (unfits C D s t m))
    go (new_book C s n e f) (no_size m g h) = absurd (m C (along C s))
    go (new_book C s n e f) (no_slots D t m g h) = absurd (m (fits C D s t n))
    go (new_book C s n e f) (new_book D t m g h) =
        let c : C ≡ D = one_size Current lawful b C D s (back D t) in
        (e ∙ sym g, λ z. f ∙ ap (λ (i : ℕ). layout Current i q []) c ∙ sym h)

-- THE THEOREM
pub new_demand : NewDemand
new_demand =
    record {
      each = λ b one two r b₁ x. new-says b one two r b₁ (outcome x);
      whatever_held = λ b b' one two r r' b₁ b₁' x y l. alike (outcome x) (outcome y) l;
      lengths = λ b C. (λ h. let s = sized h in (s.least, s.most, s.size), λ h. like C (record { least = h.0; most = h.1; size = h.2 }));
    }
