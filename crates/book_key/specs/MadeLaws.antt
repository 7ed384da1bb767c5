-- What an owned key tells: the refusal is the call's, and else the key stands in the field, with its kind.
-- Assumes nothing.
use Rattle.std.specs.Prelude.{ℕ, ◌≡◌, refl, Bool, true, false, cond, eqb, List, ◌∷◌, length, replicate, Result, Ok, Err}
use Rattle.std.proofs.Common.{sym, ◌∙◌, arith}
use Rattle.std.proofs.Math.Path.{ap}
use Rattle.std.proofs.lemmas.List.{length-replicate}
use borrow.Author.Tests.{le-leb, eqb-true, eqb-false, eq-eqb, ne_eqb}
use Rattle.book_records.specs.declared.Manner.{Manner}
use Rattle.book_records.specs.Act.{refuses}
use Rattle.book_records.specs.Calls.{Asked, is_owner, kind_in, meaning, under, key_for, key_answer}
use Rattle.book_records.specs.MannerLaws.{for-own}
use Rattle.book_records.specs.TextLaws.{Keyed, keyed-by, key_here}
use Rattle.book_key.specs.declared.MadeKey.{MadeKey}
use Rattle.book_key.specs.Field.{kind_made, made_key}

-- ---- what is made where a number is 0, and else that number
module _ {X : Type 0} (n : ℕ) (x : X) where
  abbrev made : Bool → Result X ℕ
  made v = cond v (Ok x) (Err n)

  refused-by : (k : ℕ) → made (eqb n 0) ≡ Err k → (n ≡ 0 → ⊥) × (k ≡ n)
  refused-by k e = go (eqb n 0) refl e
    where
      go : (v : Bool) → eqb n 0 ≡ v → made v ≡ Err k → (n ≡ 0 → ⊥) × (k ≡ n)
      go true z e = absurd (let y : ◌≡◌ {A = ℕ} 0 1 = cc in let w : ⊥ = omega arith in w)
      go false z e = (eqb-false n 0 z, cc)

  made-by : (y : X) → made (eqb n 0) ≡ Ok y → (n ≡ 0) × (y ≡ x)
  made-by y e = go (eqb n 0) refl e
    where
      go : (v : Bool) → eqb n 0 ≡ v → made v ≡ Ok y → (n ≡ 0) × (y ≡ x)
      go true z e = (eqb-true n 0 z, cc)
      go false z e = absurd (let y : ◌≡◌ {A = ℕ} 0 1 = cc in let w : ⊥ = omega arith in w)

  pub made-refused : (n ≡ 0 → ⊥) → Err n ≡ made (eqb n 0)
  made-refused h = rw (ne_eqb n 0 h)

  pub made-done : n ≡ 0 → Ok x ≡ made (eqb n 0)
  made-done h = rw (eq-eqb n 0 h)

-- ---- of a key
module _ (m : Manner) (t : List ℕ) (r : Result MadeKey ℕ) (e : r ≡ made_key (key_for m t)) where
  pub made-refuses : (n : ℕ) → r ≡ Err n → (o : ℕ) → is_owner o ≡ true → (q : Asked) → meaning (record { manner = m; owner = o; text = t; asked = q }) ≡ refuses n
  unfolding meaning made_key
  made-refuses n f o w q = let i = refused-by (key_answer (key_for m t)).refusal _ n (sym e ∙ f) in rw (w, i.1) (keyed-by (key_for m t) (λ k. under q (o ∷ k)) i.0)

  module _ (x : MadeKey) (f : r ≡ Ok x) where
    pub made-keyed : Keyed m t x.key.bytes x.key.len
    unfolding made_key
    made-keyed = let i = made-by (key_answer (key_for m t)).refusal _ x (sym e ∙ f) in key_here m t x.key.bytes (replicate 255 0) x.key.len (length-replicate {A = ℕ} 255 0) i.0 (ap (λ (y : MadeKey). y.key.len) i.1) (ap (λ (y : MadeKey). y.key.bytes) i.1)

    pub made-kind : (field : List ℕ) (n : ℕ) (k : Keyed m t field n) → x.kind ≡ kind_in k.key
    unfolding made_key kind_made
    made-kind field n k = let i = made-by (key_answer (key_for m t)).refusal _ x (sym e ∙ f) in ap (λ (y : MadeKey). y.kind) i.1 ∙ rw (for-own m t k.spelled, k.reads, le-leb (length k.key) 255 k.short)
