-- How many slots a buffer has room for, by its length.
-- Assumes nothing.
use Rattle.std.specs.Prelude.{◌≡◌, refl, Bool, true, false, List, ℕ, ◌*◌, ◌-◌, ◌/◌, ◌%◌, ◌<◌, ◌≤◌, eqb, length}
use Rattle.std.proofs.Common.{sym, ap, ◌∙◌, arith, eqb-true}
use Rattle.std.proofs.Math.Nat.{mul-mod_right, mul-div_cancel_left, div-add-mod}
use Rattle.std.proofs.lemmas.Bool.{eqb-false}
use Rattle.book_form.specs.Form.{Form}
use Rattle.book_form.specs.FormLaws.{Lawful, place-back}
use Rattle.book.specs.Book.{Sized, Book}
use Rattle.book.specs.BookLaws.{size_is}
use Rattle.book.specs.Check.{Slotted}

module _ (F : Form) (L : Lawful F) (b : List ℕ) where
  pub one_size : (C D : ℕ) → Sized F b C → Sized F b D → C ≡ D
  one_size C D s t = omega (arith, place-back F L C D (omega (arith, s.size, t.size)), place-back F L D C (omega (arith, s.size, t.size)))

  pub one_slotted : (r q : ℕ) → Slotted F b r → Slotted F b q → r ≡ q
  one_slotted r q x y = go (eqb r 0) refl (eqb q 0) refl
    where
      go : (v : Bool) → eqb r 0 ≡ v → (w : Bool) → eqb q 0 ≡ w → r ≡ q
      go true e true g = eqb-true r 0 e ∙ sym (eqb-true q 0 g)
      go true e false g = absurd (x.none (eqb-true r 0 e) q (y.some (eqb-false q 0 g)))
      go false e true g = absurd (y.none (eqb-true q 0 g) r (x.some (eqb-false r 0 e)))
      go false e false g = one_size r q (x.some (eqb-false r 0 e)) (y.some (eqb-false q 0 g))

  pub book-sized : (x : Book F b) → Sized F b x.slots
  book-sized x = record { least = x.least; most = x.most; size = size_is F L b x }

  -- the slots of a book are those of its size
  pub book-slots : (r : ℕ) → Slotted F b r → (x : Book F b) → r ≡ x.slots
  book-slots r s x = one_size r x.slots (s.some (λ e. s.none e x.slots (book-sized x))) (book-sized x)

  -- ---- the ways out of the function that counts them
  -- h is the size of the header, w the width of a slot
  module _ (h w : ℕ) (eh : h ≡ F.head) (ew : w ≡ F.width) where
    pub slots-short : length b < h → Slotted F b 0
    slots-short l = record { none = λ e C s. omega (arith, s.size); some = λ z. absurd (z refl) }

    whole : (C : ℕ) → Sized F b C → length b - h ≡ w * C
    whole C s = rw (ew, eh) (omega (arith, s.size))

    pub slots_odd : ((length b - h) % w ≡ 0 → ⊥) → Slotted F b 0
    slots_odd n = record { none = λ e C s. n (ap (λ (q : ℕ). q % w) (whole C s) ∙ mul-mod_right w C); some = λ z. absurd (z refl) }

    -- the quotient is the number of slots
    by_quotient : (r : ℕ) → r ≡ (length b - h) / w → (C : ℕ) → Sized F b C → r ≡ C
    by_quotient r e C s = e ∙ ap (λ (q : ℕ). q / w) (whole C s) ∙ mul-div_cancel_left C (rw ew L.wide)

    pub slots_many : (r : ℕ) → r ≡ (length b - h) / w → 200 < r → Slotted F b 0
    slots_many r e l = record { none = λ z C s. omega (arith, by_quotient r e C s, s.most); some = λ z. absurd (z refl) }

    pub slots_are : (r : ℕ) → h ≤ length b → (length b - h) % w ≡ 0 → r ≡ (length b - h) / w → r ≤ 200 → Slotted F b r
    slots_are r hb m e l =
        let d : w * r ≡ length b - h = ap (λ (q : ℕ). w * q) e ∙ omega (arith, div-add-mod (length b - h) w) in
        let d' : F.width * r ≡ length b - h = rw ew at d in
        record { none = λ z C s. omega (arith, by_quotient r e C s, s.least); some = λ z. record { least = omega arith; most = l; size = omega arith } }
