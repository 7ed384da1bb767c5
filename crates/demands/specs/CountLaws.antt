-- A count that is not the number of the keys present makes no book.
-- Assumes nothing.
use Rattle.std.specs.Prelude.{ℕ, zero, suc, ◌-◌, ◌*◌, ◌≡◌, refl, true, length}
use Rattle.std.proofs.Common.{sym, ap, subst, ◌∙◌, arith}
use mathlib.Core.List.{List, [], ◌∷◌, ◌++◌, append_assoc, head-eq_of_cons-eq}
use Rattle.book_form.specs.Form.{layout, slots, AllFit, AllExact, zeros}
use Rattle.book_form.specs.FormLaws.{append-parts}
use Rattle.book_form.specs.declared.Quotas.{Quotas}
use Rattle.book_form.specs.Version.{slot}
use Rattle.book.specs.BookLaws.{lawful}
use Rattle.book_records.specs.Records.{Key}
use Rattle.book_records.specs.Act.{Rec}
use Rattle.book_records.specs.Calls.{is_owner, Owned}
use Rattle.demands.specs.Held.{ProperBook}
use Rattle.book.specs.Book.{Current}

-- a slot begins with an owner, which is not 0
no_owner : is_owner 0 ≡ true → ⊥
no_owner e = let z : ◌≡◌ {A = ℕ} 0 1 = cc in omega arith

no_slot : (k : Key) (v : List ℕ) → Owned k → (n : ℕ) (l : List ℕ) → zeros n ≡ Current.slot (k, v) ++ l → ⊥
unfolding slot
no_slot [] v h n l e = h
no_slot (o ∷ k) v h zero l e = let z : ◌≡◌ {A = ℕ} 0 1 = cc in omega arith
no_slot (o ∷ k) v h (suc n) l e = let q : 0 ≡ o = head-eq_of_cons-eq e in no_owner (subst (λ (n : ℕ). is_owner n ≡ true) (sym q) h.0)

same_count : (s q : List Rec) (m n : ℕ) → AllFit Current s → AllExact Current s → AllFit Current q → AllExact Current q → slots Current s ++ zeros m ≡ slots Current q ++ zeros n → length s ≡ length q
unfolding slots
same_count [] [] m n fs es fq eq e = refl
same_count [] (r ∷ q) m n fs es fq eq e = absurd (no_slot r.0 r.1 eq.0 m (slots Current q ++ zeros n) (e ∙ append_assoc (Current.slot r) (slots Current q) (zeros n)))
same_count (r ∷ s) [] m n fs es fq eq e = absurd (no_slot r.0 r.1 es.0 n (slots Current s ++ zeros m) (sym e ∙ append_assoc (Current.slot r) (slots Current s) (zeros m)))
same_count (r ∷ s) (p ∷ q) m n fs es fq eq e =
    let e' = sym (append_assoc (Current.slot r) (slots Current s) (zeros m)) ∙ e ∙ append_assoc (Current.slot p) (slots Current q) (zeros n) in
    let w = append-parts (Current.slot r) (Current.slot p) (slots Current s ++ zeros m) (slots Current q ++ zeros n) (lawful.slot-length r fs.0 ∙ sym (lawful.slot-length p fq.0)) e' in
    ap suc (same_count s q m n fs.1 es.1 fq.1 eq.1 w.1)

pub count_right : (a : Quotas) (n m : ℕ) (s : List Rec) → AllFit Current s → AllExact Current s → ProperBook (Current.header a n ++ (slots Current s ++ zeros m)) → n ≡ length s
unfolding layout
count_right a n m s f e y =
    let w = append-parts (Current.header a n) (Current.header y.extra (length y.records)) _ _ (lawful.header-length a n ∙ sym (lawful.header-length y.extra (length y.records))) y.bytes in
    (lawful.header_inj a y.extra n (length y.records) w.0).1 ∙ sym (same_count s y.records m (Current.width * (y.slots - length y.records)) f e y.fit y.exact w.1)
