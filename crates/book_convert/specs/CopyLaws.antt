-- Records that are written one after the other into zeros, behind a header, make the bytes of a book.
-- Assumes nothing.
use Rattle.std.specs.Prelude.{◌≡◌, length, take}
use Rattle.std.proofs.Math.Path.{sym, ap}
use Rattle.std.proofs.Common.{◌∙◌, length-take-le, drop_at}
use mathlib.Core.List.{List, [], ◌∷◌, ◌++◌, append_assoc, append-nil}
use Rattle.std.proofs.Math.Option.{some}
use Prim.Native.Nat.{ℕ, suc, ◌+◌, ◌*◌, ◌-◌, ◌<◌}
use native.Mathlib.Omega.{arith}
use Rattle.std.proofs.Math.ListN.{get_elem?}
use Rattle.std.proofs.lemmas.List.{replicate-append-replicate}
use Rattle.std.proofs.Math.Seq.{take_all}
use Rattle.text.specs.PlaceLaws.{at_lt, take-suc-at}
use Rattle.text.specs.Put.{put}
use Rattle.text.specs.PutLaws.{put-zero}
use Rattle.book_records.specs.Act.{Rec}
use Rattle.book_form.specs.Form.{Form, AllFit, zeros, slots, layout, slot_at}
use Rattle.book_form.specs.FormLaws.{Lawful, length-zeros, zeros-over, length_before, slots-append, fit-take}
use Rattle.book_form.specs.MovesLaws.{over-parts}
use Rattle.book.specs.BookLaws.{fit_at}

-- the bytes of a book with C slots, once the first i of its records are written
unfoldable pub written : (F : Form) → ℕ → F.Extra → List Rec → ℕ → List ℕ
written F C e s i = F.header e (length s) ++ (slots F (take i s) ++ zeros (F.width * (C - i)))

module _ (F : Form) (L : Lawful F) (C : ℕ) (e : F.Extra) (s : List Rec) where
  -- the header over zeros
  pub written_none : (b b₁ b₂ : List ℕ) → length b ≡ slot_at F C → b₁ ≡ put b 0 (zeros (length b)) → b₂ ≡ put b₁ 0 (F.header e (length s)) → b₂ ≡ written F C e s 0
  unfolding written slots
  written_none b b₁ b₂ l g f =
      let h : List ℕ = F.header e (length s) in
      let W = F.width in
      f
      ∙ ap (λ (x : List ℕ). put x 0 h) (g ∙ zeros-over b ∙ ap zeros l ∙ sym (replicate-append-replicate F.head (W * C) 0))
      ∙ put-zero (zeros F.head ++ zeros (W * C)) h
      ∙ ap (λ (x : List ℕ). h ++ x) (drop_at (zeros F.head) (zeros (W * C)) (length h) (length-zeros F.head ∙ sym (L.header-length e (length s))))
      ∙ ap (λ (k : ℕ). h ++ zeros (W * k)) (let q : C ≡ C - 0 = omega arith in q)

  slots-one : (r : Rec) → slots F (r ∷ []) ≡ F.slot r
  unfolding slots
  slots-one r = append-nil (F.slot r)

  -- one record more
  pub written-more : AllFit F s → (i : ℕ) (r : Rec) → get_elem? s i ≡ some r → i < C → put (written F C e s i) (slot_at F i) (F.slot r) ≡ written F C e s (suc i)
  unfolding written
  written-more fit i r er l = ap (λ (x : List ℕ). put x (slot_at F i) (F.slot r)) parted ∙ over-parts pre (zeros W) zz (F.slot r) (slot_at F i) length_pre (length-zeros W ∙ sym (L.slot-length r (fit_at F s i r fit er))) ∙ joined
    where
      W : ℕ
      W = F.width

      h : List ℕ
      h = F.header e (length s)

      a : List Rec
      a = take i s

      zz : List ℕ
      zz = zeros (W * (C - suc i))

      pre : List ℕ
      pre = h ++ slots F a

      length_pre : length pre ≡ slot_at F i
      length_pre = length_before F L e (length s) a (fit-take F L i s fit) ∙ ap (slot_at F) (length-take-le i s (omega (arith, at_lt s i r er)))

      rest : zeros (W * (C - i)) ≡ zeros W ++ zz
      rest =
          ap (λ (k : ℕ). zeros (W * k)) (let q : C - i ≡ suc (C - suc i) = omega arith in q)
          ∙ ap zeros (let q : W * suc (C - suc i) ≡ W + W * (C - suc i) = omega arith in q)
          ∙ sym (replicate-append-replicate W (W * (C - suc i)) 0)

      parted : h ++ (slots F a ++ zeros (W * (C - i))) ≡ pre ++ (zeros W ++ zz)
      parted = ap (λ (x : List ℕ). h ++ (slots F a ++ x)) rest ∙ sym (append_assoc h (slots F a) (zeros W ++ zz))

      joined : pre ++ (F.slot r ++ zz) ≡ h ++ (slots F (take (suc i) s) ++ zz)
      joined =
          append_assoc h (slots F a) (F.slot r ++ zz)
          ∙ ap (λ (x : List ℕ). h ++ x) (sym (append_assoc (slots F a) (F.slot r) zz))
          ∙ ap (λ (x : List ℕ). h ++ (x ++ zz)) (ap (λ (x : List ℕ). slots F a ++ x) (sym (slots-one r)) ∙ sym (slots-append F L a (r ∷ [])) ∙ ap (slots F) (sym (take-suc-at s i r er)))

  pub written_all : (n : ℕ) → n ≡ length s → written F C e s n ≡ layout F C e s
  unfolding written layout
  written_all n q = rw (q, take_all (length s) s (omega arith))
