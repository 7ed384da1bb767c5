-- Laws of a gap that is closed slot by slot, in version 3.
-- Assumes nothing.
use Rattle.std.specs.Prelude.{◌≡◌, refl, ℕ, ◌+◌, ◌*◌, ◌-◌, ◌<◌, ◌≤◌, length}
use Rattle.std.proofs.Math.Path.{ap}
use Rattle.std.proofs.Common.{◌∙◌}
use mathlib.Core.List.{List}
use Rattle.std.proofs.Math.Decide.{dec_lt}
use native.Mathlib.Omega.{arith}
use Rattle.text.specs.Put.{put}
use Rattle.text.specs.PutLaws.{length-put}
use Rattle.book_form.specs.Moves.{lowered}
use Rattle.book_form.specs.MovesLaws.{lowered_none, lowered-join, length-lowered, over-start}
use Rattle.book_form.specs.Form.{zeros, removed, Filled}
use Rattle.book_form.specs.FormLaws.{length-zeros, zeros-more}
use Rattle.book_form.specs.declared.Quotas.{Quotas}
use Rattle.book_form.specs.Version.{V3}

-- all records from `end` on moved down to `start`
abbrev pub moved_all : List ℕ → ℕ → ℕ → ℕ → List ℕ
moved_all b start end count = lowered (12 + 322 * end) (12 + 322 * count) (322 * (end - start)) b

-- b₁ is b with its slots from `start` up to i filled: the records from `end` on moved down as far as there are any, and zeros behind them
pub record Closing (b : List ℕ) (start end count : ℕ) (b₁ : List ℕ) (i : ℕ) : Type 0 where
  pub size : length b₁ ≡ length b
  pub moved : i + (end - start) ≤ count → b₁ ≡ lowered (12 + 322 * end) (12 + 322 * (i + (end - start))) (322 * (end - start)) b
  pub cleared : count ≤ i + (end - start) → b₁ ≡ put (moved_all b start end count) (12 + 322 * (count - (end - start))) (zeros (322 * (i - (count - (end - start)))))

-- no zeros written
none-cleared : (b : List ℕ) (f n : ℕ) → n ≡ 0 → b ≡ put b f (zeros n)
none-cleared b f n e = over-start b f ∙ ap (λ (k : ℕ). put b f (zeros k)) (let z : 0 ≡ n = omega arith in z)

module _ (b : List ℕ) (start end count : ℕ) (se : start ≤ end) (ec : end ≤ count) (room : 12 + 322 * count ≤ length b) where
  pub closing-start : Closing b start end count b start
  closing-start =
      let none : b ≡ lowered (12 + 322 * end) (12 + 322 * end) (322 * (end - start)) b = lowered_none (12 + 322 * end) (322 * (end - start)) b (omega arith) in
      record {
        size = refl;
        moved = λ h. none ∙ ap (λ (t : ℕ). lowered (12 + 322 * end) t (322 * (end - start)) b) (let z : 12 + 322 * end ≡ 12 + 322 * (start + (end - start)) = omega arith in z);
        cleared = λ h. none ∙ ap (λ (t : ℕ). lowered (12 + 322 * end) t (322 * (end - start)) b) (let z : 12 + 322 * end ≡ 12 + 322 * count = omega arith in z) ∙ none-cleared (moved_all b start end count) (12 + 322 * (count - (end - start))) (322 * (start - (count - (end - start)))) (omega arith);
      }

  pub closing-next : (b₁ b₂ : List ℕ) (i : ℕ) → Closing b start end count b₁ i → start ≤ i → i < count → Filled V3 b₁ i (end - start) count b₂ → Closing b start end count b₂ (i + 1)
  closing-next b₁ b₂ i g si ic f = go (dec_lt (i + (end - start)) count)
    where
      go : Dec (i + (end - start) < count) → Closing b start end count b₂ (i + 1)
      go (yes h) =
          let t : ℕ = 12 + 322 * (i + (end - start)) in
          let u : ℕ = 12 + 322 * (i + (end - start) + 1) in
          let w : ℕ = 322 * (end - start) in
          let e : b₂ ≡ lowered (12 + 322 * end) u w b =
          f.moved h
          ∙ ap (lowered t u w) (g.moved (omega arith))
          ∙ lowered-join (12 + 322 * end) t w b (omega arith) (omega arith) (omega arith) u (omega arith) (omega arith) in
          record {
            size = ap length e ∙ length-lowered (12 + 322 * end) u w b (omega arith) (omega arith) (omega arith);
            moved = λ k. e ∙ ap (λ (v : ℕ). lowered (12 + 322 * end) v w b) (let z : u ≡ 12 + 322 * (i + 1 + (end - start)) = omega arith in z);
            cleared = λ k. e ∙ ap (λ (v : ℕ). lowered (12 + 322 * end) v w b) (let z : u ≡ 12 + 322 * count = omega arith in z) ∙ none-cleared (moved_all b start end count) (12 + 322 * (count - (end - start))) (322 * (i + 1 - (count - (end - start)))) (omega arith);
          }
      go (no h) =
          let m : List ℕ = moved_all b start end count in
          let lm : length m ≡ length b = length-lowered (12 + 322 * end) (12 + 322 * count) (322 * (end - start)) b (omega arith) (omega arith) room in
          let e : b₂ ≡ put b₁ (12 + 322 * i) (zeros 322) = f.cleared (omega arith) in
          record {
            size = ap length e ∙ length-put b₁ (12 + 322 * i) (zeros 322) (omega (arith, length-zeros 322, g.size)) ∙ g.size;
            moved = λ k. absurd (let z : ⊥ = omega arith in z);
            cleared = λ k. e ∙ ap (λ (l : List ℕ). put l (12 + 322 * i) (zeros 322)) (g.cleared (omega arith)) ∙ zeros-more m (12 + 322 * (count - (end - start))) (322 * (i - (count - (end - start)))) (12 + 322 * i) 322 (322 * (i + 1 - (count - (end - start)))) (omega arith) (omega arith) (omega arith);
          }

  -- all slots filled, and the header written again
  pub closing_end : (b₁ : List ℕ) (i : ℕ) → Closing b start end count b₁ i → i ≡ count → (q : Quotas) → put b₁ 0 (V3.header q (count - (end - start))) ≡ removed V3 q start end count b
  unfolding removed
  closing_end b₁ i g e q =
      ap (λ (l : List ℕ). put l 0 (V3.header q (count - (end - start))))
      (g.cleared (omega arith) ∙ ap (λ (n : ℕ). put (moved_all b start end count) (12 + 322 * (count - (end - start))) (zeros (322 * n))) (let z : i - (count - (end - start)) ≡ end - start = omega arith in z))
