-- What a new wide client identifier begins with: the characters of the client type without what is white at its ends.
-- Assumes nothing.
use Rattle.std.specs.Prelude.{ℕ, ◌≡◌, Bool, cond, List, ◌++◌, length}
use Rattle.std.proofs.Math.Path.{refl}
use Rattle.std.proofs.Common.{sym, ap, ◌∙◌, arith, leb-true}
use Rattle.std.proofs.Math.Bool.{true, false}
use Rattle.std.proofs.Math.Dec.{eqb, leb}
use Rattle.std.proofs.lemmas.Bool.{eqb-false}
use Rattle.text.specs.Bytes.{bytes}
use Rattle.text.specs.Number.{decimal}
use Rattle.text.specs.Put.{Wanted, text, refused, accepted, done, refusal, answer, left}
use Rattle.text.specs.declared.Written.{Written}
use Rattle.identifiers.specs.Check.{first, client_type}
use Rattle.letters.specs.Character.{characters, utf8}
use Rattle.letters.specs.Trimmed.{trim_front, trim_back}
use Rattle.letters.specs.TrimLaws.{trim_chars}
use Rattle.wide.specs.Mode.{wide}
use Rattle.wide.specs.Check.{taken_in, check_in, trim_in, new_client_in}
use Rattle.wide.specs.StepLaws.{trim-wide, new-other}
use Rattle.demands.specs.Written.{Done}
use Rattle.demands.specs.Demand2Laws.{wrote}

module _ (n : ℕ) (w out : List ℕ) (x : Written) (out₁ : List ℕ) (e : x ≡ answer (accepted n w) (length out)) (o : out₁ ≡ left (accepted n w) out) (z : x.refusal ≡ 0) where
  number : x.refusal ≡ (answer (accepted n w) (length out)).refusal
  number = ap (λ (y : Written). y.refusal) e

  accepted-wrote : Done w x out₁
  unfolding answer
  accepted-wrote = go (eqb n 0) refl (leb (length w) (length out)) refl
    where
      go : (a : Bool) → eqb n 0 ≡ a → (b : Bool) → leb (length w) (length out) ≡ b → Done w x out₁
      go true a true b = wrote w out (leb-true (length w) (length out) b) (accepted n w) (rw a) x out₁ e o
      go true a false b = let k : x.refusal ≡ 4 = number ∙ rw (a, b) in absurd (omega (arith, k, z))
      go false a b c = let k : x.refusal ≡ n = number ∙ rw a in absurd (eqb-false n 0 a (sym k ∙ z))

pub new_trims : (s : List ℕ) (n : ℕ) (out : List ℕ) (x : Written) (out₁ : List ℕ) → x ≡ answer (new_client_in wide s n) (length out) → out₁ ≡ left (new_client_in wide s n) out → x.refusal ≡ 0
    → (u : List ℕ) × (characters u ≡ trim_back (trim_front (characters s))) × Done (u ++ (bytes "-" ++ decimal n)) x out₁
unfolding new_client_in answer
new_trims s n out x out₁ e o z = go (utf8 s) refl
  where
    go : (b : Bool) → utf8 s ≡ b → (u : List ℕ) × (characters u ≡ trim_back (trim_front (characters s))) × Done (u ++ (bytes "-" ++ decimal n)) x out₁
    go true b =
        let f = first (taken_in wide s) (check_in wide client_type (trim_in wide s)) in
        (trim_in wide s, ap characters (sym (trim-wide s)) ∙ trim_chars s b, accepted-wrote f (trim_in wide s ++ (bytes "-" ++ decimal n)) out x out₁ e o z)
    go false b = let k : x.refusal ≡ 21 = ap (λ (y : Written). y.refusal) (e ∙ ap (λ (y : Wanted). answer y (length out)) (new-other s n b)) in absurd (omega (arith, k, z))
