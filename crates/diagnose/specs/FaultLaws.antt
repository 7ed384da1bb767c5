-- What is wrong with a word or an identifier, one way out of the code after the other.
-- Assumes nothing.
use Rattle.std.specs.Prelude.{ℕ, ◌-◌, ◌≤◌, ◌<◌, ◌≡◌, Bool, List, length}
use Rattle.std.proofs.Math.Path.{sym}
use Rattle.std.proofs.Common.{◌∙◌}
use Rattle.std.proofs.Math.Bool.{true, false}
use borrow.Author.Tests.{lt-ltb, le-ltb, eq-eqb, ne_eqb}
use Rattle.text.specs.declared.Fault.{Fault}
use Rattle.identifiers.specs.Check.{identifier_byte}
use Rattle.diagnose.specs.declared.Why.{Why}
use Rattle.diagnose.specs.Diagnosis.{agree, until, alike_but, why, word_why, length_why, prefix_why, fault_why}

-- ---- a word
module _ (w c : List ℕ) (n : ℕ) (e : n ≡ agree false w c) where
  module _ (r : Bool) (f : r ≡ alike_but w c) where
    pub word_case : r ≡ true → why 5 n ≡ word_why w c
    unfolding word_why
    word_case h = let g : alike_but w c ≡ true = sym f ∙ h in rw (g, e)

    pub word-other : r ≡ false → why 6 n ≡ word_why w c
    unfolding word_why
    word-other h = let g : alike_but w c ≡ false = sym f ∙ h in rw (g, e)

  -- what an identifier begins with
  pub prefix-other : n < length w → why 10 n ≡ prefix_why w c
  unfolding prefix_why
  prefix-other h = rw (← e, lt-ltb n (length w) h)

  pub prefix-zero : length w ≤ n → why 11 n ≡ prefix_why w c
  unfolding prefix_why
  prefix-zero h = rw (← e, le-ltb n (length w) h)

-- ---- an identifier by its check's refusal
module _ (f : Fault) (least most : ℕ) (w c : List ℕ) where
  pub fault-char : f.refusal ≡ 5 → (n : ℕ) → n ≡ until identifier_byte c → why 7 n ≡ fault_why f least most w c
  unfolding fault_why
  fault-char h n k = rw (eq-eqb f.refusal 5 h, k)

  module _ (a : f.refusal ≡ 5 → ⊥) where
    pub fault-length : f.refusal ≡ 6 → (r : Why) → r ≡ length_why least most c → r ≡ fault_why f least most w c
    unfolding fault_why
    fault-length h r k = rw (ne_eqb f.refusal 5 a, eq-eqb f.refusal 6 h) k

    module _ (b : f.refusal ≡ 6 → ⊥) where
      pub fault-prefix : f.refusal ≡ 7 → (r : Why) → r ≡ prefix_why w c → r ≡ fault_why f least most w c
      unfolding fault_why
      fault-prefix h r k = rw (ne_eqb f.refusal 5 a, ne_eqb f.refusal 6 b, eq-eqb f.refusal 7 h) k

      pub fault-number : (f.refusal ≡ 7 → ⊥) → (n : ℕ) → n ≡ f.refusal - 4 → why n f.place ≡ fault_why f least most w c
      unfolding fault_why
      fault-number h n k = rw (ne_eqb f.refusal 5 a, ne_eqb f.refusal 6 b, ne_eqb f.refusal 7 h, k)
