-- Demand 1 of the functions below the calls, by the shape of a contract: owned identifiers, and the numbers that are answered alone.
-- Assumes nothing.
use Rattle.std.specs.Prelude.{ℕ, ◌≤◌, ◌≡◌, refl, Bool, true, false, cond, ◌&&◌, List, [], ◌∷◌, eqb, length, Ok, Err}
use Rattle.std.proofs.Common.{sym, ap, subst, ◌∙◌, arith}
use Rattle.std.proofs.Math.Dec.{leb}
use Rattle.text.specs.Part.{every}
use Rattle.text.specs.Put.{Wanted, refused, text, answer, left, refusal, done}
use Rattle.identifiers.specs.Check.{Rule, unless, identifier_byte, check_of, within}
use Rattle.identifiers.specs.Owned.{as_written, zeros, made}
use Rattle.identifiers.specs.OwnedLaws.{owned-answer}
use Rattle.letters.specs.Character.{utf8}
use Rattle.letters.specs.Narrow.{narrow}
use Rattle.letters.specs.Text.{wide_chars}
use Rattle.path.specs.Reading.{Reading}
use Rattle.path.specs.Kinds.{carried}
use Rattle.path.specs.Text.{shown_of}
use Rattle.path.specs.Read.{render, render_path, parts_of, number_of, read_path, key_by, key_of}
use Rattle.path.specs.View.{kind_of, carried_of, view_of}
use Rattle.render.specs.Render.{short}
use Rattle.key.specs.Key.{shown_at, shown_by}
use Rattle.book_records.specs.declared.Manner.{Manner}
use Rattle.book_records.specs.Calls.{is_loose, key_for, key_answer}
use Rattle.book_key.specs.declared.MadeKey.{MadeKey}
use Rattle.book_key.specs.Field.{kind_made, made_key}
use Rattle.demands.specs.Numbers.{readings, key_numbers}
use Rattle.demands.specs.Shape.{Listed, AllZero, number_in, others_in, Demand1}
use Rattle.std.specs.declared.result.Result.{Result}
use Rattle.std.specs.declared.result.Result.TheVariants.{Ok, Err}
use borrow.Author.Tests.{eqb-true}
use Rattle.demands.specs.ShapeLaws.{Wants, one_of, both_of, accepted_wants, reading-refusal}
use Rattle.demands.specs.BookNumberLaws.{unread_of}

-- ---- the numbers, for any property that 0 and these have
module _ (P : ℕ → Type 0) (none : P 0) where
  pub within-number : P 6 → (least most n : ℕ) → P (within least most n)
  unfolding within
  within-number six least most n = one_of P none 6 (leb least n && leb n most) six

  pub wide_chars-number : P 21 → P 5 → (s : List ℕ) → P (wide_chars s)
  unfolding wide_chars
  wide_chars-number other five s = both_of P none (unless 21 (utf8 s)) (unless 5 (every identifier_byte (narrow s))) (one_of P none 21 (utf8 s) other) (one_of P none 5 (every identifier_byte (narrow s)) five)

  pub reading-number : P 1 → P 2 → P 3 → P 17 → P 18 → P 19 → (r : Reading) → P (number_of r)
  reading-number a b c d e f (Ok r) = none
  reading-number a b c d e f (Err w) = unread_of P a b c d e f w

-- ---- what is wanted
pub shown_wants : (t : List ℕ) (r : Reading) → Wants readings (shown_by t r)
unfolding shown_by shown_at view_of short
shown_wants t (Ok r) =
    let w : List ℕ = render (parts_of (kind_of r.path)) (carried (shown_of t (carried_of r.path).first) (shown_of t (carried_of r.path).second) (carried_of r.path).a (carried_of r.path).b) in
    accepted_wants readings (unless 1 (leb (length w) 4096)) w (one_of (Listed readings) refl 1 (leb (length w) 4096) refl)
shown_wants t (Err w) = reading-refusal w

-- ---- owned identifiers
module _ (ns : List ℕ) (r : Rule) (s : List ℕ) (room : ℕ) (most : r.most ≤ room) where
  -- an array that has room for the longest gives no 4
  pub written_listed : Listed ns 0 → Listed ns (check_of r s) → Listed ns (answer (as_written r s) room).refusal
  written_listed z h = rw (owned-answer r s room most) (go (eqb (check_of r s) 0))
    where
      go : (b : Bool) → Listed ns (cond b (done (length s)) (refusal (check_of r s))).refusal
      go true = z
      go false = h

-- what is made where an answer's number is 0
module _ {X E : Type 0} (f : E → ℕ) (n : ℕ) (x : X) (e : E) (q : f e ≡ n) where
  pub made-number : number_in f (made n x e) ≡ n
  made-number = go (eqb n 0) refl
    where
      go : (v : Bool) → eqb n 0 ≡ v → number_in f (cond v (Ok x) (Err e)) ≡ n
      go true z = sym (eqb-true n 0 z)
      go false z = q

-- a refusal has nothing beside it
pub made-alone : {X E : Type 0} (f : E → ℕ) (g : X → List ℕ) (r : Result X E) → (number_in f r ≡ 0 → ⊥) → AllZero (others_in g r)
made-alone f g (Ok x) h = absurd (h refl)
made-alone f g (Err e) h = tt

module _ {L : Type 0} {A S : L → Type 0} {X E : Type 0} {Pre : (κs : L) → A κs → Type 0} {Post : (κs : L) → A κs → Result X E → S κs → Type 0} where
  pub owned : (listed : List ℕ) (room : ℕ) → ((κs : L) (a : A κs) → Pre κs a) → (f : E → ℕ) (g : X → List ℕ) (wanted : (κs : L) → A κs → Wanted)
      → ((κs : L) (a : A κs) → Listed listed (answer (wanted κs a) room).refusal)
      → ((κs : L) (a : A κs) (r : Result X E) (s : S κs) → Post κs a r s → number_in f r ≡ (answer (wanted κs a) room).refusal)
      → Demand1 Pre Post listed (λ κs r. number_in f r) (λ κs r. others_in g r) (λ κs a. []) (λ κs s. [])
  owned listed room accepts f g wanted listed_by says =
      record {
        accepts = accepts;
        numbered = λ κs a r s p. subst (Listed listed) (sym (says κs a r s p)) (listed_by κs a);
        nothing_else = λ κs a r s p h. made-alone f g r h;
        keeps = λ κs a r s p h. refl;
      }

-- ---- the owned key of a call
pub key-listed : (m : Manner) (t : List ℕ) → Listed key_numbers (key_answer (key_for m t)).refusal
unfolding key_for key_of key_answer
key-listed m t = go (is_loose m (read_path t)) (read_path t)
  where
    fits : (v : Bool) (n : ℕ) → Listed key_numbers (cond v (done n) (refusal 10)).refusal
    fits true n = refl
    fits false n = refl

    go : (b : Bool) (r : Reading) → Listed key_numbers (key_answer (cond b (refused 20) (key_by t r))).refusal
    go true r = refl
    go false (Ok r) = fits (leb (length (render_path t r.path)) 255) (length (render_path t r.path))
    go false (Err w) = unread_of (Listed key_numbers) refl refl refl refl refl refl w

-- it is the number of what is made
pub key-number : (w : Wanted) → number_in (λ (n : ℕ). n) (made_key w) ≡ (key_answer w).refusal
unfolding made_key
key-number w = made-number {X = MadeKey} {E = ℕ} (λ (n : ℕ). n) (key_answer w).refusal (record { kind = kind_made w; key = record { bytes = left w (zeros 255); len = (key_answer w).length } }) (key_answer w).refusal refl
