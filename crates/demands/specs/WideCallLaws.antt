-- The calls of request L8 where there is room, and the exact mark.
-- Assumes nothing.
use Rattle.std.specs.Prelude.{ℕ, ◌≤◌, ◌↔◌, Bool, List, eqb, length, take, Err, Some, None}
use Rattle.std.proofs.Math.Path.{◌≡◌, refl}
use Rattle.std.proofs.Common.{sym, ap, ◌∙◌, arith, le-ltb, ltb-false, eq-eqb}
use Rattle.std.proofs.Math.Bool.{true, false, cond}
use Rattle.std.proofs.Math.Dec.{ltb}
use Rattle.text.specs.declared.Fault.{Fault}
use Rattle.text.specs.declared.Written.{Written}
use Rattle.text.specs.Put.{Wanted, text, answer, left}
use Rattle.path.specs.declared.Path.{Path}
use Rattle.path.specs.declared.Refusal.TheVariants.{TooLong}
use Rattle.path.specs.Reading.{Read}
use Rattle.path.specs.Kinds.{Carried}
use Rattle.path.specs.Read.{parts_of, render, render_path, read_path, read_fault, reading_bytes}
use Rattle.path.specs.ExactLaws.{exact-by-length}
use Rattle.path.specs.BackLaws.{read_reads, read-exact}
use Rattle.letters.specs.Character.{utf8}
use Rattle.letters.specs.Narrow.{narrow}
use Rattle.letters.specs.NarrowLaws.{length-narrow}
use Rattle.key.specs.KeyLaws.{length-rendering}
use Rattle.wide.specs.Mode.{wide}
use Rattle.wide.specs.Read.{read_in, key_in, reading_bytes_in, read_fault_in}
use Rattle.wide.specs.Render.{render_in}
use Rattle.demands.specs.Told.{told}
use Rattle.demands.specs.Written.{Done, Back}
use Rattle.demands.specs.Demand2Laws.{wrote, reading-tells}
use Rattle.demands.specs.WideWritten.{WideValid, WideReadsAs}
use Rattle.demands.specs.WideBackLaws.{wide-rendered, exact-renders-wide}

pub renders : (k : ℕ) (v : Carried (List ℕ)) → WideValid k v → (out : List ℕ) (x : Written) (out₁ : List ℕ) → x ≡ answer (render_in wide k v) (length out) → out₁ ≡ left (render_in wide k v) out → length (render (parts_of k) v) ≤ length out → Done (render (parts_of k) v) x out₁
renders k v valid out x out₁ p q room = wrote (render (parts_of k) v) out room (render_in wide k v) (wide-rendered k v valid) x out₁ p q

-- ---- a text that reads is UTF-8, and its picture reads so
module _ (t : List ℕ) (p : Path) (e : Bool) (h : read_in wide t ≡ Some (Read p e)) where
  pub opened : (length t ≤ 4096) × (utf8 t ≡ true) × (read_path (narrow t) ≡ Read p e)
  unfolding wide read_in
  opened = go (ltb 4096 (length t)) refl (utf8 t) refl h
    where
      go : (a : Bool) → ltb 4096 (length t) ≡ a → (b : Bool) → utf8 t ≡ b → cond a (Some (Err TooLong)) (cond b (Some (read_path (narrow t))) None) ≡ Some (Read p e) → (length t ≤ 4096) × (utf8 t ≡ true) × (read_path (narrow t) ≡ Read p e)
      go true f b g k = let z : ◌≡◌ {A = ℕ} 0 1 = cc in absurd (omega arith)
      go false f true g k = (ltb-false 4096 (length t) f, g, cc)
      go false f false g k = let z : ◌≡◌ {A = ℕ} 0 1 = cc in absurd (omega arith)

  picture-read : read_path (narrow t) ≡ Read p e
  picture-read = opened.2

  seen-fault : (room : ℕ) → read_fault_in wide t room ≡ read_fault (narrow t) room
  unfolding wide read_fault_in reading_bytes_in read_in read_fault reading_bytes
  seen-fault room = rw (le-ltb 4096 (length t) opened.0, opened.1)

  seen_bytes : reading_bytes_in wide t ≡ reading_bytes (narrow t)
  unfolding wide reading_bytes_in read_in reading_bytes
  seen_bytes = rw (le-ltb 4096 (length t) opened.0, opened.1)

  pub key_is : key_in wide t ≡ text (render_path t p)
  unfolding key_in
  key_is = rw h

  pub keys : (out : List ℕ) (x : Written) (out₁ : List ℕ) → x ≡ answer (key_in wide t) (length out) → out₁ ≡ left (key_in wide t) out → length (render_path t p) ≤ length out → Done (render_path t p) x out₁
  keys out x out₁ q r room = wrote (render_path t p) out room (key_in wide t) key_is x out₁ q r

  -- the mark
  by_length : e ≡ eqb (length (render_path t p)) (length t)
  by_length =
      read-exact (narrow t) p e picture-read
      ∙ exact-by-length (read_reads (narrow t) p e picture-read)
      ∙ rw (length-rendering t (narrow t) (sym (length-narrow t)) p, length-narrow t)

  pub exact_key : (e ≡ true) ↔ (render_path t p ≡ t)
  exact_key = (λ k. exact-renders-wide t p (picture-read ∙ ap (Read p) k), λ k. by_length ∙ eq-eqb _ _ (ap length k))

pub reads_back : (t : List ℕ) (k : ℕ) (v : Carried (List ℕ)) → WideReadsAs t k v → (out : List ℕ) (f : Fault) (out₁ : List ℕ) → f ≡ read_fault_in wide t (length out) → out₁ ≡ left (reading_bytes_in wide t) out → 26 ≤ length out
    → (f ≡ record { refusal = 0; place = 0 }) × Back t (told (take 26 out₁)) k v
reads_back t k v r out f out₁ x q room =
    let h = r.read in
    let d = reading-tells (narrow t) r.path true (picture-read t r.path true h) out f out₁ (x ∙ seen-fault t r.path true h (length out)) (q ∙ ap (λ (y : Wanted). left y out) (seen_bytes t r.path true h)) room in
    let c = r.carried in (
      d.0,
      rw d.1 (record {
        kind_is = r.kind;
        exact = refl;
        first_is = ap (λ (y : Carried (List ℕ)). y.first) c;
        second_is = ap (λ (y : Carried (List ℕ)). y.second) c;
        a_is = ap (λ (y : Carried (List ℕ)). y.a) c;
        b_is = ap (λ (y : Carried (List ℕ)). y.b) c;
      }),
    )
