-- The lines of demand 2 leave one answer: what meets them answers as the calls do.
-- Assumes nothing.
use Rattle.std.specs.Prelude.{ℕ, ◌≡◌, Bool, true, false, List, ◌++◌, eqb, leb, length, take, drop, Ok, Err}
use Rattle.std.proofs.Math.Path.{refl, ap}
use Rattle.std.proofs.Common.{sym, subst, ◌∙◌, arith, take-append-drop, eqb-true, leb-true, leb-false}
use Rattle.std.proofs.lemmas.Bool.{eqb-false}
use Rattle.text.specs.Fault.{has_place}
use Rattle.text.specs.Part.{same}
use Rattle.text.specs.PartLaws.{same-is, same_refl}
use Rattle.text.specs.Put.{answer}
use Rattle.text.specs.declared.Fault.{Fault}
use Rattle.text.specs.declared.Written.{Written}
use Rattle.path.specs.declared.Path.{Path}
use Rattle.path.specs.declared.Refusal.{Refusal}
use Rattle.path.specs.declared.Refusal.TheVariants.{TooLong, NotAscii, NotAPath, NoDigits as WithoutDigits, NotADigit as WithoutDigit, TooLarge as AboveAll}
use Rattle.path.specs.Reading.{Reading}
use Rattle.path.specs.declared.name.Name.{Name}
use Rattle.path.specs.Kinds.{Carried}
use Rattle.path.specs.Read.{read_path, key_of, render_path, reading_bytes, read_fault, as_fault, refusal_of}
use Rattle.path.specs.Reads.{Reads}
use Rattle.path.specs.ReadLaws.{reads_one}
use Rattle.path.specs.BackLaws.{read_short, read-ascii, read_reads}
use Rattle.demands.specs.Told.{Told}
use Rattle.demands.specs.Written.{Done, Says, Leaves, WhenRead}
use Rattle.demands.specs.Rendered.{OfAName, WhenRenderedBy, WhenKeyed}
use Rattle.demands.specs.Demand2Laws.{when_read}
use Rattle.demands.specs.KeyedLaws.{when_keyed}

-- ---- reading
module _ (t out : List ℕ) (f g : Fault) (w : WhenRead t out f) (e : g ≡ read_fault t (length out)) where
  ours : WhenRead t out g
  ours = when_read t out g e

  alike : (n : ℕ) → has_place n ≡ false → f.refusal ≡ n → g.refusal ≡ n → f ≡ g
  alike n h a b =
      let p : f.place ≡ g.place = w.placeless (subst (λ (m : ℕ). has_place m ≡ false) (sym a) h) ∙ sym (ours.placeless (subst (λ (m : ℕ). has_place m ≡ false) (sym b) h)) in
      let r : f.refusal ≡ g.refusal = a ∙ sym b in
      λ i. record { refusal = r i; place = p i }

  by_number : (v : Refusal) → has_place (refusal_of v) ≡ true → g ≡ as_fault v → f ≡ g
  by_number v h b = (w.bad_number v h).1 ((ours.bad_number v h).0 b) ∙ sym b

  pub one-fault : f ≡ g
  unfolding read_fault reading_bytes answer
  one-fault = go (read_path t) refl
    where
      is : (v : Refusal) → read_path t ≡ Err v → g ≡ as_fault v
      is v h = e ∙ rw h

      go : (y : Reading) → read_path t ≡ y → f ≡ g
      go (Err TooLong) h = let b = ap (λ (y : Fault). y.refusal) (is TooLong h) in alike 1 refl (w.too_long_when.1 (ours.too_long_when.0 b)) b
      go (Err NotAscii) h = let b = ap (λ (y : Fault). y.refusal) (is NotAscii h) in alike 2 refl (w.not_ascii_when.1 (ours.not_ascii_when.0 b)) b
      go (Err NotAPath) h = let b = ap (λ (y : Fault). y.refusal) (is NotAPath h) in alike 3 refl (w.not_a_path_when.1 (ours.not_a_path_when.0 b)) b
      go (Err (WithoutDigits i)) h = by_number (WithoutDigits i) refl (is (WithoutDigits i) h)
      go (Err (WithoutDigit i)) h = by_number (WithoutDigit i) refl (is (WithoutDigit i) h)
      go (Err (AboveAll i)) h = by_number (AboveAll i) refl (is (AboveAll i) h)
      go (Ok found) h = room (leb 26 (length out)) refl
        where
          room : (b : Bool) → leb 26 (length out) ≡ b → f ≡ g
          room true b = let r = leb-true 26 (length out) b in alike 0 refl (w.done.1 ((found.path, found.exact, h), r)) (ours.done.1 ((found.path, found.exact, h), r))
          room false b = let r = leb-false 26 (length out) b in alike 4 refl (w.no_room_when.1 ((found.path, found.exact, h), r)) (ours.no_room_when.1 ((found.path, found.exact, h), r))

-- what is told of a text is told of one path
mark-one : (t : List ℕ) (p : Path) (a b : Told) → Says t p a → Says t p b → a.mark ≡ b.mark
mark-one t p a b s u = go (same (render_path t p) t) refl
  where
    go : (c : Bool) → same (render_path t p) t ≡ c → a.mark ≡ b.mark
    go true c = let e = same-is (render_path t p) t c in s.exact.1 e ∙ sym (u.exact.1 e)
    go false c =
        let no : render_path t p ≡ t → ⊥ = λ e. let k : same (render_path t p) t ≡ true = rw e (same_refl t) in let z : ◌≡◌ {A = ℕ} 0 1 = cc in omega (arith, z) in
        s.loose.1 no ∙ sym (u.loose.1 no)

pub one_told : (t : List ℕ) (p q : Path) (a b : Told) → Reads t p → Reads t q → Says t p a → Says t q b → a ≡ b
one_told t p q a b r o s u =
    let v : Says t p b = subst (λ (y : Path). Says t y b) (reads_one o r) u in
    let k = s.kind_is ∙ sym v.kind_is in
    let m = mark-one t p a b s v in
    let f = s.first_is ∙ sym v.first_is in
    let g = s.second_is ∙ sym v.second_is in
    let n = s.a_is ∙ sym v.a_is in
    let h = s.b_is ∙ sym v.b_is in
    λ i. record { kind = k i; mark = m i; first = f i; second = g i; a = n i; b = h i }

-- ---- what is written
module _ (x y : Written) (out out₁ out₂ : List ℕ) (e : x.refusal ≡ y.refusal) (l : Leaves x.refusal x.length out out₁) (m : Leaves y.refusal y.length out out₂) where
  refused-one : (x.refusal ≡ 0 → ⊥) → (x ≡ y) × (out₁ ≡ out₂)
  refused-one nz =
      let a = l.nothing nz in
      let b = m.nothing (λ z. nz (e ∙ z)) in
      let n : x.length ≡ y.length = a.0 ∙ sym b.0 in
      (λ i. record { refusal = e i; length = n i }, a.1 ∙ sym b.1)

  written_one : (w : List ℕ) → Done w x out₁ → Done w y out₂ → (x ≡ y) × (out₁ ≡ out₂)
  written_one w d g =
      let s : x ≡ y = d.answered ∙ sym g.answered in
      let n : x.length ≡ y.length = ap (λ (z : Written). z.length) s in
      let p : take x.length out₁ ++ drop x.length out₁ ≡ take y.length out₂ ++ drop y.length out₂ = rw (d.shown, g.shown, l.later, m.later, n) in
      (s, sym (take-append-drop x.length out₁) ∙ p ∙ take-append-drop y.length out₂)

  pub one-outcome : (w : List ℕ) → (x.refusal ≡ 0 → Done w x out₁) → (y.refusal ≡ 0 → Done w y out₂) → (x ≡ y) × (out₁ ≡ out₂)
  one-outcome w d g = go (eqb x.refusal 0) refl
    where
      go : (b : Bool) → eqb x.refusal 0 ≡ b → (x ≡ y) × (out₁ ≡ out₂)
      go true b = let z = eqb-true x.refusal 0 b in written_one w (d z) (g (sym e ∙ z))
      go false b = refused-one (eqb-false x.refusal 0 b)

  pub key-outcome : (t : List ℕ) → (x.refusal ≡ 0 → (p : Path) × Reads t p × Done (render_path t p) x out₁) → (y.refusal ≡ 0 → (p : Path) × Reads t p × Done (render_path t p) y out₂) → (x ≡ y) × (out₁ ≡ out₂)
  key-outcome t d g = go (eqb x.refusal 0) refl
    where
      go : (b : Bool) → eqb x.refusal 0 ≡ b → (x ≡ y) × (out₁ ≡ out₂)
      go true b =
          let z = eqb-true x.refusal 0 b in
          let p = d z in
          let q = g (sym e ∙ z) in
          written_one (render_path t p.0) p.2 (subst (λ (r : Path). Done (render_path t r) y out₂) (reads_one q.1 p.1) q.2)
      go false b = refused-one (eqb-false x.refusal 0 b)

-- ---- rendering: by the rows alone
pub one-rendering : (check : Name → List ℕ → ℕ) (k : ℕ) (v : Carried (List ℕ)) (takes : List ℕ → Bool) (other : ℕ) (out : List ℕ) (x y : Written)
    → WhenRenderedBy check k v takes other out x → WhenRenderedBy check k v takes other out y → x.refusal ≡ y.refusal
one-rendering check k v takes other out x y w u = go (eqb x.refusal 14) refl (eqb x.refusal 0) refl (eqb x.refusal 1) refl (eqb x.refusal 4) refl
  where
    go : (a : Bool) → eqb x.refusal 14 ≡ a → (b : Bool) → eqb x.refusal 0 ≡ b → (c : Bool) → eqb x.refusal 1 ≡ c → (d : Bool) → eqb x.refusal 4 ≡ d → x.refusal ≡ y.refusal
    go true a b p c q d r = let z = eqb-true x.refusal 14 a in z ∙ sym (u.bad_kind_when.1 (w.bad_kind_when.0 z))
    go false a true p c q d r = let z = eqb-true x.refusal 0 p in z ∙ sym (u.done.1 (w.done.0 z))
    go false a false p true q d r = let z = eqb-true x.refusal 1 q in z ∙ sym (u.too_long_when.1 (w.too_long_when.0 z))
    go false a false p false q true r = let z = eqb-true x.refusal 4 r in z ∙ sym (u.no_room_when.1 (w.no_room_when.0 z))
    go false a false p false q false r =
        let o : OfAName x.refusal = record { no_zero = eqb-false x.refusal 0 p; no_kind = eqb-false x.refusal 14 a; no_length = eqb-false x.refusal 1 q; no_room_when = eqb-false x.refusal 4 r } in
        sym ((u.bad_name x.refusal o).1 ((w.bad_name x.refusal o).0 refl))

-- ---- keys
module _ (t out : List ℕ) (x y : Written) (w : WhenKeyed t out x) (e : y ≡ answer (key_of t) (length out)) where
  keyed : WhenKeyed t out y
  keyed = when_keyed t out y e

  pub one_key : x.refusal ≡ y.refusal
  unfolding key_of answer
  one_key = go (read_path t) refl
    where
      is : (v : Refusal) → read_path t ≡ Err v → y.refusal ≡ refusal_of v
      is v h = ap (λ (z : Written). z.refusal) e ∙ rw h

      go : (r : Reading) → read_path t ≡ r → x.refusal ≡ y.refusal
      go (Err TooLong) h = let b = is TooLong h in w.too_long_when.1 (keyed.too_long_when.0 b) ∙ sym b
      go (Err NotAscii) h = let b = is NotAscii h in w.not_taken.1 (keyed.not_taken.0 b) ∙ sym b
      go (Err NotAPath) h = let b = is NotAPath h in w.not_a_path_when.1 (keyed.not_a_path_when.0 b) ∙ sym b
      go (Err (WithoutDigits i)) h = let b = is (WithoutDigits i) h in (w.bad_number 17 refl).1 ((keyed.bad_number 17 refl).0 b) ∙ sym b
      go (Err (WithoutDigit i)) h = let b = is (WithoutDigit i) h in (w.bad_number 18 refl).1 ((keyed.bad_number 18 refl).0 b) ∙ sym b
      go (Err (AboveAll i)) h = let b = is (AboveAll i) h in (w.bad_number 19 refl).1 ((keyed.bad_number 19 refl).0 b) ∙ sym b
      go (Ok found) h = room (leb (length (render_path t found.path)) (length out)) refl
        where
          room : (b : Bool) → leb (length (render_path t found.path)) (length out) ≡ b → x.refusal ≡ y.refusal
          room true b =
              let l = leb-true (length (render_path t found.path)) (length out) b in
              let s = read_short t found.path found.exact h in
              let a = read-ascii t found.path found.exact h in
              let r = read_reads t found.path found.exact h in
              w.done.1 (s, a, (found.path, r, l)) ∙ sym (keyed.done.1 (s, a, (found.path, r, l)))
          room false b =
              let l = leb-false (length (render_path t found.path)) (length out) b in
              let s = read_short t found.path found.exact h in
              let a = read-ascii t found.path found.exact h in
              let r = read_reads t found.path found.exact h in
              w.no_room_when.1 (s, a, (found.path, r, l)) ∙ sym (keyed.no_room_when.1 (s, a, (found.path, r, l)))
