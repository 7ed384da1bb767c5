-- When the writing of a key is refused: one law, from when reading is.
-- Assumes nothing.
use Rattle.std.specs.Prelude.{ℕ, ◌≤◌, ◌<◌, ◌↔◌, Bool, List, eqb, length, replicate, Ok, Err}
use Rattle.std.proofs.Math.Path.{◌≡◌, refl, subst}
use Rattle.std.proofs.Common.{sym, ap, ◌∙◌, arith}
use Rattle.std.proofs.Math.Bool.{true, false}
use Rattle.std.proofs.Math.Dec.{leb}
use borrow.Author.Tests.{le-ltb, leb-true, leb-false, eqb-true, eqb-false}
use Rattle.text.specs.Fault.{has_place}
use Rattle.text.specs.Part.{ascii, same}
use Rattle.text.specs.PartLaws.{and_left, and_right}
use Rattle.text.specs.Put.{text, answer}
use Rattle.text.specs.declared.Fault.{Fault}
use Rattle.text.specs.declared.Written.{Written}
use Rattle.path.specs.declared.Path.{Path}
use Rattle.path.specs.declared.Refusal.{Refusal}
use Rattle.path.specs.declared.Refusal.TheVariants.{TooLong, NotAscii, NotAPath, NoDigits as WithoutDigits, NotADigit as WithoutDigit, TooLarge as AboveAll}
use Rattle.path.specs.Reading.{Reading, Read}
use Rattle.path.specs.Number.{NumberWrong}
use Rattle.path.specs.Read.{fits, read_path, key_of, render_path, refusal_of, as_fault, reading_bytes, read_fault}
use Rattle.path.specs.Reads.{Reads}
use Rattle.path.specs.ReadLaws.{reads-is, reads_one}
use Rattle.path.specs.BackLaws.{read_short, read-ascii, read_reads}
use Rattle.packet.specs.KeyLaws.{clash}
use Rattle.demands.specs.Written.{NoKind, WhenRead}
use Rattle.demands.specs.Demand2Laws.{iff_yes, iff-no, when_read}
use Rattle.demands.specs.Rendered.{WhenKeyedBy, WhenKeyed}

-- 0 is no refusal of reading
pub refusal-some : (r : Refusal) → refusal_of r ≡ 0 → ⊥
refusal-some TooLong h = omega (arith, h)
refusal-some NotAscii h = omega (arith, h)
refusal-some NotAPath h = omega (arith, h)
refusal-some (WithoutDigits i) h = omega (arith, h)
refusal-some (WithoutDigit i) h = omega (arith, h)
refusal-some (AboveAll i) h = omega (arith, h)

-- a fault that has a place is a refusal of reading
as-refusal : (f : Fault) → has_place f.refusal ≡ true → (w : Refusal) × (f ≡ as_fault w)
as-refusal f h = go (eqb f.refusal 17) refl (eqb f.refusal 18) refl
  where
    least : 17 ≤ f.refusal
    least = leb-true 17 f.refusal (and_left _ (leb f.refusal 19) h)

    most : f.refusal ≤ 19
    most = leb-true f.refusal 19 (and_right (leb 17 f.refusal) _ h)

    is : (n : ℕ) → f.refusal ≡ n → f ≡ record { refusal = n; place = f.place }
    is n e = ap (λ (m : ℕ). let y : Fault = record { refusal = m; place = f.place } in y) e

    go : (a : Bool) → eqb f.refusal 17 ≡ a → (b : Bool) → eqb f.refusal 18 ≡ b → (w : Refusal) × (f ≡ as_fault w)
    go true a b c = (WithoutDigits f.place, is 17 (eqb-true f.refusal 17 a))
    go false a true c = (WithoutDigit f.place, is 18 (eqb-true f.refusal 18 c))
    go false a false c =
        let n = eqb-false f.refusal 17 a in
        let m = eqb-false f.refusal 18 c in
        let e : f.refusal ≡ 19 = omega (arith, n, m, least, most) in
        (AboveAll f.place, is 19 e)

module _ (takes : List ℕ → Bool) (other : ℕ) (seen : List ℕ → List ℕ) (Unfit : List ℕ → Type 0) (Wrong : List ℕ → Refusal → Type 0) (t out : List ℕ) (x : Written) (f : Fault) where
  -- f is what reading answers where it has room
  pub record Reading26 : Type 0 where
    pub too_long_when : (f.refusal ≡ 1) ↔ (4096 < length t)
    pub not_taken : (f.refusal ≡ other) ↔ ((length t ≤ 4096) × (takes t ≡ false))
    pub not_a_path_when : (f.refusal ≡ 3) ↔ ((length t ≤ 4096) × (takes t ≡ true) × Unfit t × ((w : Refusal) → Wrong t w → ⊥))
    pub bad_number : (w : Refusal) → has_place (refusal_of w) ≡ true → (f ≡ as_fault w) ↔ ((length t ≤ 4096) × (takes t ≡ true) × Wrong t w)
    pub room : f.refusal ≡ 4 → ⊥
    pub done : (length t ≤ 4096) × (takes t ≡ true) × ((p : Path) × Reads (seen t) p) → f.refusal ≡ 0

  -- the key is refused as the reading is, or it is the rendering of what is read
  pub data Way : Type 0 where
    unread : (f.refusal ≡ 0 → ⊥) → f.refusal ≡ x.refusal → Way
    read : f.refusal ≡ 0 → length t ≤ 4096 → takes t ≡ true → (p : Path) → Reads (seen t) p → x.refusal ≡ (answer (text (render_path t p)) (length out)).refusal → Way

  module _ (w : Reading26) (apart : (other ≡ 0 → ⊥) × (other ≡ 4 → ⊥)) where
    unread_way : (f.refusal ≡ 0 → ⊥) → f.refusal ≡ x.refusal → WhenKeyedBy takes other seen Unfit Wrong t out x
    unread_way nz e =
        record {
          too_long_when = (λ q. w.too_long_when.0 (e ∙ q), λ q. sym e ∙ w.too_long_when.1 q);
          not_taken = (λ q. w.not_taken.0 (e ∙ q), λ q. sym e ∙ w.not_taken.1 q);
          not_a_path_when = (λ q. w.not_a_path_when.0 (e ∙ q), λ q. sym e ∙ w.not_a_path_when.1 q);
          bad_number = λ r h. (
            λ q. let g = as-refusal f (subst (λ (n : ℕ). has_place n ≡ true) (sym (e ∙ q)) h) in
                let y : refusal_of g.0 ≡ r = sym (ap (λ (z : Fault). z.refusal) g.1) ∙ e ∙ q in
                let z = (w.bad_number g.0 (subst (λ (n : ℕ). has_place n ≡ true) (sym y) h)).0 g.1 in
                (z.0, z.1, (g.0, y, z.2)),
            λ q. let y = q.2 in sym e ∙ ap (λ (z : Fault). z.refusal) ((w.bad_number y.0 (subst (λ (n : ℕ). has_place n ≡ true) (sym y.1) h)).1 (q.0, q.1, y.2)) ∙ y.1,
          );
          no_room_when = iff-no (λ q. w.room (e ∙ q)) (λ q. nz (w.done (q.0, q.1, (q.2.0, q.2.1))));
          done = iff-no (λ q. nz (e ∙ q)) (λ q. nz (w.done (q.0, q.1, (q.2.0, q.2.1))));
        }

    module _ (z : f.refusal ≡ 0) (l : length t ≤ 4096) (a : takes t ≡ true) (p : Path) (r : Reads (seen t) p) where
      -- no row of reading holds
      no_number : (n : ℕ) → has_place n ≡ true → (length t ≤ 4096) × (takes t ≡ true) × ((v : Refusal) × (refusal_of v ≡ n) × Wrong t v) → ⊥
      no_number n h q =
          let y = q.2 in
          let u = (w.bad_number y.0 (subst (λ (m : ℕ). has_place m ≡ true) (sym y.1) h)).1 (q.0, q.1, y.2) in
          let k : has_place 0 ≡ true = subst (λ (m : ℕ). has_place m ≡ true) (sym y.1 ∙ sym (ap (λ (g : Fault). g.refusal) u) ∙ z) h in
          clash (let i : ◌≡◌ {A = ℕ} 0 1 = cc in i)

      -- and the path is this one
      size : (q : Path) → Reads (seen t) q → length (render_path t q) ≡ length (render_path t p)
      size q s = ap (λ (y : Path). length (render_path t y)) (reads_one s r)

      read_way : x.refusal ≡ (answer (text (render_path t p)) (length out)).refusal → WhenKeyedBy takes other seen Unfit Wrong t out x
      unfolding answer
      read_way e = go (leb (length (render_path t p)) (length out)) refl
        where
          go : (b : Bool) → leb (length (render_path t p)) (length out) ≡ b → WhenKeyedBy takes other seen Unfit Wrong t out x
          go true b =
              let m : x.refusal ≡ 0 = e ∙ rw b in
              let k = leb-true (length (render_path t p)) (length out) b in
              record {
                too_long_when = iff-no (λ q. omega arith) (λ q. omega (arith, z, w.too_long_when.1 q));
                not_taken = iff-no (λ q. apart.0 (sym q ∙ m)) (λ q. apart.0 (sym (w.not_taken.1 q) ∙ z));
                not_a_path_when = iff-no (λ q. omega arith) (λ q. omega (arith, z, w.not_a_path_when.1 q));
                bad_number = λ n h. iff-no (λ q. let i : has_place 0 ≡ true = subst (λ (j : ℕ). has_place j ≡ true) (sym q ∙ m) h in clash (let j : ◌≡◌ {A = ℕ} 0 1 = cc in j)) (no_number n h);
                no_room_when = iff-no (λ q. omega arith) (λ q. omega (arith, k, size q.2.0 q.2.1, q.2.2));
                done = iff_yes m (l, a, (p, r, k));
              }
          go false b =
              let m : x.refusal ≡ 4 = e ∙ rw b in
              let k = leb-false (length (render_path t p)) (length out) b in
              record {
                too_long_when = iff-no (λ q. omega arith) (λ q. omega (arith, z, w.too_long_when.1 q));
                not_taken = iff-no (λ q. apart.1 (sym q ∙ m)) (λ q. apart.0 (sym (w.not_taken.1 q) ∙ z));
                not_a_path_when = iff-no (λ q. omega arith) (λ q. omega (arith, z, w.not_a_path_when.1 q));
                bad_number = λ n h. iff-no (λ q. let i : has_place 4 ≡ true = subst (λ (j : ℕ). has_place j ≡ true) (sym q ∙ m) h in clash (let j : ◌≡◌ {A = ℕ} 0 1 = cc in j)) (no_number n h);
                no_room_when = iff_yes m (l, a, (p, r, k));
                done = iff-no (λ q. omega arith) (λ q. omega (arith, k, size q.2.0 q.2.1, q.2.2));
              }

    pub when-keyed-by : Way → WhenKeyedBy takes other seen Unfit Wrong t out x
    when-keyed-by (unread nz e) = unread_way nz e
    when-keyed-by (read z l a p r e) = read_way z l a p r e

-- ---- `hp_key`
pub is_read : (t : List ℕ) (p : Path) → length t ≤ 4096 → ascii t ≡ true → Reads t p → read_path t ≡ Read p (same t (render_path t p))
unfolding read_path
is_read t p l a r = rw (le-ltb 4096 (length t) l, a, reads-is r)

module _ (t out : List ℕ) (x : Written) (e : x ≡ answer (key_of t) (length out)) where
  abbrev room26 : List ℕ
  room26 = replicate 26 0

  abbrev fault26 : Fault
  fault26 = read_fault t (length room26)

  plain_rows : Reading26 ascii 2 (λ s. s) NoKind (NumberWrong fits) t out x fault26
  plain_rows =
      let w : WhenRead t room26 fault26 = when_read t room26 fault26 refl in
      record {
        too_long_when = w.too_long_when;
        not_taken = w.not_ascii_when;
        not_a_path_when = w.not_a_path_when;
        bad_number = w.bad_number;
        room = λ q. omega (arith, (w.no_room_when.0 q).1);
        done = λ q. w.done.1 ((q.2.0, same t (render_path t q.2.0), is_read t q.2.0 q.0 q.1 q.2.1), omega arith);
      }

  plain_way : Way ascii 2 (λ s. s) NoKind (NumberWrong fits) t out x fault26
  unfolding key_of read_fault reading_bytes answer
  plain_way = go (read_path t) refl
    where
      w : WhenRead t room26 fault26
      w = when_read t room26 fault26 refl

      go : (y : Reading) → read_path t ≡ y → Way ascii 2 (λ s. s) NoKind (NumberWrong fits) t out x fault26
      go (Err r) h =
          let f : fault26.refusal ≡ refusal_of r = rw h in
          let k : x.refusal ≡ refusal_of r = ap (λ (y : Written). y.refusal) e ∙ rw h in
          unread (λ q. let y = (w.done.0 q).0.2 in clash (let j : ◌≡◌ {A = ℕ} 0 1 = cc in j)) (f ∙ sym k)
      go (Ok r) h =
          read (w.done.1 ((r.path, r.exact, h), omega arith)) (read_short t r.path r.exact h) (read-ascii t r.path r.exact h) r.path (read_reads t r.path r.exact h)
          (ap (λ (y : Written). y.refusal) e ∙ rw h)

  pub when_keyed : WhenKeyed t out x
  when_keyed = when-keyed-by ascii 2 (λ s. s) NoKind (NumberWrong fits) t out x fault26 plain_rows (λ q. omega (arith, q), λ q. omega (arith, q)) plain_way
