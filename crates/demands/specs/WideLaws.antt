-- What the theorems of request L8 rest on.
-- Assumes nothing.
use Rattle.std.specs.Prelude.{ℕ, ◌≤◌, ◌<◌, ◌≡◌, refl, ◌↔◌, Bool, cond, ◌&&◌, List, [], ◌∷◌, ltb, leb, Ok, Err, Some, None}
use Rattle.std.proofs.Math.Path.{sym}
use Rattle.std.proofs.Common.{ap, subst, ◌∙◌, arith}
use Rattle.std.proofs.Math.Bool.{true, false}
use Rattle.std.proofs.Math.ListN.{length}
use borrow.Author.Tests.{lt-ltb, le-ltb, ltb-true, ltb-false, le-leb, leb-true}
use Rattle.text.specs.declared.Fault.{Fault}
use Rattle.text.specs.Fault.{has_place}
use Rattle.text.specs.Part.{every, ascii, same}
use Rattle.text.specs.PartLaws.{and_left, and_right}
use Rattle.text.specs.Put.{text, done, refusal, answer}
use Rattle.identifiers.specs.Check.{unless, among, identifier_byte, within, Rule, form_of}
use Rattle.identifiers.specs.CheckLaws.{first-zero, unless-zero}
use Rattle.path.specs.declared.Path.{Path}
use Rattle.path.specs.declared.Refusal.TheVariants.{TooLong, NotAscii, NotAPath, NoDigits as WithoutDigits, NotADigit as WithoutDigit, TooLarge as AboveAll}
use Rattle.path.specs.Reading.{Reading, Read}
use Rattle.path.specs.Kinds.{kinds}
use Rattle.path.specs.Read.{carried_from, read_first, render_path, read_path, bytes_by, reading_bytes, read_fault, as_fault}
use Rattle.path.specs.ReadLaws.{read_has, kinds-apart}
use Rattle.path.specs.BackLaws.{read_reads}
use Rattle.letters.specs.Character.{Character, characters, each, utf8}
use Rattle.letters.specs.Class.{is_letter, is_blank}
use Rattle.letters.specs.Narrow.{mark_of, seen_as, narrow}
use Rattle.letters.specs.NarrowLaws.{length-narrow, narrow-ascii, every-narrow}
use Rattle.wide.specs.Mode.{wide}
use Rattle.wide.specs.Check.{chars_in, check_in}
use Rattle.wide.specs.Read.{read_in, reading_bytes_in, read_fault_in}
use Rattle.packet.specs.KeyLaws.{clash}
use Rattle.demands.specs.Written.{WhenRead}
use Rattle.demands.specs.WideWritten.{allowed, Fine, WideKind, WhenWideRead}
use Rattle.demands.specs.WideAlikeLaws.{fits_itself, wrong_itself, wrong-picture}
use Rattle.demands.specs.Demand2Laws.{when_read, iff_yes, iff-no}

-- ---- the characters of an identifier
seen-allowed : (c : Character) → identifier_byte (seen_as c) ≡ allowed c
unfolding mark_of identifier_byte among
seen-allowed (Some c) = go (ltb c.value 128) (is_letter c.value) (is_blank c.value)
  where
    go : (a l b : Bool) → identifier_byte (cond a c.value (cond l 90 (cond b 32 33))) ≡ cond a (identifier_byte c.value) l
    go true l b = refl
    go false true b = refl
    go false false true = refl
    go false false false = refl
seen-allowed None = refl

each_same : (f g : Character → Bool) → ((c : Character) → f c ≡ g c) → (cs : List Character) → each f cs ≡ each g cs
unfolding each
each_same f g h [] = refl
each_same f g h (c ∷ cs) = rw (h c, each_same f g h cs)

pub letters-allowed : (s : List ℕ) → every identifier_byte (narrow s) ≡ each allowed (characters s)
letters-allowed s = every-narrow identifier_byte s ∙ each_same (λ c. identifier_byte (seen_as c)) allowed seen-allowed (characters s)

-- ---- the picture is read exactly where some kind fits the text itself
module _ (t : List ℕ) (u : utf8 t ≡ true) where
  pub read-kind : ((p : Path) × (e : Bool) × (read_path (narrow t) ≡ Read p e)) → WideKind t
  read-kind x = let r = read_reads (narrow t) x.0 x.1 x.2 in (r.kind, r.listed, sym (fits_itself t u r.listed) ∙ r.fitting)

  kind-read : length t ≤ 4096 → WideKind t → (p : Path) × (e : Bool) × (read_path (narrow t) ≡ Read p e)
  unfolding read_path
  kind-read s x =
      let p = x.0.make (carried_from 0 x.0.parts (narrow t)) in
      let f = read_has (narrow t) x.1 kinds-apart (fits_itself t u x.1 ∙ x.2) in
      (p, same (narrow t) (render_path (narrow t) p), rw (length-narrow t, le-ltb 4096 (length t) s, narrow-ascii t, f))

-- a check accepts exactly the texts that are fine
pub accepts : (r : Rule) (s : List ℕ) → (check_in wide r s ≡ 0) ↔ Fine r s
unfolding wide check_in chars_in within
accepts r s = (there, back)
  where
    there : check_in wide r s ≡ 0 → Fine r s
    there h =
        let p = first-zero (chars_in wide s) _ h in
        let q = first-zero (unless 21 (utf8 s)) (unless 5 (every identifier_byte (narrow s))) p.0 in
        let l = first-zero (within r.least r.most (length s)) (form_of r.form s) p.1 in
        let w = unless-zero 6 (leb r.least (length s) && leb (length s) r.most) (omega arith) l.0 in
        record {
          taken = unless-zero 21 _ (omega arith) q.0;
          made_of = sym (letters-allowed s) ∙ unless-zero 5 _ (omega arith) q.1;
          least = leb-true _ _ (and_left _ _ w);
          most = leb-true _ _ (and_right (leb r.least (length s)) _ w);
          form = l.1;
        }

    back : Fine r s → check_in wide r s ≡ 0
    back f = rw (f.taken, letters-allowed s ∙ f.made_of, le-leb r.least (length s) f.least, le-leb (length s) r.most f.most) f.form

-- ---- when a reading is refused
-- no reading gives 21
text_never : (w : List ℕ) (room : ℕ) → (answer (text w) room).refusal ≡ 21 → ⊥
unfolding answer
text_never w room h = go (leb (length w) room) h
  where
    go : (v : Bool) → (cond v (done (length w)) (refusal 4)).refusal ≡ 21 → ⊥
    go true k = omega arith
    go false k = omega arith

read_never : (p : Path) (e : Bool) (room : ℕ) → (answer (bytes_by (Read p e)) room).refusal ≡ 21 → ⊥
read_never p e room h = text_never _ room h

never-utf8 : (r : Reading) (room : ℕ) → (answer (bytes_by r) room).refusal ≡ 21 → ⊥
unfolding answer
never-utf8 (Ok r) room h = read_never r.path r.exact room h
never-utf8 (Err TooLong) room h = omega arith
never-utf8 (Err NotAscii) room h = omega arith
never-utf8 (Err NotAPath) room h = omega arith
never-utf8 (Err (WithoutDigits i)) room h = omega arith
never-utf8 (Err (WithoutDigit i)) room h = omega arith
never-utf8 (Err (AboveAll i)) room h = omega arith

module _ (t out : List ℕ) (f : Fault) (e : f ≡ read_fault_in wide t (length out)) where
  module _ (long : 4096 < length t) where
    long-fault : f ≡ as_fault TooLong
    unfolding read_fault_in reading_bytes_in read_in answer
    long-fault = e ∙ rw (lt-ltb 4096 (length t) long)

    long_way : WhenWideRead t out f
    long_way =
        let m : f.refusal ≡ 1 = ap (λ (x : Fault). x.refusal) long-fault in
        record {
          too_long_when = iff_yes m long;
          bad_utf8_when = iff-no (λ q. omega arith) (λ q. omega (arith, q.0));
          not_a_path_when = iff-no (λ q. omega arith) (λ q. omega (arith, q.0));
          bad_number = λ w k. iff-no (λ q. let z : has_place 1 ≡ true = subst (λ (n : ℕ). has_place n ≡ true) (sym (ap (λ (x : Fault). x.refusal) q) ∙ m) k in clash cc) (λ q. omega (arith, q.0));
          no_room_when = iff-no (λ q. omega arith) (λ q. omega (arith, q.0));
          done = iff-no (λ q. omega arith) (λ q. omega (arith, q.0));
          placeless = λ k. ap (λ (x : Fault). x.place) long-fault;
        }

  module _ (short : length t ≤ 4096) where
    module _ (u : utf8 t ≡ false) where
      other-fault : f ≡ record { refusal = 21; place = 0 }
      unfolding wide read_fault_in reading_bytes_in read_in answer
      other-fault = e ∙ rw (le-ltb 4096 (length t) short, u)

      other_way : WhenWideRead t out f
      other_way =
          let m : f.refusal ≡ 21 = ap (λ (x : Fault). x.refusal) other-fault in
          let no : utf8 t ≡ true → ⊥ = λ v. clash cc in
          record {
            too_long_when = iff-no (λ q. omega arith) (λ q. omega (arith, q));
            bad_utf8_when = iff_yes m (short, u);
            not_a_path_when = iff-no (λ q. omega arith) (λ q. no q.1);
            bad_number = λ w k. iff-no (λ q. let z : has_place 21 ≡ true = subst (λ (n : ℕ). has_place n ≡ true) (sym (ap (λ (x : Fault). x.refusal) q) ∙ m) k in clash cc) (λ q. no q.1);
            no_room_when = iff-no (λ q. omega arith) (λ q. no q.1);
            done = iff-no (λ q. omega arith) (λ q. no q.1);
            placeless = λ k. ap (λ (x : Fault). x.place) other-fault;
          }

    module _ (u : utf8 t ≡ true) where
      picture-fault : f ≡ read_fault (narrow t) (length out)
      unfolding wide read_fault_in reading_bytes_in read_in read_fault reading_bytes
      picture-fault = e ∙ rw (le-ltb 4096 (length t) short, u)

      picture_way : WhenWideRead t out f
      unfolding read_fault reading_bytes
      picture_way =
          let w : WhenRead (narrow t) out f = when_read (narrow t) out f picture-fault in
          let l : length (narrow t) ≡ length t = length-narrow t in
          let s : length (narrow t) ≤ 4096 = omega (arith, l) in
          let low : ascii (narrow t) ≡ true = narrow-ascii t in
          record {
            too_long_when = (λ q. omega (arith, l, w.too_long_when.0 q), λ q. w.too_long_when.1 (omega (arith, l, q)));
            bad_utf8_when = iff-no (λ q. never_21 q) (λ q. let v : utf8 t ≡ false = q.1 in clash cc);
            not_a_path_when = (λ q. let x = w.not_a_path_when.0 q in (short, u, λ k m. sym (fits_itself t u m) ∙ x.2 k m, λ v y. x.3 v (wrong-picture t u v y)), λ q. w.not_a_path_when.1 (s, low, λ k m. fits_itself t u m ∙ q.2 k m, λ v y. q.3 v (wrong_itself t u v y)));
            bad_number = λ x k. (λ q. (short, u, wrong_itself t u x ((w.bad_number x k).0 q).2), λ q. (w.bad_number x k).1 (s, low, wrong-picture t u x q.2));
            no_room_when = (λ q. let x = w.no_room_when.0 q in (short, u, read-kind t u x.0, x.1), λ q. w.no_room_when.1 (kind-read t u short q.2, q.3));
            done = (λ q. let x = w.done.0 q in (short, u, read-kind t u x.0, x.1), λ q. w.done.1 (kind-read t u short q.2, q.3));
            placeless = w.placeless;
          }
        where
          never_21 : f.refusal ≡ 21 → ⊥
          never_21 q = never-utf8 (read_path (narrow t)) (length out) (sym (ap (λ (x : Fault). x.refusal) picture-fault) ∙ q)

  pub when-wide : WhenWideRead t out f
  when-wide = go (ltb 4096 (length t)) refl (utf8 t) refl
    where
      go : (a : Bool) → ltb 4096 (length t) ≡ a → (b : Bool) → utf8 t ≡ b → WhenWideRead t out f
      go true h b k = long_way (ltb-true 4096 (length t) h)
      go false h true k = picture_way (ltb-false 4096 (length t) h) k
      go false h false k = other_way (ltb-false 4096 (length t) h) k
