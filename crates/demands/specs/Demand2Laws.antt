-- What demand 2 rests on: a call that writes does so where there is room, and the laws of reading and rendering.
-- Assumes nothing.
use Rattle.std.specs.Prelude.{ℕ, ◌≤◌, ◌<◌, ◌≡◌, ◌↔◌, Bool, cond, List, eqb, leb, drop, Err, Option, Some, None}
use Rattle.std.proofs.Math.Path.{refl, ap}
use Rattle.std.proofs.Common.{sym, subst, ◌∙◌, arith, take_at, le-leb, ltb-true, ltb-false, leb-true, leb-false}
use Rattle.std.proofs.Math.Bool.{true, false}
use Rattle.std.proofs.Math.Dec.{ltb}
use Rattle.std.proofs.Math.ListN.{length, take}
use Rattle.std.proofs.lemmas.Bool.{lt-leb}
use Rattle.text.specs.declared.Written.{Written}
use Rattle.text.specs.Part.{every, ascii, same}
use Rattle.text.specs.Put.{put, Wanted, text, done, refusal, answer, left}
use Rattle.text.specs.PutLaws.{put-zero}
use Rattle.identifiers.specs.Check.{check_of, client, client_type, connection, port, channel, first, chars_of, prefix_length_of, general_of}
use Rattle.identifiers.specs.CheckLaws.{check_general, client_type_general}
use Rattle.path.specs.declared.Path.{Path}
use Rattle.path.specs.declared.Refusal.{Refusal}
use Rattle.path.specs.declared.Refusal.TheVariants.{TooLong, NotAscii, NotAPath, NoDigits as WithoutDigits, NotADigit as WithoutDigit, TooLarge as AboveAll}
use Rattle.path.specs.Reading.{Read}
use Rattle.path.specs.Kinds.{Carried, kinds}
use Rattle.path.specs.Read.{fits, fits_kind, read_first, parts_of, texts_of, render, render_path, render_of, read_path, key_by, key_of, bytes_by, reading_bytes, refusal_of, why_not, place_of, as_fault, read_fault}
use Rattle.path.specs.View.{kind_of, carried_of}
use Rattle.path.specs.Valid.{Valid, only, ReadsAs}
use Rattle.path.specs.ReadLaws.{kinds-apart, read_has, is-reads}
use Rattle.path.specs.BackLaws.{valid-rendered, rendered-back, read_again, key-exact}
use Rattle.path.specs.BackLaws as back
use Rattle.path.specs.LengthLaws.{rendering-short}
use Rattle.iteration.specs.Key.{iteration_key}
use Rattle.iteration.specs.KeyLaws.{key-length}
use Rattle.demands.specs.Told.{told, told_of}
use Rattle.demands.specs.ToldLaws.{bytes26, told_back, length26}
use Rattle.text.specs.declared.Fault.{Fault}
use Rattle.text.specs.Fault.{has_place}
use Rattle.path.specs.Number.{NumberWrong}
use Rattle.path.proofs.WrongLaws.{as_refusal, back-fault, wrong-why, why-wrong, wrong-unread, wrong-marks}
use Rattle.packet.specs.KeyLaws.{clash}
use Rattle.demands.specs.Written.{Done, Back, NoKind, WhenRead, NoNumber}

-- ---- a call that writes a text, where there is room
module _ (w out : List ℕ) (room : length w ≤ length out) where
  fits-answer : answer (text w) (length out) ≡ done (length w)
  unfolding answer
  fits-answer = rw (le-leb (length w) (length out) room)

  fits-left : left (text w) out ≡ put out 0 w
  unfolding left
  fits-left = rw (le-leb (length w) (length out) room)

  pub fits-shown : take (length w) (left (text w) out) ≡ w
  fits-shown = rw (fits-left, put-zero out w) (take_at w (drop (length w) out) (length w) refl)

  pub wrote : (z : Wanted) → z ≡ text w → (x : Written) (out₁ : List ℕ) → x ≡ answer z (length out) → out₁ ≡ left z out → Done w x out₁
  wrote z e x out₁ p q =
      let a : x ≡ done (length w) = p ∙ ap (λ (y : Wanted). answer y (length out)) e ∙ fits-answer in
      let o : out₁ ≡ left (text w) out = q ∙ ap (λ (y : Wanted). left y out) e in
      record { answered = a; shown = ap (λ (y : Written). take y.length out₁) a ∙ ap (take (length w)) o ∙ fits-shown }

-- ---- rendering
module _ (k : ℕ) (v : Carried (List ℕ)) (valid : Valid k v) where
  pub renders : (out : List ℕ) (x : Written) (out₁ : List ℕ) → x ≡ answer (render_of k v) (length out) → out₁ ≡ left (render_of k v) out → length (render (parts_of k) v) ≤ length out → Done (render (parts_of k) v) x out₁
  renders out x out₁ p q room = wrote (render (parts_of k) v) out room (render_of k v) (valid-rendered k v valid) x out₁ p q

  pub reads_as : ReadsAs (render (parts_of k) v) k (only (parts_of k) v)
  reads_as = rendered-back k v valid

pub lacking : (k : ℕ) (v w : Carried (List ℕ)) (out : List ℕ) (x y : Written) (out₁ out₂ : List ℕ) → x ≡ answer (render_of k v) (length out) → out₁ ≡ left (render_of k v) out
    → y ≡ answer (render_of k w) (length out) → out₂ ≡ left (render_of k w) out → only (parts_of k) v ≡ only (parts_of k) w → (x ≡ y) × (out₁ ≡ out₂)
lacking k v w out x y out₁ out₂ p q r s e =
    let same : render_of k v ≡ render_of k w = sym (back.lacking k v) ∙ ap (render_of k) e ∙ back.lacking k w in
    (p ∙ ap (λ (z : Wanted). answer z (length out)) same ∙ sym r, q ∙ ap (λ (z : Wanted). left z out) same ∙ sym s)

-- ---- reading
module _ (t : List ℕ) (p : Path) (e : Bool) (h : read_path t ≡ Read p e) where
  read-bytes : reading_bytes t ≡ text (bytes26 p e)
  unfolding reading_bytes
  read-bytes = ap bytes_by h

  pub reading-tells : (out : List ℕ) (f : Fault) (out₁ : List ℕ) → f ≡ read_fault t (length out) → out₁ ≡ left (reading_bytes t) out → 26 ≤ length out
      → (f ≡ record { refusal = 0; place = 0 }) × (told (take 26 out₁) ≡ told_of p e)
  unfolding read_fault
  reading-tells out f out₁ x q room =
      let l : length (bytes26 p e) ≡ 26 = length26 t p e h in
      let d = wrote (bytes26 p e) out (omega (arith, l)) (reading_bytes t) read-bytes (answer (reading_bytes t) (length out)) out₁ refl q in
      let s : take 26 out₁ ≡ bytes26 p e = ap (λ (m : ℕ). take m out₁) (sym (ap (λ (y : Written). y.length) d.answered ∙ l)) ∙ d.shown in
      (x ∙ rw (d.answered, h), ap told s ∙ told_back t p e h)

  key_is : key_of t ≡ text (render_path t p)
  unfolding key_of
  key_is = ap (key_by t) h

  pub keys : (out : List ℕ) (x : Written) (out₁ : List ℕ) → x ≡ answer (key_of t) (length out) → out₁ ≡ left (key_of t) out → length (render_path t p) ≤ length out → Done (render_path t p) x out₁
  keys out x out₁ q r room = wrote (render_path t p) out room (key_of t) key_is x out₁ q r

  pub key_short : length (render_path t p) ≤ 4096
  key_short = rendering-short t p e h

  pub key_reads : ReadsAs (render_path t p) (kind_of p) (texts_of t (carried_of p))
  key_reads = read_again t p e h

  pub key_again : key_of (render_path t p) ≡ text (render_path t p)
  key_again = (key-exact t (render_path t p) key_is).2

-- a text that reads so is told so
pub as-back : (w : List ℕ) (k : ℕ) (v : Carried (List ℕ)) → ReadsAs w k v → (out : List ℕ) (f : Fault) (out₁ : List ℕ) → f ≡ read_fault w (length out) → out₁ ≡ left (reading_bytes w) out → 26 ≤ length out
    → (f ≡ record { refusal = 0; place = 0 }) × Back w (told (take 26 out₁)) k v
as-back w k v r out f out₁ x q room =
    let d = reading-tells w r.path true r.read out f out₁ x q room in
    let c = r.carried in (
      d.0,
      rw d.1 (record {
        kind_is = r.kind;
        exact = refl;
        first_is = ap (λ (y : Carried (List ℕ)). y.first) c;
        second_is = ap (λ (y : Carried (List ℕ)). y.second) c;
        a_is = ap (λ (y : Carried (List ℕ)). y.a) c;
        b_is = ap (λ (y : Carried (List ℕ)). y.b) c;
      }),
    )

pub reads_back : (k : ℕ) (v : Carried (List ℕ)) → Valid k v → (out : List ℕ) (f : Fault) (out₁ : List ℕ)
    → f ≡ read_fault (render (parts_of k) v) (length out) → out₁ ≡ left (reading_bytes (render (parts_of k) v)) out → 26 ≤ length out
    → (f ≡ record { refusal = 0; place = 0 }) × Back (render (parts_of k) v) (told (take 26 out₁)) k (only (parts_of k) v)
reads_back k v valid = as-back (render (parts_of k) v) k (only (parts_of k) v) (rendered-back k v valid)

-- ---- when reading is refused
no_kind : (t : List ℕ) → read_first kinds t ≡ None → NoKind t
no_kind t h e m = go (fits_kind e t) refl
  where
    go : (b : Bool) → fits_kind e t ≡ b → b ≡ false
    go false f = refl
    go true f = let q = read_has t m kinds-apart f in clash (let z : ◌≡◌ {A = ℕ} 0 1 = cc in z)

some-kind : (t : List ℕ) (p : Path) → read_first kinds t ≡ Some p → NoKind t → ⊥
some-kind t p h n = let r = is-reads t p h in let f = n r.kind r.listed in let g = r.fitting in clash (let z : ◌≡◌ {A = ℕ} 0 1 = cc in z)

pub iff_yes : {P Q : Type 0} → P → Q → P ↔ Q
iff_yes p q = (λ x. q, λ x. p)

pub iff-no : {P Q : Type 0} → (P → ⊥) → (Q → ⊥) → P ↔ Q
iff-no p q = (λ x. absurd (p x), λ x. absurd (q x))

-- the text is read
abbrev IsRead : List ℕ → Type 0
IsRead t = (p : Path) × (e : Bool) × (read_path t ≡ Read p e)

not-read : (t : List ℕ) (w : Refusal) → read_path t ≡ Err w → IsRead t → ⊥
not-read t w h x = let q = x.2 in let z : ◌≡◌ {A = ℕ} 0 1 = cc in omega (arith, z)

-- a number that has no place is none of theirs
no_place : (n : ℕ) (w : Refusal) → has_place n ≡ false → has_place (refusal_of w) ≡ true → n ≡ refusal_of w → ⊥
no_place n w h k e = let z : ◌≡◌ {A = ℕ} 0 1 = cc in omega (arith, z)

module _ (t out : List ℕ) (f : Fault) (e : f ≡ read_fault t (length out)) where
  module _ (w : Refusal) (h : read_path t ≡ Err w) where
    fault-is : f ≡ as_fault w
    unfolding read_fault reading_bytes answer
    fault-is = e ∙ rw h

    number_is : f.refusal ≡ refusal_of w
    number_is = ap (λ (x : Fault). x.refusal) fault-is

    place_is : f.place ≡ place_of w
    place_is = ap (λ (x : Fault). x.place) fault-is

  -- no number alone is wrong: what has no place
  module _ (n : ℕ) (m : f.refusal ≡ n) (none : has_place n ≡ false) where
    other-number : (w : Refusal) → has_place (refusal_of w) ≡ true → f ≡ as_fault w → ⊥
    other-number w k q = no_place n w none k (sym m ∙ ap (λ (x : Fault). x.refusal) q)

  long_way : 4096 < length t → read_path t ≡ Err TooLong → WhenRead t out f
  long_way l h =
      let m : f.refusal ≡ 1 = number_is TooLong h in
      record {
        too_long_when = iff_yes m l;
        not_ascii_when = iff-no (λ q. omega arith) (λ q. omega (arith, q.0));
        not_a_path_when = iff-no (λ q. omega arith) (λ q. omega (arith, q.0));
        bad_number = λ w k. iff-no (other-number 1 m refl w k) (λ q. omega (arith, q.0));
        no_room_when = iff-no (λ q. omega arith) (λ q. not-read t TooLong h q.0);
        done = iff-no (λ q. omega arith) (λ q. not-read t TooLong h q.0);
        placeless = λ k. place_is TooLong h;
      }

  ascii_way : length t ≤ 4096 → ascii t ≡ false → read_path t ≡ Err NotAscii → WhenRead t out f
  ascii_way l a h =
      let m : f.refusal ≡ 2 = number_is NotAscii h in
      record {
        too_long_when = iff-no (λ q. omega arith) (λ q. omega (arith, q));
        not_ascii_when = iff_yes m (l, a);
        not_a_path_when = iff-no (λ q. omega arith) (λ q. let b = q.1 in let z : ◌≡◌ {A = ℕ} 0 1 = cc in omega (arith, z));
        bad_number = λ w k. iff-no (other-number 2 m refl w k) (λ q. let b = q.1 in let z : ◌≡◌ {A = ℕ} 0 1 = cc in omega (arith, z));
        no_room_when = iff-no (λ q. omega arith) (λ q. not-read t NotAscii h q.0);
        done = iff-no (λ q. omega arith) (λ q. not-read t NotAscii h q.0);
        placeless = λ k. place_is NotAscii h;
      }

  module _ (l : length t ≤ 4096) (a : ascii t ≡ true) (none : read_first kinds t ≡ None) where
    path_way : why_not t ≡ NotAPath → read_path t ≡ Err NotAPath → WhenRead t out f
    path_way y h =
        let m : f.refusal ≡ 3 = number_is NotAPath h in
        let nothing : NoNumber fits t = λ w x. let k = (wrong-marks t w x).placed in let z : w ≡ NotAPath = sym (wrong-why t w x) ∙ y in let q = rw z at k in clash (let z : ◌≡◌ {A = ℕ} 0 1 = cc in z) in
        record {
          too_long_when = iff-no (λ q. omega arith) (λ q. omega (arith, q));
          not_ascii_when = iff-no (λ q. omega arith) (λ q. let b = q.1 in let z : ◌≡◌ {A = ℕ} 0 1 = cc in omega (arith, z));
          not_a_path_when = iff_yes m (l, a, no_kind t none, nothing);
          bad_number = λ w k. iff-no (other-number 3 m refl w k) (λ q. nothing w q.2);
          no_room_when = iff-no (λ q. omega arith) (λ q. not-read t NotAPath h q.0);
          done = iff-no (λ q. omega arith) (λ q. not-read t NotAPath h q.0);
          placeless = λ k. place_is NotAPath h;
        }

    number_way : (w : Refusal) → why_not t ≡ w → (w ≡ NotAPath → ⊥) → read_path t ≡ Err w → WhenRead t out f
    number_way w y n h =
        let x : NumberWrong fits t w = why-wrong t w n y in
        let k : has_place (refusal_of w) ≡ true = (wrong-marks t w x).placed in
        let m : f.refusal ≡ refusal_of w = number_is w h in
        let other : (i : ℕ) → has_place i ≡ false → f.refusal ≡ i → ⊥ = λ i g q. no_place i w g k (sym q ∙ m) in
        record {
          too_long_when = iff-no (other 1 refl) (λ q. omega (arith, q));
          not_ascii_when = iff-no (other 2 refl) (λ q. let b = q.1 in let z : ◌≡◌ {A = ℕ} 0 1 = cc in omega (arith, z));
          not_a_path_when = iff-no (other 3 refl) (λ q. q.3 w x);
          bad_number = λ v g. (λ q. (l, a, subst (NumberWrong fits t) (sym (back-fault w k) ∙ ap as_refusal (sym (fault-is w h) ∙ q) ∙ back-fault v g) x), λ q. fault-is w h ∙ ap as_fault (sym y ∙ wrong-why t v q.2));
          no_room_when = iff-no (other 4 refl) (λ q. not-read t w h q.0);
          done = iff-no (other 0 refl) (λ q. not-read t w h q.0);
          placeless = λ q. absurd (no_place f.refusal w q k m);
        }

  read_way : length t ≤ 4096 → ascii t ≡ true → (p : Path) (x : Bool) → read_first kinds t ≡ Some p → read_path t ≡ Read p x → WhenRead t out f
  unfolding answer read_fault
  read_way l a p x r h = go (leb 26 (length out)) refl
    where
      number : f.refusal ≡ (answer (text (bytes26 p x)) (length out)).refusal
      number = ap (λ (y : Fault). y.refusal) e ∙ ap (λ (w : Wanted). (answer w (length out)).refusal) (read-bytes t p x h)

      place : f.place ≡ 0
      place = ap (λ (y : Fault). y.place) e ∙ rw h

      size : length (bytes26 p x) ≡ 26
      size = length26 t p x h

      read : IsRead t
      read = (p, x, h)

      right : (w : Refusal) → NumberWrong fits t w → ⊥
      right w y = let q = wrong-unread t w y in let z : ◌≡◌ {A = ℕ} 0 1 = cc in omega (arith, z)

      go : (b : Bool) → leb 26 (length out) ≡ b → WhenRead t out f
      go true b =
          let wide : 26 ≤ length out = leb-true 26 (length out) b in
          let m : f.refusal ≡ 0 = number ∙ rw (le-leb (length (bytes26 p x)) (length out) (let q : length (bytes26 p x) ≤ length out = omega (arith, size) in q)) in
          record {
            too_long_when = iff-no (λ q. omega arith) (λ q. omega (arith, q));
            not_ascii_when = iff-no (λ q. omega arith) (λ q. let b = q.1 in let z : ◌≡◌ {A = ℕ} 0 1 = cc in omega (arith, z));
            not_a_path_when = iff-no (λ q. omega arith) (λ q. some-kind t p r q.2);
            bad_number = λ w k. iff-no (other-number 0 m refl w k) (λ q. right w q.2);
            no_room_when = iff-no (λ q. omega arith) (λ q. omega (arith, q.1));
            done = iff_yes m (read, wide);
            placeless = λ k. place;
          }
      go false b =
          let narrow : length out < 26 = leb-false 26 (length out) b in
          let m : f.refusal ≡ 4 = number ∙ rw (lt-leb (length (bytes26 p x)) (length out) (let q : length out < length (bytes26 p x) = omega (arith, size) in q)) in
          record {
            too_long_when = iff-no (λ q. omega arith) (λ q. omega (arith, q));
            not_ascii_when = iff-no (λ q. omega arith) (λ q. let b = q.1 in let z : ◌≡◌ {A = ℕ} 0 1 = cc in omega (arith, z));
            not_a_path_when = iff-no (λ q. omega arith) (λ q. some-kind t p r q.2);
            bad_number = λ w k. iff-no (other-number 4 m refl w k) (λ q. right w q.2);
            no_room_when = iff_yes m (read, narrow);
            done = iff-no (λ q. omega arith) (λ q. omega (arith, q.1));
            placeless = λ k. place;
          }

  unread_way : length t ≤ 4096 → ascii t ≡ true → read_first kinds t ≡ None → read_path t ≡ Err (why_not t) → WhenRead t out f
  unread_way l a none h = go (why_not t) refl h
    where
      go : (w : Refusal) → why_not t ≡ w → read_path t ≡ Err w → WhenRead t out f
      go NotAPath y g = path_way l a none y g
      go TooLong y g = number_way l a none TooLong y (λ z. clash (let c : ◌≡◌ {A = ℕ} 0 1 = cc in c)) g
      go NotAscii y g = number_way l a none NotAscii y (λ z. clash (let c : ◌≡◌ {A = ℕ} 0 1 = cc in c)) g
      go (WithoutDigits i) y g = number_way l a none (WithoutDigits i) y (λ z. clash (let c : ◌≡◌ {A = ℕ} 0 1 = cc in c)) g
      go (WithoutDigit i) y g = number_way l a none (WithoutDigit i) y (λ z. clash (let c : ◌≡◌ {A = ℕ} 0 1 = cc in c)) g
      go (AboveAll i) y g = number_way l a none (AboveAll i) y (λ z. clash (let c : ◌≡◌ {A = ℕ} 0 1 = cc in c)) g

  pub when_read : WhenRead t out f
  unfolding read_path
  when_read = go (ltb 4096 (length t)) refl (ascii t) refl (read_first kinds t) refl
    where
      go : (l : Bool) → ltb 4096 (length t) ≡ l → (a : Bool) → ascii t ≡ a → (x : Option Path) → read_first kinds t ≡ x → WhenRead t out f
      go true l a ea x ex = long_way (ltb-true 4096 (length t) l) (rw l)
      go false l false a x ex = ascii_way (ltb-false 4096 (length t) l) a (rw (l, a))
      go false l true a None ex = unread_way (ltb-false 4096 (length t) l) a ex (rw (l, a, ex))
      go false l true a (Some p) ex = read_way (ltb-false 4096 (length t) l) a p (same t (render_path t p)) ex (rw (l, a, ex))

-- ---- iteration keys
pub iteration_keys : (number height : ℕ) (out : List ℕ) (x : Written) (out₁ : List ℕ) → x ≡ answer (text (iteration_key number height)) (length out) → out₁ ≡ left (text (iteration_key number height)) out → 38 ≤ length out
    → (length (iteration_key number height) ≡ 38) × Done (iteration_key number height) x out₁
iteration_keys number height out x out₁ p q room =
    let l = key-length number height in
    (l, wrote (iteration_key number height) out (omega (arith, l)) (text (iteration_key number height)) refl x out₁ p q)

-- ---- identifier checks
pub client_general : (s : List ℕ) → check_of client s ≡ general_of client s
client_general s = check_general client s (omega arith) tt

pub connection_general : (s : List ℕ) → check_of connection s ≡ general_of connection s
unfolding ascii every
connection_general s = check_general connection s (omega arith) refl

pub port_general : (s : List ℕ) → check_of port s ≡ general_of port s
port_general s = check_general port s (omega arith) tt

pub channel_general : (s : List ℕ) → check_of channel s ≡ general_of channel s
unfolding ascii every
channel_general s = check_general channel s (omega arith) refl

pub client_type_checks : (s : List ℕ) → check_of client_type s ≡ first (chars_of s) (prefix_length_of s 9 64)
client_type_checks s = client_type_general s
