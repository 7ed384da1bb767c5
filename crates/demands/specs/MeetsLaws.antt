-- The lines of demand 2, of functions that answer as `path` says.
-- Assumes nothing.
use Prim.Native.Nat.{ℕ, ◌≤◌, ◌<◌}
use Rattle.std.specs.Prelude.{◌≡◌, ◌↔◌, Bool, ◌&&◌, List, eqb, length, take, drop, get_or, Ok, Err}
use Rattle.std.proofs.Math.Path.{refl, sym, ap}
use Rattle.std.proofs.Common.{subst, ◌∙◌, arith, drop_at, ne_eqb, le-leb, leb-true, leb-false}
use Rattle.std.proofs.Math.Bool.{true, false, cond}
use Rattle.std.proofs.Math.Dec.{leb}
use Rattle.std.proofs.lemmas.Bool.{eqb-false, lt-leb}
use Rattle.text.specs.Bytes.{bytes}
use Rattle.text.specs.Part.{same}
use Rattle.text.specs.PartLaws.{same-is, same_refl}
use Rattle.text.specs.Put.{Wanted, refused, text, done, refusal, answer, left, put}
use Rattle.text.specs.PutLaws.{put-zero}
use Rattle.text.specs.declared.Fault.{Fault}
use Rattle.text.specs.declared.Written.{Written}
use Rattle.identifiers.specs.Check.{first, unless}
use Rattle.path.specs.declared.Path.{Path}
use Rattle.path.specs.declared.Refusal.TheVariants.{NotAPath}
use Rattle.path.specs.Reading.{Reading, Read}
use Rattle.path.specs.Kinds.{Carried}
use Rattle.path.specs.Read.{parts_of, texts_of, render, render_path, names_fault, render_of, read_path, key_of, bytes_by, reading_bytes, read_fault, refusal_of}
use Rattle.path.specs.Reads.{Reads}
use Rattle.path.specs.ReadLaws.{reads_one}
use Rattle.path.specs.View.{kind_of, carried_of}
use Rattle.path.specs.Valid.{Valid, only, ReadsAs}
use Rattle.path.specs.BackLaws.{read_reads, read-exact, rendered-back, read_again}
use Rattle.iteration.specs.Key.{iteration_key}
use Rattle.iteration.specs.KeyLaws.{key-length}
use Rattle.packet.specs.KeyLaws.{clash}
use Rattle.demands.specs.Told.{told, told_of}
use Rattle.demands.specs.ToldLaws.{bytes26, length26}
use Rattle.demands.specs.Written.{Done, Back, Says, Leaves, read_length}
use Rattle.demands.specs.Demand2Laws.{iff_yes, iff-no, wrote, renders, as-back, reading-tells, keys, when_read}
use Rattle.demands.specs.ModeLaws.{when-plain}
use Rattle.demands.specs.KeyedLaws.{refusal-some, is_read, when_keyed}
use Rattle.demands.specs.Cases.{Outcome, gives, cases_hold}

-- ---- what a writing call leaves
module _ (out : List ℕ) where
  fit-leaves : (w : List ℕ) → length w ≤ length out → drop (length w) (put out 0 w) ≡ drop (length w) out
  fit-leaves w h = rw (put-zero out w) (drop_at w (drop (length w) out) (length w) refl)

  pub leaves : (z : Wanted) (x : Written) (out₁ : List ℕ) → x ≡ answer z (length out) → out₁ ≡ left z out → Leaves x.refusal x.length out out₁
  unfolding answer left
  leaves (refused n) x out₁ e o = record { later = rw (e, o); nothing = λ h. (ap (λ (y : Written). y.length) e, o) }
  leaves (text w) x out₁ e o = go (leb (length w) (length out)) refl e o
    where
      go : (b : Bool) → leb (length w) (length out) ≡ b → x ≡ cond b (done (length w)) (refusal 4) → out₁ ≡ cond b (put out 0 w) out → Leaves x.refusal x.length out out₁
      go true b e o = record { later = rw (e, o) (fit-leaves w (leb-true (length w) (length out) b)); nothing = λ h. absurd (h (ap (λ (y : Written). y.refusal) e)) }
      go false b e o = record { later = rw (e, o); nothing = λ h. (ap (λ (y : Written). y.length) e, o) }

-- ---- reading
written-length : (w : List ℕ) (room : ℕ) → length w ≡ 26 → (answer (text w) room).length ≡ cond (eqb (answer (text w) room).refusal 0) 26 0
unfolding answer
written-length w room h = go (leb (length w) room)
  where
    go : (b : Bool) → (cond b (done (length w)) (refusal 4)).length ≡ cond (eqb (cond b (done (length w)) (refusal 4)).refusal 0) 26 0
    go true = h
    go false = refl

module _ (t : List ℕ) (p : Path) where
  says : (e : Bool) → read_path t ≡ Read p e → Says t p (told_of p e)
  says true h =
      let s : render_path t p ≡ t = sym (same-is t (render_path t p) (sym (read-exact t p true h))) in
      record { kind_is = refl; exact = iff_yes refl s; loose = iff-no (λ q. omega (arith, q)) (λ q. q s); first_is = refl; second_is = refl; a_is = refl; b_is = refl }
  says false h =
      let no : render_path t p ≡ t → ⊥ = λ q. let k : same t (render_path t p) ≡ true = rw q (same_refl t) in let e = read-exact t p false h in clash (let z : ◌≡◌ {A = ℕ} 0 1 = cc in z) in
      record { kind_is = refl; exact = iff-no (λ q. omega (arith, q)) no; loose = iff_yes refl no; first_is = refl; second_is = refl; a_is = refl; b_is = refl }

module _ (t out : List ℕ) (f : Fault) (out₁ : List ℕ) (e : f ≡ read_fault t (length out)) (o : out₁ ≡ left (reading_bytes t) out) where
  pub tells : f.refusal ≡ 0 → (p : Path) × Reads t p × Says t p (told (take 26 out₁))
  tells z =
      let d = (when_read t out f e).done.0 z in
      let p = d.0.0 in
      let h = d.0.2 in
      (p, read_reads t p d.0.1 h, rw (reading-tells t p d.0.1 h out f out₁ e o d.1).1 (says t p d.0.1 h))

  number : (answer (reading_bytes t) (length out)).refusal ≡ f.refusal
  unfolding read_fault
  number = sym (ap (λ (y : Fault). y.refusal) e)

  size : (answer (reading_bytes t) (length out)).length ≡ read_length f
  unfolding reading_bytes answer
  size = go (read_path t) refl ∙ ap (λ (n : ℕ). cond (eqb n 0) 26 0) number
    where
      go : (y : Reading) → read_path t ≡ y → (answer (bytes_by y) (length out)).length ≡ cond (eqb (answer (bytes_by y) (length out)).refusal 0) 26 0
      go (Ok r) h = written-length (bytes26 r.path r.exact) (length out) (length26 t r.path r.exact h)
      go (Err r) h = rw (ne_eqb (refusal_of r) 0 (refusal-some r))

  pub read_leaves : Leaves f.refusal (read_length f) out out₁
  read_leaves =
      let l = leaves out (reading_bytes t) (answer (reading_bytes t) (length out)) out₁ refl o in
      subst (λ (r : ℕ). Leaves r (read_length f) out out₁) number (subst (λ (n : ℕ). Leaves (answer (reading_bytes t) (length out)).refusal n out out₁) size l)

-- "clients" is no path
clients-read : read_path (bytes "clients") ≡ Err NotAPath
clients-read = let q : gives (read_path (bytes "clients")) ≡ gives (Err NotAPath) = ap (λ (l : List Outcome). get_or l 1 (gives (Err NotAPath))) cases_hold in cc

pub clients : (room : ℕ) → read_fault (bytes "clients") room ≡ record { refusal = 3; place = 0 }
unfolding read_fault reading_bytes answer
clients room = rw clients-read

-- ---- rendering
module _ (k : ℕ) (v : Carried (List ℕ)) (out : List ℕ) (x : Written) (out₁ : List ℕ) (e : x ≡ answer (render_of k v) (length out)) (o : out₁ ≡ left (render_of k v) out) where
  -- a rendering that is not refused is the parts' text
  is-text : x.refusal ≡ 0 → render_of k v ≡ text (render (parts_of k) v)
  unfolding render_of answer
  is-text z = go (leb 1 k && leb k 19) (eqb fault 0) refl (ap (λ (y : Written). y.refusal) (sym e) ∙ z)
    where
      fault : ℕ
      fault = first (names_fault (parts_of k) v) (unless 1 (leb (length (render (parts_of k) v)) 4096))

      go : (a b : Bool) → eqb fault 0 ≡ b → (answer (cond a (cond b (text (render (parts_of k) v)) (refused fault)) (refused 14)) (length out)).refusal ≡ 0
          → cond a (cond b (text (render (parts_of k) v)) (refused fault)) (refused 14) ≡ text (render (parts_of k) v)
      go true true h q = refl
      go true false h q = absurd (eqb-false fault 0 h q)
      go false b h q = absurd (omega (arith, q))

  pub rendered : x.refusal ≡ 0 → Done (render (parts_of k) v) x out₁
  rendered z = wrote (render (parts_of k) v) out ((when-plain k v out x e).done.0 z).2 (render_of k v) (is-text z) x out₁ e o

-- ---- a path that is rendered, and read
pub round_trip : (k : ℕ) (v : Carried (List ℕ)) → Valid k v → (out : List ℕ) (x : Written) (out₁ : List ℕ) → x ≡ answer (render_of k v) (length out) → out₁ ≡ left (render_of k v) out → length (render (parts_of k) v) ≤ length out
    → (buffer : List ℕ) (f : Fault) (buffer₁ : List ℕ) → f ≡ read_fault (take x.length out₁) (length buffer) → buffer₁ ≡ left (reading_bytes (take x.length out₁)) buffer → 26 ≤ length buffer
    → (f ≡ record { refusal = 0; place = 0 }) × Back (take x.length out₁) (told (take 26 buffer₁)) k (only (parts_of k) v)
round_trip k v valid out x out₁ e o room =
    let d = renders k v valid out x out₁ e o room in
    as-back (take x.length out₁) k (only (parts_of k) v) (subst (λ (w : List ℕ). ReadsAs w k (only (parts_of k) v)) (sym d.shown) (rendered-back k v valid))

-- ---- keys
module _ (t out : List ℕ) (x : Written) (out₁ : List ℕ) (e : x ≡ answer (key_of t) (length out)) (o : out₁ ≡ left (key_of t) out) where
  pub keyed : x.refusal ≡ 0 → (p : Path) × Reads t p × Done (render_path t p) x out₁
  keyed z =
      let d = (when_keyed t out x e).done.0 z in
      let p = d.2.0 in
      (p, d.2.1, keys t p (same t (render_path t p)) (is_read t p d.0 d.1 d.2.1) out x out₁ e o d.2.2)

  -- a key that is read
  pub key_back : x.refusal ≡ 0 → (p : Path) → Reads t p → (buffer : List ℕ) (f : Fault) (buffer₁ : List ℕ) → f ≡ read_fault (take x.length out₁) (length buffer) → buffer₁ ≡ left (reading_bytes (take x.length out₁)) buffer
      → 26 ≤ length buffer → (f ≡ record { refusal = 0; place = 0 }) × Back (take x.length out₁) (told (take 26 buffer₁)) (kind_of p) (texts_of t (carried_of p))
  key_back z p r =
      let d = (when_keyed t out x e).done.0 z in
      let h = is_read t p d.0 d.1 r in
      let room : length (render_path t p) ≤ length out = subst (λ (q : Path). length (render_path t q) ≤ length out) (reads_one d.2.1 r) d.2.2 in
      let w = keys t p (same t (render_path t p)) h out x out₁ e o room in
      as-back (take x.length out₁) (kind_of p) (texts_of t (carried_of p)) (subst (λ (y : List ℕ). ReadsAs y (kind_of p) (texts_of t (carried_of p))) (sym w.shown) (read_again t p (same t (render_path t p)) h))

-- ---- iteration keys
module _ (number height : ℕ) (out : List ℕ) (x : Written) (e : x ≡ answer (text (iteration_key number height)) (length out)) where
  iteration_way : (b : Bool) → leb 38 (length out) ≡ b → x.refusal ≡ cond b 0 4
  unfolding answer
  iteration_way b h = let l = key-length number height in let c : leb (length (iteration_key number height)) (length out) ≡ b = rw l h in go b c
    where
      go : (c : Bool) → leb (length (iteration_key number height)) (length out) ≡ c → x.refusal ≡ cond c 0 4
      go true c = ap (λ (y : Written). y.refusal) e ∙ rw c
      go false c = ap (λ (y : Written). y.refusal) e ∙ rw c

  pub iteration-done : (x.refusal ≡ 0) ↔ (38 ≤ length out)
  iteration-done = (λ q. go (leb 38 (length out)) refl q, λ h. iteration_way true (le-leb 38 (length out) h))
    where
      go : (b : Bool) → leb 38 (length out) ≡ b → x.refusal ≡ 0 → 38 ≤ length out
      go true b q = leb-true 38 (length out) b
      go false b q = absurd (omega (arith, iteration_way false b, q))

  pub iteration-room : (x.refusal ≡ 4) ↔ (length out < 38)
  iteration-room = (λ q. go (leb 38 (length out)) refl q, λ h. iteration_way false (lt-leb 38 (length out) h))
    where
      go : (b : Bool) → leb 38 (length out) ≡ b → x.refusal ≡ 4 → length out < 38
      go true b q = absurd (omega (arith, iteration_way true b, q))
      go false b q = leb-false 38 (length out) b
