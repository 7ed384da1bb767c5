-- Laws of what a key is to a client.
-- Assumes nothing.
use Rattle.std.specs.Prelude.{◌≡◌, refl, Bool, true, false, cond, ◌&&◌, List, [], ◌∷◌, ◌++◌, ℕ, ◌≤◌, eqb, length, take, drop, Ok, Err}
use Rattle.std.proofs.Math.Path.{sym, ap}
use Rattle.std.proofs.Common.{◌∙◌, append_assoc, arith, length-drop, length-take-le, take_at, eqb-true, eq-eqb, ne_eqb}
use Rattle.std.proofs.lemmas.Bool.{eqb-false}
use Rattle.text.specs.Bytes.{bytes}
use Rattle.text.specs.Part.{same, starts_with}
use Rattle.text.specs.PartLaws.{and_left, and_right, same-is, same_refl, starts-append}
use Rattle.text.specs.Put.{text}
use Rattle.path.specs.declared.Path.{Path}
use Rattle.path.specs.declared.PathView.{PathView}
use Rattle.path.specs.declared.Refusal.{Refusal}
use Rattle.path.specs.declared.Revision.{Revision}
use Rattle.path.specs.Reading.{Reading, Read}
use Rattle.path.specs.Read.{read_path, render_path, render, parts_of, texts_of, key_of, key_by}
use Rattle.path.specs.Text.{shown_of, part_of}
use Rattle.path.specs.BackLaws.{read_reads}
use Rattle.path.specs.PlaceLaws.{shown_read, read_lies}
use Rattle.path.specs.Revision.{revision}
use Rattle.path.specs.View.{kind_of, carried_of, view_of}
use Rattle.path.specs.ViewLaws.{view-kind, view_first, view-a, view-b}
use Rattle.writers.specs.Texts.{parent_text, consensus_text}
use Rattle.writers.specs.Texts as texts
use Rattle.writers.specs.TextLaws.{client-text}
use Rattle.book_records.specs.Calls.{Exact, Owned}
use Rattle.book_oldest.specs.PrefixLaws.{starts-own}
use Rattle.book_clear.specs.declared.role.Role.TheVariants.{Other}
use Rattle.book_clear.specs.Clear.{role_at, role_by, role_of, own_role}
use Rattle.book_clear.specs.Notes.{stem}

-- ---- the text of a client's key
module _ (k : List ℕ) (e : Exact k) (p : Path) (x : Bool) (q : read_path k ≡ Read p x) where
  key-by : key_of k ≡ text (render_path k p)
  unfolding key_of
  key-by = ap (key_by k) q

  own : render_path k p ≡ k
  own = let g : text (render_path k p) ≡ text k = sym key-by ∙ e in cc

  abbrev client : List ℕ
  client = part_of k (carried_of p).first

  abbrev whole : List ℕ → List ℕ
  whole w = consensus_text client (carried_of p).a (carried_of p).b w

  by_kind : (n : ℕ) (w : List ℕ) → kind_of p ≡ n → render (parts_of n) (texts_of k (carried_of p)) ≡ whole w → k ≡ whole w
  unfolding render_path
  by_kind n w f g = sym own ∙ ap (λ (m : ℕ). render (parts_of m) (texts_of k (carried_of p))) f ∙ g

  consensus-key : 5 ≤ kind_of p → kind_of p ≤ 7 → (w : List ℕ) × (k ≡ whole w)
  consensus-key l h = go (eqb (kind_of p) 5) refl (eqb (kind_of p) 6) refl
    where
      go : (a : Bool) → eqb (kind_of p) 5 ≡ a → (b : Bool) → eqb (kind_of p) 6 ≡ b → (w : List ℕ) × (k ≡ whole w)
      go true f b g = ([], by_kind 5 [] (eqb-true (kind_of p) 5 f) (client-text (texts_of k (carried_of p)) 5 (omega arith) (omega arith)))
      go false f true g = (bytes "/processedTime", by_kind 6 (bytes "/processedTime") (eqb-true (kind_of p) 6 g) (client-text (texts_of k (carried_of p)) 6 (omega arith) (omega arith)))
      go false f false g = (bytes "/processedHeight", by_kind 7 (bytes "/processedHeight") (omega (arith, eqb-false (kind_of p) 5 f, eqb-false (kind_of p) 6 g)) (client-text (texts_of k (carried_of p)) 7 (omega arith) (omega arith)))

  shown-is : shown_of k (carried_of p).first ≡ client
  shown-is = (shown_read k p (read_reads k p x q)).0

  shown-size : length (shown_of k (carried_of p).first) ≡ (carried_of p).first.len
  shown-size = ap length shown-is ∙ length-take-le (carried_of p).first.len (drop (carried_of p).first.start k) (omega (arith, (read_lies k p (read_reads k p x q)).0, length-drop (carried_of p).first.start k))

-- a client's key begins with its stem
pub stem-own : (c : List ℕ) (a b : ℕ) (w : List ℕ) → consensus_text c a b w ≡ stem c ++ texts.revision a b w
stem-own c a b w = simp append_assoc

pub begins-own : (c k : List ℕ) (a b : ℕ) (w : List ℕ) → k ≡ consensus_text c a b w → starts_with (stem c) k ≡ true
begins-own c k a b w e = ap (starts_with (stem c)) (e ∙ stem-own c a b w) ∙ starts-own (stem c) (texts.revision a b w)

-- and a key that begins with another stem of as many bytes has that client
pub starts-take : (w k : List ℕ) → starts_with w k ≡ true → take (length w) k ≡ w
unfolding starts_with
starts-take [] k e = refl
starts-take (x ∷ w) [] e = cc
starts-take (x ∷ w) (y ∷ k) e = let a = eqb-true y x (and_left (eqb y x) (starts_with w k) e) in let b = starts-take w k (and_right (eqb y x) (starts_with w k) e) in rw (a, b)

client_is : (c d k : List ℕ) (rest : List ℕ) → k ≡ texts.client_text c rest → length c ≡ length d → starts_with (stem d) k ≡ true → c ≡ d
client_is c d k rest e l s =
    let a : stem d ≡ bytes "clients/" ++ (d ++ (bytes "/consensusStates/")) = simp append_assoc in
    let b : (starts_with (bytes "clients/") k && starts_with (d ++ bytes "/consensusStates/") (drop 8 k)) ≡ true = sym (starts-append (bytes "clients/") (d ++ bytes "/consensusStates/") k) ∙ ap (λ (z : List ℕ). starts_with z k) (sym a) ∙ s in
    let f : (starts_with d (drop 8 k) && starts_with (bytes "/consensusStates/") (drop (length d) (drop 8 k))) ≡ true = sym (starts-append d (bytes "/consensusStates/") (drop 8 k)) ∙ and_right (starts_with (bytes "clients/") k) (starts_with (d ++ bytes "/consensusStates/") (drop 8 k)) b in
    let g : take (length d) (drop 8 k) ≡ d = starts-take d (drop 8 k) (and_left (starts_with d (drop 8 k)) (starts_with (bytes "/consensusStates/") (drop (length d) (drop 8 k))) f) in
    sym (take_at c rest (length d) l) ∙ ap (λ (z : List ℕ). take (length d) (drop 8 z)) (sym e) ∙ g

-- ---- roles
-- kinds other than 5, 6 and 7 are nothing to a client
other-kind : (n : ℕ) (q : Revision) → (5 ≤ n → n ≤ 7 → ⊥) → role_at n q ≡ Other
other-kind n q h = rw (ne_eqb n 5 (λ e. h (omega arith) (omega arith)), ne_eqb n 6 (λ e. h (omega arith) (omega arith)), ne_eqb n 7 (λ e. h (omega arith) (omega arith)))

pub role-by : (client k : List ℕ) (p : Path) (x : Bool) → read_path k ≡ Read p x → role_of client k ≡ cond (same (shown_of k (carried_of p).first) client) (role_at (kind_of p) (revision (carried_of p).a (carried_of p).b)) Other
unfolding role_of
role-by client k p x q = ap (role_by client k) q

pub role-refused : (client k : List ℕ) (w : Refusal) → read_path k ≡ Err w → Other ≡ role_of client k
unfolding role_of
role-refused client k w q = sym (ap (role_by client k) q)

-- where one of the kinds decides that a test holds, the test may be left out
untested : (n : ℕ) (q : Revision) (t : Bool) → (5 ≤ n → n ≤ 7 → t ≡ true) → role_at n q ≡ cond t (role_at n q) Other
untested n q true h = refl
untested n q false h = other-kind n q (λ l m. let a = h l m in let z : ◌≡◌ {A = ℕ} 0 1 = cc in omega arith)

-- where it decides that the test fails, nothing is left
refuted : (n : ℕ) (q : Revision) (t : Bool) → (5 ≤ n → n ≤ 7 → t ≡ true → ⊥) → cond t (role_at n q) Other ≡ Other
refuted n q true h = other-kind n q (λ l m. h l m refl)
refuted n q false h = refl

-- a key that does not begin with the client's stem is nothing to it
pub role-nowhere : (client k : List ℕ) → Exact k → starts_with (stem client) k ≡ false → role_of client k ≡ Other
role-nowhere client k e f = go (read_path k) refl
  where
    go : (r : Reading) → read_path k ≡ r → role_of client k ≡ Other
    go (Err w) q = sym (role-refused client k w q)
    go (Ok r) q =
        role-by client k r.path r.exact q
        ∙ refuted (kind_of r.path) (revision (carried_of r.path).a (carried_of r.path).b) (same (shown_of k (carried_of r.path).first) client)
        (λ l m s.
        let t = consensus-key k e r.path r.exact q l m in
        let c : part_of k (carried_of r.path).first ≡ client = sym (shown-is k e r.path r.exact q) ∙ same-is (shown_of k (carried_of r.path).first) client s in
        let b = begins-own client k (carried_of r.path).a (carried_of r.path).b t.0 (t.1 ∙ ap (λ (z : List ℕ). consensus_text z (carried_of r.path).a (carried_of r.path).b t.0) c) in
        let y : true ≡ false = sym b ∙ f in
        let z : ◌≡◌ {A = ℕ} 0 1 = cc in
        omega arith)

-- ---- what is noted of a key
module _ (client k : List ℕ) (e : Exact k) (s : starts_with (stem client) k ≡ true) (r : Reading) (p : Path) (x : Bool) (eq : r ≡ Read p x) (er : r ≡ read_path k) (v : PathView) (ev : v ≡ view_of p x) where
  reads : read_path k ≡ Read p x
  reads = sym er ∙ eq

  len_is : v.first.len ≡ (carried_of p).first.len
  len_is = ap (λ pl. pl.len) (view_first v p x ev)

  unlike : (v.first.len ≡ length client → ⊥) → (t : Bool) → same (shown_of k (carried_of p).first) client ≡ t → t ≡ false
  unlike h false q = refl
  unlike h true q = absurd (h (len_is ∙ sym (shown-size k e p x reads) ∙ ap length (same-is (shown_of k (carried_of p).first) client q)))

  pub note-other : (v.first.len ≡ length client → ⊥) → Other ≡ role_of client k
  note-other h = sym (role-by client k p x reads ∙ ap (λ (t : Bool). cond t (role_at (kind_of p) (revision (carried_of p).a (carried_of p).b)) Other) (unlike h (same (shown_of k (carried_of p).first) client) refl))

  alike : v.first.len ≡ length client → 5 ≤ kind_of p → kind_of p ≤ 7 → same (shown_of k (carried_of p).first) client ≡ true
  alike h l m =
      let t = consensus-key k e p x reads l m in
      let d : length (part_of k (carried_of p).first) ≡ length client = ap length (sym (shown-is k e p x reads)) ∙ shown-size k e p x reads ∙ sym len_is ∙ h in
      let a : consensus_text (part_of k (carried_of p).first) (carried_of p).a (carried_of p).b t.0 ≡ texts.client_text (part_of k (carried_of p).first) (bytes "/consensusStates/" ++ texts.revision (carried_of p).a (carried_of p).b t.0) = simp append_assoc in
      let c = client_is (part_of k (carried_of p).first) client k (bytes "/consensusStates/" ++ texts.revision (carried_of p).a (carried_of p).b t.0) (t.1 ∙ a) d s in
      ap (λ (z : List ℕ). same z client) (shown-is k e p x reads ∙ c) ∙ same_refl client

  pub note-is : v.first.len ≡ length client → role_at v.kind (revision v.a v.b) ≡ role_of client k
  note-is h =
      ap (λ (n : ℕ). role_at n (revision v.a v.b)) (view-kind v p x ev)
      ∙ ap (λ (n : ℕ). role_at (kind_of p) (revision n v.b)) (view-a v p x ev)
      ∙ ap (λ (n : ℕ). role_at (kind_of p) (revision (carried_of p).a n)) (view-b v p x ev)
      ∙ untested (kind_of p) (revision (carried_of p).a (carried_of p).b) (same (shown_of k (carried_of p).first) client) (alike h)
      ∙ sym (role-by client k p x reads)

-- ---- a key with its owner in front
pub own-there : (owner : ℕ) (client k : List ℕ) → own_role owner client (owner ∷ k) ≡ role_of client k
unfolding own_role
own-there owner client k = rw (eq-eqb owner owner refl)

pub own-nowhere : (owner : ℕ) (client k : List ℕ) → Owned k → starts_with (owner ∷ stem client) k ≡ false → own_role owner client k ≡ Other
unfolding own_role starts_with
own-nowhere owner client [] h f = absurd h
own-nowhere owner client (o ∷ k) h f = go (eqb o owner) f
  where
    go : (t : Bool) → (t && starts_with (stem client) k) ≡ false → cond t (role_of client k) Other ≡ Other
    go true e = role-nowhere client k h.1 e
    go false e = refl
