-- The ways through the code of the wide calls.
-- Assumes nothing.
use Rattle.std.specs.Prelude.{ℕ, ◌-◌, ◌≤◌, ◌<◌, Bool, leb, take, drop, Err, Option, Some, None}
use Rattle.std.proofs.Math.Path.{◌≡◌, refl}
use Rattle.std.proofs.Common.{sym, ◌∙◌, arith, take_at}
use Rattle.std.proofs.Math.Bool.{true, false, cond, and-false}
use mathlib.Core.List.{List, ◌++◌}
use Rattle.std.proofs.Math.Nat.{sub-zero}
use Rattle.std.proofs.Math.Dec.{eqb, ltb}
use Rattle.std.proofs.lemmas.Bool.{eqb-false}
use Rattle.std.proofs.Math.ListN.{length}
use borrow.Author.Tests.{le-leb, lt-leb, lt-ltb, le-ltb, ltb-true, eqb-true, ne_eqb, leb-true}
use Rattle.text.specs.Bytes.{bytes}
use Rattle.text.specs.Number.{decimal}
use Rattle.text.specs.PartLaws.{and_left, and_right}
use Rattle.text.specs.Put.{put, refused, text, accepted, answer}
use Rattle.text.specs.PutLaws.{put-zero}
use Rattle.text.specs.TableLaws.{agree_at}
use Rattle.identifiers.specs.Check.{first, unless, identifier_byte, within, named_of, index_place, Form, indexed, Rule, client_type, form_of}
use Rattle.identifiers.specs.Check as check
use Rattle.identifiers.specs.CheckLaws.{first-zero, first-last, first-first, unless-zero}
use Rattle.identifiers.specs.OwnedLaws.{accepted-some, accepted-none}
use Rattle.path.specs.declared.Refusal.TheVariants.{TooLong}
use Rattle.path.specs.Reading.{Reading}
use Rattle.path.specs.declared.name.Name.TheVariants.{Client as client, Connection as connection, Port as port, Channel as channel, Upgrade as upgrade}
use Rattle.path.specs.Kinds.{Carried, kinds}
use Rattle.path.specs.Parents.{consensus_parent, packets_path}
use Rattle.path.specs.Read.{render, parts_of, read_path, bytes_by}
use Rattle.letters.specs.Character.{utf8}
use Rattle.letters.specs.Narrow.{narrow}
use Rattle.letters.specs.NarrowLaws.{length-narrow}
use Rattle.letters.specs.Text.{wide_chars, leading, wide_trim}
use Rattle.writers.specs.Texts.{parent_text, packets_text}
use Rattle.writers.specs.TextLaws.{parent-text, packets-text}
use Rattle.reading.specs.Encode.{answer_by}
use Rattle.render.specs.declared.Names.TheVariants.{PortAndChannel}
use Rattle.render.specs.Render.{names_of, fault_by, short, checked}
use Rattle.key.specs.Key.{shown_by}
use Rattle.key.specs.KeyLaws.{shown-key}
use Rattle.wide.specs.Mode.{Mode, wide}
use Rattle.wide.specs.Check.{chars_in, check_in, trim_in, new_client_in}
use Rattle.wide.specs.Read.{read_in, key_in, reading_bytes_in, read_fault_in}
use Rattle.wide.specs.Render.{name_fault_in, names_fault_in, limited_in, render_in, text_in}

-- ---- the checks
pub chars-wide : (s : List ℕ) → wide_chars s ≡ chars_in wide s
unfolding wide chars_in wide_chars
chars-wide s = refl

pub accepted-length : (m : Mode) (r : Rule) (s : List ℕ) → check_in m r s ≡ 0 → (r.least ≤ length s) × (length s ≤ r.most)
unfolding check_in within
accepted-length m r s ok =
    let k = unless-zero 6 _ (omega arith) (first-zero _ _ (first-zero (chars_in m s) _ ok).1).0 in
    (leb-true _ _ (and_left _ _ k), leb-true _ _ (and_right (leb r.least (length s)) _ k))

module _ (m : Mode) (least most : ℕ) (s : List ℕ) where
  pub check-short : check_in m (record { least = least; most = most; form = check.plain }) s ≡ first (chars_in m s) (within least most (length s))
  unfolding check_in
  check-short = rw (first-last (within least most (length s)))

  pub check-form : (f : Form) → check_in m (record { least = least; most = most; form = f }) s ≡ first (check_in m (record { least = least; most = most; form = check.plain }) s) (form_of f s)
  unfolding check_in
  check-form f = rw (first-last (within least most (length s))) (first-first (chars_in m s) (within least most (length s)) (form_of f s))

-- ---- a new client identifier
pub trim-wide : (s : List ℕ) → wide_trim s ≡ trim_in wide s
unfolding wide trim_in wide_trim leading
trim-wide s = refl

module _ (s : List ℕ) (n : ℕ) where
  pub new-other : utf8 s ≡ false → new_client_in wide s n ≡ refused 21
  unfolding wide new_client_in
  new-other h = rw h

  module _ (h : utf8 s ≡ true) where
    pub new-refused : (check_in wide client_type (trim_in wide s) ≡ 0 → ⊥) → new_client_in wide s n ≡ refused (check_in wide client_type (trim_in wide s))
    unfolding wide new_client_in
    new-refused k = rw h (accepted-some _ _ k)

    pub new-text : check_in wide client_type (trim_in wide s) ≡ 0 → new_client_in wide s n ≡ text (trim_in wide s ++ (bytes "-" ++ decimal n))
    unfolding wide new_client_in
    new-text k = rw h (accepted-none _ _ k)

-- ---- reading
module _ (t : List ℕ) where
  pub read-long : 4096 < length t → Some (Err TooLong) ≡ read_in wide t
  unfolding read_in
  read-long h = rw (lt-ltb 4096 (length t) h)

  module _ (h : length t ≤ 4096) where
    pub read-other : utf8 t ≡ false → None ≡ read_in wide t
    unfolding wide read_in
    read-other e = rw (le-ltb 4096 (length t) h, e)

    pub read-seen : utf8 t ≡ true → Some (read_path (narrow t)) ≡ read_in wide t
    unfolding wide read_in
    read-seen e = rw (le-ltb 4096 (length t) h, e)

-- the part of a buffer that the picture was written to
pub picture-part : (t o o' : List ℕ) (n : ℕ) → n ≡ length t → o' ≡ put o 0 (narrow t) → take (n - 0) o' ≡ narrow t
picture-part t o o' n e f = rw (f, e, sub-zero, put-zero o (narrow t)) (take_at (narrow t) (drop (length (narrow t)) o) (length t) (length-narrow t))

too_long_when : (t : List ℕ) → 4096 < length t → read_path t ≡ Err TooLong
unfolding read_path
too_long_when t h = rw (lt-ltb 4096 (length t) h)

-- an answer: its bytes, its fault and its key
module _ (t : List ℕ) (x : Option Reading) (by : x ≡ read_in wide t) where
  module _ (other : x ≡ None) where
    pub other-bytes : refused 21 ≡ reading_bytes_in wide t
    unfolding wide reading_bytes_in
    other-bytes = rw (← by, other)

    pub other-fault : (room : ℕ) → record { refusal = 21; place = 0 } ≡ read_fault_in wide t room
    unfolding read_fault_in answer
    other-fault room = rw (← other-bytes, ← by, other)

    pub other_key : refused 21 ≡ key_in wide t
    unfolding wide key_in
    other_key = rw (← by, other)

  module _ (r : Reading) (is : x ≡ Some r) where
    pub of-bytes : bytes_by r ≡ reading_bytes_in wide t
    unfolding reading_bytes_in
    of-bytes = rw (← by, is)

    pub of-fault : (room : ℕ) → answer_by r room ≡ read_fault_in wide t room
    unfolding read_fault_in answer_by
    of-fault room = rw (← of-bytes, ← by, is)

    -- it is the reading of some text of this length
    length_of : (s : List ℕ) × (length s ≡ length t) × (read_path s ≡ r)
    unfolding wide read_in
    length_of = go (ltb 4096 (length t)) refl (utf8 t) (sym by ∙ is)
      where
        go : (a : Bool) → ltb 4096 (length t) ≡ a → (b : Bool) → cond a (Some (Err TooLong)) (cond b (Some (read_path (narrow t))) None) ≡ Some r → (s : List ℕ) × (length s ≡ length t) × (read_path s ≡ r)
        go true e b f = (t, refl, too_long_when t (ltb-true 4096 (length t) e) ∙ cc)
        go false e true f = (narrow t, length-narrow t, cc)
        go false e false f = let z : ◌≡◌ {A = ℕ} 0 1 = cc in absurd (omega arith)

    pub of-key : shown_by t r ≡ key_in wide t
    unfolding key_in
    of-key = let l = length_of in shown-key l.0 t l.1 r l.2 ∙ rw (← by, is)

-- ---- rendering
module _ (m : Mode) (k : ℕ) (v : Carried (List ℕ)) where
  pub render-low : k < 1 → render_in m k v ≡ refused 14
  unfolding render_in
  render-low h = rw (lt-leb 1 k h)

  pub render-high : 19 < k → render_in m k v ≡ refused 14
  unfolding render_in
  render-high h = rw (lt-leb k 19 h, and-false)

  -- a kind without identifiers
  no_names : 1 ≤ k → k ≤ 3 → names_fault_in m (parts_of k) v ≡ 0
  unfolding parts_of names_fault_in kinds
  no_names l h = agree_at (λ k. names_fault_in m (parts_of k) v) (λ k. 0) 1 3 refl k l (omega arith)

  pub render-word : 1 ≤ k → k ≤ 3 → render_in m k v ≡ short (render (parts_of k) v)
  unfolding render_in short
  render-word l h = rw (le-leb 1 k l, le-leb k 19 (omega arith), no_names l h)

  module _ (low : 4 ≤ k) (high : k ≤ 19) where
    pub render-kind : render_in m k v ≡ limited_in m (parts_of k) v
    unfolding render_in
    render-kind = rw (le-leb 1 k (omega arith), le-leb k 19 high)

    kind-fault : names_fault_in m (parts_of k) v ≡ fault_by (name_fault_in m) (names_of k) v.first v.second
    unfolding names_of parts_of names_fault_in kinds
    kind-fault =
        agree_at (λ k. names_fault_in m (parts_of k) v) (λ k. fault_by (name_fault_in m) (names_of k) v.first v.second) 4 16
        (rw (first-last (name_fault_in m client v.first), first-last (name_fault_in m connection v.first), first-last (name_fault_in m upgrade v.first), first-last (name_fault_in m port v.first), first-last (name_fault_in m channel v.second)))
        k low (omega arith)

    pub kind-refused : (n : ℕ) → n ≡ fault_by (name_fault_in m) (names_of k) v.first v.second → (n ≡ 0 → ⊥) → limited_in m (parts_of k) v ≡ refused n
    kind-refused n e h = rw (kind-fault, ← e, ne_eqb n 0 h, ne_eqb n 0 h)

    pub kind-limited : fault_by (name_fault_in m) (names_of k) v.first v.second ≡ 0 → limited_in m (parts_of k) v ≡ short (render (parts_of k) v)
    unfolding short
    kind-limited e = rw (kind-fault, e)

    pub kind-checked : limited_in m (parts_of k) v ≡ checked (fault_by (name_fault_in m) (names_of k) v.first v.second) (short (render (parts_of k) v))
    kind-checked = go (eqb (fault_by (name_fault_in m) (names_of k) v.first v.second) 0) refl
      where
        go : (b : Bool) → eqb (fault_by (name_fault_in m) (names_of k) v.first v.second) 0 ≡ b → limited_in m (parts_of k) v ≡ cond b (short (render (parts_of k) v)) (refused (fault_by (name_fault_in m) (names_of k) v.first v.second))
        go true e = kind-limited (eqb-true _ 0 e)
        go false e = kind-refused _ refl (eqb-false _ 0 e)

module _ (m : Mode) (v : Carried (List ℕ)) where
  pub parent-wanted : text_in m consensus_parent v ≡ accepted (check_in m check.client v.first) (parent_text v.first)
  unfolding text_in names_fault_in name_fault_in
  parent-wanted = rw (parent-text v, first-last (check_in m check.client v.first))

  pub packets-wanted : (w f : List ℕ) → f ≡ w ++ bytes "/ports/" → text_in m (packets_path w) v ≡ accepted (fault_by (name_fault_in m) PortAndChannel v.first v.second) (packets_text f v.first v.second)
  unfolding text_in names_fault_in
  packets-wanted w f e = rw (packets-text v w f e, first-last (name_fault_in m channel v.second))
