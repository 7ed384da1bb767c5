-- Laws of the oldest state.
-- Assumes nothing.
use Rattle.std.proofs.Math.Path.{◌≡◌, refl, sym, ap}
use Rattle.std.proofs.Common.{◌∙◌, inl, inr, zero-add, suc-add, add-one, drop_of_length-le}
use Rattle.std.specs.Prelude.{Bool, cond, ◌&&◌, ◌⊎◌, eqb, get_or, Ok, Err, Option, Some, None}
use Rattle.std.proofs.Math.Bool.{true, false}
use mathlib.Core.List.{List, [], ◌∷◌, ◌++◌, append_assoc}
use Rattle.std.proofs.Math.Option.{some}
use Rattle.std.proofs.Math.Logic.{⊎_elim}
use Prim.Native.Nat.{ℕ, zero, suc, ◌+◌, ◌*◌, ◌<◌, ◌≤◌}
use Rattle.std.proofs.Math.Decide.{dec_lt}
use native.Mathlib.Omega.{arith}
use Rattle.std.proofs.Math.ListN.{length, drop, get_elem?}
use borrow.Author.Tests.{eqb-true, eq-eqb, ne_eqb}
use Rattle.text.specs.Part.{same, starts_with}
use Rattle.text.specs.Put.{text}
use Rattle.identifiers.specs.Check.{check_of}
use Rattle.identifiers.specs.Check as check
use Rattle.path.specs.declared.Pair.{Pair}
use Rattle.path.specs.declared.Path.{Path}
use Rattle.path.specs.declared.PathView.{PathView}
use Rattle.path.specs.declared.Refusal.{Refusal}
use Rattle.path.specs.declared.Revision.{Revision}
use Rattle.path.specs.Reading.{Reading, Read}
use Rattle.path.specs.Pair.{pair}
use Rattle.text.specs.PartLaws.{and_left, and_right, same-is}
use Rattle.path.specs.Read.{read_path, render_path, render, parts_of, texts_of, key_of, key_by}
use Rattle.path.specs.Text.{shown_of, part_of}
use Rattle.path.specs.BackLaws.{read_reads}
use Rattle.path.specs.Revision.{revision, below}
use Rattle.path.specs.RevisionLaws.{below_trans, below_through, below-not-above, below_self}
use Rattle.path.specs.PlaceLaws.{shown_read}
use Rattle.path.specs.View.{kind_of, carried_of, view_of}
use Rattle.path.specs.ViewLaws.{view-kind, view_first, view-a, view-b}
use Rattle.text.specs.PlaceLaws.{at_some}
use Rattle.text.specs.PlaceLaws.{drop-place}
use Rattle.writers.specs.Texts.{parent_text, consensus_text}
use Rattle.writers.specs.Texts as texts
use Rattle.writers.specs.TextLaws.{client-text}
use Rattle.book_records.specs.Act.{Rec}
use Rattle.book_records.specs.Calls.{is_owner, Exact, Owned}
use Rattle.book_records.specs.SplitLaws.{sorted-at}
use Rattle.book_form.specs.Form.{Form, key_at}
use Rattle.book_form.specs.FormLaws.{Lawful}
use Rattle.book_form.specs.Counted.{stored}
use Rattle.book_form.specs.VersionLaws.{owned-key}
use Rattle.book.specs.Book.{Current, Book, Counts}
use Rattle.book.specs.BookLaws.{lawful, one-book, sizes, key_is}
use Rattle.book.specs.CheckLaws.{exact-at}
use Rattle.book.specs.Find.{Placed}
use Rattle.book.specs.FindLaws.{above_down}
use Rattle.book_oldest.specs.PrefixLaws.{starts-own, starts-below, starts-between}
use Rattle.book_oldest.specs.Oldest.{state_by, state_of, older, own_state, oldest_state, pair_of, oldest_in, Oldest, OldestIs}
use Rattle.book_oldest.specs.Oldest as o

-- ---- one key
pub state-refused : (client k : List ℕ) (r : Reading) (w : Refusal) → r ≡ Err w → r ≡ read_path k → None ≡ state_of client k
unfolding state_of
state-refused client k r w eq er = sym (ap (state_by client k) (sym er ∙ eq))

module _ (client k : List ℕ) (r : Reading) (p : Path) (e : Bool) (eq : r ≡ Read p e) (er : r ≡ read_path k) (v : PathView) (ev : v ≡ view_of p e) where
  told : state_of client k ≡ cond (eqb (kind_of p) 5 && same (shown_of k (carried_of p).first) client) (Some (revision (carried_of p).a (carried_of p).b)) None
  unfolding state_of
  told = ap (state_by client k) (sym er ∙ eq)

  pub state-other : (v.kind ≡ 5 → ⊥) → None ≡ state_of client k
  state-other h = sym (told ∙ rw (ne_eqb (kind_of p) 5 (λ q. h (view-kind v p e ev ∙ q))))

  module _ (h : v.kind ≡ 5) (part : List ℕ) (ep : part ≡ shown_of k v.first) (s : Bool) (es : s ≡ same part client) where
    five : eqb (kind_of p) 5 ≡ true
    five = eq-eqb (kind_of p) 5 (sym (view-kind v p e ev) ∙ h)

    mine : same (shown_of k (carried_of p).first) client ≡ s
    mine = sym (es ∙ ap (λ (l : List ℕ). same l client) (ep ∙ ap (shown_of k) (view_first v p e ev)))

    pub state_elsewhere : s ≡ false → None ≡ state_of client k
    state_elsewhere f = sym (told ∙ rw (five, mine ∙ f))

    pub state-is : s ≡ true → Some (revision v.a v.b) ≡ state_of client k
    state-is f = ap (λ (m : ℕ). Some (revision m v.b)) (view-a v p e ev) ∙ ap (λ (h : ℕ). Some (revision (carried_of p).a h)) (view-b v p e ev) ∙ sym (told ∙ rw (five, mine ∙ f))

-- ---- the older of two
pub older-none : (x : Option Revision) → older x None ≡ x
older-none (Some p) = refl
older-none None = refl

-- the same as the code tells it
pub none_first : (x y : Option Revision) → x ≡ None → y ≡ older x y
none_first x y e = rw e

pub none-second : (x y r : Option Revision) → x ≡ r → y ≡ None → r ≡ older x y
none-second x y r f e = rw (e, f) (sym (older-none r))

module _ (x y : Option Revision) (p q : Revision) (ex : x ≡ Some p) (ey : y ≡ Some q) (t : Bool) (et : t ≡ below q p) where
  pub second-lower : t ≡ true → Some q ≡ older x y
  second-lower f = rw (ex, ey, sym et ∙ f)

  pub second-no-lower : t ≡ false → Some p ≡ older x y
  second-no-lower f = rw (ex, ey, sym et ∙ f)

three : (p q r : Revision) (a : Bool) → below q p ≡ a → (b : Bool) → below r q ≡ b → older (older (Some p) (Some q)) (Some r) ≡ older (Some p) (older (Some q) (Some r))
three p q r true e true f = rw (e, f, below_trans r q p f e)
three p q r true e false f = rw (e, f, e)
three p q r false e true f = rw (e, f)
three p q r false e false f = rw (e, f, e, low (below r p) refl)
  where
    low : (c : Bool) → below r p ≡ c → below r p ≡ false
    low false g = g
    low true g = let h = below_through r p q g e in let z : ◌≡◌ {A = ℕ} 0 1 = cc in absurd (omega arith)

pub older_assoc : (x y z : Option Revision) → older (older x y) z ≡ older x (older y z)
older_assoc None y z = refl
older_assoc (Some p) None z = refl
older_assoc (Some p) (Some q) None = older-none (older (Some p) (Some q))
older_assoc (Some p) (Some q) (Some r) = three p q r (below q p) refl (below r q) refl

-- ---- all keys
-- records that are no states of the owner's client have no influence
pub skip-none : (owner : ℕ) (client : List ℕ) (s : List Rec) (p : ℕ) → ((j : ℕ) (r : Rec) → j < p → get_elem? s j ≡ some r → own_state owner client r.0 ≡ None) → oldest_state owner client s ≡ oldest_state owner client (drop p s)
unfolding oldest_state
skip-none owner client s zero f = refl
skip-none owner client [] (suc p) f = refl
skip-none owner client (r ∷ s) (suc p) f = ap (λ (a : Option Revision). older a (oldest_state owner client s)) (f 0 r (omega arith) refl) ∙ skip-none owner client s p (λ j q h e. f (suc j) q (omega arith) e)

-- a consensus state's rendering begins with its client's parent
begins-parent : (client : List ℕ) (a b : ℕ) → starts_with (parent_text client) (consensus_text client a b []) ≡ true
begins-parent client a b =
    let e : consensus_text client a b [] ≡ parent_text client ++ (47 ∷ texts.revision a b []) = simp append_assoc in
    rw e (starts-own (parent_text client) (47 ∷ texts.revision a b []))

-- so a key that is its own rendering is no state of the client where it does not begin with that
module _ (client k : List ℕ) (e : Exact k) (f : starts_with (parent_text client) k ≡ false) where
  key-by : (p : Path) (x : Bool) → read_path k ≡ Read p x → key_of k ≡ text (render_path k p)
  unfolding key_of
  key-by p x q = ap (key_by k) q

  state-by : (p : Path) (x : Bool) → read_path k ≡ Read p x → state_of client k ≡ cond (eqb (kind_of p) 5 && same (shown_of k (carried_of p).first) client) (Some (revision (carried_of p).a (carried_of p).b)) None
  unfolding state_of
  state-by p x q = ap (state_by client k) q

  no_state : (p : Path) (x : Bool) → read_path k ≡ Read p x → kind_of p ≡ 5 → shown_of k (carried_of p).first ≡ client → ⊥
  unfolding render_path
  no_state p x q five mine =
      let g : text (render_path k p) ≡ text k = sym (key-by p x q) ∙ e in
      let own : render_path k p ≡ k = cc in
      let shown : part_of k (carried_of p).first ≡ client = sym (shown_read k p (read_reads k p x q)).0 ∙ mine in
      let is : render_path k p ≡ consensus_text client (carried_of p).a (carried_of p).b [] =
      ap (λ (n : ℕ). render (parts_of n) (texts_of k (carried_of p))) five
      ∙ client-text (texts_of k (carried_of p)) 5 (omega arith) (omega arith)
      ∙ ap (λ (c : List ℕ). consensus_text c (carried_of p).a (carried_of p).b []) shown in
      let z : true ≡ false = sym (begins-parent client (carried_of p).a (carried_of p).b) ∙ ap (starts_with (parent_text client)) (sym is ∙ own) ∙ f in
      let y : ◌≡◌ {A = ℕ} 0 1 = cc in
      omega arith

  pub state-nowhere : state_of client k ≡ None
  state-nowhere = go (read_path k) refl
    where
      test : (p : Path) (x : Bool) → read_path k ≡ Read p x → (t : Bool) → (eqb (kind_of p) 5 && same (shown_of k (carried_of p).first) client) ≡ t → state_of client k ≡ None
      test p x q true h = absurd (no_state p x q (eqb-true (kind_of p) 5 (and_left (eqb (kind_of p) 5) (same (shown_of k (carried_of p).first) client) h)) (same-is (shown_of k (carried_of p).first) client (and_right (eqb (kind_of p) 5) (same (shown_of k (carried_of p).first) client) h)))
      test p x q false h = state-by p x q ∙ rw h

      go : (r : Reading) → read_path k ≡ r → state_of client k ≡ None
      go (Err w) q = sym (state-refused client k (read_path k) w q refl)
      go (Ok r) q = test r.path r.exact q (eqb (kind_of r.path) 5 && same (shown_of k (carried_of r.path).first) client) refl

-- ---- a key with its owner in front
pub own-there : (owner : ℕ) (client k : List ℕ) → own_state owner client (owner ∷ k) ≡ state_of client k
unfolding own_state
own-there owner client k = rw (eq-eqb owner owner refl)

-- it is no state where it does not begin with the owner and the client's parent
pub own-nowhere : (owner : ℕ) (client k : List ℕ) → Owned k → starts_with (owner ∷ parent_text client) k ≡ false → own_state owner client k ≡ None
unfolding own_state starts_with
own-nowhere owner client [] h f = absurd h
own-nowhere owner client (o ∷ k) h f = go (eqb o owner) f
  where
    go : (t : Bool) → (t && starts_with (parent_text client) k) ≡ false → cond t (state_of client k) None ≡ None
    go true e = state-nowhere client k h.1 e
    go false e = refl

-- the first byte of a key that begins with the owner
pub owner_ahead : (owner : ℕ) (w k : List ℕ) (o : ℕ) → starts_with (owner ∷ w) (o ∷ k) ≡ true → o ≡ owner
unfolding starts_with
owner_ahead owner w k o e = eqb-true o owner (and_left (eqb o owner) (starts_with w k) e)

-- ---- whether a slot's key begins with the owner and a text
module _ (b : List ℕ) (at : ℕ) (hb : at < length b) (owner : ℕ) (w : List ℕ) where
  pub below_other : (get_or b at 0 ≡ owner → ⊥) → false ≡ starts_with (owner ∷ w) (Current.record_of (drop at b)).0
  unfolding starts_with
  below_other n = rw (owned-key b at hb, ne_eqb (get_or b at 0) owner n)

  pub below-same : get_or b at 0 ≡ owner → (r : Bool) → r ≡ starts_with w (stored b (at + 1)) → r ≡ starts_with (owner ∷ w) (Current.record_of (drop at b)).0
  unfolding starts_with
  below-same e r er = er ∙ rw (owned-key b at hb, eq-eqb (get_or b at 0) owner e)

-- ---- the walk
-- what was seen before place i, and what stands from there on
abbrev pub OldestFrom : List ℕ → ℕ → List ℕ → Option Revision → ℕ → Type 0
OldestFrom b owner client best i = (x : Book Current b) → oldest_state owner client x.records ≡ older best (oldest_state owner client (drop i x.records))

drop_elem : (s : List Rec) (i j : ℕ) → get_elem? (drop i s) j ≡ get_elem? s (i + j)
drop_elem s zero j = rw zero-add
drop_elem [] (suc i) j = refl
drop_elem (r ∷ s) (suc i) j = drop_elem s i j ∙ rw suc-add

module _ (b : List ℕ) (n : ℕ) (h : Counts Current b n) (owner : ℕ) (client parent : List ℕ) (ep : parent ≡ parent_text client) where
  count-any : (x : Book Current b) → length x.records ≡ n
  count-any x = ap length (one-book Current lawful b x h.0).2 ∙ h.1

  -- what the owner's states begin with
  abbrev front : List ℕ
  front = owner ∷ parent

  -- a key that does not begin with it is no state
  none-at : (x : Book Current b) (j : ℕ) (r : Rec) → get_elem? x.records j ≡ some r → starts_with front (key_at Current b j) ≡ false → own_state owner client r.0 ≡ None
  none-at x j r e f =
      own-nowhere owner client r.0 (exact-at Current x.records j r x.exact e)
      (ap (λ (w : List ℕ). starts_with (owner ∷ w) r.0) (sym ep) ∙ ap (starts_with front) (sym (key_is Current lawful b x j r e)) ∙ f)

  module _ (p : ℕ) (pl : Placed Current b front n p) where
    pub oldest-start : OldestFrom b owner client None p
    oldest-start x = skip-none owner client x.records p (λ j r l e. none-at x j r e (starts-below front (key_at Current b j) (pl.before j l)))

    module _ (best : Option Revision) (i : ℕ) (inv : OldestFrom b owner client best i) where
      pub oldest-end : n ≤ i → OldestIs Current b owner client best
      unfolding oldest_state
      oldest-end l x =
          let g : length x.records ≤ i = omega (arith, count-any x) in
          sym (inv x ∙ ap (λ (s : List Rec). older best (oldest_state owner client s)) (drop_of_length-le x.records g) ∙ older-none best)

      module _ (l : i < n) (t : Bool) (et : t ≡ starts_with front (key_at Current b i)) where
        -- the key in slot i, where it is the owner's
        own_key : t ≡ true → key_at Current b i ≡ owner ∷ stored b (12 + 322 * i + 1)
        own_key f =
            let at : ℕ = 12 + 322 * i in
            let k = owned-key b at (omega (arith, (sizes Current lawful b n h).used)) in
            k ∙ ap (λ (o : ℕ). o ∷ stored b (at + 1)) (owner_ahead owner parent (stored b (at + 1)) (get_or b at 0) (ap (starts_with front) (sym k) ∙ sym et ∙ f))

        pub oldest-next : t ≡ true → (key : List ℕ) → key ≡ stored b (12 + 322 * i + 1) → (a c : Option Revision) → a ≡ state_of client key → c ≡ older best a → OldestFrom b owner client c (i + 1)
        unfolding oldest_state
        oldest-next f key ek a c ea ec x =
            let s = x.records in
            let r = at_some s i (omega (arith, count-any x)) in
            let there : owner ∷ key ≡ r.0.0 = ap (λ (q : List ℕ). owner ∷ q) ek ∙ sym (own_key f) ∙ key_is Current lawful b x i r.0 r.1 in
            let k : a ≡ own_state owner client r.0.0 = ea ∙ sym (own-there owner client key) ∙ ap (own_state owner client) there in
            inv x
            ∙ ap (λ (q : List Rec). older best (oldest_state owner client q)) (drop-place s i r.0 r.1)
            ∙ sym (older_assoc best (own_state owner client r.0.0) (oldest_state owner client (drop (suc i) s)))
            ∙ ap (λ (z : Option Revision). older z (oldest_state owner client (drop (suc i) s))) (ap (older best) (sym k) ∙ sym ec)
            ∙ ap (λ (m : ℕ). older c (oldest_state owner client (drop m s))) (sym (add-one i))

        later : p ≤ i → t ≡ false → (x : Book Current b) (j : ℕ) (r : Rec) → i ≤ j → get_elem? x.records j ≡ some r → starts_with front (key_at Current b j) ≡ false
        later g f x j r o e = go (dec_lt i j) (starts_with front (key_at Current b j)) refl
          where
            here : starts_with front (key_at Current b i) ≡ false
            here = sym et ∙ f

            go : Dec (i < j) → (v : Bool) → starts_with front (key_at Current b j) ≡ v → starts_with front (key_at Current b j) ≡ false
            go (no u) v q = let s : j ≡ i = omega arith in rw s here
            go (yes u) false q = q
            go (yes u) true q =
                let a = at_some x.records i (omega (arith, count-any x)) in
                let ei : key_at Current b i ≡ a.0.0 = key_is Current lawful b x i a.0 a.1 in
                let ej : key_at Current b j ≡ r.0 = key_is Current lawful b x j r e in
                let w : starts_with front (key_at Current b i) ≡ true =
                starts-between front (key_at Current b i) (key_at Current b j) (λ v. pl.next (omega arith) (above_down Current lawful b front n h i p g l v)) (rw (ei, ej) (sorted-at x.records i j a.0 r x.sorted u a.1 e)) q in
                let z : true ≡ false = sym w ∙ here in
                cc

        pub oldest-stop : p ≤ i → t ≡ false → OldestIs Current b owner client best
        unfolding oldest_state
        oldest-stop g f x =
            let s = drop i x.records in
            let o : length s ≤ length s = omega arith in
            let none : oldest_state owner client s ≡ None = skip-none owner client s (length s) (λ j r u e. none-at x (i + j) r (sym (drop_elem x.records i j) ∙ e) (later g f x (i + j) r (omega arith) (sym (drop_elem x.records i j) ∙ e))) ∙ ap (oldest_state owner client) (drop_of_length-le s o) in
            sym (inv x ∙ ap (older best) none ∙ older-none best)

-- ---- what is answered is a state, and none is older
older-nothing : (x y : Option Revision) → older x y ≡ None → (x ≡ None) × (y ≡ None)
older-nothing None y e = (refl, e)
older-nothing (Some p) None e = absurd (let z : ◌≡◌ {A = ℕ} 0 1 = cc in let w : ⊥ = omega arith in w)
older-nothing (Some p) (Some q) e = go (below q p) e
  where
    go : (t : Bool) → cond t (Some q) (Some p) ≡ None → (Some p ≡ None) × (Some q ≡ None)
    go true f = absurd (let z : ◌≡◌ {A = ℕ} 0 1 = cc in let w : ⊥ = omega arith in w)
    go false f = absurd (let z : ◌≡◌ {A = ℕ} 0 1 = cc in let w : ⊥ = omega arith in w)

older-one : (x y : Option Revision) (r : Revision) → older x y ≡ Some r → (x ≡ Some r) ⊎ (y ≡ Some r)
older-one None y r e = inr e
older-one (Some p) None r e = inl e
older-one (Some p) (Some q) r e = go (below q p) e
  where
    go : (t : Bool) → cond t (Some q) (Some p) ≡ Some r → (Some p ≡ Some r) ⊎ (Some q ≡ Some r)
    go true f = inr f
    go false f = inl f

-- neither of the two is below the older one
low_first : (p : Revision) (y : Option Revision) (r : Revision) → older (Some p) y ≡ Some r → below p r ≡ false
low_first p None r e = let q : p ≡ r = cc in rw (← q) (below_self p)
low_first p (Some q) r e = go (below q p) refl e
  where
    go : (t : Bool) → below q p ≡ t → cond t (Some q) (Some p) ≡ Some r → below p r ≡ false
    go true b f = let s : q ≡ r = cc in rw (← s) (below-not-above q p b)
    go false b f = let s : p ≡ r = cc in rw (← s) (below_self p)

low_second : (x : Option Revision) (q r : Revision) → older x (Some q) ≡ Some r → below q r ≡ false
low_second None q r e = let s : q ≡ r = cc in rw (← s) (below_self q)
low_second (Some p) q r e = go (below q p) refl e
  where
    go : (t : Bool) → below q p ≡ t → cond t (Some q) (Some p) ≡ Some r → below q r ≡ false
    go true b f = let s : q ≡ r = cc in rw (← s) (below_self q)
    go false b f = let s : p ≡ r = cc in rw (← s) b

module _ (owner : ℕ) (client : List ℕ) where
  pub oldest-nothing : (s : List Rec) → oldest_state owner client s ≡ None → (j : ℕ) (r : Rec) → get_elem? s j ≡ some r → own_state owner client r.0 ≡ None
  unfolding oldest_state
  oldest-nothing [] e j r f = absurd (let z : ◌≡◌ {A = ℕ} 0 1 = cc in let w : ⊥ = omega arith in w)
  oldest-nothing (q ∷ s) e zero r f = let p : q ≡ r = cc in rw (← p) (older-nothing (own_state owner client q.0) (oldest_state owner client s) e).0
  oldest-nothing (q ∷ s) e (suc j) r f = oldest-nothing s (older-nothing (own_state owner client q.0) (oldest_state owner client s) e).1 j r f

  -- the answer is the revision of a record
  pub oldest-held : (s : List Rec) (p : Revision) → oldest_state owner client s ≡ Some p → (j : ℕ) × (r : Rec) × (get_elem? s j ≡ some r) × (own_state owner client r.0 ≡ Some p)
  unfolding oldest_state
  oldest-held [] p e = absurd (let z : ◌≡◌ {A = ℕ} 0 1 = cc in let w : ⊥ = omega arith in w)
  oldest-held (q ∷ s) p e = ⊎_elim (λ f. (0, q, refl, f)) (λ f. let t = oldest-held s p f in (suc t.0, t.1, t.2, t.3)) (older-one (own_state owner client q.0) (oldest_state owner client s) p e)

  -- and no record has one below it
  pub oldest-least : (s : List Rec) (p : Revision) → oldest_state owner client s ≡ Some p → (j : ℕ) (r : Rec) (q : Revision) → get_elem? s j ≡ some r → own_state owner client r.0 ≡ Some q → below q p ≡ false
  unfolding oldest_state
  oldest-least [] p e j r q f g = let z : ◌≡◌ {A = ℕ} 0 1 = cc in absurd (omega arith)
  oldest-least (t ∷ s) p e zero r q f g =
      let same : t ≡ r = cc in
      let a : own_state owner client t.0 ≡ Some q = ap (λ (u : Rec). own_state owner client u.0) same ∙ g in
      low_first q (oldest_state owner client s) p (ap (λ (u : Option Revision). older u (oldest_state owner client s)) (sym a) ∙ e)
  oldest-least (t ∷ s) p e (suc j) r q f g = go (oldest_state owner client s) refl (oldest-least s)
    where
      go : (o : Option Revision) → oldest_state owner client s ≡ o → ((o : Revision) → oldest_state owner client s ≡ Some o → (j : ℕ) (r : Rec) (q : Revision) → get_elem? s j ≡ some r → own_state owner client r.0 ≡ Some q → below q o ≡ false) → below q p ≡ false
      go None e₁ ih = let c : own_state owner client r.0 ≡ None = oldest-nothing s e₁ j r f in let z : ◌≡◌ {A = ℕ} 0 1 = cc in absurd (omega arith)
      go (Some o) e₁ ih = above (below q p) refl
        where
          above : (c : Bool) → below q p ≡ c → c ≡ false
          above false h = refl
          above true h =
              let k = below_through q p o h (low_second (own_state owner client t.0) o p (ap (older (own_state owner client t.0)) (sym e₁) ∙ e)) in
              let l = ih o e₁ j r q f g in
              let z : ◌≡◌ {A = ℕ} 0 1 = cc in
              absurd (omega arith)

-- ---- the call
module _ (F : Form) (b : List ℕ) (owner : ℕ) (client : List ℕ) (n : ℕ) (h : Counts F b n) (t : Bool) (et : t ≡ is_owner owner) where
  pub oldest_nobody : t ≡ false → Oldest F b owner client (pair 23 0 0)
  unfolding oldest_in
  oldest_nobody g = o.Oldest.this_book h.0 (rw (sym et ∙ g))

  module _ (g : t ≡ true) (f : ℕ) (ef : f ≡ check_of check.client client) where
    pub oldest-refused : (f ≡ 0 → ⊥) → Oldest F b owner client (pair f 0 0)
    unfolding oldest_in
    oldest-refused z = o.Oldest.this_book h.0 (rw (sym et ∙ g, ne_eqb (check_of check.client client) 0 (λ q. z (ef ∙ q))) (ap (λ (m : ℕ). pair m 0 0) ef))

    oldest-found : f ≡ 0 → (a : Option Revision) → OldestIs F b owner client a → Oldest F b owner client (pair_of a)
    unfolding oldest_in
    oldest-found z a e = o.Oldest.this_book h.0 (rw (sym et ∙ g, eq-eqb (check_of check.client client) 0 (sym ef ∙ z)) (ap pair_of (e h.0)))

    pub oldest-by : f ≡ 0 → (a : Option Revision) → OldestIs F b owner client a → (q : Option Revision) → a ≡ q → Oldest F b owner client (pair_of q)
    oldest-by z a e q w = rw w at (oldest-found z a e)

pub one-oldest : (F : Form) → Lawful F → (b : List ℕ) (owner : ℕ) (client : List ℕ) (r q : Pair) → Oldest F b owner client r → Oldest F b owner client q → r ≡ q
one-oldest F L b owner client r q (o.Oldest.no_book n e) (o.Oldest.no_book m f) = e ∙ sym f
one-oldest F L b owner client r q (o.Oldest.no_book n e) (o.Oldest.this_book y f) = absurd (n y)
one-oldest F L b owner client r q (o.Oldest.this_book x e) (o.Oldest.no_book m f) = absurd (m x)
one-oldest F L b owner client r q (o.Oldest.this_book x e) (o.Oldest.this_book y f) = e ∙ ap (oldest_in owner client) (one-book F L b x y).2 ∙ sym f
