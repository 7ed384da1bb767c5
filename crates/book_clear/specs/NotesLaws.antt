-- Laws of what is noted of the slots.
-- Assumes nothing.
use Rattle.std.specs.Prelude.{◌≡◌, refl, Bool, true, false, ◌&&◌, List, [], ◌∷◌, ◌++◌, ℕ, zero, suc, ◌+◌, ◌*◌, ◌≤◌, ◌<◌, eqb, length, get_or, set, replicate}
use Rattle.std.proofs.Common.{sym, ◌∙◌, arith, get_or-set_same, get_or-set_other, eqb-true}
use Rattle.std.proofs.Math.Path.{ap}
use Rattle.std.proofs.Math.Decide.{dec_lt}
use Rattle.text.specs.Part.{starts_with}
use Rattle.text.specs.PartLaws.{and_left, and_right}
use Rattle.text.specs.PlaceLaws.{at_some, at_lt}
use Rattle.identifiers.specs.Check.{check_of}
use Rattle.identifiers.specs.Check as check
use Rattle.writers.specs.Texts.{parent_text}
use Rattle.book_records.specs.Calls.{Exact, Owned}
use Rattle.book_form.specs.Form.{key_at}
use Rattle.book_form.specs.VersionLaws.{owned-key}
use Rattle.book.specs.Book.{Current, Counts}
use Rattle.book.specs.BookLaws.{lawful, one-book, sizes, key_is}
use Rattle.book.specs.CheckLaws.{exact-at}
use Rattle.book.specs.Find.{Placed}
use Rattle.book.specs.FindLaws.{above_down}
use Rattle.book_oldest.specs.PrefixLaws.{starts-below}
use Rattle.book_clear.specs.declared.role.Role.{Role}
use Rattle.book_clear.specs.declared.role.Role.TheVariants.{Other}
use Rattle.book_clear.specs.Clear.{role_of, own_role}
use Rattle.book_clear.specs.Notes.{stem, note_at, Blank, Stretched, stored_at, Own, NotedFrom, Noted}
use Rattle.book_clear.specs.StemLaws.{stem-before, stem-between}
use Rattle.book_clear.specs.RoleLaws.{own-there, own-nowhere}

module _ (b : List ℕ) (n : ℕ) (h : Counts Current b n) (owner : ℕ) (client : List ℕ) (from stop : ℕ) where
  -- ---- where the keys stand
  pub stretched : Placed Current b (owner ∷ stem client) n from → Placed Current b (owner ∷ (parent_text client ++ (48 ∷ []))) n stop → Stretched b owner client n from stop
  stretched pf ps =
      record {
        most = ps.within;
        before = λ j l. starts-below (owner ∷ stem client) (key_at Current b j) (pf.before j l);
        inside = λ j l k. stem-between 47 48 refl (owner ∷ parent_text client) (key_at Current b j) (λ g. pf.next (omega (arith, ps.within)) (above_down Current lawful b (owner ∷ stem client) n h j from l (omega (arith, ps.within)) g)) (ps.before j k);
        behind = λ j l k. last j l k (starts_with (owner ∷ stem client) (key_at Current b j)) refl;
      }
    where
      last : (j : ℕ) → stop ≤ j → j < n → (t : Bool) → starts_with (owner ∷ stem client) (key_at Current b j) ≡ t → t ≡ false
      last j l k false e = refl
      last j l k true e = absurd (ps.next (omega arith) (above_down Current lawful b (owner ∷ (parent_text client ++ (48 ∷ []))) n h j stop l k (stem-before 47 48 refl (owner ∷ parent_text client) (key_at Current b j) e)))

  module _ (S : Stretched b owner client n from stop) where
    -- ---- the keys there are the owner's
    module _ (j : ℕ) (l : from ≤ j) (k : j < stop) where
      key-there : key_at Current b j ≡ get_or b (12 + 322 * j) 0 ∷ stored_at b j
      key-there = owned-key b (12 + 322 * j) (omega (arith, (sizes Current lawful b n h).used, S.most))

      tested : (eqb (get_or b (12 + 322 * j) 0) owner && starts_with (stem client) (stored_at b j)) ≡ true
      unfolding starts_with
      tested = ap (starts_with (owner ∷ stem client)) (sym key-there) ∙ S.inside j l k

      own_key : key_at Current b j ≡ owner ∷ stored_at b j
      own_key = key-there ∙ ap (λ (o : ℕ). o ∷ stored_at b j) (eqb-true (get_or b (12 + 322 * j) 0) owner (and_left (eqb (get_or b (12 + 322 * j) 0) owner) (starts_with (stem client) (stored_at b j)) tested))

      begins-there : starts_with (stem client) (stored_at b j) ≡ true
      begins-there = and_right (eqb (get_or b (12 + 322 * j) 0) owner) (starts_with (stem client) (stored_at b j)) tested

      exact-there : Exact (stored_at b j)
      exact-there =
          let x = h.0 in
          let r = at_some x.records j (omega (arith, h.1, S.most)) in
          let o : Owned r.0.0 = exact-at Current x.records j r.0 x.exact r.1 in
          let e : r.0.0 ≡ owner ∷ stored_at b j = sym (key_is Current lawful b x j r.0 r.1) ∙ own_key in
          let o₁ : Owned (owner ∷ stored_at b j) = rw e at o in
          o₁.1

    pub own-slots : check_of check.client client ≡ 0 → Own b client from stop
    own-slots v = record { valid = v; few = omega (arith, (sizes Current lawful b n h).most, S.most); room = omega (arith, (sizes Current lawful b n h).used, S.most); exact = exact-there; begins = begins-there }

    -- ---- so what is noted there is what each record is
    pub noted : (rs : List Role) → NotedFrom b client from stop rs → Noted b owner client rs
    noted rs N x j r e = go (dec_lt j from) (dec_lt j stop)
      where
        in-book : j < n
        in-book = omega (arith, at_lt x.records j r e, ap length (one-book Current lawful b x h.0).2, h.1)

        key : key_at Current b j ≡ r.0
        key = key_is Current lawful b x j r e

        none : starts_with (owner ∷ stem client) (key_at Current b j) ≡ false → note_at rs j ≡ Other → own_role owner client r.0 ≡ note_at rs j
        none s z = own-nowhere owner client r.0 (exact-at Current x.records j r x.exact e) (ap (starts_with (owner ∷ stem client)) (sym key) ∙ s) ∙ sym z

        go : Dec (j < from) → Dec (j < stop) → own_role owner client r.0 ≡ note_at rs j
        go (yes u) v = none (S.before j u) (N.before j u)
        go (no u) (no v) = none (S.behind j (omega arith) in-book) (N.behind j (omega arith))
        go (no u) (yes v) = ap (own_role owner client) (sym key ∙ own_key j (omega arith) v) ∙ own-there owner client (stored_at b j) ∙ sym (N.inside j (omega arith) v)

-- ---- the noting
pub blank : (n : ℕ) → Blank (replicate n Other)
blank zero j = refl
blank (suc n) zero = refl
blank (suc n) (suc j) = blank n j

pub note-start : (b client : List ℕ) (from : ℕ) (rs : List Role) → Blank rs → NotedFrom b client from from rs
note-start b client from rs z = record { inside = λ j l k. absurd (let y : ⊥ = omega arith in y); before = λ j l. z j; behind = λ j l. z j }

module _ (b client : List ℕ) (from i : ℕ) (rs : List Role) (N : NotedFrom b client from i rs) (l : from ≤ i) (room : i < length rs) (r : Role) (role : r ≡ role_of client (stored_at b i)) (rs' : List Role) (er : rs' ≡ set rs i r) where
  kept : (j : ℕ) → (j ≡ i → ⊥) → note_at rs' j ≡ note_at rs j
  kept j o = ap (λ (z : List Role). note_at z j) er ∙ get_or-set_other rs i j r Other o

  inner : (j : ℕ) → from ≤ j → j < suc i → note_at rs' j ≡ role_of client (stored_at b j)
  inner j lj hj = go (dec_lt j i)
    where
      go : Dec (j < i) → note_at rs' j ≡ role_of client (stored_at b j)
      go (yes u) = kept j (λ e. let z : ⊥ = omega arith in z) ∙ N.inside j lj u
      go (no u) =
          let e : j ≡ i = omega arith in
          ap (note_at rs') e ∙ ap (λ (z : List Role). note_at z i) er ∙ get_or-set_same rs i r Other room ∙ role ∙ ap (λ (m : ℕ). role_of client (stored_at b m)) (sym e)

  noted_one : NotedFrom b client from (suc i) rs'
  noted_one =
      record {
        inside = inner;
        before = λ j u. kept j (λ e. let z : ⊥ = omega arith in z) ∙ N.before j u;
        behind = λ j u. kept j (λ e. let z : ⊥ = omega arith in z) ∙ N.behind j (omega arith);
      }

  pub note-next : (i' : ℕ) → i' ≡ i + 1 → NotedFrom b client from i' rs'
  note-next i' e = let f : i' ≡ suc i = omega arith in rw f noted_one

-- the noting ends where no slot is left
pub note-end : (b client : List ℕ) (from i stop : ℕ) (rs : List Role) → NotedFrom b client from i rs → (from ≤ stop → i ≡ stop) → (stop < from → i ≡ from) → NotedFrom b client from stop rs
note-end b client from i stop rs N e f = go (dec_lt stop from)
  where
    go : Dec (stop < from) → NotedFrom b client from stop rs
    go (no u) = rw (← e (omega arith)) N
    go (yes u) = record { inside = λ j l k. absurd (let y : ⊥ = omega arith in y); before = N.before; behind = λ j l. all (f u) j (dec_lt j from) }
      where
        all : i ≡ from → (j : ℕ) → Dec (j < from) → note_at rs j ≡ Other
        all q j (yes v) = N.before j v
        all q j (no v) = N.behind j (omega arith)
