-- Calls on a book, `oldest` calls and clearings as a machine over the book's records.
-- Assumes nothing.
use Rattle.std.specs.Prelude.{ℕ, Bool, eqb, None}
use Rattle.std.proofs.Math.Path.{◌≡◌, refl, ap}
use Rattle.std.proofs.Common.{sym, ◌∙◌, arith, ne_eqb, eqb-true}
use Rattle.std.proofs.Math.Bool.{true, false, cond}
use mathlib.Core.List.{List, [], ◌∷◌}
use Rattle.std.proofs.Math.Option.{none}
use Rattle.std.proofs.lemmas.Bool.{eqb-false}
use Rattle.text.specs.OrderLaws.{cmp-eq, Keys, key-lt, key-eq, key_gt, keys}
use Rattle.path.specs.declared.Pair.{Pair}
use Rattle.runs.specs.Runs.{Runs, stop, next}
use Rattle.runs.specs.MachineLaws.{answers, final}
use Rattle.book_records.specs.Records.{Key, get, Sorted}
use Rattle.book_records.specs.RecordLaws.{records_ext}
use Rattle.book_records.specs.Act.{Rec, Seen, act}
use Rattle.book_records.specs.Act as act
use Rattle.book_records.specs.OwnerLaws.{only, get-only, sorted-only}
use Rattle.book_records.specs.Calls.{Call, owner_of, meaning}
use Rattle.book.specs.Book.{Current, bytes_with, full_in}
use Rattle.book.specs.BookLaws.{lawful, one-book}
use Rattle.book_oldest.specs.Oldest.{own_state, older, oldest_state, oldest_in, Oldest}
use Rattle.book_oldest.specs.Oldest as by-records
use Rattle.book_clear.specs.declared.Count.{Count}
use Rattle.book_clear.specs.declared.role.Role.TheVariants.{Other}
use Rattle.book_clear.specs.Clear.{own_role, clear_in, Cleared}
use Rattle.book_clear.specs.Clear as by-clear
use Rattle.book_clear.specs.RankLaws.{clash}
use Rattle.demands.specs.RoleLaws.{elsewhere}
use Rattle.demands.specs.ClearBookLaws.{good-clear}
use Rattle.demands.specs.Held.{ProperBook}
use Rattle.demands.specs.Permitted.{Permitted}
use Rattle.demands.specs.MachineLaws.{Good, book_of, machine, sim}
use Rattle.demands.specs.Isolation.{Event, call, oldest, clear, Reply, seen, pair, went, Happens, called, found, emptied}

-- ---- the oldest state of an owner who is kept, among the records of those who are
module _ (keep : ℕ → Bool) (o : ℕ) (client : List ℕ) (h : keep o ≡ true) where
  none_of : (k : Key) → keep (owner_of k) ≡ false → own_state o client k ≡ None
  unfolding own_state
  none_of k e = rw (ne_eqb (owner_of k) o (λ q. let z : ◌≡◌ {A = ℕ} 0 1 = ap (λ (v : Bool). cond v 0 1) (sym h ∙ ap keep (sym q) ∙ e) in omega arith))

  state-only : (s : List Rec) → oldest_state o client (only owner_of keep s) ≡ oldest_state o client s
  unfolding only oldest_state
  state-only [] = refl
  state-only (r ∷ s) = go (keep (owner_of r.0)) refl (state-only s)
    where
      go : (v : Bool) → keep (owner_of r.0) ≡ v → oldest_state o client (only owner_of keep s) ≡ oldest_state o client s
          → oldest_state o client (cond v (r ∷ only owner_of keep s) (only owner_of keep s)) ≡ older (own_state o client r.0) (oldest_state o client s)
      go true e ih = ap (older (own_state o client r.0)) ih
      go false e ih = ih ∙ rw (none_of r.0 e)

  pub oldest-only : (s : List Rec) → oldest_in o client (only owner_of keep s) ≡ oldest_in o client s
  unfolding oldest_in
  oldest-only s = rw (state-only s)

-- ---- records of those who are kept, by what their keys hold
module _ (keep : ℕ → Bool) where
  only_out : (s : List Rec) (k : Key) → keep (owner_of k) ≡ false → get (only owner_of keep s) k ≡ none
  unfolding only get
  only_out [] k h = refl
  only_out (r ∷ s) k h = go (keep (owner_of r.0)) refl (keys k r.0) (only_out s k h)
    where
      go : (v : Bool) → keep (owner_of r.0) ≡ v → Keys k r.0 → get (only owner_of keep s) k ≡ none → get (cond v (r ∷ only owner_of keep s) (only owner_of keep s)) k ≡ none
      go true e (key-lt w) ih = rw w ih
      go true e (key-eq w) ih = clash (keep (owner_of k)) (ap (λ (j : Key). keep (owner_of j)) (cmp-eq k r.0 w) ∙ e) h
      go true e (key_gt w) ih = rw w ih
      go false e w ih = ih

  pub only_same : (s t : List Rec) → Sorted s → Sorted t → ((k : Key) → keep (owner_of k) ≡ true → get s k ≡ get t k) → only owner_of keep s ≡ only owner_of keep t
  only_same s t a b h = records_ext (only owner_of keep s) (only owner_of keep t) (sorted-only owner_of keep s a) (sorted-only owner_of keep t b) (λ k. go k (keep (owner_of k)) refl)
    where
      go : (k : Key) (v : Bool) → keep (owner_of k) ≡ v → get (only owner_of keep s) k ≡ get (only owner_of keep t) k
      go k true e = get-only owner_of keep s k e ∙ h k e ∙ sym (get-only owner_of keep t k e)
      go k false e = only_out s k e ∙ sym (only_out t k e)

-- a key that is something to an owner's client is that owner's
pub own_of : (o : ℕ) (client : List ℕ) (k : Key) → (own_role o client k ≡ Other → ⊥) → owner_of k ≡ o
own_of o client k n = go (eqb (owner_of k) o) refl
  where
    go : (v : Bool) → eqb (owner_of k) o ≡ v → owner_of k ≡ o
    go true e = eqb-true (owner_of k) o e
    go false e = absurd (n (elsewhere o client k (eqb-false (owner_of k) o e)))

-- ---- the records of a book, and what an event does to them
module _ {b : List ℕ} (x : ProperBook b) where
  abbrev pub step : List Rec → Event → Reply × List Rec
  step s (call c) = (seen (act.seen (act (full_in x) (meaning c) s).0), (act (full_in x) (meaning c) s).1)
  step s (oldest o client) = (pair (oldest_in o client s), s)
  step s (clear o client keep) = (went (clear_in o client keep s).0, (clear_in o client keep s).1)

  pub good : (s : List Rec) (e : Event) → Good x s → Good x (step s e).1
  good s (call c) g = (machine x).good s c g
  good s (oldest o client) g = g
  good s (clear o client keep) g = good-clear x o client keep s g

-- `oldest` on the bytes of good records
finds_as : {b : List ℕ} (x : ProperBook b) (s : List Rec) (o : ℕ) (client : List ℕ) (p : Pair) → Good x s → Oldest Current (bytes_with x s) o client p → p ≡ oldest_in o client s
unfolding book_of
finds_as x s o client p g (by-records.Oldest.no_book n e) = absurd (n (book_of x (bytes_with x s) s g refl))
finds_as x s o client p g (by-records.Oldest.this_book y e) = e ∙ ap (oldest_in o client) (one-book Current lawful (bytes_with x s) y (book_of x (bytes_with x s) s g refl)).2

-- and a clearing
clears_as : {b : List ℕ} (x : ProperBook b) (s : List Rec) (o : ℕ) (client : List ℕ) (keep : ℕ) (n : Count) (b₁ : List ℕ) → Good x s → Cleared Current (bytes_with x s) o client keep n b₁
    → (n ≡ (clear_in o client keep s).0) × (b₁ ≡ bytes_with x (clear_in o client keep s).1)
unfolding book_of
clears_as x s o client keep n b₁ g (by-clear.Cleared.no_book m e f) = absurd (m (book_of x (bytes_with x s) s g refl))
clears_as x s o client keep n b₁ g (by-clear.Cleared.this_book y e f) =
    let w = one-book Current lawful (bytes_with x s) y (book_of x (bytes_with x s) s g refl) in
    (e ∙ ap (λ (t : List Rec). (clear_in o client keep t).0) w.2, f ∙ rw (w.0, w.1, w.2))

-- ---- what the functions do on the bytes of good records
module _
    (Does : List ℕ → Call → Seen → List ℕ → Type 0) (permits : (b : List ℕ) (c : Call) (a : Seen) (b₁ : List ℕ) → Does b c a b₁ → Permitted b c a b₁)
    (Finds : List ℕ → ℕ → List ℕ → Pair → Type 0) (finds : (b : List ℕ) (o : ℕ) (client : List ℕ) (p : Pair) → Finds b o client p → Oldest Current b o client p)
    (Clears : List ℕ → ℕ → List ℕ → ℕ → Count → List ℕ → Type 0) (clears : (b : List ℕ) (o : ℕ) (client : List ℕ) (keep : ℕ) (n : Count) (b₁ : List ℕ) → Clears b o client keep n b₁ → Cleared Current b o client keep n b₁)
    {b : List ℕ} (x : ProperBook b) where
  pub does : (s : List Rec) (e : Event) (a : Reply) (b₁ : List ℕ) → Good x s → Happens Does Finds Clears (bytes_with x s) e a b₁ → (a ≡ (step x s e).0) × (b₁ ≡ bytes_with x (step x s e).1)
  does s _ _ b₁ g (called {c = c} {a = a} d) =
      let w = sim x s c a b₁ g (permits (bytes_with x s) c a b₁ d) in
      (ap seen w.0, w.1)
  does s _ _ _ g (found {o = p} {client = client} {p = q} d) = (ap pair (finds_as x s p client q g (finds (bytes_with x s) p client q d)), refl)
  does s _ _ b₁ g (emptied {o = p} {client = client} {keep = keep} {n = n} d) =
      let w = clears_as x s p client keep n b₁ g (clears (bytes_with x s) p client keep n b₁ d) in
      (ap went w.0, w.1)

  -- and so for a list
  pub does-all : {b₁ b₂ : List ℕ} {es : List Event} {rs : List Reply} → Runs (Happens Does Finds Clears) b₁ es rs b₂ → (s : List Rec) → Good x s → b₁ ≡ bytes_with x s
      → (rs ≡ answers (step x) s es) × (b₂ ≡ bytes_with x (final (step x) s es))
  unfolding answers final
  does-all stop s g e = (refl, e)
  does-all (next {b₁ = b₁} {c = c} {a = a} d r) s g e =
      let w : (a ≡ (step x s c).0) × (b₁ ≡ bytes_with x (step x s c).1) = does s c a b₁ g (rw e at d) in
      let h = does-all r (step x s c).1 (good x s c g) w.1 in
      ((λ i. w.0 i ∷ h.0 i), h.1)
