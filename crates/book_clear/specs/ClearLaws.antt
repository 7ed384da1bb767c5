-- Laws of clearing: which states stay, what goes with them, and what it goes by.
-- Assumes nothing.
use Rattle.std.proofs.Math.Path.{◌≡◌, refl, ap}
use Rattle.std.proofs.Common.{sym, ◌∙◌}
use Rattle.std.specs.Prelude.{Bool, ◌&&◌, leb}
use Rattle.std.proofs.Math.Bool.{true, false, cond, not}
use mathlib.Core.List.{List, [], ◌∷◌}
use Rattle.std.proofs.Math.Option.{Option, none, some}
use Prim.Native.Nat.{ℕ, zero, suc, ◌+◌, ◌<◌, ◌≤◌}
use Rattle.std.proofs.Math.Decide.{dec_lt}
use native.Mathlib.Omega.{arith}
use Rattle.std.proofs.Math.Dec.{eqb, ltb}
use Rattle.std.proofs.Math.ListN.{length, get_elem?}
use borrow.Author.Tests.{leb-true, leb-false, le-leb, lt-leb, lt-ltb, le-ltb, eqb-true, eqb-false, eq-eqb, ne_eqb}
use Rattle.text.specs.PartLaws.{and_left, and_right}
use Rattle.text.specs.OrderLaws.{before-not-same}
use Rattle.identifiers.specs.Check.{check_of}
use Rattle.identifiers.specs.Check as check
use Rattle.path.specs.declared.Revision.{Revision}
use Rattle.path.specs.Revision.{below}
use Rattle.runs.specs.Total.{total}
use Rattle.book_records.specs.Records.{Key, get, Sorted}
use Rattle.book_records.specs.RecordLaws.{records_ext}
use Rattle.book_records.specs.SplitLaws.{after-at}
use Rattle.book_records.specs.Act.{Rec, count_by}
use Rattle.book_records.specs.Calls.{is_owner, owner_of}
use Rattle.book_form.specs.Form.{Form}
use Rattle.book_form.specs.FormLaws.{Lawful}
use Rattle.book.specs.Book.{bytes_with}
use Rattle.book.specs.BookLaws.{one-book}
use Rattle.book_clear.specs.declared.role.Role.{Role}
use Rattle.book_clear.specs.declared.role.Role.TheVariants.{State, Beside, Other}
use Rattle.book_clear.specs.declared.Count.{Count}
use Rattle.book_clear.specs.Clear.{own_role, state_that, states_that, least, goes_with, goes_at, goes_as, goes, cleared, gone, count, clear_in, Cleared}
use Rattle.book_clear.specs.Clear as clear
use Rattle.book_clear.specs.LeftLaws.{total-same, total_up, total_parted, total_left, total_kept, length_parted, none_left, without-same, left, get_left, sorted-left, count_left}
use Rattle.book_clear.specs.RankLaws.{clash, least_first, least-second, tally, rank, Distinct, rank_down, ranked}

-- ---- roles are different
pub no-state_beside : {A : Type 0} {p q : Revision} → State p ≡ Beside q → A
no-state_beside e = let z : ◌≡◌ {A = ℕ} 0 1 = cc in absurd (omega arith)

pub no-state-other : {A : Type 0} {p : Revision} → State p ≡ Other → A
no-state-other e = let z : ◌≡◌ {A = ℕ} 0 1 = cc in absurd (omega arith)

pub no_beside-other : {A : Type 0} {p : Revision} → Beside p ≡ Other → A
no_beside-other e = let z : ◌≡◌ {A = ℕ} 0 1 = cc in absurd (omega arith)

-- ---- by the test of the formula
module _ (keep n g : ℕ) where
  goes_when : 1 ≤ n → least keep n ≤ g → goes_with keep n g ≡ true
  goes_when h k = rw (le-leb 1 n h) (le-leb (least keep n) g k)

  goes_one : goes_with keep n g ≡ true → 1 ≤ n
  goes_one e = leb-true 1 n (and_left (leb 1 n) (leb (least keep n) g) e)

  goes_enough : goes_with keep n g ≡ true → least keep n ≤ g
  goes_enough e = leb-true (least keep n) g (and_right (leb 1 n) (leb (least keep n) g) e)

  stays-few : 1 ≤ n → goes_with keep n g ≡ false → g < least keep n
  stays-few h e = leb-false (least keep n) g (sym (ap (λ (v : Bool). v && leb (least keep n) g) (le-leb 1 n h)) ∙ e)

  stays-test : 1 ≤ n → not (goes_with keep n g) ≡ ltb g (least keep n)
  stays-test h = go (dec_lt g (least keep n))
    where
      go : Dec (g < least keep n) → not (goes_with keep n g) ≡ ltb g (least keep n)
      go (yes l) = rw (le-leb 1 n h, lt-leb (least keep n) g l) (sym (lt-ltb g (least keep n) l))
      go (no l) = rw (le-leb 1 n h, le-leb (least keep n) g (omega arith)) (sym (le-ltb g (least keep n) (omega arith)))

module _ (owner : ℕ) (client : List ℕ) where
  abbrev role : Rec → Role
  role r = own_role owner client r.0

  -- ---- the revisions of the states
  abbrev pub adds : Role → List Revision → List Revision
  adds (State p) l = p ∷ l
  adds (Beside p) l = l
  adds Other l = l

  unfoldable pub revisions : List Rec → List Revision
  revisions [] = []
  revisions (r ∷ s) = adds (own_role owner client r.0) (revisions s)

  tally-states : (f : Revision → Bool) (s : List Rec) → states_that owner client f s ≡ tally f (revisions s)
  unfolding states_that revisions
  tally-states f [] = refl
  tally-states f (r ∷ s) = go (role r) (tally-states f s)
    where
      go : (x : Role) → total (λ r. state_that f (own_role owner client r.0)) s ≡ tally f (revisions s) → state_that f x + total (λ r. state_that f (own_role owner client r.0)) s ≡ tally f (adds x (revisions s))
      go (State p) ih = omega (arith, ih)
      go (Beside p) ih = omega (arith, ih)
      go Other ih = omega (arith, ih)

  tally-all : (l : List Revision) → tally (λ p. true) l ≡ length l
  tally-all [] = refl
  tally-all (p ∷ l) = omega (arith, tally-all l)

  -- each is a record's
  revision-at : (s : List Rec) (i : ℕ) (p : Revision) → get_elem? (revisions s) i ≡ some p → (j : ℕ) × (r : Rec) × (get_elem? s j ≡ some r) × (role r ≡ State p)
  unfolding revisions
  revision-at [] i p e = absurd (let z : ◌≡◌ {A = ℕ} 0 1 = cc in let w : ⊥ = omega arith in w)
  revision-at (r ∷ s) i p e = go (role r) refl i e (revision-at s)
    where
      later : (i : ℕ) → get_elem? (revisions s) i ≡ some p → ((i : ℕ) (p : Revision) → get_elem? (revisions s) i ≡ some p → (j : ℕ) × (r : Rec) × (get_elem? s j ≡ some r) × (role r ≡ State p)) → (j : ℕ) × (q : Rec) × (get_elem? (r ∷ s) j ≡ some q) × (role q ≡ State p)
      later i e ih = let w = ih i p e in (suc w.0, w.1, w.2, w.3)

      go : (x : Role) → role r ≡ x → (i : ℕ) → get_elem? (adds x (revisions s)) i ≡ some p → ((i : ℕ) (p : Revision) → get_elem? (revisions s) i ≡ some p → (j : ℕ) × (r : Rec) × (get_elem? s j ≡ some r) × (role r ≡ State p)) → (j : ℕ) × (q : Rec) × (get_elem? (r ∷ s) j ≡ some q) × (role q ≡ State p)
      go (State q) f zero e ih = let z : q ≡ p = cc in (0, r, refl, f ∙ ap State z)
      go (State q) f (suc i) e ih = later i e ih
      go (Beside q) f i e ih = later i e ih
      go Other f i e ih = later i e ih

  -- states of records in order have different revisions, where the revision tells the key
  pub distinct : (s : List Rec) → Sorted s → ((i j : ℕ) (r q : Rec) (p : Revision) → get_elem? s i ≡ some r → get_elem? s j ≡ some q → role r ≡ State p → role q ≡ State p → r.0 ≡ q.0) → Distinct (revisions s)
  unfolding revisions
  distinct [] o h = tt
  distinct (r ∷ s) o h = go (role r) refl (distinct s o.1 (λ i j a b. h (suc i) (suc j) a b))
    where
      go : (x : Role) → role r ≡ x → Distinct (revisions s) → Distinct (adds x (revisions s))
      go (State p) f ih = (λ i e. let w = revision-at s i p e in before-not-same r.0 w.1.0 (after-at r.0 s w.0 w.1 o.0 w.2) (h 0 (suc w.0) r w.1 p refl w.2 f w.3), ih)
      go (Beside p) f ih = ih
      go Other f ih = ih

  -- ---- a state that is there is counted
  pub state-counts : (s : List Rec) (i : ℕ) (r : Rec) (p : Revision) → get_elem? s i ≡ some r → role r ≡ State p → 1 ≤ states_that owner client (λ q. true) s
  unfolding states_that
  state-counts [] i r p e f = absurd (let z : ◌≡◌ {A = ℕ} 0 1 = cc in let w : ⊥ = omega arith in w)
  state-counts (q ∷ s) zero r p e f =
      let z : q ≡ r = cc in
      let one : ◌≡◌ {A = ℕ} (state_that (λ q. true) (role q)) 1 = ap (λ (t : Rec). state_that (λ q. true) (role t)) z ∙ ap (state_that (λ q. true)) f in
      omega (arith, one)
  state-counts (q ∷ s) (suc i) r p e f = omega (arith, state-counts s i r p e f)

  pub none-counts : (s : List Rec) → ((i : ℕ) (r : Rec) (p : Revision) → get_elem? s i ≡ some r → role r ≡ State p → ⊥) → states_that owner client (λ q. true) s ≡ 0
  unfolding states_that
  none-counts s h = total-same (λ r. state_that (λ q. true) (own_role owner client r.0)) (λ r. 0) s (λ i r e. go (role r) (λ p. h i r p e)) ∙ zeros s
    where
      go : (x : Role) → ((p : Revision) → x ≡ State p → ⊥) → ◌≡◌ {A = ℕ} (state_that (λ q. true) x) 0
      go (State p) n = absurd (n p refl)
      go (Beside p) n = refl
      go Other n = refl

      zeros : (s : List Rec) → total (λ r. 0) s ≡ 0
      zeros [] = refl
      zeros (r ∷ s) = omega (arith, zeros s)

  module _ (keep : ℕ) (s : List Rec) where
    abbrev number : ℕ
    number = states_that owner client (λ q. true) s

    abbrev above : Revision → ℕ
    above p = states_that owner client (λ q. below p q) s

    -- whether what stands under a key goes
    abbrev pub goes_key : Key → Bool
    goes_key k = goes_as owner client keep s (own_role owner client k)

    pub goes-is : (r : Rec) → goes owner client keep s r ≡ goes_key r.0
    unfolding goes
    goes-is r = refl

    pub get-cleared : (k : Key) → get (cleared owner client keep s) k ≡ cond (goes_key k) none (get s k)
    get-cleared k = ap (λ (t : List Rec). get t k) (without-same (goes owner client keep s) (λ r. goes_key r.0) s goes-is) ∙ get_left goes_key s k

    pub goes-state : (k : Key) (p : Revision) → own_role owner client k ≡ State p → goes_key k ≡ goes_at owner client keep s p
    goes-state k p e = ap (goes_as owner client keep s) e

    pub goes_beside : (k : Key) (p : Revision) → own_role owner client k ≡ Beside p → goes_key k ≡ goes_at owner client keep s p
    goes_beside k p e = ap (goes_as owner client keep s) e

    pub other_stays : (k : Key) → own_role owner client k ≡ Other → goes_key k ≡ false
    other_stays k e = ap (goes_as owner client keep s) e

    -- what goes is not other
    pub goes_mine : (k : Key) → goes_key k ≡ true → own_role owner client k ≡ Other → ⊥
    goes_mine k e o = clash (goes_key k) e (other_stays k o)

    -- ---- what stays is above what goes
    pub above-gone : (p q : Revision) → goes_at owner client keep s p ≡ true → goes_at owner client keep s q ≡ false → below p q ≡ true
    unfolding goes_at
    above-gone p q e f = go (below p q) refl
      where
        go : (v : Bool) → below p q ≡ v → v ≡ true
        go true h = refl
        go false h =
            let one = goes_one keep number (above p) e in
            let a = goes_enough keep number (above p) e in
            let b = stays-few keep number (above q) one f in
            let c = rank_down q p (revisions s) h in
            absurd (let z : ⊥ = omega (arith, a, b, c, tally-states (below p) s, tally-states (below q) s) in z)

    -- ---- how many stay
    abbrev stayers : ℕ
    stayers = states_that owner client (λ q. not (goes_at owner client keep s q)) s

    left-states : states_that owner client (λ q. true) (cleared owner client keep s) ≡ stayers
    unfolding states_that goes
    left-states = total_kept (goes owner client keep s) (λ r. state_that (λ q. true) (role r)) s ∙ total-same _ _ s (λ i r e. go (role r))
      where
        flip : (v : Bool) → ◌≡◌ {A = ℕ} (cond v 0 1) (cond (not v) 1 0)
        flip true = refl
        flip false = refl

        zero-both : (v : Bool) → ◌≡◌ {A = ℕ} (cond v 0 0) 0
        zero-both true = refl
        zero-both false = refl

        go : (x : Role) → cond (goes_as owner client keep s x) 0 (state_that (λ q. true) x) ≡ state_that (λ q. not (goes_at owner client keep s q)) x
        go (State p) = flip (goes_at owner client keep s p)
        go (Beside p) = zero-both (goes_at owner client keep s p)
        go Other = refl

    few : stayers ≤ number
    unfolding states_that
    few = total_up _ _ s (λ i r e. one (role r))
      where
        most : (v : Bool) → cond v 1 0 ≤ 1
        most true = omega arith
        most false = omega arith

        one : (x : Role) → state_that (λ q. not (goes_at owner client keep s q)) x ≤ state_that (λ q. true) x
        one (State p) = most (not (goes_at owner client keep s p))
        one (Beside p) = omega arith
        one Other = omega arith

    bound : Dec (keep < number) → least keep number ≤ number
    bound (yes k) = omega (arith, least_first keep number (omega arith))
    bound (no k) = omega (arith, least-second keep number (omega arith))

    stayers_are : Distinct (revisions s) → stayers ≡ least keep number
    unfolding goes_at
    stayers_are d = go (dec_lt 0 number)
      where
        go : Dec (0 < number) → stayers ≡ least keep number
        go (yes h) =
            let a : stayers ≡ tally (λ q. not (goes_at owner client keep s q)) (revisions s) = tally-states (λ q. not (goes_at owner client keep s q)) s in
            let b : tally (λ q. not (goes_at owner client keep s q)) (revisions s) ≡ tally (λ q. ltb (rank q (revisions s)) (least keep number)) (revisions s) =
            total-same _ _ (revisions s) (λ i q e. ap (λ (v : Bool). cond v 1 0) (stays-test keep number (above q) h ∙ ap (λ (n : ℕ). ltb n (least keep number)) (tally-states (below q) s))) in
            let n : number ≡ length (revisions s) = tally-states (λ q. true) s ∙ tally-all (revisions s) in
            a ∙ b ∙ ranked (revisions s) d (least keep number) ∙ least_first (least keep number) (length (revisions s)) (omega (arith, bound (dec_lt keep number), n))
        go (no h) = omega (arith, few, least-second keep number (omega arith))

    pub kept_number : Distinct (revisions s) → states_that owner client (λ q. true) (cleared owner client keep s) ≡ least keep number
    kept_number d = left-states ∙ stayers_are d

    -- ---- what is below every state that stays goes
    pub below_kept : Distinct (revisions s) → 1 ≤ number → (p : Revision) → ((i : ℕ) (r : Rec) (q : Revision) → get_elem? s i ≡ some r → role r ≡ State q → goes_at owner client keep s q ≡ false → below p q ≡ true) → goes_at owner client keep s p ≡ true
    unfolding goes_at states_that
    below_kept d h p f = goes_when keep number (above p) h (omega (arith, stayers_are d, up))
      where
        test : (q : Revision) → (goes_at owner client keep s q ≡ false → below p q ≡ true) → cond (not (goes_at owner client keep s q)) 1 0 ≤ cond (below p q) 1 0
        test q g = go (goes_at owner client keep s q) refl
          where
            go : (v : Bool) → goes_at owner client keep s q ≡ v → cond (not v) 1 0 ≤ cond (below p q) 1 0
            go true e = omega arith
            go false e = rw (g e) (omega arith)

        at : (x : Role) → ((q : Revision) → x ≡ State q → goes_at owner client keep s q ≡ false → below p q ≡ true) → state_that (λ q. not (goes_at owner client keep s q)) x ≤ state_that (λ q. below p q) x
        at (State q) g = test q (g q refl)
        at (Beside q) g = omega arith
        at Other g = omega arith

        up : stayers ≤ above p
        up = total_up _ _ s (λ i r e. at (role r) (λ q k. f i r q e k))

    -- ---- with none to keep, and with no state
    pub all_go : keep ≡ 0 → 1 ≤ number → (p : Revision) → goes_at owner client keep s p ≡ true
    unfolding goes_at
    all_go z h p = goes_when keep number (above p) h (omega (arith, least_first keep number (omega arith)))

    none-goes : number ≡ 0 → (p : Revision) → goes_at owner client keep s p ≡ false
    unfolding goes_at
    none-goes z p = rw (lt-leb 1 number (omega arith))

    pub nothing_goes : number ≡ 0 → (k : Key) → goes_key k ≡ false
    nothing_goes z k = go (own_role owner client k)
      where
        go : (x : Role) → goes_as owner client keep s x ≡ false
        go (State p) = none-goes z p
        go (Beside p) = none-goes z p
        go Other = refl

    pub unchanged : number ≡ 0 → (cleared owner client keep s ≡ s) × (gone owner client keep s ≡ 0)
    unchanged z =
        let e : cleared owner client keep s ≡ s = none_left (goes owner client keep s) s (λ r. goes-is r ∙ nothing_goes z r.0) in
        (e, omega (arith, length_parted (goes owner client keep s) s, ap length e))

    -- ---- the count that is answered
    pub length-cleared : length s ≡ length (cleared owner client keep s) + gone owner client keep s
    length-cleared = length_parted (goes owner client keep s) s

    -- ---- it is the owner's
    goes-own : (r : Rec) → goes owner client keep s r ≡ true → owner_of r.0 ≡ owner
    unfolding own_role
    goes-own r e = go (eqb (owner_of r.0) owner) refl
      where
        go : (v : Bool) → eqb (owner_of r.0) owner ≡ v → owner_of r.0 ≡ owner
        go true f = eqb-true (owner_of r.0) owner f
        go false f = absurd (goes_mine r.0 (sym (goes-is r) ∙ e) (rw f))

    pub own-cleared : count_by owner_of owner s ≡ count_by owner_of owner (cleared owner client keep s) + gone owner client keep s
    unfolding count_by
    own-cleared = total_parted (goes owner client keep s) (λ r. cond (eqb (owner_of r.0) owner) 1 0) s ∙ ap (λ (n : ℕ). count_by owner_of owner (cleared owner client keep s) + n) (total-same _ _ s (λ i r e. go r (goes owner client keep s r) refl))
      where
        go : (r : Rec) (v : Bool) → goes owner client keep s r ≡ v → ◌≡◌ {A = ℕ} (cond v (cond (eqb (owner_of r.0) owner) 1 0) 0) (cond v 1 0)
        go r true e = rw (eq-eqb (owner_of r.0) owner (goes-own r e))
        go r false e = refl

    pub others-cleared : (o : ℕ) → (o ≡ owner → ⊥) → count_by owner_of o (cleared owner client keep s) ≡ count_by owner_of o s
    unfolding count_by
    others-cleared o n = total_left (goes owner client keep s) (λ r. cond (eqb (owner_of r.0) o) 1 0) (λ r e. rw (ne_eqb (owner_of r.0) o (λ q. n (sym q ∙ goes-own r e)))) s

-- ---- what it goes by: the client's records alone
module _ (owner : ℕ) (client : List ℕ) where
  abbrev is_other : Role → Bool
  is_other (State p) = false
  is_other (Beside p) = false
  is_other Other = true

  other-is : (x : Role) → is_other x ≡ true → x ≡ Other
  other-is (State p) e = clash false e refl
  other-is (Beside p) e = clash false e refl
  other-is Other e = refl

  other-not : (x : Role) → is_other x ≡ false → x ≡ Other → ⊥
  other-not (State p) e f = no-state-other f
  other-not (Beside p) e f = no_beside-other f
  other-not Other e f = clash true refl e

  abbrev other : Key → Bool
  other k = is_other (own_role owner client k)

  -- records that hold the same of the client
  abbrev pub SameMine : List Rec → List Rec → Type 0
  SameMine s t = (k : Key) → (own_role owner client k ≡ Other → ⊥) → get s k ≡ get t k

  mine-same : (s t : List Rec) → Sorted s → Sorted t → SameMine s t → left other s ≡ left other t
  mine-same s t a b h = records_ext (left other s) (left other t) (sorted-left (λ r. other r.0) s a) (sorted-left (λ r. other r.0) t b) (λ k. get_left other s k ∙ go k (other k) refl ∙ sym (get_left other t k))
    where
      go : (k : Key) (v : Bool) → other k ≡ v → cond v none (get s k) ≡ cond v none (get t k)
      go k true e = refl
      go k false e = h k (other-not (own_role owner client k) e)

  states_mine : (f : Revision → Bool) (s : List Rec) → states_that owner client f (left other s) ≡ states_that owner client f s
  unfolding states_that
  states_mine f s = total_left (λ r. other r.0) (λ r. state_that f (own_role owner client r.0)) (λ r e. ap (state_that f) (other-is (own_role owner client r.0) e)) s

  module _ (keep : ℕ) (s t : List Rec) (a : Sorted s) (b : Sorted t) (h : SameMine s t) where
    same-states : (f : Revision → Bool) → states_that owner client f s ≡ states_that owner client f t
    same-states f = sym (states_mine f s) ∙ ap (states_that owner client f) (mine-same s t a b h) ∙ states_mine f t

    same_at : (p : Revision) → goes_at owner client keep s p ≡ goes_at owner client keep t p
    unfolding goes_at
    same_at p = rw (same-states (λ q. true), same-states (λ q. below p q))

    pub same-goes : (k : Key) → goes_key owner client keep s k ≡ goes_key owner client keep t k
    same-goes k = go (own_role owner client k)
      where
        go : (x : Role) → goes_as owner client keep s x ≡ goes_as owner client keep t x
        go (State p) = same_at p
        go (Beside p) = same_at p
        go Other = refl

    gone_mine : (u : List Rec) → total (λ r. cond (goes owner client keep u r) 1 0) (left other u) ≡ gone owner client keep u
    gone_mine u = total_left (λ r. other r.0) (λ r. cond (goes owner client keep u r) 1 0) (λ r e. rw (goes-is owner client keep u r ∙ other_stays owner client keep u r.0 (other-is (own_role owner client r.0) e))) u

    pub same-gone : gone owner client keep s ≡ gone owner client keep t
    same-gone =
        sym (gone_mine s)
        ∙ total-same _ _ (left other s) (λ i r e. ap (λ (v : Bool). cond v 1 0) (goes-is owner client keep s r ∙ same-goes r.0 ∙ sym (goes-is owner client keep t r)))
        ∙ ap (total (λ r. cond (goes owner client keep t r) 1 0)) (mine-same s t a b h)
        ∙ gone_mine t

    -- what a key holds that held the same
    pub same_left : (k : Key) → get s k ≡ get t k → get (cleared owner client keep s) k ≡ get (cleared owner client keep t) k
    same_left k e = get-cleared owner client keep s k ∙ go (goes_key owner client keep s k) (goes_key owner client keep t k) (same-goes k) ∙ sym (get-cleared owner client keep t k)
      where
        go : (v w : Bool) → v ≡ w → cond v none (get s k) ≡ cond w none (get t k)
        go v w f = rw f (ap (λ (o : Option (List ℕ)). cond w none o) e)

-- ---- the call on records
module _ (owner : ℕ) (client : List ℕ) (keep : ℕ) where
  -- refused by its arguments, whatever the records are, or done
  pub data Way : Type 0 where
    nobodys : is_owner owner ≡ false → ((s : List Rec) → clear_in owner client keep s ≡ (count 23 0, s)) → Way
    refused : is_owner owner ≡ true → (check_of check.client client ≡ 0 → ⊥) → ((s : List Rec) → clear_in owner client keep s ≡ (count (check_of check.client client) 0, s)) → Way
    done : is_owner owner ≡ true → check_of check.client client ≡ 0 → ((s : List Rec) → clear_in owner client keep s ≡ (count 0 (gone owner client keep s), cleared owner client keep s)) → Way

  pub way : Way
  unfolding clear_in
  way = go (is_owner owner) refl (eqb (check_of check.client client) 0) refl
    where
      go : (u : Bool) → is_owner owner ≡ u → (v : Bool) → eqb (check_of check.client client) 0 ≡ v → Way
      go false e v f = nobodys e (λ s. rw e)
      go true e true f = done e (eqb-true (check_of check.client client) 0 f) (λ s. rw (e, f))
      go true e false f = refused e (eqb-false (check_of check.client client) 0 f) (λ s. rw (e, f))

  -- what all three do
  module _ (P : List Rec → Count × List Rec → Type 0) (kept : (n : ℕ) (s : List Rec) → P s (count n 0, s)) (went : (s : List Rec) → P s (count 0 (gone owner client keep s), cleared owner client keep s)) where
    by_way : (s : List Rec) → P s (clear_in owner client keep s)
    by_way s = go way
      where
        go : Way → P s (clear_in owner client keep s)
        go (nobodys e f) = rw (f s) (kept 23 s)
        go (refused e n f) = rw (f s) (kept (check_of check.client client) s)
        go (done e n f) = rw (f s) (went s)

  pub all_in : (All : List Rec → Type 0) → ((s : List Rec) → All s → All (cleared owner client keep s)) → (s : List Rec) → All s → All (clear_in owner client keep s).1
  all_in All f s h = by_way (λ t x. All t → All x.1) (λ n t g. g) f s h

  pub fewer_in : (o : ℕ) (s : List Rec) → count_by owner_of o (clear_in owner client keep s).1 ≤ count_by owner_of o s
  fewer_in o s = by_way (λ t x. count_by owner_of o x.1 ≤ count_by owner_of o t) (λ n t. omega arith) (λ t. count_left (goes owner client keep t) owner_of o t) s

  pub sorted_in : (s : List Rec) → Sorted s → Sorted (clear_in owner client keep s).1
  sorted_in s h = all_in Sorted (λ t g. sorted-left (goes owner client keep t) t g) s h

  -- a key that is nothing to the client keeps what it holds
  pub other_in : (s : List Rec) (k : Key) → own_role owner client k ≡ Other → get (clear_in owner client keep s).1 k ≡ get s k
  other_in s k e = by_way (λ t x. get x.1 k ≡ get t k) (λ n t. refl) (λ t. get-cleared owner client keep t k ∙ rw (other_stays owner client keep t k e)) s

  -- and the answer goes by the client's records
  module _ (s t : List Rec) (a : Sorted s) (b : Sorted t) (h : SameMine owner client s t) where
    pub same_count : (clear_in owner client keep s).0 ≡ (clear_in owner client keep t).0
    same_count = go way
      where
        go : Way → (clear_in owner client keep s).0 ≡ (clear_in owner client keep t).0
        go (nobodys e f) = rw (f s, f t)
        go (refused e n f) = rw (f s, f t)
        go (done e n f) = rw (f s, f t) (ap (count 0) (same-gone owner client keep s t a b h))

    pub same-held : (k : Key) → get s k ≡ get t k → get (clear_in owner client keep s).1 k ≡ get (clear_in owner client keep t).1 k
    same-held k g = go way
      where
        go : Way → get (clear_in owner client keep s).1 k ≡ get (clear_in owner client keep t).1 k
        go (nobodys e f) = rw (f s, f t) g
        go (refused e n f) = rw (f s, f t) g
        go (done e n f) = rw (f s, f t) (same_left owner client keep s t a b h k g)

-- one answer, and one content of the buffer
pub one-cleared : (F : Form) → Lawful F → {b : List ℕ} {owner : ℕ} {client : List ℕ} {keep : ℕ} {r q : Count} {b₁ b₂ : List ℕ} → Cleared F b owner client keep r b₁ → Cleared F b owner client keep q b₂ → (r ≡ q) × (b₁ ≡ b₂)
one-cleared F L (clear.Cleared.no_book n e f) (clear.Cleared.no_book m g h) = (e ∙ sym g, f ∙ sym h)
one-cleared F L (clear.Cleared.no_book n e f) (clear.Cleared.this_book y g h) = absurd (n y)
one-cleared F L (clear.Cleared.this_book x e f) (clear.Cleared.no_book m g h) = absurd (m x)
one-cleared F L {b} {owner} {client} {keep} (clear.Cleared.this_book x e f) (clear.Cleared.this_book y g h) =
    let w = one-book F L b x y in
    let v : bytes_with x (clear_in owner client keep x.records).1 ≡ bytes_with y (clear_in owner client keep y.records).1 = rw (w.0, w.1, w.2) in
    (e ∙ ap (λ (s : List Rec). (clear_in owner client keep s).0) w.2 ∙ sym g, f ∙ v ∙ sym h)
