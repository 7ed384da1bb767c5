-- Laws of the whole clearing.
-- Assumes nothing.
use Rattle.std.specs.Prelude.{◌≡◌, refl, Bool, true, false, List, [], ◌∷◌, ℕ, zero, suc, ◌+◌, length}
use Rattle.std.proofs.Math.Path.{sym, ap}
use Rattle.std.proofs.Common.{◌∙◌, arith}
use Rattle.std.proofs.Math.Option.{some}
use Rattle.std.proofs.Math.ListN.{get_elem?}
use borrow.Author.Tests.{eq-eqb, ne_eqb}
use Rattle.identifiers.specs.Check.{check_of}
use Rattle.identifiers.specs.Check as check
use Rattle.runs.specs.Total.{total}
use Rattle.path.specs.declared.Revision.{Revision}
use Rattle.path.specs.Revision.{below}
use Rattle.book_records.specs.Act.{Rec}
use Rattle.book_records.specs.Calls.{is_owner}
use Rattle.book.specs.Book.{Current, Book, Counts, bytes_with}
use Rattle.book.specs.BookLaws.{lawful, one-book}
use Rattle.book_clear.specs.declared.role.Role.{Role}
use Rattle.book_clear.specs.declared.role.Role.TheVariants.{State, Beside, Other}
use Rattle.book_clear.specs.declared.states.Stay.{Stay}
use Rattle.book_clear.specs.Clear.{own_role, state_that, states_that, goes_with, goes_at, goes_as, goes, cleared, gone, count, clear_in, Cleared}
use Rattle.book_clear.specs.Clear as c
use Rattle.book_clear.specs.Notes.{note_at, Stretched, NotedFrom, Noted}
use Rattle.book_clear.specs.NotesLaws.{noted}
use Rattle.book_clear.specs.States.{up_to, noted_that}
use Rattle.book_clear.specs.Stay.{leaves_at, leaves, StayIs}
use Rattle.book_clear.specs.Sweep.{LeaveIs, Swept}
use Rattle.book_clear.specs.Whole.{ClearedOf}

-- ---- a sum over records is one over their places
up-cons : (w : ℕ → ℕ) (n : ℕ) → up_to w (suc n) ≡ w 0 + up_to (λ j. w (suc j)) n
up-cons w zero = omega arith
up-cons w (suc n) = omega (arith, up-cons w n)

total_up : (f : Rec → ℕ) (w : ℕ → ℕ) (s : List Rec) → ((j : ℕ) (r : Rec) → get_elem? s j ≡ some r → f r ≡ w j) → total f s ≡ up_to w (length s)
total_up f w [] h = refl
total_up f w (r ∷ s) h = omega (arith, up-cons w (length s), h 0 r refl, total_up f (λ j. w (suc j)) s (λ j q e. h (suc j) q e))

module _ (b : List ℕ) (n : ℕ) (h : Counts Current b n) (owner : ℕ) (client : List ℕ) (rs : List Role) (N : Noted b owner client rs) (keep : ℕ) (t : Stay) (T : StayIs rs n keep t) (x : Book Current b) where
  count-any : length x.records ≡ n
  count-any = ap length (one-book Current lawful b x h.0).2 ∙ h.1

  states_are : (f : Revision → Bool) → states_that owner client f x.records ≡ noted_that f rs n
  unfolding states_that
  states_are f =
      total_up (λ r. state_that f (own_role owner client r.0)) (λ j. state_that f (note_at rs j)) x.records (λ j r e. ap (state_that f) (N x j r e))
      ∙ ap (noted_that f rs) count-any

  goes-is : (p : Revision) → goes_at owner client keep x.records p ≡ leaves_at t p
  unfolding goes_at
  goes-is p =
      ap (λ (m : ℕ). goes_with keep m (states_that owner client (λ q. below p q) x.records)) (states_are (λ q. true))
      ∙ ap (goes_with keep (noted_that (λ q. true) rs n)) (states_are (λ q. below p q))
      ∙ sym (T p)

  by-role : (r : Role) → goes_as owner client keep x.records r ≡ leaves t r
  by-role (State p) = goes-is p
  by-role (Beside p) = goes-is p
  by-role Other = refl

  leave-is : LeaveIs x.records rs t (goes owner client keep x.records)
  unfolding goes
  leave-is j r e = ap (goes_as owner client keep x.records) (N x j r e) ∙ by-role (note_at rs j)

-- what is swept by what is noted is what goes
pub cleared_by : (b : List ℕ) (n : ℕ) → Counts Current b n → (owner : ℕ) (client : List ℕ) (from stop : ℕ) → Stretched b owner client n from stop → (rs : List Role) → NotedFrom b client from stop rs → (keep : ℕ) (t : Stay) → StayIs rs n keep t → (r : ℕ) (b₁ : List ℕ) → Swept b rs t r b₁ → ClearedOf b owner client keep r b₁
cleared_by b n h owner client from stop S rs N keep t T r b₁ W x = W x (goes owner client keep x.records) (leave-is b n h owner client rs (noted b n h owner client from stop S rs N) keep t T x)

-- ---- the call
module _ (b : List ℕ) (owner : ℕ) (client : List ℕ) (keep n : ℕ) (h : Counts Current b n) (t : Bool) (et : t ≡ is_owner owner) where
  same_bytes : b ≡ bytes_with h.0 h.0.records
  same_bytes = h.0.bytes

  pub clear_nobody : t ≡ false → Cleared Current b owner client keep (count 23 0) b
  unfolding clear_in
  clear_nobody g = c.Cleared.this_book h.0 (rw (sym et ∙ g)) (rw (sym et ∙ g) same_bytes)

  module _ (g : t ≡ true) (f : ℕ) (ef : f ≡ check_of check.client client) where
    pub clear-refused : (f ≡ 0 → ⊥) → Cleared Current b owner client keep (count f 0) b
    unfolding clear_in
    clear-refused z =
        let e = ne_eqb (check_of check.client client) 0 (λ q. z (ef ∙ q)) in
        c.Cleared.this_book h.0 (rw (sym et ∙ g, e) (ap (λ (m : ℕ). count m 0) ef)) (rw (sym et ∙ g, e) same_bytes)

    pub clear-done : f ≡ 0 → (r : ℕ) (b₁ : List ℕ) → ClearedOf b owner client keep r b₁ → Cleared Current b owner client keep (count 0 r) b₁
    unfolding clear_in
    clear-done z r b₁ e =
        let w = eq-eqb (check_of check.client client) 0 (sym ef ∙ z) in
        c.Cleared.this_book h.0 (rw (sym et ∙ g, w) (ap (count 0) (e h.0).0)) (rw (sym et ∙ g, w) (e h.0).1)
