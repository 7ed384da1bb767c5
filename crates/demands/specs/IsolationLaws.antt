-- Isolation holds of any functions that do only what `Permitted`, `Oldest` and `Cleared` allow.
-- Assumes nothing.
use Rattle.std.specs.Prelude.{ℕ, ◌≡◌, Bool, not, eqb}
use Rattle.std.proofs.Math.Path.{refl, sym, ap}
use Rattle.std.proofs.Common.{◌∙◌, ne_eqb}
use Rattle.std.proofs.Math.Bool.{true, false}
use mathlib.Core.List.{List}
use Rattle.std.proofs.Math.Option.{Option, some}
use Rattle.path.specs.declared.Pair.{Pair}
use Rattle.runs.specs.RunsLaws.{kept-end}
use Rattle.runs.specs.Without.{answers_without}
use Rattle.runs.specs.WithoutLaws.{Alike, left_out}
use Rattle.book_records.specs.Records.{Key, get}
use Rattle.book_records.specs.Act.{Rec, Seen, act}
use Rattle.book_records.specs.Act as act
use Rattle.book_records.specs.ActLaws.{key_meant}
use Rattle.book_records.specs.OwnerLaws.{only, get-only, Own, own-act, other-act}
use Rattle.book_records.specs.Calls.{Call, owner_of, meaning}
use Rattle.book_records.specs.CallLaws.{path-owner}
use Rattle.book_records.proofs.CallLaws.{means}
use Rattle.book.specs.Book.{Current, quota_in, bytes_with, full_in}
use Rattle.book.specs.BookLaws.{lawful, one-book}
use Rattle.book_oldest.specs.Oldest.{oldest_in, Oldest}
use Rattle.book_clear.specs.declared.Count.{Count}
use Rattle.book_clear.specs.Clear.{clear_in, Cleared}
use Rattle.book_clear.specs.RankLaws.{clash}
use Rattle.book_clear.specs.ClearLaws.{SameMine, same_count, same-held, sorted_in, other_in}
use Rattle.demands.specs.RoleLaws.{elsewhere}
use Rattle.demands.specs.Held.{Holds, ProperBook}
use Rattle.demands.specs.HeldLaws.{holds_in}
use Rattle.demands.specs.Permitted.{Permitted}
use Rattle.demands.specs.MachineLaws.{Good, good_of, book_of, path_of-key}
use Rattle.demands.specs.EventLaws.{oldest-only, only_same, own_of, step, good, does}
use Rattle.demands.specs.Isolation.{Event, call, oldest, clear, Reply, seen, pair, went, is_of, Happens, Any, Alone, Isolation}

-- ---- the records of a book, seen by everybody but one owner
module _ {b : List ℕ} (x : ProperBook b) where
  module _ (o : ℕ) where
    -- everybody but the owner o
    abbrev others : ℕ → Bool
    others p = not (eqb p o)

    view : List Rec → List Rec
    view s = only owner_of others s

    owner_of_lem : (c : Call) (k : Key) → key_meant (meaning c) ≡ some k → owner_of k ≡ c.owner
    owner_of_lem c k e = path-owner c k (path_of-key (means c) k e)

    stays : (s t : List Rec) (e : Event) → is_of o e ≡ false → Good x s → Good x t → view s ≡ view t → ((step x s e).0 ≡ (step x t e).0) × (view (step x s e).1 ≡ view (step x t e).1)
    unfolding view
    stays s t (call c) f g h v =
        let mine : Own owner_of others (quota_in x) (meaning c) = λ k e. rw (owner_of_lem c k e, f) in
        let p = own-act owner_of others (quota_in x) (meaning c) s g.proper.sorted mine in
        let q = own-act owner_of others (quota_in x) (meaning c) t h.proper.sorted mine in
        let w = sym p ∙ ap (act (full_in x) (meaning c)) v ∙ q in
        (ap (λ (y : act.Answer × List Rec). seen (act.seen y.0)) w, ap (λ (y : act.Answer × List Rec). y.1) w)
    stays s t (oldest p client) f g h v =
        let k : others p ≡ true = rw f in
        (ap pair (sym (oldest-only others p client k s) ∙ ap (oldest_in p client) v ∙ oldest-only others p client k t), v)
    stays s t (clear p client keep) f g h v =
        let k : others p ≡ true = rw f in
        let held : (j : Key) → others (owner_of j) ≡ true → get s j ≡ get t j = λ j e. sym (get-only owner_of others s j e) ∙ ap (λ (u : List Rec). get u j) v ∙ get-only owner_of others t j e in
        let mine : SameMine p client s t = λ j n. held j (rw (own_of p client j n) k) in
        let a = g.proper.sorted in
        let b = h.proper.sorted in (
          ap went (same_count p client keep s t a b mine),
          only_same others (clear_in p client keep s).1 (clear_in p client keep t).1 (sorted_in p client keep s a) (sorted_in p client keep t b) (λ j e. same-held p client keep s t a b mine j (held j e)),
        )

    goes : (s : List Rec) (e : Event) → is_of o e ≡ true → Good x s → view (step x s e).1 ≡ view s
    unfolding view
    goes s (call c) f g = other-act owner_of others (quota_in x) (meaning c) s (λ k e. rw (owner_of_lem c k e, f))
    goes s (oldest p client) f g = refl
    goes s (clear p client keep) f g =
        only_same others (clear_in p client keep s).1 s (sorted_in p client keep s g.proper.sorted) g.proper.sorted
        (λ j e. other_in p client keep s j (elsewhere p client j (λ q. let z : others p ≡ false = rw f in clash (others (owner_of j)) e (ap others q ∙ z))))

-- ---- a list of events
module _
    (Does : List ℕ → Call → Seen → List ℕ → Type 0) (permits : (b : List ℕ) (c : Call) (a : Seen) (b₁ : List ℕ) → Does b c a b₁ → Permitted b c a b₁)
    (Finds : List ℕ → ℕ → List ℕ → Pair → Type 0) (finds : (b : List ℕ) (o : ℕ) (client : List ℕ) (p : Pair) → Finds b o client p → Oldest Current b o client p)
    (Clears : List ℕ → ℕ → List ℕ → ℕ → Count → List ℕ → Type 0) (clears : (b : List ℕ) (o : ℕ) (client : List ℕ) (keep : ℕ) (n : Count) (b₁ : List ℕ) → Clears b o client keep n b₁ → Cleared Current b o client keep n b₁)
    (x : Any Does Finds Clears) (o : ℕ) where
  abbrev by_step : (s : List Rec) (e : Event) (a : Reply) (b₁ : List ℕ) → Good x.book s → Happens Does Finds Clears (bytes_with x.book s) e a b₁ → (a ≡ (step x.book s e).0) × (b₁ ≡ bytes_with x.book (step x.book s e).1)
  by_step = does Does permits Finds finds Clears clears x.book

  abbrev Same : List ℕ → List ℕ → Type 0
  Same b b' = Alike (Happens Does Finds Clears) (step x.book) (Good x.book) (bytes_with x.book) (good x.book) by_step (is_of o) (view x.book o) (stays x.book o) (goes x.book o) b b'

  same : (y : Alone Does Finds Clears x o) → (answers_without (is_of o) x.events x.replies ≡ y.replies) × Same x.end y.end
  same y =
      left_out (Happens Does Finds Clears) (step x.book) (Good x.book) (bytes_with x.book) (good x.book) by_step (is_of o) (view x.book o) (stays x.book o) (goes x.book o)
      (record { state = x.book.records; other = x.book.records; good-state = good_of x.book; good-other = good_of x.book; bytes_are = x.book.bytes; other_are = x.book.bytes; seen = refl })
      x.run y.run

  -- what both runs leave holds the same of everybody else
  holds_same : {b b' : List ℕ} → Same b b' → (k : Key) → (owner_of k ≡ o → ⊥) → (held : Option (List ℕ)) → Holds b k held → Holds b' k held
  unfolding view book_of
  holds_same {b} {b'} w k n held h =
      let keep : others x.book o (owner_of k) ≡ true = rw (ne_eqb (owner_of k) o n) in
      let here : get w.state k ≡ held = holds_in h (book_of x.book b w.state w.good-state w.bytes_are) in
      record {
        book = book_of x.book b' w.other w.good-other w.other_are;
        is = sym (get-only owner_of (others x.book o) w.other k keep) ∙ ap (λ (s : List Rec). get s k) (sym w.seen) ∙ get-only owner_of (others x.book o) w.state k keep ∙ here;
      }

  turned : {b b' : List ℕ} → Same b b' → Same b' b
  turned w = record { state = w.other; other = w.state; good-state = w.good-other; good-other = w.good-state; bytes_are = w.other_are; other_are = w.bytes_are; seen = sym w.seen }

  -- every event leaves records of this book
  abbrev Kept : List ℕ → Type 0
  Kept b = (s : List Rec) × Good x.book s × (b ≡ bytes_with x.book s)

  kept : (b : List ℕ) (e : Event) (a : Reply) (b₁ : List ℕ) → Happens Does Finds Clears b e a b₁ → Kept b → Kept b₁
  kept b e a b₁ d w = ((step x.book w.0 e).1, good x.book w.0 e w.1, (by_step w.0 e a b₁ w.1 (rw w.2 at d)).1)

  at_end : Kept x.end
  at_end = kept-end Kept kept x.run (x.book.records, good_of x.book, x.book.bytes)

  -- THE THEOREM
  pub isolation : Isolation Does Finds Clears x o
  unfolding book_of
  isolation =
      let book : ProperBook x.end = book_of x.book x.end at_end.0 at_end.1 at_end.2 in
      record {
        same_answers = λ y. (same y).0;
        same_records = λ y k n held. (holds_same (same y).1 k n held, holds_same (turned (same y).1) k n held);
        stays_a_book = book;
        same_quotas = λ y p. ap (λ (e : Current.Extra). Current.quota e 0 p) (one-book Current lawful x.end y book).1;
      }
