-- That `hp_book_clear` says what `ClearCall` has.
-- Assumes nothing.
use Rattle.std.specs.Prelude.{ℕ, zero, suc, ◌+◌, ◌-◌, ◌≤◌, ◌≡◌, refl, Bool, true, false, cond, List, [], ◌∷◌, ◌↔◌, ◌⊎◌, length}
use Rattle.std.proofs.Common.{sym, subst, ◌∙◌, ⊎_elim, arith}
use Rattle.std.proofs.Math.Path.{ap}
use Rattle.std.proofs.Math.Option.{Option, none, some}
use Rattle.std.proofs.Math.ListN.{get_elem?}
use Rattle.text.specs.Order.{by, cmp}
use Rattle.text.specs.OrderLaws.{cmp-eq, cmp_self, Keys, key-lt, key-eq, key_gt, keys, before-not-same}
use Rattle.identifiers.specs.Check.{check_of}
use Rattle.identifiers.specs.Check as check
use Rattle.path.specs.declared.Revision.{Revision}
use Rattle.path.specs.Revision.{below}
use Rattle.book_records.specs.Records.{Key, get, Sorted}
use Rattle.book_records.specs.SplitLaws.{after-at}
use Rattle.book_records.specs.Act.{Rec, count_by}
use Rattle.book_records.specs.Calls.{is_owner, owner_of, Owned}
use Rattle.book.specs.Book.{Current, quota_in, bytes_with}
use Rattle.book.specs.BookLaws.{lawful, one-book}
use Rattle.book.specs.CheckLaws.{exact-at}
use Rattle.book_clear.specs.declared.Count.{Count}
use Rattle.book_clear.specs.declared.role.Role.{Role}
use Rattle.book_clear.specs.declared.role.Role.TheVariants.{State, Beside, Other}
use Rattle.book_clear.specs.Clear.{own_role, states_that, least, cleared, gone, count, clear_in, Cleared}
use Rattle.book_clear.specs.Clear as clear
use Rattle.book_clear.specs.RankLaws.{clash, Distinct}
use Rattle.book_clear.specs.ClearLaws.{Way, nobodys, refused, way, revisions, distinct, state-counts, none-counts, goes_key, get-cleared, goes-state, goes_beside, other_stays, above-gone, kept_number, below_kept, all_go, unchanged, length-cleared, own-cleared, others-cleared}
use Rattle.book_clear.specs.ClearLaws as laws
use Rattle.demands.specs.Held.{ProperBook, Holds, free}
use Rattle.demands.specs.HeldLaws.{holds_in}
use Rattle.demands.specs.MachineLaws.{Good, good_of, book_of, size_of}
use Rattle.demands.specs.ShapeLaws.{plain_of}
use Rattle.demands.specs.ClearBookLaws.{good-clear}
use Rattle.demands.specs.RoleLaws.{elsewhere, of-state, of-time, of-height, state_of, beside_of, one_key}
use Rattle.demands.specs.ClearCall.{ClearCall, IsState, IsTimeOrHeight, Elsewhere, Has, Lacks, SomeState, states, StatesCounted, ClearSays, ClearDemand}

-- the client's check gives neither 9 nor 23
abbrev Own : ℕ → Type 0
Own n = (n ≡ 9 → ⊥) × (n ≡ 23 → ⊥)

own : (client : List ℕ) → Own (check_of check.client client)
own client = plain_of Own (λ e. omega arith, λ e. omega arith) (λ e. omega arith, λ e. omega arith) (λ e. omega arith, λ e. omega arith) (λ e. omega arith, λ e. omega arith) 9 64 client

no-some : {A : Type 0} {v : List ℕ} → some v ≡ none → A
no-some e = let z : ◌≡◌ {A = ℕ} 0 1 = cc in absurd (omega arith)

-- ---- what a key holds stands at a place, and what stands there it holds
got-at : (s : List Rec) (k : Key) (v : List ℕ) → get s k ≡ some v → (i : ℕ) × (get_elem? s i ≡ some (k, v))
unfolding get
got-at [] k v e = no-some (sym e)
got-at (r ∷ s) k v e = go (keys k r.0) e (got-at s k v)
  where
    go : Keys k r.0 → by (cmp k r.0) (get s k) (some r.1) (get s k) ≡ some v → (get s k ≡ some v → (i : ℕ) × (get_elem? s i ≡ some (k, v))) → (i : ℕ) × (get_elem? (r ∷ s) i ≡ some (k, v))
    go (key-lt w) f ih = let q = ih (rw w at f) in (suc q.0, q.1)
    go (key-eq w) f ih =
        let g : some r.1 ≡ some v = rw w at f in
        let q : r.1 ≡ v = cc in
        (0, ap {B = Option Rec} some (λ i. (sym (cmp-eq k r.0 w) i, q i)))
    go (key_gt w) f ih = let q = ih (rw w at f) in (suc q.0, q.1)

at_got : (s : List Rec) (i : ℕ) (r : Rec) → Sorted s → get_elem? s i ≡ some r → get s r.0 ≡ some r.1
unfolding get
at_got [] i r h e = absurd (let z : ◌≡◌ {A = ℕ} 0 1 = cc in let w : ⊥ = omega arith in w)
at_got (q ∷ s) zero r h e = let p : q ≡ r = cc in rw (← p, cmp_self q.0)
at_got (q ∷ s) (suc i) r h e = go (keys r.0 q.0) (at_got s i r h.1 e)
  where
    go : Keys r.0 q.0 → get s r.0 ≡ some r.1 → by (cmp r.0 q.0) (get s r.0) (some q.1) (get s r.0) ≡ some r.1
    go (key-lt w) ih = rw w ih
    go (key-eq w) ih = absurd (before-not-same q.0 r.0 (after-at q.0 s i r h.0 e) (sym (cmp-eq r.0 q.0 w)))
    go (key_gt w) ih = rw w ih

module _ {b : List ℕ} (owner : ℕ) (client : List ℕ) (keep : ℕ) (y : ProperBook b) where
  owned_at : (i : ℕ) (r : Rec) → get_elem? y.records i ≡ some r → Owned r.0
  owned_at i r e = exact-at Current y.records i r y.exact e

  -- the states have different revisions
  different : Distinct (revisions owner client y.records)
  different = distinct owner client y.records y.sorted (λ i j r q p e f g h. one_key 5 owner client p r.0 q.0 (omega arith) (omega arith) (state_of owner client p r.0 (owned_at i r e) g) (state_of owner client p q.0 (owned_at j q f) h))

  pub some-counts : SomeState b owner client → 1 ≤ states y owner client
  some-counts x =
      let w = got-at y.records x.1 x.3.0 (holds_in x.3.1 y) in
      state-counts owner client y.records w.0 (x.1, x.3.0) x.0 w.1 (of-state owner client x.0 x.1 x.2)

  pub no-counts : (SomeState b owner client → ⊥) → states y owner client ≡ 0
  no-counts n = none-counts owner client y.records (λ i r p e f. n (p, r.0, state_of owner client p r.0 (owned_at i r e) f, (r.1, record { book = y; is = at_got y.records i r y.sorted e })))

  beside-role : (p : Revision) (k : Key) → IsTimeOrHeight owner client p k → own_role owner client k ≡ Beside p
  beside-role p k h = ⊎_elim (of-time owner client p k) (of-height owner client p k) h

  -- a path that is elsewhere, where the book holds it
  other-role : (k : Key) → Owned k → Elsewhere owner client k → own_role owner client k ≡ Other
  other-role k h n = go (own_role owner client k) refl
    where
      go : (x : Role) → own_role owner client k ≡ x → x ≡ Other
      go (State p) e = absurd (n.no_state p (state_of owner client p k h e))
      go (Beside p) e = absurd (n.no_time_or_height p (beside_of owner client p k h e))
      go Other e = refl

  module _ {b₁ : List ℕ} (eb : b₁ ≡ bytes_with y (clear_in owner client keep y.records).1) where
    good-after : Good y (clear_in owner client keep y.records).1
    good-after = good-clear y owner client keep y.records (good_of y)

    after : ProperBook b₁
    after = book_of y b₁ (clear_in owner client keep y.records).1 good-after eb

    after-records : (z : ProperBook b₁) → z.records ≡ (clear_in owner client keep y.records).1
    unfolding after book_of
    after-records z = (one-book Current lawful b₁ z after).2

    after-quotas : (z : ProperBook b₁) (o : ℕ) → quota_in z o ≡ quota_in y o
    unfolding after book_of
    after-quotas z o = ap (λ (e : Current.Extra). Current.quota e 0 o) (one-book Current lawful b₁ z after).1

    after-size : length b₁ ≡ length b
    after-size = ap length eb ∙ size_of y (clear_in owner client keep y.records).1 good-after

    held_after : (k : Key) (o : Option (List ℕ)) → Holds b₁ k o → get (clear_in owner client keep y.records).1 k ≡ o
    held_after k o h = ap (λ (t : List Rec). get t k) (sym (after-records after)) ∙ holds_in h after

    hold-after : (k : Key) (o : Option (List ℕ)) → get (clear_in owner client keep y.records).1 k ≡ o → Holds b₁ k o
    hold-after k o e = record { book = after; is = ap (λ (t : List Rec). get t k) (after-records after) ∙ e }

    -- ---- refused: nothing has changed
    module _ (n : ℕ) (e : clear_in owner client keep y.records ≡ (count n 0, y.records)) where
      same_bytes : b₁ ≡ b
      same_bytes = eb ∙ ap (λ (x : Count × List Rec). bytes_with y x.1) e ∙ sym y.bytes

      same-holds : (k : Key) (o : Option (List ℕ)) → Holds b₁ k o → Holds b k o
      same-holds k o h = subst (λ (l : List ℕ). Holds l k o) same_bytes h

      holds_same : (k : Key) (o : Option (List ℕ)) → Holds b k o → Holds b₁ k o
      holds_same k o h = subst (λ (l : List ℕ). Holds l k o) (sym same_bytes) h

      not_both : {A : Type 0} (k : Key) → Has b k → Lacks b₁ k → A
      not_both k h l = no-some (sym (holds_in h.1 y) ∙ holds_in (same-holds k none l) y)

      same_records : (z : ProperBook b₁) → z.records ≡ y.records
      same_records z = after-records z ∙ ap (λ (x : Count × List Rec). x.1) e

      pub kept_by : (nine : n ≡ 9 → ⊥) → (n ≡ 0 → ⊥) → ((n ≡ 23) ↔ (ProperBook b × (is_owner owner ≡ false)))
          → ((m : ℕ) → (m ≡ 0 → ⊥) → (m ≡ 9 → ⊥) → (m ≡ 23 → ⊥) → (n ≡ m) ↔ (ProperBook b × (is_owner owner ≡ true) × (check_of check.client client ≡ m)))
          → ((is_owner owner ≡ true) → check_of check.client client ≡ 0 → ⊥)
          → ClearSays b owner client keep (count n 0) b₁
      kept_by nine fails owns checks never = record {
        bad_book_when = (λ q. absurd (nine q), λ m. absurd (m y));
        bad_owner_when = owns;
        bad_client = checks;
        done = (λ q. absurd (fails q), λ q. absurd (never q.1 q.2));
        refusal_keeps = λ q. (same_bytes, refl);
        stays_a_book = λ z. after;
        same_size = after-size;
        same_quotas = λ x z o. after-quotas z o ∙ ap (λ (q : Current.Extra). Current.quota q 0 o) (one-book Current lawful b y x).1;
        kept_number = λ q. absurd (fails q);
        kept_greatest = λ p q j k h i l. not_both j i l;
        with_its_state = λ p j k h i g m. (λ l. not_both k m l, λ l. not_both j i l);
        below_every_kept = λ q. absurd (fails q);
        all_go = λ q. absurd (fails q);
        nothing_changes = λ q. (same_bytes, refl);
        others_keep = λ k h. holds_same k;
        other_owner_keeps = λ k h. holds_same k;
        only_removes = λ k v. same-holds k (some v);
        counted = λ x z. omega (arith, ap length (one-book Current lawful b x y).2, ap length (same_records z));
        freed = λ x z. same-free x z owner ∙ sym (plus-zero _);
        others_free = λ x z o h. same-free x z o;
        room_again = λ z k h. absurd (h refl);
      }
        where
          plus-zero : (m : ℕ) → m + 0 ≡ m
          plus-zero m = omega arith

          same-free : (x : ProperBook b) (z : ProperBook b₁) (o : ℕ) → free z o ≡ free x o
          same-free x z o =
              let q : quota_in z o ≡ quota_in x o = after-quotas z o ∙ ap (λ (q : Current.Extra). Current.quota q 0 o) (one-book Current lawful b y x).1 in
              let c : count_by owner_of o z.records ≡ count_by owner_of o x.records = ap (count_by owner_of o) (same_records z ∙ (one-book Current lawful b y x).2) in
              omega (arith, q, c)

    -- ---- done
    module _ (known : is_owner owner ≡ true) (accepted : check_of check.client client ≡ 0) (e : clear_in owner client keep y.records ≡ (count 0 (gone owner client keep y.records), cleared owner client keep y.records)) where
      abbrev goes_it : Key → Bool
      goes_it k = goes_key owner client keep y.records k

      is-cleared : (clear_in owner client keep y.records).1 ≡ cleared owner client keep y.records
      is-cleared = ap (λ (x : Count × List Rec). x.1) e

      got : (k : Key) → get (clear_in owner client keep y.records).1 k ≡ cond (goes_it k) none (get y.records k)
      got k = ap (λ (t : List Rec). get t k) is-cleared ∙ get-cleared owner client keep y.records k

      goes-lacks : (k : Key) → goes_it k ≡ true → Lacks b₁ k
      goes-lacks k g = hold-after k none (got k ∙ rw g)

      stays-holds : (k : Key) → goes_it k ≡ false → (o : Option (List ℕ)) → Holds b k o → Holds b₁ k o
      stays-holds k g o h = hold-after k o (got k ∙ rw g (holds_in h y))

      lacks-goes : (k : Key) → Has b k → Lacks b₁ k → goes_it k ≡ true
      lacks-goes k h l = go (goes_it k) refl
        where
          go : (v : Bool) → goes_it k ≡ v → v ≡ true
          go true g = refl
          go false g = no-some (sym (held_after k (some h.0) (stays-holds k g (some h.0) h.1)) ∙ held_after k none l)

      has_stays : (k : Key) → Has b₁ k → goes_it k ≡ false
      has_stays k h = go (goes_it k) refl
        where
          go : (v : Bool) → goes_it k ≡ v → v ≡ false
          go true g = no-some (sym (held_after k (some h.0) h.1) ∙ held_after k none (goes-lacks k g))
          go false g = refl

      was-held : (k : Key) (v : List ℕ) → Holds b₁ k (some v) → Holds b k (some v)
      was-held k v h = record { book = y; is = sym (got k ∙ rw (has_stays k (v, h))) ∙ held_after k (some v) h }

      -- what is nothing to the client keeps what it holds
      elsewhere-keeps : (k : Key) → Elsewhere owner client k → (o : Option (List ℕ)) → Holds b k o → Holds b₁ k o
      elsewhere-keeps k n o h = hold-after k o (got k ∙ go (get y.records k) refl ∙ holds_in h y)
        where
          both : (v : Bool) → ◌≡◌ {A = Option (List ℕ)} (cond v none none) none
          both true = refl
          both false = refl

          go : (x : Option (List ℕ)) → get y.records k ≡ x → cond (goes_it k) none x ≡ x
          go none g = both (goes_it k)
          go (some v) g = let w = got-at y.records k v g in rw (other_stays owner client keep y.records k (other-role k (owned_at w.0 (k, v) w.1) n))

      below_all : SomeState b owner client → (p : Revision) (k : Key) → IsTimeOrHeight owner client p k → Has b k → Lacks b₁ k ↔ ((q : Revision) (j : Key) → IsState owner client q j → Has b₁ j → below p q ≡ true)
      below_all x p k t h = (
        λ l q j i g. above-gone owner client keep y.records p q (sym (goes_beside owner client keep y.records k p (beside-role p k t)) ∙ lacks-goes k h l) (sym (goes-state owner client keep y.records j q (of-state owner client q j i)) ∙ has_stays j g),
        λ f. goes-lacks k (goes_beside owner client keep y.records k p (beside-role p k t) ∙ below_kept owner client keep y.records different (some-counts x) p
            (λ i r q a c d. f q r.0 (state_of owner client q r.0 (owned_at i r a) c) (r.1, stays-holds r.0 (goes-state owner client keep y.records r.0 q c ∙ d) (some r.1) (record { book = y; is = at_got y.records i r y.sorted a })))),
      )

      its-state : (p : Revision) (j k : Key) → IsState owner client p j → Has b j → IsTimeOrHeight owner client p k → Has b k → Lacks b₁ k ↔ Lacks b₁ j
      its-state p j k i h t g =
          let a = goes-state owner client keep y.records j p (of-state owner client p j i) in
          let c = goes_beside owner client keep y.records k p (beside-role p k t) in
          (λ l. goes-lacks j (a ∙ sym c ∙ lacks-goes k g l), λ l. goes-lacks k (c ∙ sym a ∙ lacks-goes j h l))

      all_of : keep ≡ 0 → SomeState b owner client → (p : Revision) (k : Key) → IsState owner client p k ⊎ IsTimeOrHeight owner client p k → Lacks b₁ k
      all_of z x p k h =
          let g = all_go owner client keep y.records z (some-counts x) p in
          ⊎_elim (λ i. goes-lacks k (goes-state owner client keep y.records k p (of-state owner client p k i) ∙ g)) (λ t. goes-lacks k (goes_beside owner client keep y.records k p (beside-role p k t) ∙ g)) h

      none-there : (SomeState b owner client → ⊥) → (b₁ ≡ b) × (gone owner client keep y.records ≡ 0)
      none-there n =
          let u = unchanged owner client keep y.records (no-counts n) in
          (eb ∙ ap (bytes_with y) (is-cleared ∙ u.0) ∙ sym y.bytes, u.1)

      own-count : (x : ProperBook b) (z : ProperBook b₁) → count_by owner_of owner x.records ≡ count_by owner_of owner z.records + gone owner client keep y.records
      own-count x z =
          ap (count_by owner_of owner) (one-book Current lawful b x y).2 ∙ own-cleared owner client keep y.records
          ∙ ap (λ (t : List Rec). count_by owner_of owner t + gone owner client keep y.records) (sym (after-records z ∙ is-cleared))

      quotas_are : (x : ProperBook b) (z : ProperBook b₁) (o : ℕ) → quota_in z o ≡ quota_in x o
      quotas_are x z o = after-quotas z o ∙ ap (λ (q : Current.Extra). Current.quota q 0 o) (one-book Current lawful b y x).1

      pub cleared_by : ClearSays b owner client keep (count 0 (gone owner client keep y.records)) b₁
      cleared_by = record {
        bad_book_when = (λ q. absurd (let w : ⊥ = omega arith in w), λ m. absurd (m y));
        bad_owner_when = (λ q. absurd (let w : ⊥ = omega arith in w), λ q. clash (is_owner owner) known q.1);
        bad_client = λ m z i j. (λ q. absurd (z (sym q)), λ q. absurd (z (sym q.2 ∙ accepted)));
        done = (λ q. (y, known, accepted), λ q. refl);
        refusal_keeps = λ q. absurd (q refl);
        stays_a_book = λ z. after;
        same_size = after-size;
        same_quotas = quotas_are;
        kept_number = λ q x z.
            ap (states_that owner client (λ q. true)) (after-records z ∙ is-cleared) ∙ kept_number owner client keep y.records different
            ∙ ap (λ (t : List Rec). least keep (states_that owner client (λ q. true) t)) (one-book Current lawful b y x).2;
        kept_greatest = λ p q j k i h l m g. above-gone owner client keep y.records p q (sym (goes-state owner client keep y.records j p (of-state owner client p j i)) ∙ lacks-goes j h l) (sym (goes-state owner client keep y.records k q (of-state owner client q k m)) ∙ has_stays k g);
        with_its_state = its-state;
        below_every_kept = λ q. below_all;
        all_go = λ q. all_of;
        nothing_changes = none-there;
        others_keep = elsewhere-keeps;
        other_owner_keeps = λ k n o h. stays-holds k (other_stays owner client keep y.records k (elsewhere owner client k n)) o h;
        only_removes = was-held;
        counted = λ x z. omega (arith, length-cleared owner client keep y.records, ap length (one-book Current lawful b x y).2, ap length (after-records z ∙ is-cleared));
        freed = λ x z. omega (arith, own-count x z, quotas_are x z owner, x.within owner);
        others_free = λ x z o n. omega (arith, quotas_are x z o, ap (count_by owner_of o) (one-book Current lawful b x y).2, ap (count_by owner_of o) (after-records z ∙ is-cleared), others-cleared owner client keep y.records o n);
        room_again = λ z k n o f.
            let g : count_by owner_of owner z.records ≡ quota_in z owner = rw o at f in
            n (omega (arith, own-count y z, quotas_are y z owner, y.within owner));
      }

  on-book : {b₁ : List ℕ} {x : Count} → x ≡ (clear_in owner client keep y.records).0 → b₁ ≡ bytes_with y (clear_in owner client keep y.records).1 → ClearSays b owner client keep x b₁
  on-book {b₁} {x} ex eb = go (way owner client keep)
    where
      go : Way owner client keep → ClearSays b owner client keep x b₁
      go (nobodys o f) = rw (ex ∙ ap (λ (z : Count × List Rec). z.0) (f y.records))
          (kept_by eb 23 (f y.records) (λ q. omega arith) (λ q. omega arith) ((λ q. (y, o), λ q. refl)) (λ m z i j. (λ q. absurd (j (sym q)), λ q. clash (is_owner owner) q.1 o)) (λ q r. clash (is_owner owner) q o))
      go (refused o n f) = rw (ex ∙ ap (λ (z : Count × List Rec). z.0) (f y.records))
          (kept_by eb (check_of check.client client) (f y.records) (own client).0 n ((λ q. absurd ((own client).1 q), λ q. clash (is_owner owner) o q.1)) (λ m z i j. (λ q. (y, o, q), λ q. q.2)) (λ q r. n r))
      go (laws.Way.done o n f) = rw (ex ∙ ap (λ (z : Count × List Rec). z.0) (f y.records)) (cleared_by eb o n (f y.records))

-- ---- on what is no book
module _ {b : List ℕ} (owner : ℕ) (client : List ℕ) (keep : ℕ) (n : ProperBook b → ⊥) where
  none-held : {A : Type 0} {k : Key} {o : Option (List ℕ)} → Holds b k o → A
  none-held h = absurd (n h.book)

  no_book : ClearSays b owner client keep (count 9 0) b
  no_book = record {
    bad_book_when = (λ q. n, λ q. refl);
    bad_owner_when = (λ q. absurd (let w : ⊥ = omega arith in w), λ q. absurd (n q.0));
    bad_client = λ m z i j. (λ q. absurd (i (sym q)), λ q. absurd (n q.0));
    done = (λ q. absurd (let w : ⊥ = omega arith in w), λ q. absurd (n q.0));
    refusal_keeps = λ q. (refl, refl);
    stays_a_book = λ z. z;
    same_size = refl;
    same_quotas = λ y z o. absurd (n y);
    kept_number = λ q y z. absurd (n y);
    kept_greatest = λ p q j k i h. none-held h.1;
    with_its_state = λ p j k i h. none-held h.1;
    below_every_kept = λ q x. none-held x.3.1;
    all_go = λ q z x. none-held x.3.1;
    nothing_changes = λ q. (refl, refl);
    others_keep = λ k h o g. g;
    other_owner_keeps = λ k h o g. g;
    only_removes = λ k v g. g;
    counted = λ y z. absurd (n y);
    freed = λ y z. absurd (n y);
    others_free = λ y z o h. absurd (n y);
    room_again = λ z. absurd (n z);
  }

by-book : {b : List ℕ} {owner : ℕ} {client : List ℕ} {keep : ℕ} {x : Count} {b₁ : List ℕ} → Cleared Current b owner client keep x b₁ → ClearSays b owner client keep x b₁
by-book {owner = owner} {client = client} {keep = keep} (clear.Cleared.no_book n e f) = rw (e, f) (no_book owner client keep n)
by-book {owner = owner} {client = client} {keep = keep} (clear.Cleared.this_book y e f) = on-book owner client keep y e f

pub outcome : {b : List ℕ} {owner : ℕ} {client : List ℕ} {keep : ℕ} {x : Count} {b₁ : List ℕ} → ClearCall b owner client keep x b₁ → Cleared Current b owner client keep x b₁
outcome c =
    let p : Cleared Current c.args.0.now c.args.1.0 c.args.1.1.0.now c.args.1.1.1.0 c.result c.exits.0.now = c.ensures in
    rw (c.book_in, c.owner_in, c.client_in, c.keep_in, c.answer_out, c.book_out) at p

pub states-counted : StatesCounted
states-counted b y i r e owner client p = (state_of owner client p r.0 (exact-at Current y.records i r y.exact e), of-state owner client p r.0)

-- THE THEOREM
pub clear_demand : ClearDemand ClearCall
clear_demand b owner client keep x b₁ c = by-book (outcome c)
