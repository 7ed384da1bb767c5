-- That `hp_book_oldest` says what `OldestCall` has.
-- Assumes nothing.
use Rattle.std.specs.Prelude.{ℕ, Bool, true, false, cond, drop, eqb, Option, Some, None}
use Rattle.std.proofs.Math.Path.{◌≡◌, refl, sym, ap}
use Rattle.std.proofs.Common.{subst, ◌∙◌}
use mathlib.Core.List.{List, [], ◌∷◌}
use Rattle.std.proofs.Math.Option.{some}
use Rattle.std.proofs.Math.ListN.{get_elem?}
use native.Mathlib.Omega.{arith}
use borrow.Author.Tests.{eqb-true, eqb-false, eq-eqb}
use Rattle.identifiers.specs.Check.{check_of}
use Rattle.identifiers.specs.Check as check
use Rattle.book_records.specs.Records.{Key}
use Rattle.book_records.specs.Act.{Rec}
use Rattle.book_records.specs.Calls.{is_owner, owner_of}
use Rattle.path.specs.declared.Pair.{Pair}
use Rattle.path.specs.declared.Revision.{Revision}
use Rattle.path.specs.Pair.{pair}
use Rattle.path.specs.Revision.{revision}
use Rattle.book.specs.Book.{Current}
use Rattle.book.specs.BookLaws.{one-book, lawful}
use Rattle.book_oldest.specs.Oldest.{state_of, own_state, oldest_state, oldest_in, Oldest}
use Rattle.book_oldest.specs.Oldest as oldest
use Rattle.book_oldest.proofs.OldestLaws.{oldest-nothing, oldest-held, oldest-least}
use Rattle.demands.specs.Held.{ProperBook}
use Rattle.demands.specs.ShapeLaws.{plain_of}
use Rattle.demands.specs.OldestCall.{OldestCall, HoldsState, OldestSays, OldestDemand}

-- the client's check gives none of 9, 12 and 23
abbrev Own : ℕ → Type 0
Own n = (n ≡ 9 → ⊥) × (n ≡ 12 → ⊥) × (n ≡ 23 → ⊥)

own : (client : List ℕ) → Own (check_of check.client client)
own client = plain_of Own (λ e. omega arith, λ e. omega arith, λ e. omega arith) (λ e. omega arith, λ e. omega arith, λ e. omega arith) (λ e. omega arith, λ e. omega arith, λ e. omega arith) (λ e. omega arith, λ e. omega arith, λ e. omega arith) 9 64 client

not_both : {A : Type 0} (v : Bool) → v ≡ true → v ≡ false → A
not_both v e f = let z : true ≡ false = sym e ∙ f in let w : ◌≡◌ {A = ℕ} 0 1 = cc in absurd (omega arith)

-- a key that tells a state of an owner's client is that owner's
module _ (owner : ℕ) (client : List ℕ) where
  of-own : (t : List ℕ) → own_state owner client (owner ∷ t) ≡ state_of client t
  unfolding own_state
  of-own t = rw (eq-eqb owner owner refl)

  own-state : is_owner owner ≡ true → (k : Key) (p : Revision) → own_state owner client k ≡ Some p → (t : List ℕ) × (k ≡ owner ∷ t) × (state_of client t ≡ Some p)
  unfolding own_state
  own-state known k p e = go (eqb (owner_of k) owner) refl e
    where
      split : (j : Key) → owner_of j ≡ owner → state_of client (drop 1 j) ≡ Some p → (t : List ℕ) × (j ≡ owner ∷ t) × (state_of client t ≡ Some p)
      split [] o q = not_both (is_owner 0) (subst (λ (n : ℕ). is_owner n ≡ true) (sym o) known) refl
      split (a ∷ t) o q = (t, ap (λ (n : ℕ). n ∷ t) o, q)

      go : (v : Bool) → eqb (owner_of k) owner ≡ v → cond v (state_of client (drop 1 k)) None ≡ Some p → (t : List ℕ) × (k ≡ owner ∷ t) × (state_of client t ≡ Some p)
      go false f q = absurd (let z : ◌≡◌ {A = ℕ} 0 1 = cc in let y : ⊥ = omega arith in y)
      go true f q = split k (eqb-true (owner_of k) owner f) q

module _ {b : List ℕ} (owner : ℕ) (client : List ℕ) (y : ProperBook b) where
  abbrev Said : Type 0
  Said = OldestSays b owner client (oldest_in owner client y.records)

  -- what is held, in the records of this book
  state-at : {m h : ℕ} (z : HoldsState b owner client m h) → get_elem? y.records z.place ≡ some (owner ∷ z.key, z.value)
  state-at z = ap (λ (s : List Rec). get_elem? s z.place) (one-book Current lawful b y z.book).2 ∙ z.there

  module _ (known : is_owner owner ≡ true) where
    module _ (accepted : check_of check.client client ≡ 0) where
      some-state : (p : Revision) → oldest_state owner client y.records ≡ Some p → Said
      unfolding oldest_in
      some-state p e = rw (known, accepted, e) (record {
        bad_book_when = (λ q. absurd (let w : ⊥ = omega arith in w), λ n. absurd (n y));
        bad_owner_when = (λ q. absurd (let w : ⊥ = omega arith in w), λ q. not_both (is_owner owner) known q.1);
        bad_client = λ n z i j l. (λ q. absurd (z (sym q)), λ q. absurd (z (sym q.2 ∙ accepted)));
        absent = (λ q. absurd (let w : ⊥ = omega arith in w), λ q. absurd (q.3 p.number.0 p.height.0 held));
        done = (λ q. (known, accepted, p.number.0, p.height.0, held), λ q. refl);
        held = λ q. held;
        least = λ q m h z. oldest-least owner client y.records p e z.place (owner ∷ z.key, z.value) (revision m h) (state-at z) (of-own owner client z.key ∙ z.tells);
      })
        where
          held : HoldsState b owner client p.number.0 p.height.0
          held =
              let x = oldest-held owner client y.records p e in
              let k = own-state owner client known x.1.0 p x.3 in
              record { book = y; place = x.0; key = k.0; value = x.1.1; there = x.2 ∙ ap (λ (l : Key). some (l, x.1.1)) k.1; tells = k.2 }

      no_state : oldest_state owner client y.records ≡ None → Said
      unfolding oldest_in
      no_state e = rw (known, accepted, e) (record {
        bad_book_when = (λ q. absurd (let w : ⊥ = omega arith in w), λ n. absurd (n y));
        bad_owner_when = (λ q. absurd (let w : ⊥ = omega arith in w), λ q. not_both (is_owner owner) known q.1);
        bad_client = λ n z i j l. (λ q. absurd (l (sym q)), λ q. absurd (z (sym q.2 ∙ accepted)));
        absent = (λ q. (y, known, accepted, none), λ q. refl);
        done = (λ q. absurd (let w : ⊥ = omega arith in w), λ q. absurd (none q.2 q.3 q.4));
        held = λ q. absurd (let w : ⊥ = omega arith in w);
        least = λ q. absurd (let w : ⊥ = omega arith in w);
      })
        where
          none : (m h : ℕ) → HoldsState b owner client m h → ⊥
          none m h z =
              let c = oldest-nothing owner client y.records e z.place (owner ∷ z.key, z.value) (state-at z) in
              let t : Some (revision m h) ≡ None = sym z.tells ∙ sym (of-own owner client z.key) ∙ c in
              let w : ◌≡◌ {A = ℕ} 0 1 = cc in
              omega arith

    refused : eqb (check_of check.client client) 0 ≡ false → Said
    unfolding oldest_in
    refused f = rw (known, f) (record {
      bad_book_when = (λ q. absurd ((own client).0 q), λ n. absurd (n y));
      bad_owner_when = (λ q. absurd ((own client).2 q), λ q. not_both (is_owner owner) known q.1);
      bad_client = λ n z i j l. (λ q. (y, known, q), λ q. q.2);
      absent = (λ q. absurd ((own client).1 q), λ q. absurd (no q.2));
      done = (λ q. absurd (no q), λ q. absurd (no q.1));
      held = λ q. absurd (no q);
      least = λ q. absurd (no q);
    })
      where
        no : check_of check.client client ≡ 0 → ⊥
        no = eqb-false (check_of check.client client) 0 f

    of_owner : Said
    of_owner = go (eqb (check_of check.client client) 0) refl
      where
        by_state : check_of check.client client ≡ 0 → (a : Option Revision) → oldest_state owner client y.records ≡ a → Said
        by_state f (Some p) e = some-state f p e
        by_state f None e = no_state f e

        go : (t : Bool) → eqb (check_of check.client client) 0 ≡ t → Said
        go true e = by_state (eqb-true (check_of check.client client) 0 e) (oldest_state owner client y.records) refl
        go false e = refused e

  nobodys : is_owner owner ≡ false → Said
  unfolding oldest_in
  nobodys f = rw f (record {
    bad_book_when = (λ q. absurd (let w : ⊥ = omega arith in w), λ n. absurd (n y));
    bad_owner_when = (λ q. (y, f), λ q. refl);
    bad_client = λ n z i j l. (λ q. absurd (j (sym q)), λ q. not_both (is_owner owner) q.1 f);
    absent = (λ q. absurd (let w : ⊥ = omega arith in w), λ q. not_both (is_owner owner) q.1 f);
    done = (λ q. absurd (let w : ⊥ = omega arith in w), λ q. not_both (is_owner owner) q.0 f);
    held = λ q. absurd (let w : ⊥ = omega arith in w);
    least = λ q. absurd (let w : ⊥ = omega arith in w);
  })

  on-book : Said
  on-book = go (is_owner owner) refl
    where
      go : (v : Bool) → is_owner owner ≡ v → Said
      go true e = of_owner e
      go false e = nobodys e

no_book : {b : List ℕ} (owner : ℕ) (client : List ℕ) → (ProperBook b → ⊥) → OldestSays b owner client (pair 9 0 0)
no_book owner client n = record {
  bad_book_when = (λ q. n, λ q. refl);
  bad_owner_when = (λ q. absurd (let w : ⊥ = omega arith in w), λ q. absurd (n q.0));
  bad_client = λ m z i j l. (λ q. absurd (i (sym q)), λ q. absurd (n q.0));
  absent = (λ q. absurd (let w : ⊥ = omega arith in w), λ q. absurd (n q.0));
  done = (λ q. absurd (let w : ⊥ = omega arith in w), λ q. absurd (n q.4.book));
  held = λ q. absurd (let w : ⊥ = omega arith in w);
  least = λ q. absurd (let w : ⊥ = omega arith in w);
}

by-book : {b : List ℕ} {owner : ℕ} {client : List ℕ} {x : Pair} → Oldest Current b owner client x → OldestSays b owner client x
by-book {owner = owner} {client = client} (oldest.Oldest.no_book n e) = rw e (no_book owner client n)
by-book {owner = owner} {client = client} (oldest.Oldest.this_book y e) = rw e (on-book owner client y)

pub outcome : {b : List ℕ} {owner : ℕ} {client : List ℕ} {x : Pair} → OldestCall b owner client x → Oldest Current b owner client x
outcome c =
    let p : Oldest Current c.args.0.now c.args.1.0 c.args.1.1.0.now c.result = c.ensures in
    rw (c.book_in, c.owner_in, c.client_in, c.answer_out) at p

pub oldest_demand : OldestDemand
oldest_demand b owner client x c = by-book (outcome c)
