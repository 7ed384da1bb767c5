-- Clearings that are of no use, and the line of `ClearSays` that each breaks, whatever else it does.
-- Assumes nothing.
use Rattle.std.specs.Prelude.{ℕ, ◌+◌, ◌≤◌, ◌≡◌, refl, Bool, true, false, cond, List, [], ◌∷◌, eqb}
use Rattle.std.proofs.Common.{subst, inl, inr, arith, eqb-true}
use Rattle.std.proofs.Math.Option.{none, some}
use Rattle.text.specs.Bytes.{bytes}
use Rattle.text.specs.Number.{numeral_of, digits_at, digits_from, decimal, digits, width, width_by}
use Rattle.text.specs.Order.{cmp}
use Rattle.text.specs.Part.{every, ascii, starts_with, same}
use Rattle.identifiers.specs.Check.{among, identifier_byte, chars_of, within, index_of, named_of, check_of, fault_of}
use Rattle.identifiers.specs.Check as check
use Rattle.path.specs.declared.Revision.{Revision}
use Rattle.path.specs.declared.ConsensusPlaces.{ConsensusPlaces}
use Rattle.path.specs.declared.Path.{Path}
use Rattle.path.specs.declared.Path.TheVariants.{ClientConsensusState, ClientUpdateTime}
use Rattle.path.specs.Reading.{Read}
use Rattle.path.specs.Text.{cut_at, join_by, places_from}
use Rattle.path.specs.Kinds.{kinds}
use Rattle.path.specs.Read.{name_fault, fits, fits_kind, read_kind, read_first, read_path, show, render, parts_of, render_path, texts_of, key_of}
use Rattle.path.specs.BackLaws.{exact-renders}
use Rattle.path.specs.Revision.{revision, below}
use Rattle.path.specs.RevisionLaws.{below-not-above}
use Rattle.path.specs.View.{carried_of}
use Rattle.book_records.specs.Records.{Key, get}
use Rattle.book_records.specs.Act.{Rec, count_by}
use Rattle.book_records.specs.Calls.{ValueFits, Exact}
use Rattle.book_form.specs.Form.{layout}
use Rattle.book_form.specs.declared.Quotas.{Quotas}
use Rattle.book.specs.Book.{Current}
use Rattle.book_clear.specs.declared.Count.{Count}
use Rattle.book_clear.specs.Clear.{least}
use Rattle.book_clear.specs.RankLaws.{clash, least_first}
use Rattle.demands.specs.Held.{ProperBook}
use Rattle.demands.specs.HeldLaws.{one-held}
use Rattle.demands.specs.ClearCall.{IsState, IsTimeOrHeight, Has, Lacks, SomeState, states, ClearDemand}
use Rattle.demands.specs.ClearCallLaws.{some-counts, no-counts}

-- ---- a book with two states of a client, and the processed time of the lower one
abbrev client : List ℕ
client = bytes "07-tendermint-4"

abbrev ten : List ℕ
ten = bytes "clients/07-tendermint-4/consensusStates/10-2"

abbrev seven : List ℕ
seven = bytes "clients/07-tendermint-4/consensusStates/7-2"

abbrev time : List ℕ
time = bytes "clients/07-tendermint-4/consensusStates/7-2/processedTime"

abbrev at : ℕ → ℕ → ConsensusPlaces
at m h = record { client = record { start = 8; len = 15 }; number = record { 0 = m }; height = record { 0 = h } }

abbrev all_read : Type 0
all_read = (read_path ten ≡ Read (ClientConsensusState (at 10 2)) true) × (read_path seven ≡ Read (ClientConsensusState (at 7 2)) true) × (read_path time ≡ Read (ClientUpdateTime (at 7 2)) true)

reads : all_read
unfolding numeral_of digits_at digits_from decimal digits width width_by every ascii starts_with same among identifier_byte chars_of within index_of named_of check_of fault_of cut_at join_by places_from kinds name_fault fits fits_kind read_kind read_first read_path show render parts_of render_path
reads = (refl, refl, refl)

accepted : check_of check.client client ≡ 0
unfolding every ascii among identifier_byte chars_of within check_of
accepted = refl

exact_of : (t : List ℕ) (p : Path) → read_path t ≡ Read p true → Exact t
unfolding key_of
exact_of t p e = rw (e, exact-renders t p e)

is_ten : IsState 1 client (revision 10 2) (1 ∷ ten)
is_ten = record { text = ten; parts = texts_of ten (carried_of (ClientConsensusState (at 10 2))); is = refl; reads = record { path = ClientConsensusState (at 10 2); read = reads.0; kind = refl; carried = refl }; client_is = refl; revision_is = refl }

is_seven : IsState 1 client (revision 7 2) (1 ∷ seven)
is_seven = record { text = seven; parts = texts_of seven (carried_of (ClientConsensusState (at 7 2))); is = refl; reads = record { path = ClientConsensusState (at 7 2); read = reads.1; kind = refl; carried = refl }; client_is = refl; revision_is = refl }

is_time : IsTimeOrHeight 1 client (revision 7 2) (1 ∷ time)
is_time = inl (record { text = time; parts = texts_of time (carried_of (ClientUpdateTime (at 7 2))); is = refl; reads = record { path = ClientUpdateTime (at 7 2); read = reads.2; kind = refl; carried = refl }; client_is = refl; revision_is = refl })

abbrev value : List ℕ
value = 7 ∷ []

sized : ValueFits value
sized = record { least = omega arith; most = omega arith }

abbrev quotas : Quotas
quotas = record { one = 3; two = 0 }

abbrev records : List Rec
records = (1 ∷ ten, value) ∷ (1 ∷ seven, value) ∷ (1 ∷ time, value) ∷ []

abbrev b : List ℕ
b = layout Current 3 quotas records

no_more : (o : ℕ) → count_by Current.owner o records ≤ Current.quota quotas 3 o
unfolding count_by
no_more o = go (eqb 1 o) refl
  where
    go : (v : Bool) → eqb 1 o ≡ v → cond v 1 0 + (cond v 1 0 + (cond v 1 0 + 0)) ≤ Current.quota quotas 3 o
    go true e = let z : 1 ≡ o = eqb-true 1 o e in rw (← z) (omega arith)
    go false e = omega arith

book : ProperBook b
unfolding cmp
book = record {
  slots = 3;
  extra = quotas;
  records = records;
  least = omega arith;
  most = omega arith;
  fit = ((omega arith, omega arith, sized), ((omega arith, omega arith, sized), ((omega arith, omega arith, sized), tt)));
  exact = ((refl, exact_of ten (ClientConsensusState (at 10 2)) reads.0), ((refl, exact_of seven (ClientConsensusState (at 7 2)) reads.1), ((refl, exact_of time (ClientUpdateTime (at 7 2)) reads.2), tt)));
  sorted = ((refl, (refl, tt)), ((refl, tt), (tt, tt)));
  quotas = omega arith;
  within = no_more;
  bytes = refl;
}

has_ten : Has b (1 ∷ ten)
unfolding book get cmp
has_ten = (value, record { book = book; is = refl })

has_seven : Has b (1 ∷ seven)
unfolding book get cmp
has_seven = (value, record { book = book; is = refl })

has_time : Has b (1 ∷ time)
unfolding book get cmp
has_time = (value, record { book = book; is = refl })

a_state : SomeState b 1 client
a_state = (revision 7 2, 1 ∷ seven, is_seven, has_seven)

not_both : {l : List ℕ} {k : Key} → Has l k → Lacks l k → ⊥
not_both h l = let e : some h.0 ≡ none = one-held h.1 l in let z : ◌≡◌ {A = ℕ} 0 1 = cc in omega arith

-- ---- whatever function it is that answers every call
module _ (Clears : List ℕ → ℕ → List ℕ → ℕ → Count → List ℕ → Type 0) (answers : (l : List ℕ) (owner : ℕ) (c : List ℕ) (keep : ℕ) → (x : Count) × (l₁ : List ℕ) × Clears l owner c keep x l₁) where
  done : ClearDemand Clears → (keep : ℕ) → (answers b 1 client keep).0.refusal ≡ 0
  done d keep = let a = answers b 1 client keep in (d b 1 client keep a.0 a.1 a.2).done.1 (book, refl, accepted)

  -- one that refuses every call. It breaks `done`
  abbrev pub RefusesAll : Type 0
  RefusesAll = (l : List ℕ) (owner : ℕ) (c : List ℕ) (keep : ℕ) (x : Count) (l₁ : List ℕ) → Clears l owner c keep x l₁ → x.refusal ≡ 0 → ⊥

  pub refuses_all_refused : RefusesAll → ClearDemand Clears → ⊥
  refuses_all_refused h d = let a = answers b 1 client 0 in h b 1 client 0 a.0 a.1 a.2 (done d 0)

  -- one that changes no byte, whatever it answers. It breaks `all_go`
  abbrev pub ClearsNothing : Type 0
  ClearsNothing = (l : List ℕ) (owner : ℕ) (c : List ℕ) (keep : ℕ) (x : Count) (l₁ : List ℕ) → Clears l owner c keep x l₁ → l₁ ≡ l

  pub clears_nothing_refused : ClearsNothing → ClearDemand Clears → ⊥
  clears_nothing_refused h d =
      let a = answers b 1 client 0 in
      let w : Lacks a.1 (1 ∷ seven) = (d b 1 client 0 a.0 a.1 a.2).all_go (done d 0) refl a_state (revision 7 2) (1 ∷ seven) (inl is_seven) in
      not_both has_seven (subst (λ (l : List ℕ). Lacks l (1 ∷ seven)) (h b 1 client 0 a.0 a.1 a.2) w)

  -- one that leaves processed times and heights alone. It breaks `all_go` too
  abbrev pub LeavesTimes : Type 0
  LeavesTimes = (l : List ℕ) (owner : ℕ) (c : List ℕ) (keep : ℕ) (x : Count) (l₁ : List ℕ) → Clears l owner c keep x l₁ → (p : Revision) (k : Key) → IsTimeOrHeight owner c p k → Has l k → Has l₁ k

  pub leaves_times_refused : LeavesTimes → ClearDemand Clears → ⊥
  leaves_times_refused h d =
      let a = answers b 1 client 0 in
      let w : Lacks a.1 (1 ∷ time) = (d b 1 client 0 a.0 a.1 a.2).all_go (done d 0) refl a_state (revision 7 2) (1 ∷ time) (inr is_time) in
      not_both (h b 1 client 0 a.0 a.1 a.2 (revision 7 2) (1 ∷ time) is_time has_time) w

  -- one that leaves no state, whatever is to be kept. It breaks `kept-number`
  abbrev pub ClearsAll : Type 0
  ClearsAll = (l : List ℕ) (owner : ℕ) (c : List ℕ) (keep : ℕ) (x : Count) (l₁ : List ℕ) → Clears l owner c keep x l₁ → (p : Revision) (k : Key) → IsState owner c p k → Has l₁ k → ⊥

  pub clears_all_refused : ClearsAll → ClearDemand Clears → ⊥
  clears_all_refused h d =
      let a = answers b 1 client 1 in
      let s = d b 1 client 1 a.0 a.1 a.2 in
      let after = s.stays_a_book book in
      let e : states after 1 client ≡ least 1 (states book 1 client) = s.kept_number (done d 1) book after in
      let zero : states after 1 client ≡ 0 = no-counts 1 client 1 after (λ x. h b 1 client 1 a.0 a.1 a.2 x.0 x.1 x.2 x.3) in
      omega (arith, e, zero, least_first 1 (states book 1 client) (some-counts 1 client 1 book a_state))

  -- one that keeps the lower of two states where one is to be kept. It breaks `kept-greatest`
  abbrev pub KeepsLower : Type 0
  KeepsLower = (l : List ℕ) (owner : ℕ) (c : List ℕ) (x : Count) (l₁ : List ℕ) → Clears l owner c 1 x l₁ → (p q : Revision) (j k : Key) → IsState owner c p j → Has l j → IsState owner c q k → Has l k → below p q ≡ true → Has l₁ j × Lacks l₁ k

  pub keeps_lower_refused : KeepsLower → ClearDemand Clears → ⊥
  keeps_lower_refused h d =
      let a = answers b 1 client 1 in
      let w = h b 1 client a.0 a.1 a.2 (revision 7 2) (revision 10 2) (1 ∷ seven) (1 ∷ ten) is_seven has_seven is_ten has_ten refl in
      let e = (d b 1 client 1 a.0 a.1 a.2).kept_greatest (revision 10 2) (revision 7 2) (1 ∷ ten) (1 ∷ seven) is_ten has_ten w.1 is_seven w.0 in
      clash (below (revision 10 2) (revision 7 2)) e (below-not-above (revision 7 2) (revision 10 2) refl)
