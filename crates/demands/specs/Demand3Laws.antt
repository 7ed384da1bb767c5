-- Demand 3 holds of any functions that do only what `Permitted` allows.
-- Assumes nothing.
use Rattle.std.specs.Prelude.{ℕ, suc, ◌≤◌, ◌<◌, ◌≡◌, ◌↔◌, ◌⊎◌, Bool, true, false, length, take}
use Rattle.std.proofs.Math.Path.{refl, sym, ap}
use Rattle.std.proofs.Common.{◌∙◌, inl, inr}
use mathlib.Core.List.{List}
use Rattle.std.proofs.Math.Option.{Option, none, some}
use Rattle.std.proofs.Math.Decide.{dec_lt}
use native.Mathlib.Omega.{arith}
use Rattle.std.proofs.Math.ListN.{get_elem?}
use Rattle.runs.specs.MachineLaws.{answers, final, answer_at, Enough, SameKey, LastUpdate, Unchanged}
use Rattle.runs.specs.MachineLaws as machine
use Rattle.runs.specs.Runs.{Runs}
use Rattle.runs.specs.RunsLaws.{does_at, kept_at, kept-end, simulates}
use Rattle.book_records.specs.Records.{Key, get, put, del}
use Rattle.book_records.specs.Act.{Rec, Meaning, add_to, take_from, look_in, act, Seen, seen}
use Rattle.book_records.specs.ActLaws.{key_meant, ans_of}
use Rattle.book_records.specs.Calls.{Call, meaning, PathOf, SamePath}
use Rattle.book.specs.Book.{bytes_with, full_in, acts}
use Rattle.demands.specs.Held.{Holds, Looks, leaves, ProperBook}
use Rattle.demands.specs.Permitted.{Permitted}
use Rattle.book_records.specs.CallLaws.{Means, declines, writing, removing, looking, declined-not}
use Rattle.book_records.proofs.CallLaws.{means}
use Rattle.demands.specs.HeldLaws.{holds_in}
use Rattle.demands.specs.Refusals.{Refused, not_found}
use Rattle.demands.specs.PermittedLaws.{no-look-write, no-look-remove, permitted-book, refused_exactly}
use Rattle.demands.specs.MachineLaws.{path_of-key, key_of-path, Good, step, good_of, book_of, size_of, keeps-book, sim, enough}
use Rattle.demands.specs.MachineLaws as by-records
use Rattle.demands.specs.Demand3.{Taken, Again, Made, point, AcceptedAt, LastAt, Demand3}

-- ---- one call on a book
-- 9 is never given there
not_nine : {b : List ℕ} (x : ProperBook b) {c : Call} {m : Meaning} → Means c m → (seen (acts x m).0).number ≡ 9 → ⊥
unfolding act
not_nine x (declines d) e = (declined-not d).1 e
not_nine x (writing {k = k} {v = v} ok) e = go (get x.records k) (full_in x k x.records) e
  where
    go : (o : Option (List ℕ)) (f : Bool) → (seen (add_to o f (put x.records k v) x.records).0).number ≡ 9 → ⊥
    go (some u) f e = omega arith
    go none true e = omega arith
    go none false e = omega arith
not_nine x (removing {k = k} ok) e = go (get x.records k) e
  where
    go : (o : Option (List ℕ)) → (seen (take_from o (del x.records k) x.records).0).number ≡ 9 → ⊥
    go none e = omega arith
    go (some u) e = omega arith
not_nine x (looking {k = k} ok) e = go (get x.records k) e
  where
    go : (o : Option (List ℕ)) → (seen (look_in o x.records).0).number ≡ 9 → ⊥
    go none e = omega arith
    go (some u) e = omega arith

-- 11 is not what a cell says
not_eleven : {c : Call} {m : Meaning} → Means c m → (x : Option (List ℕ)) → (seen (ans_of m x)).number ≡ 11 → ⊥
not_eleven (declines d) x e = (declined-not d).2 e
not_eleven (writing ok) x e = omega arith
not_eleven (removing ok) none e = omega arith
not_eleven (removing ok) (some u) e = omega arith
not_eleven (looking ok) none e = omega arith
not_eleven (looking ok) (some u) e = omega arith

-- a lookup's answer
pub look-gives : {b : List ℕ} (x : ProperBook b) {c : Call} {m : Meaning} → Means c m → Looks c → (a : Seen) → a ≡ seen (acts x m).0 → a.number ≡ 0
    → (k : Key) × PathOf c k × Holds b k (some a.value)
unfolding act
look-gives x (declines d) w a q e = absurd ((declined-not d).0 (sym (ap (λ (y : Seen). y.number) q) ∙ e))
look-gives x {c} (writing {v = v} ok) w a q e = absurd (no-look-write c v ok.asked w)
look-gives x {c} (removing ok) w a q e = absurd (no-look-remove c ok.asked w)
look-gives {b} x {c} (looking {k = k} ok) w a q e = go (get x.records k) refl q
  where
    go : (y : Option (List ℕ)) → get x.records k ≡ y → a ≡ seen (look_in y x.records).0 → (j : Key) × PathOf c j × Holds b j (some a.value)
    go none g p = let z : ◌≡◌ {A = ℕ} 12 0 = sym (ap (λ (y : Seen). y.number) p) ∙ e in absurd (omega arith)
    go (some u) g p = (k, ok.key.path, record { book = x; is = g ∙ ap (λ (y : Seen). some y.value) (sym p) })

look-nothing : {b : List ℕ} (x : ProperBook b) {c : Call} {m : Meaning} → Means c m → Looks c → (seen (acts x m).0).number ≡ 12 → (k : Key) × PathOf c k × Holds b k none
unfolding act
look-nothing x (declines d) w e = absurd ((declined-not d).3 e)
look-nothing x {c} (writing {v = v} ok) w e = absurd (no-look-write c v ok.asked w)
look-nothing x {c} (removing ok) w e = absurd (no-look-remove c ok.asked w)
look-nothing {b} x {c} (looking {k = k} ok) w e = go (get x.records k) refl e
  where
    go : (y : Option (List ℕ)) → get x.records k ≡ y → (seen (look_in y x.records).0).number ≡ 12 → (j : Key) × PathOf c j × Holds b j none
    go none g p = (k, ok.key.path, record { book = x; is = g })
    go (some u) g p = absurd (omega arith)

-- ---- a list of calls
module _ (Does : List ℕ → Call → Seen → List ℕ → Type 0) (permits : (b : List ℕ) (c : Call) (a : Seen) (b₁ : List ℕ) → Does b c a b₁ → Permitted b c a b₁) (x : Taken Does) where
  s : List Rec
  s = x.book.records

  cs : List Call
  cs = x.calls

  abbrev M : machine.Independent
  M = by-records.machine x.book

  g : Good x.book s
  unfolding s
  g = good_of x.book

  does : (s : List Rec) (c : Call) (a : Seen) (b₁ : List ℕ) → Good x.book s → Does (bytes_with x.book s) c a b₁
      → (a ≡ (step x.book s c).0) × (b₁ ≡ bytes_with x.book (step x.book s c).1)
  does s c a b₁ h d = sim x.book s c a b₁ h (permits (bytes_with x.book s) c a b₁ d)

  room : Enough M s cs
  unfolding s cs
  room = enough x.book x.calls x.room

  same_key : (c d : Call) → SameKey M c d → SamePath c d
  same_key c d w = (w.0, path_of-key (means c) w.0 w.1, path_of-key (means d) w.0 w.2)

  -- what the run answers and leaves is what the machine does
  ran : {ds : List Call} {bs : List Seen} {b₂ : List ℕ} → Runs Does x.start ds bs b₂ → (bs ≡ answers M.step s ds) × (b₂ ≡ bytes_with x.book (final M.step s ds))
  unfolding s
  ran r = simulates M Does (bytes_with x.book) does r s g x.book.bytes

  all-answers : x.answers ≡ answers M.step s cs
  unfolding cs
  all-answers = (ran x.run).0

  at_the-end : x.end ≡ bytes_with x.book (final M.step s cs)
  unfolding cs
  at_the-end = (ran x.run).1

  -- the answer of a call that was made, by the machine
  answered : (i : ℕ) (m : Made Does x i) → get_elem? (answers M.step s cs) i ≡ some m.answer
  answered i m = ap (λ (l : List Seen). get_elem? l i) (sym all-answers) ∙ m.said

  by-machine : (i : ℕ) (m : Made Does x i) → m.answer ≡ (step x.book (final M.step s (take i cs)) m.call).0
  unfolding cs
  by-machine i m =
      let p = answered i m in
      let q = answer_at M.step s cs i m.call m.there in
      cc

  -- the book at each point, and what is done there
  book-at : (i : ℕ) → ProperBook (point Does x i)
  book-at i = kept_at ProperBook (λ b c a b₁ d. keeps-book b c a b₁ (permits b c a b₁ d)) x.run x.book i

  done_at : (i : ℕ) (m : Made Does x i) → (b₂ : List ℕ) × Permitted (point Does x i) m.call m.answer b₂
  done_at i m =
      let d = does_at x.run i m.call m.answer m.there m.said in
      (d.0, permits (point Does x i) m.call m.answer d.0 d.1)

  said_at : (i : ℕ) (m : Made Does x i) → m.answer ≡ seen (acts (book-at i) (meaning m.call)).0
  said_at i m = let d = done_at i m in (permitted-book (point Does x i) m.call m.answer d.0 (book-at i) d.1).0

  exactly : (i : ℕ) (m : Made Does x i) (n : ℕ) → (n ≡ 0 → ⊥) → (m.answer.number ≡ n) ↔ Refused (point Does x i) m.call n
  exactly i m n nz = let d = done_at i m in refused_exactly (point Does x i) m.call m.answer d.0 d.1 n nz

  never_full : (i : ℕ) (m : Made Does x i) → m.answer.number ≡ 11 → ⊥
  unfolding cs
  never_full i m e = go (key_meant (meaning m.call)) refl
    where
      by_answer : (o : Option (List ℕ)) → get_elem? (answers M.step s cs) i ≡ some (seen (ans_of (meaning m.call) o)) → ⊥
      by_answer o p =
          let q = answered i m in
          let r : m.answer ≡ seen (ans_of (meaning m.call) o) = cc in
          not_eleven (means m.call) o (sym (ap (λ (y : Seen). y.number) r) ∙ e)

      go : (k : Option Key) → key_meant (meaning m.call) ≡ k → ⊥
      go none f = by_answer none (machine.refused-at M s cs g i m.call m.there f)
      go (some k) f = by_answer _ (machine.says_at M s cs g room i m.call k m.there f)

  holds-end : (k : Key) (o : Option (List ℕ)) → get (final M.step s cs) k ≡ o → Holds x.end k o
  unfolding book_of
  holds-end k o e = record { book = book_of x.book x.end (final M.step s cs) (machine.good-final M s cs g) at_the-end; is = e }

  -- an accepted write or removal, here and in the machine
  on-key : (k : Key) (i : ℕ) (u : AcceptedAt Does x k i) → key_meant (meaning u.made.call) ≡ some k
  on-key k i u =
      let e = by-machine i u.made in
      key_of-path (means u.made.call) k u.path (full_in x.book) (final M.step s (take i cs)) (sym (ap (λ (y : Seen). y.number) e) ∙ u.accepted.1)

  accepted-by : (k : Key) (r : LastUpdate M s cs k) → AcceptedAt Does x k r.place
  unfolding cs
  accepted-by k r =
      record {
        made = record { call = r.call; answer = r.answer; there = r.there; said = ap (λ (l : List Seen). get_elem? l r.place) all-answers ∙ r.said };
        path = path_of-key (means r.call) k r.is_on;
        accepted = r.accepted;
      }

  changed : (k : Key) (f i : ℕ) → f ≤ i → Unchanged M s cs k f → AcceptedAt Does x k i → ⊥
  unfolding cs
  changed k f i h q u = q i h u.made.call u.made.answer u.made.there (on-key k i u) (answered i u.made) u.accepted

  last_accepted : (k : Key) (i : ℕ) (u : LastAt Does x k i) → Holds x.end k (leaves u.here.made.call)
  unfolding cs
  last_accepted k i u = go (machine.at_end M s cs g room k)
    where
      same_place : (r : LastUpdate M s cs k) → r.place ≡ i
      same_place r = order (dec_lt r.place i) (dec_lt i r.place)
        where
          order : Dec (r.place < i) → Dec (i < r.place) → r.place ≡ i
          order (yes p) q = absurd (changed k (suc r.place) i p r.later u.here)
          order (no p) (yes q) = absurd (u.none_later r.place q (accepted-by k r))
          order (no p) (no q) = omega arith

      go : ((r : LastUpdate M s cs k) × (get (final M.step s cs) k ≡ leaves r.call)) ⊎ (Unchanged M s cs k 0 × (get (final M.step s cs) k ≡ get s k)) → Holds x.end k (leaves u.here.made.call)
      go (inl (r, e)) =
          let p = same_place r in
          let q : get_elem? x.calls i ≡ some r.call = rw p at r.there in
          let c : r.call ≡ u.here.made.call = cc u.here.made.there in
          holds-end k _ (e ∙ ap leaves c)
      go (inr (q, e)) = absurd (changed k 0 i (omega arith) q u.here)

  -- a path had a last accepted write or removal, or none
  each_path : (k : Key) → ((i : ℕ) × LastAt Does x k i) ⊎ ((i : ℕ) → AcceptedAt Does x k i → ⊥)
  each_path k = go (machine.at_end M s cs g room k)
    where
      go : ((r : LastUpdate M s cs k) × (get (final M.step s cs) k ≡ leaves r.call)) ⊎ (Unchanged M s cs k 0 × (get (final M.step s cs) k ≡ get s k))
          → ((i : ℕ) × LastAt Does x k i) ⊎ ((i : ℕ) → AcceptedAt Does x k i → ⊥)
      go (inl (r, e)) = inl (r.place, record { here = accepted-by k r; none_later = λ j l u. changed k (suc r.place) j l r.later u })
      go (inr (q, e)) = inr (λ i u. changed k 0 i (omega arith) q u)

  others_keep : (k : Key) → ((i : ℕ) → AcceptedAt Does x k i → ⊥) → (o : Option (List ℕ)) → Holds x.start k o → Holds x.end k o
  unfolding s
  others_keep k none-on o h = go (machine.at_end M s cs g room k)
    where
      go : ((r : LastUpdate M s cs k) × (get (final M.step s cs) k ≡ leaves r.call)) ⊎ (Unchanged M s cs k 0 × (get (final M.step s cs) k ≡ get s k)) → Holds x.end k o
      go (inl (r, e)) = absurd (none-on r.place (accepted-by k r))
      go (inr (q, e)) = holds-end k o (e ∙ holds_in h x.book)

  module _ (y : Again Does x) where
    pub same_answers : (i : ℕ) → i < length x.calls → get_elem? y.answers (y.moved.to i) ≡ get_elem? x.answers i
    unfolding cs
    same_answers i h =
        ap (λ (l : List Seen). get_elem? l (y.moved.to i)) (ran y.run).0
        ∙ machine.same_answers M same_key s g cs y.calls room y.moved i h
        ∙ ap (λ (l : List Seen). get_elem? l i) (sym all-answers)

    pub same_bytes : y.end ≡ x.end
    unfolding cs
    same_bytes = (ran y.run).1 ∙ ap (bytes_with x.book) (machine.same-final M same_key s g cs y.calls room y.moved) ∙ sym at_the-end

  -- THE THEOREM
  pub demand3 : Demand3 Does x
  demand3 =
      record {
        same_answers = same_answers;
        refused_exactly = exactly;
        never_bad_book = λ i m e. not_nine (book-at i) (means m.call) (sym (ap (λ (y : Seen). y.number) (said_at i m)) ∙ e);
        never_full = never_full;
        same_bytes = same_bytes;
        stays_a_book = kept-end ProperBook (λ b c a b₁ d. keeps-book b c a b₁ (permits b c a b₁ d)) x.run x.book;
        same_size = ap length at_the-end ∙ size_of x.book (final M.step s cs) (machine.good-final M s cs g);
        last_accepted = last_accepted;
        others_keep = others_keep;
        each_path = each_path;
        lookup_gives = λ i m w e. look-gives (book-at i) (means m.call) w m.answer (said_at i m) e;
        twelve_says = λ i m w e. look-nothing (book-at i) (means m.call) w (sym (ap (λ (y : Seen). y.number) (said_at i m)) ∙ e);
        twelve_when = λ i m k room ok h. (exactly i m 12 (λ e. omega arith)).1 (not_found ok h);
      }
