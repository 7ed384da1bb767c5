-- Request L14 holds of any functions that do what `EachCall` says.
-- Assumes nothing.
use Rattle.std.specs.Prelude.{ℕ, zero, suc, ◌≡◌, refl, ◌⊎◌, Bool, true, false, cond}
use Rattle.std.proofs.Common.{sym, ap, ◌∙◌, inl, inr, arith}
use mathlib.Core.List.{List, [], ◌∷◌, List-discrete}
use Rattle.std.proofs.Math.Option.{Option, none, some}
use Rattle.std.proofs.Math.Decide.{ℕ_discrete}
use Rattle.path.specs.Read.{why_not}
use Rattle.runs.specs.Runs.{Runs, stop, next}
use Rattle.book_records.specs.Records.{Key, get}
use Rattle.book_records.specs.Act.{Seen}
use Rattle.book_records.specs.Calls.{Asked, to_write, to_remove, to_look, Call, PathOf, is_retired}
use Rattle.book_records.specs.Refusals.{GoodWrite, GoodLookup, Declined, bad_owner_when, too_long_when, not_ascii_when, not_a_path_when, loose, key_too_long_when, retired, bad_length_when, no_room_when}
use Rattle.book_records.specs.CallLaws.{one-path}
use Rattle.demands.specs.Held.{Updates, left_by, Looks, Holds, ProperBook}
use Rattle.demands.specs.HeldLaws.{holds_in, one-held}
use Rattle.demands.specs.BookNumberLaws.{unread_of}
use Rattle.demands.specs.Refusals.{Refused, bad_book_when, declined, book_full, absent, not_found}
use Rattle.demands.specs.EachCall.{Served, adds, replaces, removes, finds, Says, EachCall}
use Rattle.demands.specs.Retired.{Retires, RetiredCall, RemovedAt, Any, Removed, RetiredStays}

-- ---- 25 is that row of the table alone
declined_retires : {b : List ℕ} {c : Call} {n : ℕ} → ProperBook b → n ≡ 25 → Declined c n → Retires b c
declined_retires x e (bad_owner_when w) = absurd (let z : ⊥ = omega arith in z)
declined_retires x e (too_long_when w l) = absurd (let z : ⊥ = omega arith in z)
declined_retires x e (not_ascii_when w l a) = absurd (let z : ⊥ = omega arith in z)
declined_retires {c = c} x e (not_a_path_when w l a r) = absurd (unread_of (λ n. n ≡ 25 → ⊥) (λ q. omega arith) (λ q. omega arith) (λ q. omega arith) (λ q. omega arith) (λ q. omega arith) (λ q. omega arith) (why_not c.text) e)
declined_retires x e (loose p s) = absurd (let z : ⊥ = omega arith in z)
declined_retires x e (key_too_long_when p s l) = absurd (let z : ⊥ = omega arith in z)
declined_retires x e (retired {k = k} {v = v} q has r) = record { book = x; value = v; asked = q; key = k; has = has; is_retired_lem = r }
declined_retires x e (bad_length_when q has r s) = absurd (let z : ⊥ = omega arith in z)
declined_retires x e (no_room_when q has l) = absurd (let z : ⊥ = omega arith in z)

refused_retires : {b : List ℕ} {c : Call} {n : ℕ} → n ≡ 25 → Refused b c n → Retires b c
refused_retires e (bad_book_when h) = absurd (let z : ⊥ = omega arith in z)
refused_retires e (declined x d) = declined_retires x e d
refused_retires e (book_full ok h f) = absurd (let z : ⊥ = omega arith in z)
refused_retires e (absent ok h) = absurd (let z : ⊥ = omega arith in z)
refused_retires e (not_found ok h) = absurd (let z : ⊥ = omega arith in z)

-- ---- one call
module _ (b : List ℕ) (c : Call) (a : Seen) (b₁ : List ℕ) (w : Says b c a b₁) where
  given : Retires b c → a.number ≡ 25
  given r = (w.refused_exactly 25 (λ e. omega arith)).1 (declined r.book (retired r.asked r.has r.is_retired_lem))

  pub retired_call : RetiredCall b c a b₁
  retired_call =
      record {
        given_exactly = (λ e. refused_retires refl ((w.refused_exactly 25 (λ q. omega arith)).0 e), given);
        nothing_changed = λ r. (w.refusal_keeps (λ z. omega (arith, given r))).0;
        removal_works = λ k u r ok h. let z = w.served_exactly.1 (removes ok h) in (z, removed k ok.asked ok.key.path z);
        lookup_works = λ k u room r ok h. let z = w.served_exactly.1 (finds ok h) in (z, found k u room ok h z);
      }
    where
      removed : (k : Key) → c.asked ≡ to_remove → PathOf c k → a.number ≡ 0 → Holds b₁ k none
      removed k q p z = let u : Updates c.asked = rw q tt in rw q at (w.left (u, z) k p)

      found : (k : Key) (u : List ℕ) (room : ℕ) → GoodLookup c k room → Holds b k (some u) → a.number ≡ 0 → a.value ≡ u
      found k u room ok h z =
          let l : Looks c = rw ok.asked tt in
          let g = w.lookup_gives l z in
          let e : some a.value ≡ some u = one-held g.2 (rw (one-path c g.0 k g.1 ok.key.path) h) in
          cc

  -- what it does to a path of kind 8: an accepted removal of it leaves nothing there, and all else leaves it what it holds
  module _ (k : Key) (r : is_retired k ≡ true) where
    record Removes : Type 0 where
      asked : c.asked ≡ to_remove
      path : PathOf c k
      accepted : a.number ≡ 0

    data Step : Type 0 where
      keeps : ((o : Option (List ℕ)) → Holds b k o → Holds b₁ k o) → (Removes → ⊥) → Step
      goes : Holds b₁ k none → Removes → Step

    -- a write is of another path
    not_written : {j : Key} {v : List ℕ} → GoodWrite c j v → PathOf c k → ⊥
    not_written {j} ok p =
        let z : ◌≡◌ {A = ℕ} 0 1 = ap (λ (t : Bool). cond t 0 1) (sym r ∙ ap is_retired (one-path c k j p ok.key.path) ∙ ok.not_retired) in
        omega arith

    written : {j : Key} {v : List ℕ} → GoodWrite c j v → Step
    written ok = keeps (w.others_keep k (not_written ok)) (λ m. not_written ok m.path)

    step : Step
    step = go (ℕ_discrete a.number 0)
      where
        same : b₁ ≡ b → (o : Option (List ℕ)) → Holds b k o → Holds b₁ k o
        same e o h = rw e h

        by : Served b c → a.number ≡ 0 → Step
        by (adds ok h n) z = written ok
        by (replaces ok h) z = written ok
        by (removes {k = j} {u = u} ok h) z = at (List-discrete ℕ_discrete k j)
          where
            at : Dec (k ≡ j) → Step
            at (yes e) = let p : PathOf c k = rw e ok.key.path in goes (retired_call.removal_works k u r (record { asked = ok.asked; key = rw e ok.key }) (rw e h)).1 (record { asked = ok.asked; path = p; accepted = z })
            at (no n) = keeps (w.others_keep k (λ p. n (one-path c k j p ok.key.path))) (λ m. n (one-path c k j m.path ok.key.path))
        by (finds {room = room} ok h) z =
            let l : Looks c = rw ok.asked tt in
            keeps (same (w.lookup_keeps l)) (λ m. let p = m.asked in let q = ok.asked in let y : ◌≡◌ {A = ℕ} 0 1 = cc in omega arith)

        go : Dec (a.number ≡ 0) → Step
        go (yes z) = by (w.served_exactly.0 z) z
        go (no n) = keeps (same (w.refusal_keeps n).0) (λ m. n m.accepted)

-- ---- a list of calls
module _ (Does : List ℕ → Call → Seen → List ℕ → Type 0) (each : EachCall Does) (k : Key) (r : is_retired k ≡ true) where
  data Ends (cs : List Call) (as₁ : List Seen) (b b₁ : List ℕ) : Type 0 where
    kept : ((o : Option (List ℕ)) → Holds b k o → Holds b₁ k o) → ((i : ℕ) → RemovedAt cs as₁ k i → ⊥) → Ends cs as₁ b b₁
    gone : Holds b₁ k none → (i : ℕ) → RemovedAt cs as₁ k i → Ends cs as₁ b b₁

  later : {c : Call} {cs : List Call} {a : Seen} {as₁ : List Seen} (i : ℕ) → RemovedAt cs as₁ k i → RemovedAt (c ∷ cs) (a ∷ as₁) k (suc i)
  later i m = record { call = m.call; answer = m.answer; there = m.there; said = m.said; asked = m.asked; path = m.path; accepted = m.accepted }

  ends : {b b₂ : List ℕ} {cs : List Call} {as₁ : List Seen} → Runs Does b cs as₁ b₂ → Ends cs as₁ b b₂
  ends stop = kept (λ o h. h) (λ i m. let p = m.there in let z : ◌≡◌ {A = ℕ} 0 1 = cc in omega arith)
  ends {b} {b₂} (next {b₁ = b₁} {c = c} {cs = cs} {a = a} {rs = rs} d rest) = go (step b c a b₁ (each b c a b₁ d) k r) (ends rest)
    where
      go : Step b c a b₁ (each b c a b₁ d) k r → Ends cs rs b₁ b₂ → Ends (c ∷ cs) (a ∷ rs) b b₂
      go (keeps f n) (kept g m) = kept (λ o h. g o (f o h)) none
        where
          none : (i : ℕ) → RemovedAt (c ∷ cs) (a ∷ rs) k i → ⊥
          none zero x =
              let p = x.there in
              let q = x.said in
              let e : x.call ≡ c = cc in
              let f : x.answer ≡ a = cc in
              n (record { asked = rw e at x.asked; path = rw e at x.path; accepted = rw f at x.accepted })
          none (suc i) x = m i (record { call = x.call; answer = x.answer; there = x.there; said = x.said; asked = x.asked; path = x.path; accepted = x.accepted })
      go (keeps f n) (gone h i m) = gone h (suc i) (later i m)
      go (goes h m) (kept g n) = gone (g none h) zero (record { call = c; answer = a; there = refl; said = refl; asked = m.asked; path = m.path; accepted = m.accepted })
      go (goes h m) (gone g i n) = gone g (suc i) (later i n)

  pub retired_stays : (x : Any Does) → RetiredStays Does x k
  retired_stays x = go (ends x.run)
    where
      held : Holds x.start k (get x.book.records k)
      held = record { book = x.book; is = refl }

      clash : {u : List ℕ} → Holds x.end k (some u) → Holds x.end k none → ⊥
      clash {u} h g = let e = one-held h g in let z : ◌≡◌ {A = ℕ} 0 1 = cc in omega arith

      go : Ends x.calls x.answers x.start x.end → RetiredStays Does x k
      go (kept f n) =
          record {
            held_exactly = λ u. (λ h. (record { book = x.book; is = one-held (f _ held) h }, n), λ w. f (some u) w.0);
            stays_or_removed = λ u h. inl (f (some u) h);
            none_added = f none;
          }
      go (gone g i m) =
          record {
            held_exactly = λ u. (λ h. absurd (clash h g), λ w. absurd (w.1 i m));
            stays_or_removed = λ u h. inr (g, (i, m));
            none_added = λ h. g;
          }
