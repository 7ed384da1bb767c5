-- Calls that go to cells of their own: an answer and what a cell holds go by the calls on that cell's key alone.
-- So a list of calls may be rearranged, if calls on the same key keep their order. Assumes nothing.
use Rattle.std.proofs.Math.Path.{◌≡◌, refl, ap}
use Rattle.std.proofs.Common.{sym, ◌∙◌, inl, not-suc-le-zero}
use Rattle.std.specs.Prelude.{◌⊎◌, length, take}
use Rattle.std.proofs.Math.Logic.{inr}
use mathlib.Core.List.{List, [], ◌∷◌}
use Rattle.std.proofs.Math.Option.{Option, none, some}
use Prim.Native.Nat.{ℕ, zero, suc, ◌+◌, ◌<◌, ◌≤◌}
use native.Mathlib.Omega.{arith}
use Rattle.std.proofs.Math.ListN.{get_elem?}
use Rattle.text.specs.PlaceLaws.{at_some}
use Rattle.runs.specs.Rearranged.{Rearranged}
use Rattle.runs.specs.Total.{total}
use Rattle.runs.specs.TotalLaws.{total_rearranged}
use Rattle.runs.specs.CellLaws.{pick, touch, cell, same-before, same_end}

-- Running a list of calls.
module _ {State Call Answer : Type 0} (step : State → Call → Answer × State) where
  unfoldable pub final : State → List Call → State
  final s [] = s
  final s (c ∷ cs) = final (step s c).1 cs

  unfoldable pub answers : State → List Call → List Answer
  answers s [] = []
  answers s (c ∷ cs) = (step s c).0 ∷ answers (step s c).1 cs

  -- the answer at a position is what the call gets in the state that the calls before it leave
  pub answer_at : (s : State) (cs : List Call) (i : ℕ) (c : Call) → get_elem? cs i ≡ some c → get_elem? (answers s cs) i ≡ some (step (final s (take i cs)) c).0
  unfolding final answers
  answer_at s [] i c e = let z : ◌≡◌ {A = ℕ} 0 1 = cc in absurd (let y : ⊥ = omega arith in y)
  answer_at s (b ∷ cs) zero c e = let k : b ≡ c = cc in rw k
  answer_at s (b ∷ cs) (suc i) c e = answer_at (step s b).1 cs i c e

-- What is shown of a machine: each call is on at most one key; with room for what it is charged, its answer and what it does go by
-- what that key's cell holds; and a good state is told by what its cells hold.
pub record Independent : Type 1 where
  pub State : Type 0
  pub Call : Type 0
  pub Answer : Type 0
  pub Key : Type 0
  pub Cell : Type 0
  pub Purse : Type 0
  pub step : State → Call → Answer × State
  pub Good : State → Type 0
  pub get : State → Key → Cell
  pub free : State → Purse → ℕ
  pub charge : Purse → Call → ℕ
  pub key : Call → Option Key
  pub is_key : (k : Key) (c : Call) → Dec (key c ≡ some k)
  pub refusal : Call → Answer
  pub ans : Call → Cell → Answer
  pub eff : Call → Cell → Cell
  pub Upd : Call → Answer → Type 0
  pub is_upd : (c : Call) (a : Answer) → Dec (Upd c a)
  pub put : Call → Cell
  pub good : (s : State) (c : Call) → Good s → Good (step s c).1
  pub pays : (s : State) (c : Call) → Good s → (p : Purse) → free s p ≤ free (step s c).1 p + charge p c
  pub refuses : (s : State) (c : Call) → Good s → key c ≡ none → (step s c).0 ≡ refusal c
  pub says : (s : State) (c : Call) → Good s → ((p : Purse) → charge p c ≤ free s p) → (k : Key) → key c ≡ some k → (step s c).0 ≡ ans c (get s k)
  pub does : (s : State) (c : Call) → Good s → ((p : Purse) → charge p c ≤ free s p) → (k : Key) → key c ≡ some k → get (step s c).1 k ≡ eff c (get s k)
  pub spares : (s : State) (c : Call) → Good s → ((p : Purse) → charge p c ≤ free s p) → (k : Key) → (key c ≡ some k → ⊥) → get (step s c).1 k ≡ get s k
  pub puts : (c : Call) (x : Cell) → Upd c (ans c x) → eff c x ≡ put c
  pub keeps : (c : Call) (x : Cell) → (Upd c (ans c x) → ⊥) → eff c x ≡ x
  pub ext : (s t : State) → Good s → Good t → ((k : Key) → get s k ≡ get t k) → s ≡ t

module _ (M : Independent) where
  abbrev pub On : M.Key → M.Call → Type 0
  On k c = M.key c ≡ some k

  -- two calls on one key
  abbrev pub SameKey : M.Call → M.Call → Type 0
  SameKey c d = (k : M.Key) × On k c × On k d

  -- every purse has room for what the list is charged
  abbrev pub Enough : M.State → List M.Call → Type 0
  Enough s cs = (p : M.Purse) → total (M.charge p) cs ≤ M.free s p

  abbrev pub holds : M.Key → M.Cell → List M.Call → M.Cell
  holds k x cs = cell (On k) (M.is_key k) M.eff x cs

  enough-head : (s : M.State) (c : M.Call) (cs : List M.Call) → Enough s (c ∷ cs) → (p : M.Purse) → M.charge p c ≤ M.free s p
  enough-head s c cs h p = omega (arith, h p)

  enough-tail : (s : M.State) (c : M.Call) (cs : List M.Call) → M.Good s → Enough s (c ∷ cs) → Enough (M.step s c).1 cs
  enough-tail s c cs g h p = omega (arith, h p, M.pays s c g p)

  get-step : (s : M.State) (c : M.Call) → M.Good s → ((p : M.Purse) → M.charge p c ≤ M.free s p) → (k : M.Key) → M.get (M.step s c).1 k ≡ touch (On k) (M.is_key k) M.eff c (M.get s k)
  unfolding touch
  get-step s c g h k = go (M.is_key k c)
    where
      go : (d : Dec (On k c)) → M.get (M.step s c).1 k ≡ pick d (M.eff c (M.get s k)) (M.get s k)
      go (yes o) = M.does s c g h k o
      go (no o) = M.spares s c g h k o

  pub good-final : (s : M.State) (cs : List M.Call) → M.Good s → M.Good (final M.step s cs)
  unfolding final
  good-final s [] g = g
  good-final s (c ∷ cs) g = good-final (M.step s c).1 cs (M.good s c g)

  pub get-final : (s : M.State) (cs : List M.Call) → M.Good s → Enough s cs → (k : M.Key) → M.get (final M.step s cs) k ≡ holds k (M.get s k) cs
  unfolding final cell
  get-final s [] g h k = refl
  get-final s (c ∷ cs) g h k =
      get-final (M.step s c).1 cs (M.good s c g) (enough-tail s c cs g h) k
      ∙ ap (λ (x : M.Cell). holds k x cs) (get-step s c g (enough-head s c cs h) k)

  -- the answer to a call on a key, from what the calls before it leave in that key's cell
  pub says_at : (s : M.State) (cs : List M.Call) → M.Good s → Enough s cs → (i : ℕ) (c : M.Call) (k : M.Key) → get_elem? cs i ≡ some c → On k c
      → get_elem? (answers M.step s cs) i ≡ some (M.ans c (holds k (M.get s k) (take i cs)))
  unfolding answers cell
  says_at s [] g h i c k e o = let z : ◌≡◌ {A = ℕ} 0 1 = cc in absurd (let y : ⊥ = omega arith in y)
  says_at s (b ∷ cs) g h zero c k e o =
      let q : b ≡ c = cc in
      let o' : On k b = rw q o in
      ap {B = Option M.Answer} some (M.says s b g (enough-head s b cs h) k o' ∙ ap (λ (d : M.Call). M.ans d (M.get s k)) q)
  says_at s (b ∷ cs) g h (suc i) c k e o =
      says_at (M.step s b).1 cs (M.good s b g) (enough-tail s b cs g h) i c k e o
      ∙ ap (λ (x : M.Cell). some (M.ans c (holds k x (take i cs)))) (get-step s b g (enough-head s b cs h) k)

  pub refused-at : (s : M.State) (cs : List M.Call) → M.Good s → (i : ℕ) (c : M.Call) → get_elem? cs i ≡ some c → M.key c ≡ none
      → get_elem? (answers M.step s cs) i ≡ some (M.refusal c)
  refused-at s cs g i c e o =
      answer_at M.step s cs i c e ∙ ap {B = Option M.Answer} some (M.refuses (final M.step s (take i cs)) c (good-final s (take i cs) g) o)

  -- THE THEOREM, first half: each call has the answer that it has in the rearranged list
  module _ {Same : M.Call → M.Call → Type 0} (same : (c d : M.Call) → SameKey c d → Same c d)
      (s : M.State) (g : M.Good s) (cs ds : List M.Call) (room : Enough s cs) (R : Rearranged Same cs ds) where
    room' : Enough s ds
    room' p = omega (arith, room p, total_rearranged (M.charge p) cs ds R)

    same_on : (k : M.Key) (c d : M.Call) → On k c → On k d → Same c d
    same_on k c d o p = same c d (k, o, p)

    pub same_answers : (i : ℕ) → i < length cs → get_elem? (answers M.step s ds) (R.to i) ≡ get_elem? (answers M.step s cs) i
    same_answers i l = go (M.key c) refl
      where
        c : M.Call
        c = (at_some cs i l).0

        e : get_elem? cs i ≡ some c
        e = (at_some cs i l).1

        e' : get_elem? ds (R.to i) ≡ some c
        e' = R.same_call i l ∙ e

        go : (o : Option M.Key) → M.key c ≡ o → get_elem? (answers M.step s ds) (R.to i) ≡ get_elem? (answers M.step s cs) i
        go none o = refused-at s ds g (R.to i) c e' o ∙ sym (refused-at s cs g i c e o)
        go (some k) o =
            says_at s ds g room' (R.to i) c k e' o
            ∙ ap (λ (x : M.Cell). some (M.ans c x)) (sym (same-before (On k) (M.is_key k) M.eff (same_on k) cs ds R i c e o (M.get s k)))
            ∙ sym (says_at s cs g room i c k e o)

    -- second half: the state at the end is the same
    pub same-final : final M.step s ds ≡ final M.step s cs
    same-final =
        M.ext (final M.step s ds) (final M.step s cs) (good-final s ds g) (good-final s cs g)
        (λ k.
        get-final s ds g room' k
        ∙ sym (same_end (On k) (M.is_key k) M.eff (same_on k) cs ds R (M.get s k))
        ∙ sym (get-final s cs g room k))

  -- no accepted update of k from position f on
  abbrev pub Unchanged : M.State → List M.Call → M.Key → ℕ → Type 0
  Unchanged s cs k f = (m : ℕ) → f ≤ m → (d : M.Call) (a : M.Answer) → get_elem? cs m ≡ some d → On k d → get_elem? (answers M.step s cs) m ≡ some a → M.Upd d a → ⊥

  -- the last accepted update of k
  pub record LastUpdate (s : M.State) (cs : List M.Call) (k : M.Key) : Type 0 where
    pub place : ℕ
    pub call : M.Call
    pub answer : M.Answer
    pub there : get_elem? cs place ≡ some call
    pub is_on : On k call
    pub said : get_elem? (answers M.step s cs) place ≡ some answer
    pub accepted : M.Upd call answer
    pub later : Unchanged s cs k (suc place)

  unchanged-later : (s : M.State) (c : M.Call) (cs : List M.Call) (k : M.Key) (f : ℕ) → Unchanged (M.step s c).1 cs k f → Unchanged s (c ∷ cs) k (suc f)
  unfolding answers
  unchanged-later s c cs k f q zero lo d a e o t u = absurd (not-suc-le-zero lo)
  unchanged-later s c cs k f q (suc m) lo d a e o t u = q m (omega arith) d a e o t u

  unchanged_now : (s : M.State) (c : M.Call) (cs : List M.Call) (k : M.Key) → (On k c → M.Upd c (M.step s c).0 → ⊥) → Unchanged (M.step s c).1 cs k 0 → Unchanged s (c ∷ cs) k 0
  unfolding answers
  unchanged_now s c cs k p q zero lo d a e o t u =
      let e₁ : d ≡ c = cc in
      let e₂ : a ≡ (M.step s c).0 = cc in
      let u₁ : M.Upd c a = rw e₁ at u in
      p (rw e₁ at o) (rw e₂ at u₁)
  unchanged_now s c cs k p q (suc m) lo d a e o t u = q m (omega arith) d a e o t u

  -- what a key holds at the end: what its last accepted update put there, and with none what it held at the start
  pub at_end : (s : M.State) (cs : List M.Call) → M.Good s → Enough s cs → (k : M.Key)
      → ((r : LastUpdate s cs k) × (M.get (final M.step s cs) k ≡ M.put r.call))
      ⊎ (Unchanged s cs k 0 × (M.get (final M.step s cs) k ≡ M.get s k))
  unfolding final answers
  at_end s [] g h k = inr (λ m lo d a e o t u. (let z : ◌≡◌ {A = ℕ} 0 1 = cc in omega arith), refl)
  at_end s (c ∷ cs) g h k = go (at_end (M.step s c).1 cs (M.good s c g) (enough-tail s c cs g h) k)
    where
      s' : M.State
      s' = (M.step s c).1

      room : (p : M.Purse) → M.charge p c ≤ M.free s p
      room = enough-head s c cs h

      Goal : Type 0
      Goal =
          ((r : LastUpdate s (c ∷ cs) k) × (M.get (final M.step s' cs) k ≡ M.put r.call)) ⊎ (Unchanged s (c ∷ cs) k 0 × (M.get (final M.step s' cs) k ≡ M.get s k))

      decided : Unchanged s' cs k 0 → M.get (final M.step s' cs) k ≡ M.get s' k → (d : Dec (On k c)) (u : Dec (M.Upd c (M.step s c).0)) → Goal
      decided q e (yes o) (yes u) =
          let w : M.Upd c (M.ans c (M.get s k)) = rw (M.says s c g room k o) at u in
          inl (
            record { place = 0; call = c; answer = (M.step s c).0; there = refl; is_on = o; said = refl; accepted = u; later = unchanged-later s c cs k 0 q },
            e ∙ M.does s c g room k o ∙ M.puts c (M.get s k) w,
          )
      decided q e (yes o) (no u) =
          let w : M.Upd c (M.ans c (M.get s k)) → ⊥ = λ v. u (rw (M.says s c g room k o) v) in
          inr (unchanged_now s c cs k (λ _. u) q, e ∙ M.does s c g room k o ∙ M.keeps c (M.get s k) w)
      decided q e (no o) u = inr (unchanged_now s c cs k (λ p _. o p) q, e ∙ M.spares s c g room k o)

      go : ((r : LastUpdate s' cs k) × (M.get (final M.step s' cs) k ≡ M.put r.call)) ⊎ (Unchanged s' cs k 0 × (M.get (final M.step s' cs) k ≡ M.get s' k)) → Goal
      go (inl (r, e)) =
          inl
          (record { place = suc r.place; call = r.call; answer = r.answer; there = r.there; is_on = r.is_on; said = r.said; accepted = r.accepted; later = unchanged-later s c cs k (suc r.place) r.later }, e)
      go (inr (q, e)) = decided q e (M.is_key k c) (M.is_upd c (M.step s c).0)
