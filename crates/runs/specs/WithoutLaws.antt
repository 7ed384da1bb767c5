-- Calls that may be left out: where a call that stays answers by what is seen of the state, and one that goes changes nothing of that, the
-- others are answered as if it had not been made.
-- Assumes nothing.
use Rattle.std.specs.Prelude.{◌≡◌, Bool, true, false, cond, List, ◌∷◌}
use Rattle.std.proofs.Math.Path.{refl}
use Rattle.std.proofs.Common.{sym, ◌∙◌}
use Rattle.runs.specs.Runs.{Runs, stop, next}
use Rattle.runs.specs.Without.{without, answers_without}

module _
    {B Call Answer State View : Type 0} (Does : B → Call → Answer → B → Type 0) (step : State → Call → Answer × State) (Good : State → Type 0) (bytes : State → B)
    (good : (s : State) (c : Call) → Good s → Good (step s c).1)
    (sim : (s : State) (c : Call) (a : Answer) (b : B) → Good s → Does (bytes s) c a b → (a ≡ (step s c).0) × (b ≡ bytes (step s c).1))
    (out : Call → Bool) (view : State → View)
    (stays : (s t : State) (c : Call) → out c ≡ false → Good s → Good t → view s ≡ view t → ((step s c).0 ≡ (step t c).0) × (view (step s c).1 ≡ view (step t c).1))
    (goes : (s : State) (c : Call) → out c ≡ true → Good s → view (step s c).1 ≡ view s) where
  -- what two runs leave: states of which the same is seen
  pub record Alike (b b' : B) : Type 0 where
    pub state : State
    pub other : State
    pub good-state : Good state
    pub good-other : Good other
    pub bytes_are : b ≡ bytes state
    pub other_are : b' ≡ bytes other
    pub seen : view state ≡ view other

  -- a call that goes, and one that stays
  gone : {b b₁ b' : B} (c : Call) (a : Answer) → out c ≡ true → Does b c a b₁ → Alike b b' → Alike b₁ b'
  gone {b₁ = b₁} c a o d x =
      let w : (a ≡ (step x.state c).0) × (b₁ ≡ bytes (step x.state c).1) = sim x.state c a b₁ x.good-state (rw x.bytes_are at d) in
      record {
        state = (step x.state c).1;
        other = x.other;
        good-state = good x.state c x.good-state;
        good-other = x.good-other;
        bytes_are = w.1;
        other_are = x.other_are;
        seen = goes x.state c o x.good-state ∙ x.seen;
      }

  stayed : {b b₁ b' b₁' : B} (c : Call) (a a' : Answer) → out c ≡ false → Does b c a b₁ → Does b' c a' b₁' → Alike b b' → (a ≡ a') × Alike b₁ b₁'
  stayed {b₁ = b₁} {b₁' = b₁'} c a a' o d d' x =
      let w : (a ≡ (step x.state c).0) × (b₁ ≡ bytes (step x.state c).1) = sim x.state c a b₁ x.good-state (rw x.bytes_are at d) in
      let v : (a' ≡ (step x.other c).0) × (b₁' ≡ bytes (step x.other c).1) = sim x.other c a' b₁' x.good-other (rw x.other_are at d') in
      let q = stays x.state x.other c o x.good-state x.good-other x.seen in (
        w.0 ∙ q.0 ∙ sym v.0,
        record {
          state = (step x.state c).1;
          other = (step x.other c).1;
          good-state = good x.state c x.good-state;
          good-other = good x.other c x.good-other;
          bytes_are = w.1;
          other_are = v.1;
          seen = q.1;
        },
      )

  turn : {b b₁ b' e e' : B} {c : Call} {a : Answer} {zs' : List Answer} (cs : List Call) (rs : List Answer) (v : Bool) → out c ≡ v → Does b c a b₁ → Alike b b'
      → Runs Does b' (cond v (without out cs) (c ∷ without out cs)) zs' e'
      → ((b'' : B) (zs'' : List Answer) → Alike b₁ b'' → Runs Does b'' (without out cs) zs'' e' → (answers_without out cs rs ≡ zs'') × Alike e e')
      → (cond v (answers_without out cs rs) (a ∷ answers_without out cs rs) ≡ zs') × Alike e e'
  turn {b' = b'} {c = c} {a = a} {zs' = zs'} cs rs true o d x run more = more b' zs' (gone c a o d x) run
  turn {c = c} {a = a} cs rs false o d x (next {b₁ = b₁'} {a = a'} {rs = rs'} d' r') more =
      let y = stayed c a a' o d d' x in
      let h = more b₁' rs' y.1 r' in
      ((λ i. y.0 i ∷ h.0 i), h.1)

  pub left_out : {b b' e e' : B} {cs : List Call} {zs zs' : List Answer} → Alike b b' → Runs Does b cs zs e → Runs Does b' (without out cs) zs' e'
      → (answers_without out cs zs ≡ zs') × Alike e e'
  unfolding without answers_without
  left_out x stop stop = (refl, x)
  left_out x (next {c = c} {cs = cs} {rs = rs} d r) run = turn cs rs (out c) refl d x run (λ b'' zs'' y q. left_out y r q)
