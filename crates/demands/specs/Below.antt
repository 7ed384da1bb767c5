-- Request L12, what lies below a path: what `hp_render` writes, with names for its arguments and buffers (PathCalls). The words are in `Above`, and
-- the theorems in `Below` of proofs/.
-- Assumes nothing.
use Rattle.std.specs.Prelude.{ℕ, ◌≤◌, ◌≡◌, refl, List, ◌++◌, false, length, take}
use Rattle.std.proofs.Common.{sym, ap, ◌∙◌}
use Rattle.text.specs.Bytes.{bytes}
use Rattle.text.specs.declared.Written.{Written}
use Rattle.text.specs.Order.{cmp, Before}
use Rattle.text.specs.Part.{starts_with}
use Rattle.path.specs.Kinds.{Carried}
use Rattle.path.specs.Valid.{Valid}
use Rattle.demands.specs.PathCalls.{RenderCall}
use Rattle.demands.specs.Demand2 as demand2
use Rattle.demands.specs.Above.{Above, renders}

-- one call of `hp_render` with room enough, and the text that it wrote
pub record Rendered (kind : ℕ) (v : Carried (List ℕ)) (t : List ℕ) : Type 0 where
  pub out : List ℕ
  pub answer : Written
  pub out₁ : List ℕ
  pub call : RenderCall kind v.first v.second v.a v.b out answer out₁
  pub room : length (renders kind v) ≤ length out
  pub text : take answer.length out₁ ≡ t

-- of a valid typed path it answers 0, and that text is the path's rendering
pub rendered : {k : ℕ} {v : Carried (List ℕ)} {t : List ℕ} → Valid k v → (r : Rendered k v t) → (r.answer.refusal ≡ 0) × (t ≡ renders k v)
rendered {k} {v} ok r =
    let d = demand2.renders k v.first v.second v.a v.b ok r.out r.answer r.out₁ r.call r.room in
    (ap (λ (x : Written). x.refusal) d.answered, sym r.text ∙ d.shown)

-- ---- not so above an upgrade path: a third path's key can come between, as it can go on with a byte before `/`
abbrev pub Parted : List ℕ → List ℕ → List ℕ → Type 0
Parted t k u = Above t u × Before t k × Before k u × (starts_with (t ++ bytes "/") k ≡ false)

pub port_parted : Parted (bytes "ports/55") (bytes "ports/55+a") (bytes "ports/55/upgradedClient")
unfolding cmp starts_with
port_parted = (refl, refl, refl, refl)

pub counter_parted : Parted (bytes "nextClientSequence") (bytes "nextClientSequence./5/upgradedClient") (bytes "nextClientSequence/5/upgradedClient")
unfolding cmp starts_with
counter_parted = (refl, refl, refl, refl)
