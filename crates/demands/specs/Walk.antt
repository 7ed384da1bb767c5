-- Request L7: the two readers give the same answer on every input. Of `hp_read` and `hp_walk`: refusal, its place, and the buffer, which holds the
-- 26 bytes. Of `reader::read_path` and `walk::walk_path`: kind, places, numbers, exact mark, refusal and its place.
-- Assumes nothing.
use Rattle.std.specs.Prelude.{◌≡◌, List, ℕ, length}
use Rattle.std.proofs.Common.{sym, ap, ◌∙◌}
use contract.Lifetimes.{Lfts}
use borrow.Fn.World.{ArgsD, ResD}
use borrow.Fn.Kinds.{ended_of}
use denote.Triple.Clauses.{AtExit}
use Rattle.text.specs.declared.Fault.{Fault}
use Rattle.text.specs.Put.{left}
use Rattle.path.specs.Read.{read_path, reading_bytes, read_fault}
use Rattle.hostpath.specs.contracts.hp_walk as w
use Rattle.hostpath.proofs.hp_walk.Kinds as wk
use Rattle.hostpath.proofs.hp_walk.Reads as wr
use Rattle.reader.proofs.read_path.Reads as read-path
use Rattle.walk.proofs.walk_path.Reads as walk-path
use Rattle.demands.specs.PathCalls.{ReadCall, reading}

-- one call of `hp_walk`, by name
pub record WalkCall (t out : List ℕ) (f : Fault) (out₁ : List ℕ) : Type 0 where
  pub lifetimes : Lfts 2
  pub args : ArgsD w.signature lifetimes
  pub result : ResD w.signature lifetimes
  pub exits : AtExit (ended_of 2 wk.ps wk.r) lifetimes
  pub text_in : args.0.now ≡ t
  pub out_in : args.1.0.now ≡ out
  pub fault_out : result ≡ f
  pub out_out : exits.1.0.now ≡ out₁
  pub ensures : wr.Post lifetimes args result exits

pub walking : {t out : List ℕ} {f : Fault} {out₁ : List ℕ} → WalkCall t out f out₁ → (f ≡ read_fault t (length out)) × (out₁ ≡ left (reading_bytes t) out)
walking x =
    let p : (x.result ≡ read_fault x.args.0.now (length x.args.1.0.now)) × (x.exits.1.0.now ≡ left (reading_bytes x.args.0.now) x.args.1.0.now) = x.ensures in
    rw (x.text_in, x.out_in, x.fault_out, x.out_out) at p

-- on one text and one buffer, any outcomes of the two calls are the same
pub calls_agree : {t out : List ℕ} {f g : Fault} {out₁ out₂ : List ℕ} → ReadCall t out f out₁ → WalkCall t out g out₂ → (f ≡ g) × (out₁ ≡ out₂)
calls_agree x y = let p = reading x in let q = walking y in (p.0 ∙ sym q.0, p.1 ∙ sym q.1)

-- and so are those of the two functions on one text
pub readers_agree : (κs : _) (a : _) (r₁ : _) (s₁ : _) → read-path.Post κs a r₁ s₁ → (λs : _) (b : _) (r₂ : _) (s₂ : _) → walk-path.Post λs b r₂ s₂ → a.0.now ≡ b.0.now → r₁ ≡ r₂
readers_agree κs a r₁ s₁ p λs b r₂ s₂ q e =
    let x : r₁ ≡ read_path a.0.now = p in
    let y : r₂ ≡ read_path b.0.now = q in
    x ∙ ap read_path e ∙ sym y
