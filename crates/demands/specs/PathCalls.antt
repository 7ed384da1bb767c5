-- One call of `hp_read`, `hp_key`, `hp_render` and `hp_iteration_key`: its arguments, its answer, and its buffer before and after, by name.
-- What each ensures is its contract as the source has it.
-- Assumes nothing.
use Rattle.std.specs.Prelude.{◌≡◌, List, ℕ, length}
use contract.Lifetimes.{Lfts}
use borrow.Fn.World.{ArgsD, ResD}
use borrow.Fn.Kinds.{ended_of}
use denote.Triple.Clauses.{AtExit}
use Rattle.text.specs.declared.Fault.{Fault}
use Rattle.text.specs.declared.Written.{Written}
use Rattle.text.specs.Put.{text, answer, left}
use Rattle.path.specs.Read.{reading_bytes, read_fault, key_of, render_of}
use Rattle.path.specs.Kinds.{carried}
use Rattle.iteration.specs.Key.{iteration_key}
use Rattle.hostpath.specs.contracts.hp_read as r
use Rattle.hostpath.proofs.hp_read.Kinds as rk
use Rattle.hostpath.proofs.hp_read.Reads as rr
use Rattle.hostpath.specs.contracts.hp_key as k
use Rattle.hostpath.proofs.hp_key.Kinds as kk
use Rattle.hostpath.proofs.hp_key.Reads as kr
use Rattle.hostpath.specs.contracts.hp_render as w
use Rattle.hostpath.proofs.hp_render.Kinds as wk
use Rattle.hostpath.proofs.hp_render.Reads as wr
use Rattle.hostpath.specs.contracts.hp_iteration_key as i
use Rattle.hostpath.proofs.hp_iteration_key.Kinds as ik
use Rattle.hostpath.proofs.hp_iteration_key.Reads as ir

pub record ReadCall (t out : List ℕ) (f : Fault) (out₁ : List ℕ) : Type 0 where
  pub lifetimes : Lfts 2
  pub args : ArgsD r.signature lifetimes
  pub result : ResD r.signature lifetimes
  pub exits : AtExit (ended_of 2 rk.ps rk.r) lifetimes
  pub text_in : args.0.now ≡ t
  pub out_in : args.1.0.now ≡ out
  pub fault_out : result ≡ f
  pub out_out : exits.1.0.now ≡ out₁
  pub ensures : rr.Post lifetimes args result exits

pub record KeyCall (t out : List ℕ) (x : Written) (out₁ : List ℕ) : Type 0 where
  pub lifetimes : Lfts 2
  pub args : ArgsD k.signature lifetimes
  pub result : ResD k.signature lifetimes
  pub exits : AtExit (ended_of 2 kk.ps kk.r) lifetimes
  pub text_in : args.0.now ≡ t
  pub out_in : args.1.0.now ≡ out
  pub answer_out : result ≡ x
  pub out_out : exits.1.0.now ≡ out₁
  pub ensures : kr.Post lifetimes args result exits

pub record RenderCall (kind : ℕ) (first second : List ℕ) (a b : ℕ) (out : List ℕ) (x : Written) (out₁ : List ℕ) : Type 0 where
  pub lifetimes : Lfts 3
  pub args : ArgsD w.signature lifetimes
  pub result : ResD w.signature lifetimes
  pub exits : AtExit (ended_of 3 wk.ps wk.r) lifetimes
  pub kind_in : args.0 ≡ kind
  pub first_in : args.1.0.now ≡ first
  pub second_in : args.1.1.0.now ≡ second
  pub a_in : args.1.1.1.0 ≡ a
  pub b_in : args.1.1.1.1.0 ≡ b
  pub out_in : args.1.1.1.1.1.0.now ≡ out
  pub answer_out : result ≡ x
  pub out_out : exits.1.1.1.1.1.0.now ≡ out₁
  pub ensures : wr.Post lifetimes args result exits

pub record IterationKeyCall (number height : ℕ) (out : List ℕ) (x : Written) (out₁ : List ℕ) : Type 0 where
  pub lifetimes : Lfts 1
  pub args : ArgsD i.signature lifetimes
  pub result : ResD i.signature lifetimes
  pub exits : AtExit (ended_of 1 ik.ps ik.r) lifetimes
  pub number_in : args.0 ≡ number
  pub height_in : args.1.0 ≡ height
  pub out_in : args.1.1.0.now ≡ out
  pub answer_out : result ≡ x
  pub out_out : exits.1.1.0.now ≡ out₁
  pub ensures : ir.Post lifetimes args result exits

-- ---- what they ensure, in those names
pub reading : {t out : List ℕ} {f : Fault} {out₁ : List ℕ} → ReadCall t out f out₁ → (f ≡ read_fault t (length out)) × (out₁ ≡ left (reading_bytes t) out)
reading x =
    let p : (x.result ≡ read_fault x.args.0.now (length x.args.1.0.now)) × (x.exits.1.0.now ≡ left (reading_bytes x.args.0.now) x.args.1.0.now) = x.ensures in
    rw (x.text_in, x.out_in, x.fault_out, x.out_out) at p

pub keying : {t out : List ℕ} {y : Written} {out₁ : List ℕ} → KeyCall t out y out₁ → (y ≡ answer (key_of t) (length out)) × (out₁ ≡ left (key_of t) out)
keying x =
    let p : (x.result ≡ answer (key_of x.args.0.now) (length x.args.1.0.now)) × (x.exits.1.0.now ≡ left (key_of x.args.0.now) x.args.1.0.now) = x.ensures in
    rw (x.text_in, x.out_in, x.answer_out, x.out_out) at p

pub rendering : {kind : ℕ} {first second : List ℕ} {a b : ℕ} {out : List ℕ} {y : Written} {out₁ : List ℕ} → RenderCall kind first second a b out y out₁
    → (y ≡ answer (render_of kind (carried first second a b)) (length out)) × (out₁ ≡ left (render_of kind (carried first second a b)) out)
rendering x =
    let g = x.args in
    let v = carried g.1.0.now g.1.1.0.now g.1.1.1.0 g.1.1.1.1.0 in
    let p : (x.result ≡ answer (render_of g.0 v) (length g.1.1.1.1.1.0.now)) × (x.exits.1.1.1.1.1.0.now ≡ left (render_of g.0 v) g.1.1.1.1.1.0.now) = x.ensures in
    rw (x.kind_in, x.first_in, x.second_in, x.a_in, x.b_in, x.out_in, x.answer_out, x.out_out) at p

pub iterating : {number height : ℕ} {out : List ℕ} {y : Written} {out₁ : List ℕ} → IterationKeyCall number height out y out₁
    → (y ≡ answer (text (iteration_key number height)) (length out)) × (out₁ ≡ left (text (iteration_key number height)) out)
iterating x =
    let g = x.args in
    let p : (x.result ≡ answer (text (iteration_key g.0 g.1.0)) (length g.1.1.0.now)) × (x.exits.1.1.0.now ≡ left (text (iteration_key g.0 g.1.0)) g.1.1.0.now) = x.ensures in
    rw (x.number_in, x.height_in, x.out_in, x.answer_out, x.out_out) at p
