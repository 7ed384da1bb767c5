-- One call of `hp_read_iteration_key`, `hp_first_above` and `hp_last_below`: its arguments and its answer, by name. What each ensures is its
-- contract as the source has it.
-- Assumes nothing.
use Rattle.std.specs.Prelude.{◌≡◌, List, ℕ}
use contract.Lifetimes.{Lfts}
use borrow.Fn.World.{ArgsD, ResD}
use borrow.Fn.Kinds.{ended_of}
use denote.Triple.Clauses.{AtExit}
use Rattle.text.specs.Refusal.{bad_iter_key}
use Rattle.path.specs.declared.Pair.{Pair}
use Rattle.path.specs.Revision.{revision}
use Rattle.iteration.specs.Key.{key_revision, answered, pair_of}
use Rattle.iteration.specs.Block.{block_of, first_above, last_below, scanned}
use Rattle.hostpath.specs.contracts.hp_read_iteration_key as r
use Rattle.hostpath.proofs.hp_read_iteration_key.Kinds as rk
use Rattle.hostpath.proofs.hp_read_iteration_key.Reads as rr
use Rattle.hostpath.specs.contracts.hp_first_above as f
use Rattle.hostpath.proofs.hp_first_above.Kinds as fk
use Rattle.hostpath.proofs.hp_first_above.Reads as fr
use Rattle.hostpath.specs.contracts.hp_last_below as l
use Rattle.hostpath.proofs.hp_last_below.Kinds as lk
use Rattle.hostpath.proofs.hp_last_below.Reads as lr

pub record ReadKeyCall (k : List ℕ) (x : Pair) : Type 0 where
  pub lifetimes : Lfts 1
  pub args : ArgsD r.signature lifetimes
  pub result : ResD r.signature lifetimes
  pub exits : AtExit (ended_of 1 rk.ps rk.r) lifetimes
  pub key_in : args.0.now ≡ k
  pub pair_out : result ≡ x
  pub ensures : rr.Post lifetimes args result exits

pub record AboveCall (block : List ℕ) (number height : ℕ) (x : Pair) : Type 0 where
  pub lifetimes : Lfts 1
  pub args : ArgsD f.signature lifetimes
  pub result : ResD f.signature lifetimes
  pub exits : AtExit (ended_of 1 fk.ps fk.r) lifetimes
  pub block_in : args.0.now ≡ block
  pub number_in : args.1.0 ≡ number
  pub height_in : args.1.1.0 ≡ height
  pub pair_out : result ≡ x
  pub ensures : fr.Post lifetimes args result exits

pub record BelowCall (block : List ℕ) (number height : ℕ) (x : Pair) : Type 0 where
  pub lifetimes : Lfts 1
  pub args : ArgsD l.signature lifetimes
  pub result : ResD l.signature lifetimes
  pub exits : AtExit (ended_of 1 lk.ps lk.r) lifetimes
  pub block_in : args.0.now ≡ block
  pub number_in : args.1.0 ≡ number
  pub height_in : args.1.1.0 ≡ height
  pub pair_out : result ≡ x
  pub ensures : lr.Post lifetimes args result exits

-- ---- what they ensure, in those names
pub reading_key : {k : List ℕ} {y : Pair} → ReadKeyCall k y → y ≡ pair_of (answered bad_iter_key (key_revision k))
reading_key x =
    let p : x.result ≡ pair_of (answered bad_iter_key (key_revision x.args.0.now)) = x.ensures in
    rw (x.key_in, x.pair_out) at p

pub above : {block : List ℕ} {number height : ℕ} {y : Pair} → AboveCall block number height y → y ≡ pair_of (scanned (first_above (revision number height)) (block_of block))
above x =
    let g = x.args in
    let p : x.result ≡ pair_of (scanned (first_above (revision g.1.0 g.1.1.0)) (block_of g.0.now)) = x.ensures in
    rw (x.block_in, x.number_in, x.height_in, x.pair_out) at p

pub below : {block : List ℕ} {number height : ℕ} {y : Pair} → BelowCall block number height y → y ≡ pair_of (scanned (last_below (revision number height)) (block_of block))
below x =
    let g = x.args in
    let p : x.result ≡ pair_of (scanned (last_below (revision g.1.0 g.1.1.0)) (block_of g.0.now)) = x.ensures in
    rw (x.block_in, x.number_in, x.height_in, x.pair_out) at p
