-- `consensus` meets its contract.
use Prim.Native.Nat.{◌+◌, ◌≤◌, ◌<◌}
use mathlib.Core.Path.{sym, ◌∙◌}
use lib.ListN.{length}
use borrow.Author.Tests.{eq-eqb, ne_eqb}
use Rattle.walk_scan.specs.CountLaws.{count-within}
use Rattle.walk_families.specs.ClientLaws.{no-first, no_dash, no_second, read_update, no_update, dash-end, dash-at}
use native.Mathlib.Omega.{arith}
use Rattle.walk_families.proofs.client.consensus.Goals.{then-dash-text-via-then-dash-text, then-dash-text-via-else-dash-text+then-text-dash-ne45}
use Rattle.walk_families.proofs.client.consensus.Goals as goal

pub returns-in_err-r : goal.returns-in_err-r
returns-in_err-r c = rw c.from_residual.ensures (no-first c.args.text.now c.args.at c.args.len (sym c.in_err-r.was ∙ c.number.ensures))

pub bounds-text-dash : goal.bounds-text-dash
bounds-text-dash c = omega (arith, (count-within c.args.text.now c.args.at c.in_ok-r.r c.in_ok-r.ensures c.requires).1, c.if-dash-text.false)

pub returns-then-dash-text : goal.returns-then-dash-text
returns-then-dash-text c =
    let within = (count-within c.args.text.now c.args.at c.in_ok-r.r c.in_ok-r.ensures c.requires).1 in
    no_dash c.args.text.now c.args.at c.args.len c.in_ok-r.r c.in_ok-r.ensures (elim c.then-dash-text.branch [
      | then-dash-text-via-then-dash-text w ↦ dash-end c.args.text.now c.in_ok-r.r.end w.if-dash-text.true
      | then-dash-text-via-else-dash-text+then-text-dash-ne45 w ↦ dash-at c.args.text.now c.in_ok-r.r.end (omega (arith, within, w.if-dash-text.false)) ∙ ne_eqb _ 45 w.if-text-dash-ne45.true
    ])

pub returns-in_err-h : goal.returns-in_err-h
returns-in_err-h c =
    let l : c.in_ok-r.r.end < length c.args.text.now = omega (arith, (count-within c.args.text.now c.args.at c.in_ok-r.r c.in_ok-r.ensures c.requires).1, c.if-dash-text.false) in
    let dash = dash-at c.args.text.now c.in_ok-r.r.end l ∙ eq-eqb _ 45 c.if-text-dash-ne45.false in
    rw c.from_residual-in_err-h.ensures (no_second c.args.text.now c.args.at c.args.len c.in_ok-r.r c.in_ok-r.ensures dash (sym c.in_err-h.was ∙ c.number-2.ensures))

pub update_kind-requires : goal.update_kind-requires
update_kind-requires c =
    let l : c.in_ok-r.r.end + 1 ≤ length c.args.text.now = omega (arith, (count-within c.args.text.now c.args.at c.in_ok-r.r c.in_ok-r.ensures c.requires).1, c.if-dash-text.false) in
    (count-within c.args.text.now (c.in_ok-r.r.end + 1) c.in_ok-h.h c.in_ok-h.ensures l).1

pub returns-in_err-kind : goal.returns-in_err-kind
returns-in_err-kind c =
    let l : c.in_ok-r.r.end < length c.args.text.now = omega (arith, (count-within c.args.text.now c.args.at c.in_ok-r.r c.in_ok-r.ensures c.requires).1, c.if-dash-text.false) in
    let dash = dash-at c.args.text.now c.in_ok-r.r.end l ∙ eq-eqb _ 45 c.if-text-dash-ne45.false in
    rw c.from_residual-in_err-kind.ensures (no_update c.args.text.now c.args.at c.args.len c.in_ok-r.r c.in_ok-r.ensures dash c.in_ok-h.h c.in_ok-h.ensures c.in_err-kind.ensures)

pub returns-then-r : goal.returns-then-r
returns-then-r c =
    let l : c.in_ok-r.r.end < length c.args.text.now = omega (arith, (count-within c.args.text.now c.args.at c.in_ok-r.r c.in_ok-r.ensures c.requires).1, c.if-dash-text.false) in
    let dash = dash-at c.args.text.now c.in_ok-r.r.end l ∙ eq-eqb _ 45 c.if-text-dash-ne45.false in
    read_update c.args.text.now c.args.at c.args.len c.in_ok-r.r c.in_ok-r.ensures dash c.in_ok-h.h c.in_ok-h.ensures _ (rw c.if-r.true) c.in_ok-kind.kind c.in_ok-kind.ensures

pub returns-else-r : goal.returns-else-r
returns-else-r c =
    let l : c.in_ok-r.r.end < length c.args.text.now = omega (arith, (count-within c.args.text.now c.args.at c.in_ok-r.r c.in_ok-r.ensures c.requires).1, c.if-dash-text.false) in
    let dash = dash-at c.args.text.now c.in_ok-r.r.end l ∙ eq-eqb _ 45 c.if-text-dash-ne45.false in
    read_update c.args.text.now c.args.at c.args.len c.in_ok-r.r c.in_ok-r.ensures dash c.in_ok-h.h c.in_ok-h.ensures _ (rw c.if-r.false) c.in_ok-kind.kind c.in_ok-kind.ensures
