-- `book::record::is_full` meets its contract.
use mathlib.Core.Path.{ap}
use Prim.Native.Nat.{◌-◌}
use lib.Dec.{eqb}
use Rattle.book_form.specs.declared.Quotas.{Quotas}
use Rattle.book.specs.CheckWayLaws.{filed}
use Rattle.book.specs.ShareLaws.{full-one, full-two}
use native.Mathlib.Omega.{arith}
use Rattle.book.proofs.record.is_full.Goals as goal

pub quotas_of-quotas-requires : goal.quotas_of-quotas-requires
quotas_of-quotas-requires c = omega (arith, (filed _ _ c.requires.0).0)

pub first_count-first-requires : goal.first_count-first-requires
first_count-first-requires c =
    let p = filed _ _ c.requires.0 in record { n_bound = p.0; slots_good = p.1 }

pub returns-then-owner-eq1 : goal.returns-then-owner-eq1
returns-then-owner-eq1 c = full-one _ _ _ c.args.owner c.requires.0 c.first_count-first.ensures c.if-owner-eq1.true _ (ap (λ (q : Quotas). eqb c.first_count-first.result q.one) c.quotas_of-quotas.ensures.0)

pub returns : goal.returns
returns c = full-two _ _ _ c.args.owner c.requires.0 c.first_count-first.ensures c.requires.1 c.if-owner-eq1.false _ (ap (λ (q : Quotas). eqb (c.args.n - c.first_count-first.result) q.two) c.quotas_of-quotas.ensures.0)
