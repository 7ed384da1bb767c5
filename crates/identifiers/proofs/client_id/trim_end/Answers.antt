use Rattle.std.proofs.Common.{rules, ◌≡◌, ◌<◌, ◌+◌, true, false, length}
use Rattle.std.proofs.iter.runs.Made.{chains}
use Rattle.std.specs.Option.{MatchOption}
use Rattle.std.specs.List.{AllWithin, HoldsAt}
use Rattle.identifiers.specs.Owned.{blank}
use Rattle.identifiers.specs.OwnedLaws.{end_found}
use Rattle.identifiers.proofs.client_id.trim_end.Goals as goal

pub returns : goal.returns
returns c =
    let h : MatchOption c.rposition-last.result (AllWithin (λ b. blank b ≡ true) c.args.s.now 0 (length c.args.s.now)) (λ i. (i < length c.args.s.now) × HoldsAt (λ b. blank b ≡ false) c.args.s.now i × AllWithin (λ b. blank b ≡ true) c.args.s.now (i + 1) (length c.args.s.now)) = search (rules, chains) in
    end_found c.args.s.now c.rposition-last.result c.map_or.result h (search rules)
