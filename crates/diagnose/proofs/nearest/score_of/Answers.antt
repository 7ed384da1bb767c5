-- `nearest::score_of` meets its contract.
use Rattle.diagnose.specs.PiecesLaws.{count_many}
use Rattle.diagnose.specs.AnswerLaws.{score_else, score-full, score-rest}
use Rattle.diagnose.proofs.nearest.score_of.Goals as goal

pub returns-then-count-seen_of : goal.returns-then-count-seen_of
returns-then-count-seen_of c =
    score_else c.args.kind.text.now c.args.text.text.now _ _ (count_many _ _ c.args.text.is_cut) c.seen_of.ensures c.if-count-seen_of.true _ c.most_letters.ensures

pub returns-then-all_placed : goal.returns-then-all_placed
returns-then-all_placed c =
    score-full c.args.kind.text.now c.args.text.text.now _ _ (count_many _ _ c.args.text.is_cut) c.seen_of.ensures c.if-count-seen_of.false _ c.all_placed.ensures c.if-all_placed.true

pub returns : goal.returns
returns c =
    score-rest c.args.kind.text.now c.args.text.text.now _ _ (count_many _ _ c.args.text.is_cut) c.seen_of.ensures c.if-count-seen_of.false _ c.all_placed.ensures c.if-all_placed.false _ c.most_letters-2.ensures
