use Rattle.std.proofs.Common.{rules, sym}
use Rattle.sentences.specs.SentenceLaws.{sentence-none}
use Rattle.sentences.proofs.says.Goals as goal

pub returns-in_default : goal.returns-in_default
returns-in_default c = sym (sentence-none c.args.number (search rules) (search rules))
