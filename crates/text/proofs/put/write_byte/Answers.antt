use Rattle.text.specs.PutLaws.{put-set}
use borrow.Author.Rules.{rules}
use Rattle.text.proofs.put.write_byte.Goals as goal

pub returns : goal.returns
returns c = record {
  value = search rules;
  out_after = put-set _ _ _ c.requires;
}
