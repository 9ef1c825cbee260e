use Rattle.gimple_tokens.proofs.NameLaws.{name_tested}
use Rattle.gimple_tokens.proofs.words.is_name.Goals as goal

pub returns : goal.returns
returns c = rw c.name_text.ensures (name_tested c.args.bytes.now)
