use Rattle.std.proofs.Common.{rules}
use Rattle.icf_classes.proofs.Marked.{missing_number}
use Rattle.icf_classes.proofs.merger.Merger.number_of.Goals as goal

pub returns-in-None : goal.returns-in-None
returns-in-None c = missing_number c.args.self.now.program c.args.name.now c.len.result (search rules) (search rules)
