use Rattle.std.proofs.Common.{rules, false}
use Rattle.icf_classes.proofs.Marked.{missing_item}
use Rattle.icf_classes.proofs.merger.Merger.is_marked.Goals as goal

pub returns-in-None : goal.returns-in-None
returns-in-None c = missing_item c.args.self.now.marks c.args.number false (search rules)
