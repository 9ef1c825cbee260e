use Rattle.std.proofs.Common.{rules}
use Rattle.icf_classes.proofs.Marked.{missing_item}
use Rattle.icf_classes.proofs.merger.Merger.class_of.Goals as goal

pub returns-in-None : goal.returns-in-None
returns-in-None c = missing_item c.args.self.now.classes c.args.number c.args.number (search rules)
