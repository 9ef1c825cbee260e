use Rattle.std.proofs.Common.{rules}
use Rattle.icf_classes.proofs.Marked.{missing_number}
use Rattle.icf_classes.proofs.callees.Numbered.number.Goals as goal

pub returns-in-None-clause-number : goal.returns-in-None-clause-number
returns-in-None-clause-number c = missing_number c.args.self.now c.args.name.now c.len.result (search rules) (search rules)
