use Rattle.gimple_text.proofs.FaultLaws.{one_fault}
use Rattle.gimple_text.proofs.parser.one_fault.Goals as goal

pub returns : goal.returns
returns c = one_fault
