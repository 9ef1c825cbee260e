use Rattle.gimple_text.proofs.FaultLaws.{fault_excludes}
use Rattle.gimple_text.proofs.parser.fault_excludes.Goals as goal

pub returns : goal.returns
returns c = fault_excludes
