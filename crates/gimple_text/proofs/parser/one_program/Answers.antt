use Rattle.gimple_text.proofs.FaultLaws.{one_program}
use Rattle.gimple_text.proofs.parser.one_program.Goals as goal

pub returns : goal.returns
returns c = one_program
