use Rattle.gimple_core.proofs.ProgramTyped.{accepted_typed}
use Rattle.gimple_core.proofs.acceptance.accepted_is_typed.Goals as goal

pub returns : goal.returns
returns c = accepted_typed
