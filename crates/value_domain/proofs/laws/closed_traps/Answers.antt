use Rattle.value_domain.proofs.TrapLaws.{no_trap}
use Rattle.value_domain.proofs.laws.closed_traps.Goals as goal

pub returns : goal.returns
returns c = no_trap
