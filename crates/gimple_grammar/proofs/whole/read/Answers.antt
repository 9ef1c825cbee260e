use Rattle.gimple_grammar.proofs.Theorems.{is_found, is_only, fault_of}
use Rattle.gimple_grammar.proofs.whole.read.Goals as goal

pub returns-clause-found : goal.returns-clause-found
returns-clause-found c = rw (← c.new.ensures) (is_found c.new.result _ c.program.result c.program.ensures)

pub returns-clause-only : goal.returns-clause-only
returns-clause-only c = rw (← c.new.ensures) (is_only c.new.result _ c.program.result c.program.ensures)

pub returns-clause-fault : goal.returns-clause-fault
returns-clause-fault c = rw (← c.new.ensures) (fault_of c.new.result _ c.program.result c.program.ensures)
