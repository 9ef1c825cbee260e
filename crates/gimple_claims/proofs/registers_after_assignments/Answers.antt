use Rattle.gimple_claims.proofs.registers_after_assignments.Goals as goal
use Rattle.gimple_claims.proofs.Updates.{assigned_registers_hold, other_registers_stay, assignments_keep_counts}

pub returns-clause-assigned : goal.returns-clause-assigned
returns-clause-assigned c = assigned_registers_hold

pub returns-clause-others : goal.returns-clause-others
returns-clause-others c = other_registers_stay

pub returns-clause-count : goal.returns-clause-count
returns-clause-count c = assignments_keep_counts
