use Rattle.gimple_core.proofs.replacing.replacing_is_transitive.Goals as goal
use Rattle.gimple_core.proofs.ReplacingLaws.{replaces_itself, replaces_in_turn}

pub returns-clause-itself : goal.returns-clause-itself
returns-clause-itself c = replaces_itself

pub returns-clause-in_turn : goal.returns-clause-in_turn
returns-clause-in_turn c = replaces_in_turn
