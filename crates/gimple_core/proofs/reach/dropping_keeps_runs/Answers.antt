use Rattle.gimple_core.proofs.reach.dropping_keeps_runs.Goals as goal
use Rattle.gimple_core.proofs.Dropping.{kept_runs, reached_runs}

pub returns-clause-closed : goal.returns-clause-closed
returns-clause-closed c = kept_runs

pub returns-clause-unreached : goal.returns-clause-unreached
returns-clause-unreached c = reached_runs
