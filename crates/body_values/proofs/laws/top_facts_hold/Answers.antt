use Rattle.body_values.proofs.laws.top_facts_hold.Goals as goal
use Rattle.body_values.proofs.TopMet.{top_facts_hold, top_values_hold}

pub returns-clause-facts : goal.returns-clause-facts
returns-clause-facts c = top_facts_hold

pub returns-clause-values : goal.returns-clause-values
returns-clause-values c = top_values_hold
