use Rattle.body_values.proofs.FoundWhereLaws.{found_there, found_there_alone}
use Rattle.body_values.proofs.laws.values_found.Goals as goal

pub returns : goal.returns
returns c = record { there = found_there; alone = found_there_alone }
