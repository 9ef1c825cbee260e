use Rattle.body_values.proofs.Lookups.{found_hold, found_hold_always}
use Rattle.body_values.proofs.laws.found_values_hold.Goals as goal

pub returns : goal.returns
returns c = record { activation = found_hold; always = found_hold_always }
