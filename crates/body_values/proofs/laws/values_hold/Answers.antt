use Rattle.body_values.proofs.Always.{values_hold, values_hold_always, found_analysed}
use Rattle.body_values.proofs.laws.values_hold.Goals as goal

pub returns : goal.returns
returns c = record { activation = values_hold; always = values_hold_always; found = found_analysed }
