use Rattle.value_domain.proofs.BringLaws.{brought_holds, brought_fits, brought_rises, brought_same}
use Rattle.value_domain.proofs.laws.brought_values.Goals as goal

pub returns : goal.returns
returns c = record { holds = brought_holds; fits = brought_fits; rises = brought_rises; same = brought_same }
