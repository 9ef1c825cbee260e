use Rattle.value_domain.proofs.AbsLaws.{op_fits, cmp_fits, convert_fits}
use Rattle.value_domain.proofs.laws.operators_fit.Goals as goal

pub returns : goal.returns
returns c = record { arithmetic = op_fits; comparison = cmp_fits; conversion = convert_fits }
