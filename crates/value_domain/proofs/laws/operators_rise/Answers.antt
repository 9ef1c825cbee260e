use Rattle.value_domain.proofs.AbsLaws.{op_rises, cmp_rises_all, convert_rises_all}
use Rattle.value_domain.proofs.laws.operators_rise.Goals as goal

pub returns : goal.returns
returns c = record { arithmetic = op_rises; comparison = cmp_rises_all; conversion = convert_rises_all }
