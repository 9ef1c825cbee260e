use Rattle.value_domain.proofs.AbsLaws.{op_holds, cmp_holds, convert_holds_all}
use Rattle.value_domain.proofs.laws.operators_hold.Goals as goal

pub returns : goal.returns
returns c = record { arithmetic = op_holds; comparison = cmp_holds; conversion = convert_holds_all }
