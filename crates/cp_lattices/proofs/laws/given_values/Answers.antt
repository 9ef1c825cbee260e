use Rattle.cp_lattices.proofs.HoldLaws.{given_holds, given_is_good, given_rises_all}
use Rattle.cp_lattices.proofs.laws.given_values.Goals as goal

pub returns-clause-good : goal.returns-clause-good
returns-clause-good c = given_is_good

pub returns-clause-rises : goal.returns-clause-rises
returns-clause-rises c = given_rises_all

pub returns-clause-holds : goal.returns-clause-holds
returns-clause-holds c = given_holds
