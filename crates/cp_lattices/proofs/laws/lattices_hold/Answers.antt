use Rattle.cp_lattices.proofs.Fitting.{lattices_fit}
use Rattle.cp_lattices.proofs.LatticeLaws.{lattices_hold}
use Rattle.cp_lattices.proofs.laws.lattices_hold.Goals as goal

pub returns-clause-hold : goal.returns-clause-hold
returns-clause-hold c = lattices_hold

pub returns-clause-fit : goal.returns-clause-fit
returns-clause-fit c = lattices_fit
