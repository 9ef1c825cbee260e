use Rattle.value_domain.specs.AbsOperators.{brought_into}
use Rattle.value_domain.specs.Holding.{IsOf}
use Rattle.value_domain.specs.Values.{FitsWith}
use Rattle.cp_lattices.specs.Carried.{Making}
use Rattle.cp_lattices.specs.Makers.{making}
use Rattle.cp_lattices.proofs.CarryLaws.{if_done, brought}
use Rattle.cp_lattices.proofs.carry.Maker.brought.Goals as goal

pub returns-clause-fits : goal.returns-clause-fits
returns-clause-fits c =
    let m : Making = making c.args.self.now in
    if_done c.into_scalar.result (brought_into c.args.scalar c.args.value.now) (FitsWith m.limits.size m.limits.ends) c.into_scalar.ensures (brought m c.known.ensures c.args.scalar c.args.value.now c.requires).0

pub returns-clause-of : goal.returns-clause-of
returns-clause-of c =
    let m : Making = making c.args.self.now in
    if_done c.into_scalar.result (brought_into c.args.scalar c.args.value.now) (IsOf c.args.scalar) c.into_scalar.ensures (brought m c.known.ensures c.args.scalar c.args.value.now c.requires).1
