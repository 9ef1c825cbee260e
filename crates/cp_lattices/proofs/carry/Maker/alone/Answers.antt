use Rattle.std.proofs.Common.{sym, subst}
use Rattle.value_domain.specs.Holding.{IsOf}
use Rattle.value_domain.specs.Values.{FitsWith}
use Rattle.cp_lattices.specs.Carried.{Making}
use Rattle.cp_lattices.specs.Makers.{making}
use Rattle.value_domain.proofs.AloneLaws.{alone_fits}
use Rattle.cp_lattices.proofs.carry.Maker.alone.Goals as goal

pub returns-clause-fits : goal.returns-clause-fits
returns-clause-fits c =
    let m : Making = making c.args.self.now in
    subst (FitsWith m.limits.size m.limits.ends) (sym c.in_ok-value.ensures) (alone_fits m.limits.size m.limits.ends c.known.ensures c.args.scalar _).0

pub returns-clause-of : goal.returns-clause-of
returns-clause-of c =
    let m : Making = making c.args.self.now in
    subst (IsOf c.args.scalar) (sym c.in_ok-value.ensures) (alone_fits m.limits.size m.limits.ends c.known.ensures c.args.scalar _).1
