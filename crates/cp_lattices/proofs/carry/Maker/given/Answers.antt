use Rattle.std.proofs.Common.{sym, subst}
use Rattle.value_domain.specs.Values.{FitsWith, kind_of}
use Rattle.cp_lattices.specs.Carried.{Making}
use Rattle.cp_lattices.specs.Makers.{making}
use Rattle.cp_lattices.proofs.CarryLaws.{of_kind, carried_good}
use Rattle.cp_lattices.proofs.carry.Maker.given.Goals as goal

pub meet-requires : goal.meet-requires
meet-requires c =
    let m : Making = making c.args.self.now in
    let fits = subst (FitsWith m.limits.size m.limits.ends) (sym c.in_ok-carried.ensures) (carried_good m c.known.ensures c.args.scalar c.args.jump c.args.value.now c.requires.fits).0 in
    (kind_of m.limits.size m.limits.ends, of_kind m.limits c.known.ensures c.in_ok-carried.carried fits, of_kind m.limits c.known.ensures c.args.local.now c.requires.local)
