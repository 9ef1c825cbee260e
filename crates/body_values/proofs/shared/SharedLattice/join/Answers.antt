use Rattle.std.proofs.Common.{rules, ◌≡◌, true}
use Rattle.body_values.proofs.Sharing.{joined_same}
use Rattle.body_values.proofs.shared.SharedLattice.join.Goals as goal

pub returns-then-leq-clause-ok : goal.returns-then-leq-clause-ok
returns-then-leq-clause-ok g c =
    let below : g.V.Lattice.below c.args.other.now c.args.self.now ≡ true = search rules in
    joined_same g.V.Lattice.fits g.V.Lattice.height g.V.Lattice.rank g.V.Lattice.below g.V.Lattice.joined g.met.V.Lattice.laws c.args.self.now c.args.other.now c.requires below
