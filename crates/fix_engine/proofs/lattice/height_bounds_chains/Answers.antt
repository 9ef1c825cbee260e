use Rattle.fix_engine.proofs.Chains.{chain_below_height}
use Rattle.fix_engine.proofs.lattice.height_bounds_chains.Goals as goal

pub returns : goal.returns
returns g c = λ k first rest chain. chain_below_height g.met.V.Lattice.laws k first rest chain
