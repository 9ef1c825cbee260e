use Rattle.std.proofs.Common.{inr}
use Rattle.cp_lattices.proofs.carry.Maker.operated.Goals as goal

pub under-requires-clause-allowed : goal.under-requires-clause-allowed
under-requires-clause-allowed c = inr (c.requires.number, c.right_scalar-other.ensures.right)
