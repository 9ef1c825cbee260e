use Rattle.std.proofs.Common.{◌≡◌, ◌++◌}
use Rattle.cp_lattices.specs.Lattices.{rows_of}
use Rattle.ipa_driver.specs.Propagated.{base_plan}
use Rattle.ipa_driver.proofs.propagation.base_plan.Given as goal

abbrev pub invariant-loop-lattice : goal.invariant-loop-lattice
invariant-loop-lattice l = l.bases ++ (base_plan (rows_of l.lattice-iterator.rest.items)).bases ≡ (base_plan (rows_of l.fn.lattices)).bases
