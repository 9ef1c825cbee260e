use Rattle.std.proofs.Common.{◌≡◌, ◌++◌, map, drop}
use Rattle.gimple_ir.specs.declared.program.Function.{Function}
use Rattle.modref_trees.specs.declared.trees.Tree.TheVariants.{All}
use Rattle.modref_trees.specs.Covers.{everything_of}
use Rattle.modref_trees.proofs.trees.everything.Given as goal

abbrev pub invariant-loop-function : goal.invariant-loop-function
invariant-loop-function l = l.trees ++ map (λ (f : Function). record { loads = All; stores = All }) (drop l._function-index l.functions) ≡ everything_of l.program.program
