use Rattle.cp_lattices.specs.Numbered.{AreNumbered}
use Rattle.cp_lattices.proofs.numbering.put_order.Given as goal

abbrev pub invariant-loop-component : goal.invariant-loop-component
invariant-loop-component l = AreNumbered l.program l.numbering

abbrev pub invariant-loop-function : goal.invariant-loop-function
invariant-loop-function l = AreNumbered l.program l.numbering
