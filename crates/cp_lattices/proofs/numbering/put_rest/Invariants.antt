use Rattle.cp_lattices.specs.Numbered.{AreNumbered, HaveNumbers}
use Rattle.cp_lattices.proofs.numbering.put_rest.Given as goal

abbrev pub invariant-loop-function : goal.invariant-loop-function
invariant-loop-function l = record { are : AreNumbered l.program l.numbering; all : HaveNumbers l.numbering l.function }
