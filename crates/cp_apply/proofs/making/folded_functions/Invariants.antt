use Rattle.cp_apply.specs.Bases.{base_facts, FoldsFirst}
use Rattle.cp_apply.proofs.making.folded_functions.Given as goal

abbrev pub invariant-loop-number : goal.invariant-loop-number
invariant-loop-number g l = FoldsFirst l.tables.program (base_facts l.plan) l.number l.functions
