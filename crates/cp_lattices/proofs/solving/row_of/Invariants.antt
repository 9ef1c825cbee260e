use Rattle.std.proofs.Common.{◌≡◌, ◌++◌, drop}
use Rattle.cp_lattices.specs.FormalRows.{row_from}
use Rattle.cp_lattices.proofs.solving.row_of.Given as goal

abbrev pub invariant-loop-formal : goal.invariant-loop-formal
invariant-loop-formal l = l.row ++ row_from l.numbering l.values l.function l.formal (drop l.formal l.formals) ≡ row_from l.numbering l.values l.function 0 l.formals
