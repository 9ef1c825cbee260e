use Rattle.std.proofs.Common.{◌≡◌, ◌++◌, drop}
use Rattle.cp_lattices.specs.FormalRows.{rows_from}
use Rattle.cp_lattices.specs.Lattices.{rows_of}
use Rattle.cp_lattices.proofs.solving.rows_by.Given as goal

abbrev pub invariant-loop-number : goal.invariant-loop-number
invariant-loop-number l = rows_of l.rows ++ rows_from l.numbering l.values l.number (drop l.number l.functions) ≡ rows_from l.numbering l.values 0 l.functions
