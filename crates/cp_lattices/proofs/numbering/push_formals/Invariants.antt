use Rattle.std.proofs.Common.{◌≡◌, ◌++◌, drop}
use Rattle.cp_lattices.specs.Numbered.{nodes_from}
use Rattle.cp_lattices.proofs.numbering.push_formals.Given as goal

abbrev pub invariant-loop-formal : goal.invariant-loop-formal
invariant-loop-formal l = l.nodes ++ nodes_from l.function l.addressed l.formal (drop l.formal l.formals) ≡ l.initial.nodes ++ nodes_from l.function l.addressed 0 l.formals
