use Rattle.std.proofs.Common.{◌≡◌, ◌++◌, drop}
use Rattle.body_symbols.specs.Jumps.{jumps_by}
use Rattle.body_symbols.proofs.jumps.jumps_in_row.Given as goal

abbrev pub invariant-loop-argument : goal.invariant-loop-argument
invariant-loop-argument l = l.jumps ++ jumps_by l.variables.globals.now l.variables.locals.now l.symbols.registers l.row (drop l.argument-index l.arguments) ≡ jumps_by l.variables.globals.now l.variables.locals.now l.symbols.registers l.row l.arguments
