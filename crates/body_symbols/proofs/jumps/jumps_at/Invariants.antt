use Rattle.std.proofs.Common.{◌≡◌, ◌++◌, drop}
use Rattle.body_symbols.specs.Jumps.{jumps_at}
use Rattle.body_symbols.proofs.jumps.jumps_at.Given as goal

abbrev pub invariant-loop-argument : goal.invariant-loop-argument
invariant-loop-argument l = l.jumps ++ jumps_at l.variables.globals.now l.variables.locals.now l.symbols l.point (drop l.argument-index l.arguments) ≡ jumps_at l.variables.globals.now l.variables.locals.now l.symbols l.point l.arguments
