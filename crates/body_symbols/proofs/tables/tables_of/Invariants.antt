use Rattle.std.proofs.Common.{◌≡◌, length}
use Rattle.body_symbols.specs.Tables.{TablesFrom}
use Rattle.body_symbols.proofs.tables.tables_of.Given as goal

abbrev pub invariant-loop-function : goal.invariant-loop-function
invariant-loop-function g l = (length l.tables ≡ l.function) × TablesFrom l.program 0 l.tables
