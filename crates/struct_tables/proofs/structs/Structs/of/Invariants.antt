use Rattle.std.proofs.Common.{◌≡◌, ◌++◌, length}
use Rattle.struct_tables.specs.Tables.{CanAllFollow}
use Rattle.struct_tables.proofs.structs.Structs.of.Given as goal

abbrev pub invariant-loop-rest : goal.invariant-loop-rest
invariant-loop-rest l = (l.fn.structs ≡ l.table ++ l.rest) × CanAllFollow l.table l.rest

abbrev pub decreases-loop-rest : goal.decreases-loop-rest
decreases-loop-rest l = length l.rest
