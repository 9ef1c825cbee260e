use Rattle.std.proofs.Common.{◌↔◌, length}
use Rattle.std.specs.List.{All}
use Rattle.gimple_types.specs.Counted.{IsNarrow}
use Rattle.gimple_types.proofs.counts.are_narrow.Given as goal

abbrev pub invariant-loop-rest : goal.invariant-loop-rest
invariant-loop-rest l = All IsNarrow l.fn.structs ↔ All IsNarrow l.rest

abbrev pub decreases-loop-rest : goal.decreases-loop-rest
decreases-loop-rest l = length l.rest
