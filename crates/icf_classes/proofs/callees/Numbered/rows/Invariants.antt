use Rattle.std.proofs.Common.{◌≡◌, map, take}
use Rattle.icf_classes.specs.Placed.{callees_of}
use Rattle.icf_classes.proofs.callees.Numbered.rows.Given as goal

abbrev pub invariant-loop-function : goal.invariant-loop-function
invariant-loop-function l = map (λ row. row.items) l.rows.items ≡ map (callees_of l.self) (take l.function-index l.self.functions)
