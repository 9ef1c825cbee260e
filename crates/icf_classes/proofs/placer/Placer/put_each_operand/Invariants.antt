use Rattle.std.proofs.Common.{◌≡◌, drop, map}
use Rattle.icf_classes.specs.Placed.{placed_operand}
use Rattle.icf_classes.specs.Codes.{code_items, code_operand}
use Rattle.icf_classes.proofs.placer.Placer.put_each_operand.Given as goal

abbrev pub invariant-loop-operand : goal.invariant-loop-operand
invariant-loop-operand l = code_items code_operand (map (placed_operand l.self) (drop l.operand-index l.operands)) l.row ≡ code_items code_operand (map (placed_operand l.self) l.operands) l.initial.row
