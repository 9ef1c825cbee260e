use Rattle.std.proofs.Common.{◌≡◌, drop, map}
use Rattle.icf_classes.specs.Placed.{scalar_of}
use Rattle.icf_classes.specs.Codes.{code_items, code_scalar}
use Rattle.icf_classes.proofs.coding.put_each_register.Given as goal

abbrev pub invariant-loop-register : goal.invariant-loop-register
invariant-loop-register l = code_items code_scalar (map scalar_of (drop l.register-index l.registers)) l.row ≡ code_items code_scalar (map scalar_of l.registers) l.initial.row
