use Rattle.std.proofs.Common.{◌≡◌, drop}
use Rattle.icf_classes.specs.Codes.{code_items, code_scalar}
use Rattle.icf_classes.proofs.coding.put_each_scalar.Given as goal

abbrev pub invariant-loop-scalar : goal.invariant-loop-scalar
invariant-loop-scalar l = code_items code_scalar (drop l.scalar-index l.scalars) l.row ≡ code_items code_scalar l.scalars l.initial.row
