use Rattle.std.proofs.Common.{◌≡◌, drop, map}
use Rattle.icf_classes.specs.Placed.{placed_local}
use Rattle.icf_classes.specs.Codes.{code_items, code_local}
use Rattle.icf_classes.proofs.coding.put_each_local.Given as goal

abbrev pub invariant-loop-local : goal.invariant-loop-local
invariant-loop-local l = code_items code_local (map placed_local (drop l.local-index l.locals)) l.row ≡ code_items code_local (map placed_local l.locals) l.initial.row
