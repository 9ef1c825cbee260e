use Rattle.std.proofs.Common.{◌≡◌, drop, map}
use Rattle.icf_classes.specs.Placed.{placed_case}
use Rattle.icf_classes.specs.Codes.{code_items, code_case}
use Rattle.icf_classes.proofs.placer.Placer.put_each_case.Given as goal

abbrev pub invariant-loop-case : goal.invariant-loop-case
invariant-loop-case l = code_items code_case (map (placed_case l.self) (drop l.case-index l.cases)) l.row ≡ code_items code_case (map (placed_case l.self) l.cases) l.initial.row
