use Rattle.std.proofs.Common.{◌≡◌, drop, map}
use Rattle.icf_classes.specs.Placed.{placed_stmt}
use Rattle.icf_classes.specs.Codes.{code_items, code_stmt}
use Rattle.icf_classes.proofs.placer.Placer.put_each_statement.Given as goal

abbrev pub invariant-loop-statement : goal.invariant-loop-statement
invariant-loop-statement l = code_items code_stmt (map (placed_stmt l.self) (drop l.statement-index l.body)) l.row ≡ code_items code_stmt (map (placed_stmt l.self) l.body) l.initial.row
