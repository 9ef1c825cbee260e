use Rattle.std.proofs.Common.{◌≡◌, ◌++◌, drop}
use Rattle.gimple_claims.specs.Kept.{new_body}
use Rattle.body_values.specs.Found.{found_row}
use Rattle.body_fold.specs.Blocks.{stmt_in}
use Rattle.body_fold.proofs.folder.Folder.body.Given as goal

abbrev pub invariant-loop-index : goal.invariant-loop-index
invariant-loop-index l =
    (l.row ≡ found_row l.values.rows l.block l.index) × (l.statements ++ new_body (stmt_in l.self l.values) l.block l.index (drop l.index l.body) ≡ new_body (stmt_in l.self l.values) l.block 0 l.body)
