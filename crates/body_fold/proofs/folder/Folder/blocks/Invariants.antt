use Rattle.std.proofs.Common.{◌≡◌, ◌++◌, drop, true}
use Rattle.gimple_claims.specs.Kept.{new_blocks}
use Rattle.body_fold.specs.Blocks.{stmt_in, end_in}
use Rattle.body_fold.proofs.folder.Folder.blocks.Given as goal

abbrev pub invariant-loop-number : goal.invariant-loop-number
invariant-loop-number l =
    l.blocks.items ++ new_blocks (stmt_in l.self l.values) (end_in l.self l.values) (λ k. true) l.number (drop l.number l.from) ≡ new_blocks (stmt_in l.self l.values) (end_in l.self l.values) (λ k. true) 0 l.from
