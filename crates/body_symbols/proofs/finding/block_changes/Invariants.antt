use Rattle.std.proofs.Common.{◌≡◌, ◌++◌, drop}
use Rattle.body_symbols.specs.Found.{block_changes}
use Rattle.body_symbols.specs.Scenes.{body_in}
use Rattle.body_symbols.proofs.finding.block_changes.Given as goal

abbrev pub invariant-loop-at : goal.invariant-loop-at
invariant-loop-at l = l.all ++ block_changes (body_in l.scene) l.begins l.at (drop l.at l.blocks) ≡ block_changes (body_in l.scene) l.begins 0 l.blocks
