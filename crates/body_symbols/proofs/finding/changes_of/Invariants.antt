use Rattle.std.proofs.Common.{◌≡◌, ◌++◌, drop}
use Rattle.body_symbols.specs.Found.{changes_of}
use Rattle.body_symbols.specs.Scenes.{body_in}
use Rattle.body_symbols.proofs.finding.changes_of.Given as goal

abbrev pub invariant-loop-statement : goal.invariant-loop-statement
invariant-loop-statement l = l.changes ++ changes_of (body_in l.scene) l.row (drop l.statement-index l.body) ≡ changes_of (body_in l.scene) l.begin l.body
