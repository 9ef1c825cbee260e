use Rattle.std.proofs.Common.{◌≡◌, map, take}
use Rattle.icf_classes.specs.Merged.{sent_stmt}
use Rattle.icf_classes.specs.Mergers.{sent_in}
use Rattle.icf_classes.proofs.merger.Merger.body.Given as goal

abbrev pub invariant-loop-statement : goal.invariant-loop-statement
invariant-loop-statement l = l.made ≡ map (sent_stmt (sent_in l.self)) (take l.statement-index l.body)
