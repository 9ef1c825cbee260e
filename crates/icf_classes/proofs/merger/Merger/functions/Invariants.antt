use Rattle.std.proofs.Common.{◌≡◌, take}
use Rattle.icf_classes.specs.Mergers.{merged_in}
use Rattle.icf_classes.proofs.merger.Merger.functions.Given as goal

abbrev pub invariant-loop-function : goal.invariant-loop-function
invariant-loop-function l = l.kept ≡ merged_in l.self (take l.function-index l.self.program.functions)
