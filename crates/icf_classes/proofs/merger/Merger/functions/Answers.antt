use Rattle.std.proofs.Common.{rules}
use Rattle.icf_classes.proofs.Marked.{none_merged, merged_more}
use Rattle.icf_classes.proofs.merger.Merger.functions.Goals as goal

pub loop-function-init : goal.loop-function-init
loop-function-init c = none_merged c.args.self.now c.new-kept.result (search rules)

pub loop-function-preserved : goal.loop-function-preserved
loop-function-preserved c =
    merged_more c.args.self.now c.args.self.now.program.functions c.loop-function.function-index c.function-item.result c.loop-function.kept c.push_kept.new.kept (search rules) (search rules) (search rules) c.loop-function.invariant
