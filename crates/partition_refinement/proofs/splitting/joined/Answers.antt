use Rattle.partition_refinement.proofs.Regarding.{pairs_stage}
use Rattle.partition_refinement.proofs.splitting.joined.Goals as goal

pub returns : goal.returns
returns c = λ rows kept. pairs_stage c.args.classes.now rows c.args.plain.now c.in_ok-pairs.pairs c.into_classes-numbers.result.items c.as_slice.result.now c.in_ok-names.names.items kept c.in_ok-pairs.ensures.count c.in_ok-pairs.ensures.each c.into_classes-numbers.ensures.count c.into_classes-numbers.ensures.same c.as_slice.ensures.value c.in_ok-names.ensures
