use Rattle.body_fold.proofs.Linking.{label_more}
use Rattle.body_fold.proofs.links.places.Goals as goal

pub loop-at-preserved : goal.loop-at-preserved
loop-at-preserved c =
    label_more c.args.blocks.now c.args.labels.now c.loop-at.at _ c.loop-at.places.items c.push.new.self.items c.target.result _ c.loop-at-test.true c.target.ensures c.in_ok-push.ensures.items c.loop-at.invariant
