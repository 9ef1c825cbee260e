use Rattle.std.proofs.Common.{rules, ◌≡◌, ◌<◌, ◌≤◌, ◌++◌, ◌∷◌, [], length}
use Rattle.block_flow.specs.Steps.{where_reached}
use Rattle.body_values.specs.Bodies.{after_stmt}
use Rattle.body_values.specs.Changed.{changed}
use Rattle.body_values.specs.Scenes.{body_in, FitsIn}
use Rattle.body_values.proofs.ByChanges.{more_changes, all_changes}
use Rattle.body_values.proofs.scene.Scene.changes.Goals as goal

pub loop-index-preserved : goal.loop-index-preserved
loop-index-preserved c =
    let within : c.loop-index.index < length c.args.body.now = search rules in
    let after : c.through.new.row ≡ where_reached c.loop-index.row (after_stmt (body_in c.args.self.now) c.args.block c.loop-index.index c.index-body-index.result) = search rules in
    let by : c.through.new.row ≡ changed c.loop-index.row c.in_ok-change.change = search rules in
    let push : c.push.new.self ≡ c.loop-index.changes ++ c.in_ok-change.change ∷ [] = search rules in
    let fit : FitsIn c.args.self.now c.through.new.row = search rules in
    (fit, more_changes (body_in c.args.self.now) c.args.block c.loop-index.index c.args.body.now c.args.begin.now c.loop-index.row c.through.new.row c.loop-index.changes c.push.new.self c.in_ok-change.change c.index-body-index.result within c.index-body-index.is c.loop-index.invariant.1 after by push)

pub returns : goal.returns
returns c =
    let end : length c.args.body.now ≤ c.loop-index.index = search rules in
    all_changes (body_in c.args.self.now) c.args.block c.loop-index.index c.args.body.now c.args.begin.now c.loop-index.row c.loop-index.changes end c.loop-index.invariant.1
