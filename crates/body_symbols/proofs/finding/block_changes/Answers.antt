use Rattle.std.proofs.Common.{rules, ◌≡◌, ◌<◌, ◌++◌, ◌∷◌, [], length}
use Rattle.body_symbols.specs.Found.{changes_of}
use Rattle.body_symbols.specs.Scenes.{body_in}
use Rattle.body_symbols.proofs.Parts.{more_blocks}
use Rattle.body_symbols.proofs.finding.block_changes.Goals as goal

pub loop-at-preserved : goal.loop-at-preserved
loop-at-preserved c =
    let within : c.loop-at.at < length c.args.blocks.now = search rules in
    let inside : c.loop-at.at < length c.args.begins.now = search rules in
    let made : c.in_ok-changes.changes ≡ changes_of (body_in c.args.scene.now) c.index-begins-at.result c.index-blocks-at.result.body = search rules in
    let push : c.push.new.self ≡ c.loop-at.all ++ c.in_ok-changes.changes ∷ [] = search rules in
    more_blocks (body_in c.args.scene.now) c.args.begins.now c.args.blocks.now c.loop-at.all c.push.new.self _ c.loop-at.at c.index-begins-at.result c.index-blocks-at.result c.in_ok-changes.changes within inside c.index-blocks-at.is c.index-begins-at.is made push c.loop-at.invariant
