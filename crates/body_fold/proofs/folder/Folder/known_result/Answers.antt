use Rattle.std.proofs.Common.{◌≡◌, true}
use Rattle.body_values.specs.Scenes.{body_in}
use Rattle.body_fold.specs.Fold.{never_traps}
use Rattle.body_fold.proofs.Goods.{certainly, result_of}
use Rattle.body_fold.proofs.folder.Folder.known_result.Goals as goal

pub known-requires-2 : goal.known-requires-2
known-requires-2 c =
    let certain : never_traps (body_in c.args.self.now.scene) c.args.row.now c.args.scalar c.args.statement.now ≡ true = certainly c.in_ok-certain.certain _ c.in_ok-certain.ensures c.if-not-certain.false in
    record { of = result_of c.args.self.now c.requires.folder c.args.row.now c.known.ensures c.requires.fit c.args.block c.args.index c.args.scalar c.args.statement.now _ c.requires.passes c.requires.scalar certain c.in_ok-value.ensures }
