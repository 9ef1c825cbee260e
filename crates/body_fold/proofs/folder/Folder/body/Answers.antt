use Rattle.std.proofs.Common.{rules, ◌≡◌, ◌++◌, ◌∷◌, ◌+◌, [], sym, subst}
use Rattle.body_values.specs.Found.{found_row}
use Rattle.body_values.specs.Scenes.{FitsIn}
use Rattle.body_fold.specs.Blocks.{stmt_in}
use Rattle.body_fold.specs.Fold.{stmt_at}
use Rattle.body_fold.specs.Folders.{folding_in}
use Rattle.body_fold.proofs.AtPoints.{stmt_is, stmt_passes_at, body_more}
use Rattle.body_fold.proofs.folder.Folder.body.Goals as goal

pub statement_at-requires-clause-passes : goal.statement_at-requires-clause-passes
statement_at-requires-clause-passes c =
    stmt_passes_at (folding_in c.args.self.now).env (folding_in c.args.self.now).names c.args.body.now c.loop-index.index c.index-body-index.result c.loop-index-test.true c.index-body-index.is c.requires.passes

pub statement_at-requires-clause-fit : goal.statement_at-requires-clause-fit
statement_at-requires-clause-fit c = subst (FitsIn c.args.self.now.scene) (sym c.loop-index.invariant.0) (c.requires.fit c.args.block c.loop-index.index)

pub loop-index-preserved : goal.loop-index-preserved
loop-index-preserved c =
    let made : c.in_ok-statement.statement ≡ stmt_at (folding_in c.args.self.now) c.args.block c.loop-index.index c.index-body-index.result c.loop-index.row = search rules in
    let push : c.push.new.self ≡ c.loop-index.statements ++ c.in_ok-statement.statement ∷ [] = search rules in
    let row : c.pass.new.row ≡ found_row c.args.values.now.rows c.args.block (c.loop-index.index + 1) = search rules in (
      row,
      body_more (stmt_in c.args.self.now c.args.values.now) c.args.block c.loop-index.index c.args.body.now c.index-body-index.result c.in_ok-statement.statement c.loop-index.statements c.push.new.self _ c.loop-index-test.true c.index-body-index.is
          (stmt_is c.args.self.now c.args.values.now c.args.block c.loop-index.index c.index-body-index.result c.in_ok-statement.statement c.loop-index.row c.loop-index.invariant.0 made) push c.loop-index.invariant.1,
    )
