use Rattle.std.proofs.Common.{rules, ◌≡◌, ◌∙◌, length, sym, ap, subst}
use Rattle.gimple_claims.specs.Kept.{new_body}
use Rattle.body_values.specs.Found.{found_row}
use Rattle.body_values.specs.Scenes.{FitsIn}
use Rattle.body_fold.specs.Blocks.{stmt_in, end_in}
use Rattle.body_fold.specs.Fold.{end_at}
use Rattle.body_fold.specs.Folders.{folding_in}
use Rattle.body_fold.proofs.AtPoints.{end_is}
use Rattle.body_fold.proofs.folder.Folder.block.Goals as goal

pub end_at-requires-clause-fit : goal.end_at-requires-clause-fit
end_at-requires-clause-fit c =
    let row : c.body.new.row ≡ found_row c.args.values.now.rows c.args.number (length c.as_slice.result.now) = search rules in
    subst (FitsIn c.args.self.now.scene) (sym row) (c.requires.fit c.args.number (length c.as_slice.result.now))

pub returns : goal.returns
returns c =
    let body : c.in_ok-body.body ≡ new_body (stmt_in c.args.self.now c.args.values.now) c.args.number 0 c.args.block.now.body = c.in_ok-body.ensures.body ∙ ap (new_body (stmt_in c.args.self.now c.args.values.now) c.args.number 0) c.as_slice.ensures in
    let row : c.body.new.row ≡ found_row c.args.values.now.rows c.args.number (length c.args.block.now.body) = c.in_ok-body.ensures.row ∙ ap (λ ys. found_row c.args.values.now.rows c.args.number (length ys)) c.as_slice.ensures in
    let made : c.in_ok-end.end ≡ end_at (folding_in c.args.self.now) c.args.block.now.end c.body.new.row = search rules in
    let end : c.in_ok-end.end ≡ end_in c.args.self.now c.args.values.now c.args.number c.args.block.now.end = end_is c.args.self.now c.args.values.now c.args.number c.args.block.now c.args.block.now.end c.in_ok-end.end c.body.new.row c.requires.there row made in
    λ i. record { label = c.args.block.now.label; body = body i; end = end i }
