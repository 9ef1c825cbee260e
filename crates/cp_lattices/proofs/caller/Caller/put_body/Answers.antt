use Rattle.std.proofs.Common.{rules, ◌≡◌, ◌+◌}
use Rattle.body_values.specs.Found.{found_row}
use Rattle.cp_lattices.specs.Callers.{giver_in}
use Rattle.cp_lattices.proofs.GiftListLaws.{none_put, more_put}
use Rattle.cp_lattices.proofs.PuttingLaws.{statement_put}
use Rattle.cp_lattices.proofs.caller.Caller.put_body.Goals as goal

pub loop-index-init : goal.loop-index-init
loop-index-init c = (c.in_ok-row.ensures, none_put _ _)

pub loop-index-preserved : goal.loop-index-preserved
loop-index-preserved c =
    let row : c.pass.new.row ≡ found_row c.args.values.now.rows c.args.block (c.loop-index.index + 1) = search rules in (
      row,
      more_put _ _ _ _ _ c.loop-index.invariant.1
          (statement_put (giver_in c.args.self.now) (λ k i. found_row c.args.values.now.rows k i) c.args.block c.loop-index.gifts c.put_statement.new.gifts c.loop-index.index c.args.body.now c.index-body-index.result c.loop-index.row
          c.loop-index-test.true c.index-body-index.is c.loop-index.invariant.0 c.in_ok-put_statement.ensures),
    )
