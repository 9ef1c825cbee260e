use Rattle.std.proofs.Common.{◌≡◌, ◌<◌, ◌^◌, List, length, sym, ◌∙◌, ap, subst}
use Rattle.gimple_ir.specs.declared.block.Block.{Block}
use Rattle.gimple_ir.specs.declared.statement.Stmt.{Stmt}
use Rattle.body_values.specs.Found.{found_row}
use Rattle.cp_lattices.specs.Callers.{giver_in}
use Rattle.cp_lattices.proofs.GiftListLaws.{none_put, more_put}
use Rattle.cp_lattices.proofs.PuttingLaws.{block_put, block_there}
use Rattle.cp_lattices.proofs.caller.Caller.put_all.Goals as goal

pub loop-number-init : goal.loop-number-init
loop-number-init c = none_put _ _

pub put_body-requires-clause-few : goal.put_body-requires-clause-few
put_body-requires-clause-few c =
    let body : c.as_slice.result.now ≡ c.index-blocks-number.result.body = c.as_slice.ensures ∙ ap (λ (b : Block). b.body) (sym c.index-blocks-number.is) in
    subst (λ (ys : List Stmt). length ys < 2 ^ 32) (sym body)
    (c.requires.few.bodies_few c.loop-number.number c.index-blocks-number.result (block_there c.as_slice-blocks.result.now c.args.self.now.function.now.blocks c.loop-number.number c.index-blocks-number.result c.as_slice-blocks.ensures c.loop-number-test.true c.index-blocks-number.is))

pub loop-number-preserved : goal.loop-number-preserved
loop-number-preserved c =
    let body : c.as_slice.result.now ≡ c.index-blocks-number.result.body = c.as_slice.ensures ∙ ap (λ (b : Block). b.body) (sym c.index-blocks-number.is) in
    more_put _ _ _ _ _ c.loop-number.invariant
    (block_put (giver_in c.args.self.now) (λ k i. found_row c.args.values.now.rows k i) c.loop-number.number c.loop-number.gifts c.put_body.new.gifts c.as_slice-blocks.result.now c.args.self.now.function.now.blocks c.index-blocks-number.result c.as_slice.result.now
    c.as_slice-blocks.ensures c.loop-number-test.true c.index-blocks-number.is body c.in_ok-put_body.ensures)
