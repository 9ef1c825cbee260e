use Rattle.std.proofs.Common.{rules, ◌≡◌, ◌∙◌, ◌++◌, ◌∷◌, ◌<◌, ◌^◌, [], inl, inr, sym, subst, length}
use Rattle.body_values.specs.PointRows.{rows_from}
use Rattle.body_values.specs.Scenes.{body_in}
use Rattle.body_values.proofs.ByChanges.{no_rows, next_number, next_few, next_fits, more_rows, all_blocks}
use Rattle.body_values.proofs.scene.Scene.rows.Goals as goal

pub loop-block-init : goal.loop-block-init
loop-block-init c =
    let it = c.into_iter-block-iterator.result in
    let rest : it.a.rest.now ≡ c.args.blocks.now = search rules in
    let left : it.b.rest.items ≡ c.args.begins.items = search rules in
    no_rows c.args.self.now c.args.blocks.now it.a.rest.now c.args.begins.items it.b.rest.items c.new-rows.result c.requires.blocks c.requires.fit rest left c.new-rows.ensures

pub overflow_cast-number : goal.overflow_cast-number
overflow_cast-number c =
    let it = c.loop-block.block-iterator in
    let number : length c.loop-block.rows < 2 ^ 32 = next_number c.args.self.now c.args.blocks.now it.a.rest.now c.next.new.self.a.rest.now c.args.begins.items it.b.rest.items c.loop-block.rows c.in-Some.block.now c.in-Some.ensures.steps.0 c.requires.blocks.blocks_few c.loop-block.invariant in
    search rules

pub rows_in_block-requires-clause-fit : goal.rows_in_block-requires-clause-fit
rows_in_block-requires-clause-fit c =
    let it = c.loop-block.block-iterator in
    next_fits c.args.self.now c.args.blocks.now it.a.rest.now c.args.begins.items it.b.rest.items c.next.new.self.b.rest.items c.loop-block.rows c.in-Some.begin c.in-Some.ensures.steps.1.0 c.loop-block.invariant

pub rows_in_block-requires-clause-few : goal.rows_in_block-requires-clause-few
rows_in_block-requires-clause-few c =
    let it = c.loop-block.block-iterator in
    subst (λ ys. length ys < 2 ^ 32) (sym c.as_slice.ensures)
    (next_few c.args.self.now c.args.blocks.now it.a.rest.now c.next.new.self.a.rest.now c.args.begins.items it.b.rest.items c.loop-block.rows c.in-Some.block.now c.in-Some.ensures.steps.0 c.loop-block.invariant)

pub loop-block-preserved : goal.loop-block-preserved
loop-block-preserved c =
    let it = c.loop-block.block-iterator in
    let values : c.in_ok-values.values ≡ rows_from (body_in c.args.self.now) (length c.loop-block.rows) 0 c.in-Some.block.now.body c.in-Some.begin = search rules in
    let push : c.push.new.self ≡ c.loop-block.rows ++ c.in_ok-values.values ∷ [] = search rules in
    more_rows c.args.self.now c.args.blocks.now it.a.rest.now c.next.new.self.a.rest.now c.args.begins.items it.b.rest.items c.next.new.self.b.rest.items c.loop-block.rows c.push.new.self c.in-Some.block.now c.in-Some.begin c.in_ok-values.values
    c.in-Some.ensures.steps.0 c.in-Some.ensures.steps.1.0 values push c.loop-block.invariant

pub returns : goal.returns
returns c =
    let it = c.loop-block.block-iterator in
    all_blocks c.args.self.now c.args.blocks.now it.a.rest.now c.args.begins.items it.b.rest.items c.loop-block.rows (elim c.in-None.ensures.steps [
      | inl (x, ends) ↦ inl ends.0
      | inr (x, ends) ↦ inr (sym it.b.rest.ok.0 ∙ ends.0)
    ]) c.loop-block.invariant
