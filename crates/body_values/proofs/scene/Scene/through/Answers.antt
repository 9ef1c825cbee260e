use Rattle.std.proofs.Common.{rules, ◌≡◌, ◌∙◌, sym, ap}
use Rattle.fix_engine.specs.declared.lifted.Lifted.TheVariants.{Reached}
use Rattle.body_values.specs.Bodies.{target_of, after_stmt}
use Rattle.body_values.specs.Changed.{changed, change_of}
use Rattle.body_values.specs.Scenes.{body_in}
use Rattle.body_values.proofs.ByChanges.{change_is}
use Rattle.body_values.proofs.scene.Scene.through.Goals as goal

pub returns-then-branch-clause-change : goal.returns-then-branch-clause-change
returns-then-branch-clause-change c =
    let before : c.args.row.now ≡ Reached c.in-Reached.values = search rules in
    let after : after_stmt (body_in c.args.self.now) c.args.block c.args.index c.args.statement.now c.in-Reached.values ≡ Reached c.after.new.row = search rules in
    let change : c.in_ok-change.change ≡ change_of c.args.self.now.registers.now (target_of c.args.statement.now) c.after.new.row = search rules in
    change_is (body_in c.args.self.now) c.args.block c.args.index c.args.statement.now c.in-Reached.values c.after.new.row c.in_ok-change.change after change ∙ ap (λ y. changed y c.in_ok-change.change) (sym before)
