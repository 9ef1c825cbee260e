use Rattle.std.proofs.Common.{◌∙◌, ◌==◌, ap, refl, ℕ, List}
use Rattle.std.specs.List.{position}
use Rattle.gimple_ir.specs.declared.block.Block.{Block}
use Rattle.gimple_ir.specs.declared.program.Function.{Function}
use Rattle.name_tables.proofs.Naming.{position_map}
use Rattle.icf_classes.specs.Placed.{label_in}
use Rattle.icf_classes.proofs.placer.Placer.label.Goals as goal

pub returns : goal.returns
returns c =
    c.place.ensures
    ∙ ap (λ (ls : List ℕ). position (λ l. l == c.args.label) ls) c.self.invariant.labels
    ∙ position_map (λ (b : Block). b.label) (λ l. l == c.args.label) (λ b. b.label == c.args.label) (λ b. refl) c.self.inside.function.now.blocks
    ∙ ap (λ (f : Function). label_in f c.args.label) c.self.view_is
