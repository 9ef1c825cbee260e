use Rattle.std.proofs.Common.{◌∙◌, ◌==◌, ap, List, ℕ}
use Rattle.std.specs.List.{position}
use Rattle.name_tables.proofs.Naming.{label_place}
use Rattle.name_tables.proofs.labels.Labels.place.Goals as goal

pub returns-then-len-gt-FEW : goal.returns-then-len-gt-FEW
returns-then-len-gt-FEW c =
    c.get_index_of.ensures.index
    ∙ label_place c.args.label c.self.inside.set.keys
    ∙ ap (λ (ls : List ℕ). position (λ l. l == c.args.label) ls) (c.self.invariant c.if-self.true ∙ c.self.view_is)
