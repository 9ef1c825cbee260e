use Rattle.std.proofs.Common.{rules, ◌≡◌, ◌∙◌, ap}
use Rattle.icf_classes.specs.Mergers.{Merging, merged_in}
use Rattle.icf_classes.proofs.Marked.{merged_by}
use Rattle.icf_classes.proofs.merging.merged_program.Goals as goal

pub returns-clause-merged : goal.returns-clause-merged
returns-clause-merged c =
    let made : c.in_ok-merger.merger ≡ record { program = c.args.program.now.program; marks = c.in_ok-marks.marks; classes = c.args.classes.now } = search rules in
    merged_by c.args.program.now.program _ c.in_ok-marks.marks c.args.classes.now c.in_ok-marks.ensures (search rules) (search rules) (search rules)
    (c.in_ok-functions.ensures ∙ ap (λ (m : Merging). merged_in m m.program.functions) made)
