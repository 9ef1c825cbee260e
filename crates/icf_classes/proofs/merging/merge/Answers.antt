use Rattle.std.proofs.Common.{rules, sym, subst}
use Rattle.gimple_core.specs.Sealed.{Sealed}
use Rattle.icf_classes.specs.Merged.{IsMerged}
use Rattle.icf_classes.proofs.MergedLaws.{merged_is_accepted, merged_is_spellable, merged_counts, merged_shrinks, merging_runs, merging_replaces}
use Rattle.icf_classes.proofs.merging.merge.Goals as goal

pub seal_as-requires : goal.seal_as-requires
seal_as-requires c = merged_is_accepted c.args.program.now.program c.in_ok-after.after c.merged_program.ensures.accepted c.args.classes.now c.requires.classes c.in_ok-after.ensures.merged

pub returns-clause-merged : goal.returns-clause-merged
returns-clause-merged c =
    subst (λ (s : Sealed). IsMerged c.args.program.now.program c.args.classes.now s.program) (sym c.seal_as.ensures) c.in_ok-after.ensures.merged

pub returns-clause-runs : goal.returns-clause-runs
returns-clause-runs c =
    merging_runs c.args.program.now c.seal_as.result c.args.classes.now c.merged_program.ensures.accepted c.requires.classes (returns-clause-merged c) (search rules)

pub returns-clause-replaces : goal.returns-clause-replaces
returns-clause-replaces c =
    merging_replaces c.args.program.now c.seal_as.result c.args.classes.now c.merged_program.ensures.accepted c.requires.classes (returns-clause-merged c) (search rules)

pub returns-clause-spellable : goal.returns-clause-spellable
returns-clause-spellable c =
    merged_is_spellable c.args.program.now.program c.seal_as.result.program c.merged_program.ensures.accepted c.args.classes.now c.requires.classes (returns-clause-merged c)

pub returns-clause-counts : goal.returns-clause-counts
returns-clause-counts c =
    merged_counts c.args.program.now.program c.seal_as.result.program c.merged_program.ensures.accepted c.args.classes.now c.requires.classes (returns-clause-merged c)

pub returns-clause-shrinks : goal.returns-clause-shrinks
returns-clause-shrinks c =
    merged_shrinks c.args.program.now.program c.seal_as.result.program c.merged_program.ensures.accepted c.args.classes.now c.requires.classes (returns-clause-merged c)
