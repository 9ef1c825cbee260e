use Rattle.std.proofs.Common.{◌≡◌, sym, ◌∙◌, ap, subst}
use Rattle.gimple_core.specs.Sealed.{Sealed}
use Rattle.cp_lattices.specs.Carried.{Making}
use Rattle.cp_lattices.specs.FormalEquations.{IsLawfulFlow}
use Rattle.cp_lattices.specs.Lattices.{making_of}
use Rattle.cp_lattices.proofs.LeastFormals.{lawful_flow}
use Rattle.cp_lattices.proofs.solving.values_of.Goals as goal

pub least_values-requires : goal.least_values-requires
least_values-requires g c =
    let mode : c.mode.result ≡ c.args.tables.now.program.mode = c.mode.ensures ∙ ap (λ (p : Sealed). p.mode) c.checked.ensures in
    let same : making_of c.args.tables.now.program c.args.tables.now.size ≡ record { mode = c.mode.result; limits = c.in_ok-limits.limits } =
    (λ i. record { mode = (sym mode) i; limits = record { size = (sym c.in_ok-limits.ensures.size) i; ends = (sym c.in_ok-limits.ensures.ends) i } }) in
    subst (λ (m : Making). IsLawfulFlow m c.args.passes.now c.args.numbering.now c.args.gifts.now) same
    (lawful_flow c.args.tables.now.program c.args.tables.now.size c.args.passes.now c.args.numbering.now c.args.gifts.now c.requires.good c.requires.nodes c.requires.gifts)
