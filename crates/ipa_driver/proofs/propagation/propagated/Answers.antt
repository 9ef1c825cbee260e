use Rattle.std.proofs.Common.{rules, sym, subst}
use Rattle.cp_lattices.specs.Lattices.{rows_of}
use Rattle.cp_apply.specs.declared.plan.Plan.{Plan}
use Rattle.cp_apply.specs.Bases.{PlanFits, IsMade}
use Rattle.cp_lattices.proofs.Fitting.{lattices_fit}
use Rattle.cp_lattices.proofs.LatticeLaws.{lattices_hold}
use Rattle.ipa_driver.proofs.CpLaws.{dump_rows, plan_fits}
use Rattle.ipa_driver.proofs.propagation.propagated.Goals as goal

pub values_text-requires-clause-rows : goal.values_text-requires-clause-rows
values_text-requires-clause-rows g c = dump_rows c.args.program c.args.passes.now c.args.params.now.ipa_cp_value_list_size (rows_of c.in_ok-lattices.lattices) c.in_ok-lattices.ensures

pub materialise-requires-clause-fits : goal.materialise-requires-clause-fits
materialise-requires-clause-fits g c =
    let p = c.args.program in
    let most = c.args.params.now.ipa_cp_value_list_size in
    subst (λ (plan : Plan). PlanFits p.program most plan) (sym c.in_ok-plan.ensures)
    (plan_fits lattices_hold lattices_fit p c.args.passes.now most (rows_of c.in_ok-lattices.lattices) c.in_ok-lattices.ensures)

pub returns : goal.returns
returns g c =
    let p = c.args.program in
    record {
      rows = rows_of c.in_ok-lattices.lattices;
      lattices = c.in_ok-lattices.ensures;
      made = subst (λ (plan : Plan). IsMade p plan c.in_ok-made.made) c.in_ok-plan.ensures c.in_ok-made.ensures.made;
      text = c.in_ok-text.ensures;
      counts = search rules;
    }
