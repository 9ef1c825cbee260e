use Rattle.std.proofs.Common.{◌≡◌, Some, slice_get, sym, subst}
use Rattle.gimple_core.specs.Sealed.{Sealed}
use Rattle.body_values.specs.Found.{AreFound}
use Rattle.body_values.specs.Setting.{IsGiven}
use Rattle.body_values.proofs.Settled.{numbered, given_by, found_in, were_found}
use Rattle.body_values.proofs.values.values_in.Goals as goal

pub values_with-requires-clause-given : goal.values_with-requires-clause-given
values_with-requires-clause-given g c =
    let there : slice_get c.args.tables.now.program.program.functions c.args.function ≡ Some c.index-as_slice-function.result =
    numbered c.program-program.result.now c.args.tables.now.program.program c.as_slice.result.now c.args.function c.index-as_slice-function.result c.program-program.ensures.same c.as_slice.ensures c.requires.function c.index-as_slice-function.is in
    subst (λ (q : Sealed). IsGiven q.program c.index-as_slice-function.result c.args.facts.now c.in_ok-thresholds.thresholds) (sym c.checked-checked.ensures)
    (given_by c.args.tables.now.program.program c.args.function c.index-as_slice-function.result c.args.facts.now c.args.tables.now.size c.in_ok-thresholds.thresholds there
    c.program-program.ensures.accepted c.requires.globals c.requires.size c.requires.branches c.requires.facts c.in_ok-thresholds.ensures.size c.in_ok-thresholds.ensures.ends)

pub returns-clause-values : goal.returns-clause-values
returns-clause-values g c =
    let there : slice_get c.args.tables.now.program.program.functions c.args.function ≡ Some c.index-as_slice-function.result =
    numbered c.program-program.result.now c.args.tables.now.program.program c.as_slice.result.now c.args.function c.index-as_slice-function.result c.program-program.ensures.same c.as_slice.ensures c.requires.function c.index-as_slice-function.is in
    found_in c.args.tables.now.program c.args.function c.index-as_slice-function.result c.args.facts.now c.args.tables.now.size c.in_ok-thresholds.thresholds c.in_ok-values.values there
    c.in_ok-thresholds.ensures.size c.in_ok-thresholds.ensures.ends
    (subst (λ q. AreFound q c.args.function c.index-as_slice-function.result c.args.facts.now c.in_ok-thresholds.thresholds c.in_ok-values.values) c.checked-checked.ensures c.in_ok-values.ensures)

pub returns-clause-found : goal.returns-clause-found
returns-clause-found g c =
    let there : slice_get c.args.tables.now.program.program.functions c.args.function ≡ Some c.index-as_slice-function.result =
    numbered c.program-program.result.now c.args.tables.now.program.program c.as_slice.result.now c.args.function c.index-as_slice-function.result c.program-program.ensures.same c.as_slice.ensures c.requires.function c.index-as_slice-function.is in
    let given : IsGiven c.args.tables.now.program.program c.index-as_slice-function.result c.args.facts.now c.in_ok-thresholds.thresholds =
    given_by c.args.tables.now.program.program c.args.function c.index-as_slice-function.result c.args.facts.now c.args.tables.now.size c.in_ok-thresholds.thresholds there
    c.program-program.ensures.accepted c.requires.globals c.requires.size c.requires.branches c.requires.facts c.in_ok-thresholds.ensures.size c.in_ok-thresholds.ensures.ends in
    were_found c.args.tables.now.program c.args.function c.index-as_slice-function.result c.args.facts.now c.in_ok-thresholds.thresholds c.in_ok-values.values there given
    (subst (λ q. AreFound q c.args.function c.index-as_slice-function.result c.args.facts.now c.in_ok-thresholds.thresholds c.in_ok-values.values) c.checked-checked.ensures c.in_ok-values.ensures)
