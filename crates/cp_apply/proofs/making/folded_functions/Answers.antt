use Rattle.std.proofs.Common.{◌≡◌, ◌+◌, length, Some, slice_get, refl, sym, subst}
use Rattle.std.proofs.lemmas.Option.{slice_get_read}
use Rattle.gimple_core.specs.Sealed.{Sealed}
use Rattle.cp_apply.specs.declared.plan.Context.{Context}
use Rattle.cp_apply.specs.declared.plan.Plan.{Plan}
use Rattle.cp_apply.specs.Bases.{context_facts, base_facts, FoldsFirst}
use Rattle.cp_apply.proofs.MadeLaws.{first_more, given_there}
use Rattle.cp_apply.proofs.making.folded_functions.Goals as goal

pub loop-number-preserved : goal.loop-number-preserved
loop-number-preserved g c =
    let p : Sealed = c.args.tables.now.program in
    let plan : Plan = c.args.plan.now in
    let k = c.loop-number.number in
    let context : Context = c.context-item.result in
    let items = c.as_slice-context-items.result.now in
    let there : slice_get items k ≡ Some context = slice_get_read items (length items) k context refl c.loop-number-test.true c.context-item.is in
    let is : slice_get plan.bases k ≡ Some context = subst (λ xs. slice_get xs k ≡ Some context) c.as_slice-context-items.ensures there in
    subst (FoldsFirst p (base_facts plan) (k + 1)) (sym c.in_ok-push.ensures.ok)
    (first_more p (base_facts plan) k (context_facts context) c.loop-number.functions c.in_ok-function.function c.loop-number.invariant (given_there plan k context is) c.in_ok-function.ensures)
