use Rattle.std.proofs.Common.{◌≡◌, length, take, slice_get, Some, None, ◌∙◌, sym, ap, subst}
use Rattle.gimple_core.specs.Layout.{layout_of}
use Rattle.struct_tables.proofs.ListingLemmas.{one_more, no_more}
use Rattle.struct_tables.proofs.structs.Structs.all_slots.Goals as goal

pub loop-slot-preserved : goal.loop-slot-preserved
loop-slot-preserved c =
    let all = (layout_of c.args.self.now c.args.decl.now).slots in
    let next : slice_get all (length c.loop-slot.slots) ≡ Some c.in-Some.slot = sym (c.in-Some.ensures ∙ ap (slice_get all) c.len.ensures) in
    subst (λ s. s ≡ take (length s) all) (sym c.in_ok-push.ensures.ok) (one_more all c.loop-slot.slots c.in-Some.slot c.loop-slot.invariant next)

pub returns : goal.returns
returns c =
    let all = (layout_of c.args.self.now c.args.decl.now).slots in
    let none : slice_get all (length c.loop-slot.slots) ≡ None = ap (slice_get all) (sym c.len.ensures) ∙ sym c.slot_at.ensures ∙ c.in_default.is in
    no_more all c.loop-slot.slots c.loop-slot.invariant none
