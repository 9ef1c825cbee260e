use Rattle.std.proofs.Common.{◌∙◌, ap, sym, subst, filter}
use Rattle.gimple_core.specs.Memory.{is_elsewhere}
use Rattle.gimple_exec.specs.Order.{comes_before, IsSplit, IsLatest}
use Rattle.gimple_exec.proofs.SeekLemmas.{leave_front, placed_ranks}
use Rattle.gimple_exec.proofs.rows.Rows.leave.Goals as goal

pub returns-then-is_latest : goal.returns-then-is_latest
returns-then-is_latest g c =
    let object = g.T.Placed.object_of in
    let offset = g.T.Placed.offset_of in
    let split = subst (λ xs. IsSplit object c.args.serial xs c.first_of-kept.result) c.as_slice-then-is_latest.ensures.value c.first_of-kept.ensures in
    let latest = subst (λ xs. IsLatest object c.args.serial xs) c.as_slice.ensures.value (c.is_latest.ensures c.if-is_latest.true) in
    c.truncate.ensures.items
    ∙ sym (leave_front object (comes_before object offset) (placed_ranks object offset) c.args.serial c.self.inside.items.items c.first_of-kept.result (c.self.invariant c.if-self.true) split latest)
    ∙ ap (filter (λ s. is_elsewhere c.args.serial (object s))) c.self.view_is
