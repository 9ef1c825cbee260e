use Rattle.std.proofs.Common.{◌≡◌, ◌∙◌, sym, subst, Some}
use Rattle.std.specs.List.{find}
use Rattle.gimple_ir.specs.declared.value.Value.TheVariants.{Null}
use Rattle.gimple_core.specs.Memory.{is_slot}
use Rattle.gimple_exec.proofs.slots.Slots.here.Goals as goal

pub returns-then-lies_at : goal.returns-then-lies_at
returns-then-lies_at c =
    subst (λ xs. find (is_slot c.args.object c.args.offset c.args.scalar) xs ≡ Some c.in-Some.slot.now) c.self.view_is
    (c.in-Some.ensures (record { object = c.args.object; offset = c.args.offset; scalar = c.args.scalar; value = Null }) (sym c.lies_at.ensures ∙ c.if-lies_at.true))
