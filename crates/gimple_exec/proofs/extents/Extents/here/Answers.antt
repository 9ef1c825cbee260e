use Rattle.std.proofs.Common.{◌≡◌, ◌∙◌, sym, subst, Some, false}
use Rattle.std.specs.List.{find}
use Rattle.gimple_core.specs.Memory.{same_object}
use Rattle.gimple_exec.proofs.extents.Extents.here.Goals as goal

pub returns-then-is_same_object : goal.returns-then-is_same_object
returns-then-is_same_object c =
    subst (λ xs. find (λ y. same_object y.object c.args.object) xs ≡ Some c.in-Some.extent.now) c.self.view_is
    (c.in-Some.ensures (record { object = c.args.object; size = 0; constant = false }) (sym c.is_same_object.ensures ∙ c.if-is_same_object.true))
