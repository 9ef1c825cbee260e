use Rattle.std.proofs.Common.{◌≡◌, ◌∙◌, subst, true, Some}
use Rattle.std.specs.List.{find}
use Rattle.std.specs.Prelude.{IfSome}
use Rattle.gimple_exec.proofs.rows.Rows.ordered_item.Goals as goal

pub returns-then-self : goal.returns-then-self
returns-then-self g c =
    subst (λ xs. IfSome c.item_in.result (λ x. (t : _) → g.T.Placed.matches t x.now ≡ true → find (g.T.Placed.matches t) xs ≡ Some x.now)) (c.as_slice.ensures.value ∙ c.self.view_is) c.item_in.ensures
