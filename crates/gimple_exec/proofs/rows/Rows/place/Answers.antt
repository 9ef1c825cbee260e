use Rattle.std.proofs.Common.{◌∙◌, subst}
use Rattle.gimple_exec.specs.Places.{IsPlace}
use Rattle.gimple_exec.proofs.rows.Rows.place.Goals as goal

pub returns-then-self : goal.returns-then-self
returns-then-self g c =
    subst (λ xs. IsPlace (g.T.Placed.matches c.args.sought.now) xs c.place_by_guess.result) (c.as_slice.ensures.value ∙ c.self.view_is) c.place_by_guess.ensures

pub returns-else-self : goal.returns-else-self
returns-else-self g c =
    subst (λ xs. IsPlace (g.T.Placed.matches c.args.sought.now) xs c.place_from_front.result) (c.as_slice-else-self.ensures.value ∙ c.self.view_is) c.place_from_front.ensures
