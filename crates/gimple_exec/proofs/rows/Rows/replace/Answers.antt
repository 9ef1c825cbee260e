use Rattle.std.proofs.Common.{◌∙◌, ap, sym, subst}
use Rattle.gimple_core.specs.Names.{update_first}
use Rattle.gimple_exec.specs.Places.{IsFirstAt}
use Rattle.gimple_exec.proofs.SeekLemmas.{replaced_at, replaced_none, replaced_ordered}
use Rattle.gimple_exec.proofs.rows.Rows.replace.Goals as goal

pub invariant_of-self : goal.invariant_of-self
invariant_of-self g c =
    let matches = g.T.Placed.matches in
    let first = subst (λ xs. IsFirstAt (matches c.args.item) xs c.in-Some.at) (sym c.self.view_is) c.in-Some.ensures in
    λ ordered. replaced_ordered g.T.Placed.object_of g.T.Placed.offset_of matches g.met.T.Placed.matches_there c.self.inside.items.items c.in-Some.at c.args.item first (c.self.invariant ordered)

pub returns-in-Some : goal.returns-in-Some
returns-in-Some g c =
    let matches = g.T.Placed.matches in
    let first = subst (λ xs. IsFirstAt (matches c.args.item) xs c.in-Some.at) (sym c.self.view_is) c.in-Some.ensures in
    sym (replaced_at matches c.self.inside.items.items c.in-Some.at c.args.item first) ∙ ap (λ xs. update_first (matches c.args.item) (λ _. c.args.item) xs) c.self.view_is

pub returns-in_default : goal.returns-in_default
returns-in_default g c = sym (replaced_none g.T.Placed.matches c.args.self.now c.args.item c.in_default.ensures)
