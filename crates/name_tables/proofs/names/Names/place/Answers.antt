use Rattle.std.proofs.Common.{◌∙◌, ap, sym, refl, List, ℕ, Bor}
use Rattle.std.specs.List.{position}
use Rattle.std.specs.Str.{bytes_eq}
use Rattle.name_tables.proofs.Naming.{plain, set_place, position_map}
use Rattle.name_tables.proofs.names.Names.place.Goals as goal

pub returns-then-len-gt-FEW : goal.returns-then-len-gt-FEW
returns-then-len-gt-FEW c =
    c.get_index_of.ensures.index
    ∙ set_place c.args.name.now c.self.inside.set.keys
    ∙ ap (λ (ns : List (List ℕ)). position (λ n. bytes_eq n c.args.name.now) ns) (c.self.invariant c.if-self.true ∙ c.self.view_is)

pub returns : goal.returns
returns c =
    c.place_from_front.ensures
    ∙ sym (position_map (λ (k : Bor (List ℕ)). k.now) (λ n. bytes_eq n c.args.name.now) (λ n. bytes_eq n.now c.args.name.now) (λ k. refl) c.as_slice.result.now)
    ∙ ap (λ (ns : List (List ℕ)). position (λ n. bytes_eq n c.args.name.now) ns) (ap plain c.as_slice.ensures.value ∙ c.self.view_is)
