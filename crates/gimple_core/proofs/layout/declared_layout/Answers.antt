use Rattle.std.proofs.Common.{◌<◌, ap, subst, sym}
use Rattle.std.proofs.lemmas.List.Elements.{All-same}
use Rattle.gimple_core.specs.Layout.{KnownLayout, known_layout, IsLayout}
use Rattle.gimple_core.proofs.LayoutLemmas.{found_is}
use Rattle.gimple_core.proofs.layout.declared_layout.Goals as goal

pub repeat-requires-in-Some-clause-within : goal.repeat-requires-in-Some-clause-within
repeat-requires-in-Some-clause-within c =
    let found : IsLayout c.in-Some.found.now.layout = subst (λ o. IsLayout (known_layout o)) (sym c.in-Some.ensures) (found_is _ c.args.known.now c.requires.layouts) in
    let inside : IsLayout c.found.inside.layout = subst (λ (k : KnownLayout). IsLayout k.layout) (sym c.found.view_is) found in
    All-same (λ s. s.offset < c.found.inside.layout.size) _ _ c.as_slice.ensures inside.slots
