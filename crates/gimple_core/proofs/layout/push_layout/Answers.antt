use Rattle.std.proofs.Common.{subst, sym}
use Rattle.std.proofs.lemmas.List.Elements.{All-same, All-push}
use Rattle.gimple_core.specs.Layout.{IsLayout, empty_layout}
use Rattle.gimple_core.proofs.LayoutLemmas.{empty_is, fields_is}
use Rattle.gimple_core.proofs.layout.push_layout.Goals as goal

pub returns-clause-layouts : goal.returns-clause-layouts
returns-clause-layouts c =
    let made : IsLayout c.in_ok-layout.layout = subst IsLayout (sym c.in_ok-layout.ensures) (fields_is c.as_slice.result.now c.as_slice-2.result.now empty_layout (All-same (λ k. IsLayout k.layout) _ _ c.as_slice.ensures.value c.requires.layouts) empty_is) in
    All-same (λ k. IsLayout k.layout) _ _ c.in_ok-push.ensures.items (All-push (λ k. IsLayout k.layout) _ _ c.requires.layouts made)
