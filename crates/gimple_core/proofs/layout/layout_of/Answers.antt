use Rattle.std.proofs.Common.{◌≡◌, ◌≤◌, ◌^◌, [], IfOk, ◌∙◌, ap, sym, subst}
use Rattle.std.specs.List.{find}
use Rattle.std.specs.Str.{bytes_eq}
use Rattle.gimple_core.specs.Layout.{struct_layouts, layout_of}
use Rattle.gimple_core.proofs.LayoutLemmas.{plain_same, named_same}
use Rattle.gimple_core.proofs.layout.layout_of.Goals as goal

pub declared_layout-requires-clause-size : goal.declared_layout-requires-clause-size
unfolding layout_of
declared_layout-requires-clause-size c = subst (λ l. l.size ≤ 2 ^ 24) (sym (plain_same [] (struct_layouts [] c.args.program.now.structs) c.args.decl.now _ c.in-Plain.is)) c.requires.size

pub declared_layout-requires-in-Named-clause-size : goal.declared_layout-requires-in-Named-clause-size
unfolding layout_of
declared_layout-requires-in-Named-clause-size c =
    let found : find (λ k. bytes_eq k.name c.in-Named.name) c.as_slice-in-Named.result.now ≡ find (λ k. bytes_eq k.name c.in-Named.name) (struct_layouts [] c.args.program.now.structs) =
    ap (find (λ k. bytes_eq k.name c.in-Named.name)) c.as_slice-in-Named.ensures.value ∙ c.in_ok-known-in-Named.ensures.found
    ∙ ap (λ ss. find (λ k. bytes_eq k.name c.in-Named.name) (struct_layouts [] ss)) c.as_slice.ensures in
    subst (λ l. l.size ≤ 2 ^ 24) (sym (named_same c.as_slice-in-Named.result.now (struct_layouts [] c.args.program.now.structs) c.args.decl.now _ c.in-Named.is found)) c.requires.size

pub returns-in-Plain : goal.returns-in-Plain
unfolding layout_of
returns-in-Plain c = subst (λ x. IfOk c.declared_layout.result (λ l. l ≡ x)) (plain_same [] (struct_layouts [] c.args.program.now.structs) c.args.decl.now _ c.in-Plain.is) c.declared_layout.ensures

pub returns-in_ok-known-in-Named : goal.returns-in_ok-known-in-Named
unfolding layout_of
returns-in_ok-known-in-Named c =
    let found : find (λ k. bytes_eq k.name c.in-Named.name) c.as_slice-in-Named.result.now ≡ find (λ k. bytes_eq k.name c.in-Named.name) (struct_layouts [] c.args.program.now.structs) =
    ap (find (λ k. bytes_eq k.name c.in-Named.name)) c.as_slice-in-Named.ensures.value ∙ c.in_ok-known-in-Named.ensures.found
    ∙ ap (λ ss. find (λ k. bytes_eq k.name c.in-Named.name) (struct_layouts [] ss)) c.as_slice.ensures in
    subst (λ x. IfOk c.declared_layout-in-Named.result (λ l. l ≡ x)) (named_same c.as_slice-in-Named.result.now (struct_layouts [] c.args.program.now.structs) c.args.decl.now _ c.in-Named.is found) c.declared_layout-in-Named.ensures
