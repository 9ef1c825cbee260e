use Rattle.std.proofs.Common.{◌++◌, ◌∷◌, [], ◌∙◌, ap, sym}
use Rattle.std.specs.List.{find}
use Rattle.std.specs.Str.{bytes_eq}
use Rattle.gimple_core.proofs.LayoutLemmas.{entry, layouts_next, none_next, settled}
use Rattle.gimple_core.proofs.layout.known_layouts.Goals as goal

pub returns-then-same_name-clause-found : goal.returns-then-same_name-clause-found
returns-then-same_name-clause-found c =
    ap (find (λ k. bytes_eq k.name c.args.name.now)) c.in_ok-push_layout.ensures.same
    ∙ settled (λ k. bytes_eq k.name c.args.name.now) c.args.structs.now c.loop-s.s-index c.s-item.result c.loop-s.known.items c.s-item.is c.loop-s-test.true c.loop-s.invariant.made (sym c.same_name.ensures ∙ c.if-same_name.true)

pub loop-s-preserved : goal.loop-s-preserved
loop-s-preserved c = record {
  made = c.in_ok-push_layout.ensures.same ∙ ap (λ ks. ks ++ entry ks c.s-item.result ∷ []) c.loop-s.invariant.made ∙ sym (layouts_next c.args.structs.now c.loop-s.s-index c.s-item.result c.s-item.is c.loop-s-test.true);
  none = none_next (λ s. bytes_eq s.name c.args.name.now) c.args.structs.now c.loop-s.s-index c.s-item.result c.s-item.is c.loop-s-test.true c.loop-s.invariant.none (sym c.same_name.ensures ∙ c.if-same_name.false);
  layouts = c.in_ok-push_layout.ensures.layouts;
}
