use Rattle.std.proofs.Common.{◌≡◌, ◌≤◌, ◌^◌, ◌∷◌, suc, drop, add-one, sym, ◌∙◌, ap, subst}
use Rattle.std.proofs.Math.Seq.{drop-cons}
use Rattle.gimple_core.specs.Layout.{decl_layout, with_field, with_fields, empty_layout, IsLayout}
use Rattle.gimple_core.proofs.LayoutLemmas.{decl_is, field_is, field_small, decl_small}
use Rattle.gimple_core.proofs.layout.struct_layout.Goals as goal

pub declared_layout-requires-clause-size : goal.declared_layout-requires-clause-size
declared_layout-requires-clause-size c =
    let next : drop c.loop-field.field-index c.args.fields.now ≡ c.field-item.result ∷ drop (suc c.loop-field.field-index) c.args.fields.now = drop-cons _ _ c.field-item.result c.loop-field-test.true ∙ ap (λ f. f ∷ drop (suc c.loop-field.field-index) c.args.fields.now) (sym c.field-item.is) in
    let all : with_fields c.args.known.now c.loop-field.layout (c.field-item.result ∷ drop (suc c.loop-field.field-index) c.args.fields.now) ≡ with_fields c.args.known.now empty_layout c.args.fields.now = ap (with_fields c.args.known.now c.loop-field.layout) (sym next) ∙ c.loop-field.invariant.same in
    decl_small c.loop-field.layout (decl_layout c.args.known.now c.field-item.result) (2 ^ 24)
    (field_small c.args.known.now c.field-item.result (drop (suc c.loop-field.field-index) c.args.fields.now) c.loop-field.layout (2 ^ 24) c.requires.layouts c.loop-field.invariant.layout (subst (λ l. l.size ≤ 2 ^ 24) (sym all) c.requires.size))

pub add_field-requires-clause-field : goal.add_field-requires-clause-field
add_field-requires-clause-field c = subst IsLayout (sym c.in_ok-declared_layout.ensures) (decl_is c.args.known.now c.field-item.result c.requires.layouts)

pub add_field-requires-clause-size : goal.add_field-requires-clause-size
add_field-requires-clause-size c =
    let next : drop c.loop-field.field-index c.args.fields.now ≡ c.field-item.result ∷ drop (suc c.loop-field.field-index) c.args.fields.now = drop-cons _ _ c.field-item.result c.loop-field-test.true ∙ ap (λ f. f ∷ drop (suc c.loop-field.field-index) c.args.fields.now) (sym c.field-item.is) in
    let all : with_fields c.args.known.now c.loop-field.layout (c.field-item.result ∷ drop (suc c.loop-field.field-index) c.args.fields.now) ≡ with_fields c.args.known.now empty_layout c.args.fields.now = ap (with_fields c.args.known.now c.loop-field.layout) (sym next) ∙ c.loop-field.invariant.same in
    subst (λ f. (with_field c.loop-field.layout f).size ≤ 2 ^ 24) (sym c.in_ok-declared_layout.ensures)
    (field_small c.args.known.now c.field-item.result (drop (suc c.loop-field.field-index) c.args.fields.now) c.loop-field.layout (2 ^ 24) c.requires.layouts c.loop-field.invariant.layout (subst (λ l. l.size ≤ 2 ^ 24) (sym all) c.requires.size))

pub loop-field-preserved : goal.loop-field-preserved
loop-field-preserved c =
    let next : drop c.loop-field.field-index c.args.fields.now ≡ c.field-item.result ∷ drop (suc c.loop-field.field-index) c.args.fields.now = drop-cons _ _ c.field-item.result c.loop-field-test.true ∙ ap (λ f. f ∷ drop (suc c.loop-field.field-index) c.args.fields.now) (sym c.field-item.is) in
    let all : with_fields c.args.known.now c.loop-field.layout (c.field-item.result ∷ drop (suc c.loop-field.field-index) c.args.fields.now) ≡ with_fields c.args.known.now empty_layout c.args.fields.now = ap (with_fields c.args.known.now c.loop-field.layout) (sym next) ∙ c.loop-field.invariant.same in
    let made : c.add_field.new.layout ≡ with_field c.loop-field.layout (decl_layout c.args.known.now c.field-item.result) = c.in_ok-add_field.ensures ∙ ap (with_field c.loop-field.layout) c.in_ok-declared_layout.ensures in
    record {
      same = rw (add-one c.loop-field.field-index) (ap (λ l. with_fields c.args.known.now l (drop (suc c.loop-field.field-index) c.args.fields.now)) made ∙ all);
      layout = subst IsLayout (sym made) (field_is c.loop-field.layout (decl_layout c.args.known.now c.field-item.result) c.loop-field.invariant.layout (decl_is c.args.known.now c.field-item.result c.requires.layouts));
    }
