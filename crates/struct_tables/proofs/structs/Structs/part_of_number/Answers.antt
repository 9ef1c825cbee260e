use Rattle.std.proofs.Common.{rules, ◌≡◌, ◌<◌, ◌≤◌, ◌+◌, ◌*◌, ◌/◌, ◌%◌, ◌^◌, ◌∙◌, length, ap, subst, sym, arith}
use Rattle.gimple_ir.specs.declared.declarations.Shape.{Shape}
use Rattle.gimple_ir.specs.declared.value.Layout.{Layout}
use Rattle.gimple_core.specs.Layout.{shape_layout, count_of}
use Rattle.struct_tables.specs.Sizes.{first_layouts}
use Rattle.struct_tables.specs.declared.structs.Extent.{Extent}
use Rattle.struct_tables.proofs.SizeLemmas.{element_fits, within_element}
use Rattle.struct_tables.proofs.NumberedLemmas.{number_past_row, number_in_row}
use Rattle.struct_tables.proofs.structs.Structs.part_of_number.Goals as goal

pub returns-then-number-end_of : goal.returns-then-number-end_of
returns-then-number-end_of c =
    let shape : Shape = c.args.decl.now.shape in
    let l : Layout = shape_layout (first_layouts c.args.bound c.args.self.now) shape in
    let i = c.args.number in
    let n = count_of c.args.decl.now.length in
    let a : c.extent_before-one.result.slots ≡ length l.slots = ap (λ (e : Extent). e.slots) c.extent_before-one.ensures.same in
    let e : c.end_of.result ≡ 0 + n * length l.slots = c.end_of.ensures ∙ ap (λ x. 0 + x * c.extent_before-one.result.slots) c.count_of.ensures ∙ ap (λ x. 0 + n * x) a in
    let t : c.end_of.result ≤ i = search rules in
    let u : n * length l.slots ≤ i = omega (arith, t, e) in
    number_past_row c.args.self.now n l c.args.ahead i c.args.bound u

pub element_of_number-requires-clause-room : goal.element_of_number-requires-clause-room
element_of_number-requires-clause-room c =
    let shape : Shape = c.args.decl.now.shape in
    let l : Layout = shape_layout (first_layouts c.args.bound c.args.self.now) shape in
    let i = c.args.number in
    let n = count_of c.args.decl.now.length in
    let a : c.extent_before-one.result.slots ≡ length l.slots = ap (λ (e : Extent). e.slots) c.extent_before-one.ensures.same in
    let b : c.extent_before-one.result.size ≡ l.size = ap (λ (e : Extent). e.size) c.extent_before-one.ensures.same in
    let e : c.end_of.result ≡ 0 + n * length l.slots = c.end_of.ensures ∙ ap (λ x. 0 + x * c.extent_before-one.result.slots) c.count_of.ensures ∙ ap (λ x. 0 + n * x) a in
    let t : i < c.end_of.result = search rules in
    let u : i < n * length l.slots = omega (arith, t, e) in
    let f : i / length l.slots * l.size + l.size ≤ n * l.size = element_fits n (length l.slots) i l.size u in
    let same : i / c.from-slots.result * c.from.result ≡ i / length l.slots * l.size = ap (λ x. i / x * c.from.result) (c.from-slots.ensures ∙ a) ∙ ap (λ x. i / length l.slots * x) (c.from.ensures ∙ b) in
    let room : c.args.ahead + n * l.size < 2 ^ 127 = c.requires.room in
    omega (arith, f, same, room)

pub element_of_number-requires-clause-within : goal.element_of_number-requires-clause-within
element_of_number-requires-clause-within c =
    let shape : Shape = c.args.decl.now.shape in
    let l : Layout = shape_layout (first_layouts c.args.bound c.args.self.now) shape in
    let i = c.args.number in
    let n = count_of c.args.decl.now.length in
    let a : c.extent_before-one.result.slots ≡ length l.slots = ap (λ (e : Extent). e.slots) c.extent_before-one.ensures.same in
    let e : c.end_of.result ≡ 0 + n * length l.slots = c.end_of.ensures ∙ ap (λ x. 0 + x * c.extent_before-one.result.slots) c.count_of.ensures ∙ ap (λ x. 0 + n * x) a in
    let t : i < c.end_of.result = search rules in
    let u : i < n * length l.slots = omega (arith, t, e) in
    subst (λ x. i % x < length l.slots) (sym (c.from-slots.ensures ∙ a)) (within_element n (length l.slots) i u)

pub returns : goal.returns
returns c =
    let shape : Shape = c.args.decl.now.shape in
    let l : Layout = shape_layout (first_layouts c.args.bound c.args.self.now) shape in
    let i = c.args.number in
    let n = count_of c.args.decl.now.length in
    let a : c.extent_before-one.result.slots ≡ length l.slots = ap (λ (e : Extent). e.slots) c.extent_before-one.ensures.same in
    let b : c.extent_before-one.result.size ≡ l.size = ap (λ (e : Extent). e.size) c.extent_before-one.ensures.same in
    let e : c.end_of.result ≡ 0 + n * length l.slots = c.end_of.ensures ∙ ap (λ x. 0 + x * c.extent_before-one.result.slots) c.count_of.ensures ∙ ap (λ x. 0 + n * x) a in
    let t : i < c.end_of.result = search rules in
    let u : i < n * length l.slots = omega (arith, t, e) in
    number_in_row c.args.self.now n c.from-slots.result c.from.result l c.args.ahead i c.args.bound c.element_of_number.result (c.from-slots.ensures ∙ a) (c.from.ensures ∙ b) u c.element_of_number.ensures
