use Rattle.std.proofs.Common.{rules, ◌≡◌, ◌<◌, ◌≤◌, ◌+◌, ◌*◌, ◌/◌, ◌^◌, ◌∙◌, length, ap, arith}
use Rattle.gimple_ir.specs.declared.declarations.Shape.{Shape}
use Rattle.gimple_ir.specs.declared.value.Layout.{Layout}
use Rattle.gimple_core.specs.Layout.{shape_layout, count_of, repeated}
use Rattle.struct_tables.specs.Sizes.{first_layouts}
use Rattle.struct_tables.specs.declared.structs.Extent.{Extent}
use Rattle.struct_tables.proofs.SizeLemmas.{repeated_length, element_fits}
use Rattle.struct_tables.proofs.SolidLemmas.{shape_solid, first_solid}
use Rattle.struct_tables.proofs.OffsetLemmas.{offset_past_row, offset_in_row}
use Rattle.struct_tables.proofs.structs.Structs.part_at_offset.Goals as goal

pub returns-then-offset-end_of : goal.returns-then-offset-end_of
returns-then-offset-end_of c =
    let shape : Shape = c.args.decl.now.shape in
    let l : Layout = shape_layout (first_layouts c.args.bound c.args.self.now) shape in
    let o = c.args.offset in
    let n = count_of c.args.decl.now.length in
    let w = (shape_solid (first_layouts c.args.bound c.args.self.now) shape (first_solid c.self.inside.map.entries c.args.self.now c.args.bound c.self.view_is c.self.invariant)).lawful.slots in
    let a : c.extent_before-one.result.size ≡ l.size = ap (λ (e : Extent). e.size) c.extent_before-one.ensures.same in
    let e : c.end_of.result ≡ 0 + n * l.size = c.end_of.ensures ∙ ap (λ x. 0 + x * c.extent_before-one.result.size) c.count_of.ensures ∙ ap (λ x. 0 + n * x) a in
    let t : c.end_of.result ≤ o = search rules in
    let u : n * l.size ≤ o = omega (arith, t, e) in
    offset_past_row c.args.self.now n l.size l.slots c.args.ahead o c.args.bound w u

pub element_at_offset-requires : goal.element_at_offset-requires
element_at_offset-requires c =
    let shape : Shape = c.args.decl.now.shape in
    let l : Layout = shape_layout (first_layouts c.args.bound c.args.self.now) shape in
    let o = c.args.offset in
    let n = count_of c.args.decl.now.length in
    let a : c.extent_before-one.result.size ≡ l.size = ap (λ (e : Extent). e.size) c.extent_before-one.ensures.same in
    let b : c.extent_before-one.result.slots ≡ length l.slots = ap (λ (e : Extent). e.slots) c.extent_before-one.ensures.same in
    let e : c.end_of.result ≡ 0 + n * l.size = c.end_of.ensures ∙ ap (λ x. 0 + x * c.extent_before-one.result.size) c.count_of.ensures ∙ ap (λ x. 0 + n * x) a in
    let t : o < c.end_of.result = search rules in
    let u : o < n * l.size = omega (arith, t, e) in
    let f : o / l.size * length l.slots + length l.slots ≤ n * length l.slots = element_fits n l.size o (length l.slots) u in
    let k = repeated_length n l.size l.slots in
    let same : o / c.from-size.result * c.from.result ≡ o / l.size * length l.slots = ap (λ x. o / x * c.from.result) (c.from-size.ensures ∙ a) ∙ ap (λ x. o / l.size * x) (c.from.ensures ∙ b) in
    let room : c.args.ahead + length (repeated n l.size l.slots) < 2 ^ 127 = c.requires.room in
    omega (arith, f, k, same, room)

pub returns : goal.returns
returns c =
    let shape : Shape = c.args.decl.now.shape in
    let l : Layout = shape_layout (first_layouts c.args.bound c.args.self.now) shape in
    let o = c.args.offset in
    let n = count_of c.args.decl.now.length in
    let w = (shape_solid (first_layouts c.args.bound c.args.self.now) shape (first_solid c.self.inside.map.entries c.args.self.now c.args.bound c.self.view_is c.self.invariant)).lawful.slots in
    let a : c.extent_before-one.result.size ≡ l.size = ap (λ (e : Extent). e.size) c.extent_before-one.ensures.same in
    let b : c.extent_before-one.result.slots ≡ length l.slots = ap (λ (e : Extent). e.slots) c.extent_before-one.ensures.same in
    let e : c.end_of.result ≡ 0 + n * l.size = c.end_of.ensures ∙ ap (λ x. 0 + x * c.extent_before-one.result.size) c.count_of.ensures ∙ ap (λ x. 0 + n * x) a in
    let t : o < c.end_of.result = search rules in
    let u : o < n * l.size = omega (arith, t, e) in
    offset_in_row c.args.self.now n l.size c.from-size.result c.from.result l.slots c.args.ahead o c.args.bound c.element_at_offset.result (c.from-size.ensures ∙ a) (c.from.ensures ∙ b) w u c.element_at_offset.ensures
