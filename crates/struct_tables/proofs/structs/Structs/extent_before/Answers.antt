use Rattle.std.proofs.Common.{◌≡◌, ◌≤◌, ap, arith, length}
use Rattle.gimple_core.specs.Layout.{shape_layout}
use Rattle.struct_tables.specs.Sizes.{first_layouts, IsSolid}
use Rattle.struct_tables.specs.declared.structs.Extent.{Extent}
use Rattle.struct_tables.proofs.SolidLemmas.{shape_solid, first_solid}
use Rattle.struct_tables.proofs.structs.Structs.extent_before.Goals as goal

pub returns-clause-least : goal.returns-clause-least
returns-clause-least c =
    let l = shape_layout (first_layouts c.args.bound c.args.self.now) c.args.shape.now in
    let s : IsSolid l = shape_solid (first_layouts c.args.bound c.args.self.now) c.args.shape.now (first_solid c.self.inside.map.entries c.args.self.now c.args.bound c.self.view_is c.self.invariant) in
    let e : c.element.result.align ≡ l.align = ap (λ (x : Extent). x.align) c.element.ensures in
    let k : 1 ≤ l.align = s.lawful.least in
    omega (arith, e, k)

pub returns-clause-most : goal.returns-clause-most
returns-clause-most c =
    let l = shape_layout (first_layouts c.args.bound c.args.self.now) c.args.shape.now in
    let s : IsSolid l = shape_solid (first_layouts c.args.bound c.args.self.now) c.args.shape.now (first_solid c.self.inside.map.entries c.args.self.now c.args.bound c.self.view_is c.self.invariant) in
    let e : c.element.result.align ≡ l.align = ap (λ (x : Extent). x.align) c.element.ensures in
    let k : l.align ≤ 8 = s.lawful.most in
    omega (arith, e, k)

pub returns-clause-dense : goal.returns-clause-dense
returns-clause-dense c =
    let l = shape_layout (first_layouts c.args.bound c.args.self.now) c.args.shape.now in
    let s : IsSolid l = shape_solid (first_layouts c.args.bound c.args.self.now) c.args.shape.now (first_solid c.self.inside.map.entries c.args.self.now c.args.bound c.self.view_is c.self.invariant) in
    let e : c.element.result.slots ≡ length l.slots = ap (λ (x : Extent). x.slots) c.element.ensures in
    let f : c.element.result.size ≡ l.size = ap (λ (x : Extent). x.size) c.element.ensures in
    let k : length l.slots ≤ l.size = s.dense in
    omega (arith, e, f, k)

pub returns-clause-small : goal.returns-clause-small
returns-clause-small c =
    let l = shape_layout (first_layouts c.args.bound c.args.self.now) c.args.shape.now in
    let s : IsSolid l = shape_solid (first_layouts c.args.bound c.args.self.now) c.args.shape.now (first_solid c.self.inside.map.entries c.args.self.now c.args.bound c.self.view_is c.self.invariant) in
    let f : c.element.result.size ≡ l.size = ap (λ (x : Extent). x.size) c.element.ensures in
    let k : l.size ≤ 16777216 = s.small in
    omega (arith, f, k)
