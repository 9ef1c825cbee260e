use Rattle.std.proofs.Common.{◌≡◌, ◌<◌, ◌^◌, [], Some, None, ◌∙◌, pos, nat_abs, ◌<ℤ◌, ◌≤ℤ◌, FitsSigned, arith}
use Rattle.std.specs.Int.{w128}
use Rattle.std.proofs.lemmas.Int.{ints, to_z-of_z}
use Rattle.gimple_core.specs.Layout.{struct_layouts, layout_of}
use Rattle.struct_tables.specs.Slots.{number_at}
use Rattle.struct_tables.proofs.SolidLemmas.{kept_layouts}
use Rattle.struct_tables.proofs.OffsetLemmas.{number_below, number_whole, number_small}
use Rattle.struct_tables.proofs.structs.Structs.slot_number.Goals as goal

pub returns-then-offset-lt0 : goal.returns-then-offset-lt0
returns-then-offset-lt0 c = let below : c.args.offset <ℤ pos 0 = omega (arith, ints, c.if-offset-lt0.true) in number_below (layout_of c.args.self.now c.args.decl.now).slots c.args.offset c.args.scalar below

pub overflow_cast-result : goal.overflow_cast-result
unfolding layout_of
overflow_cast-result c =
    let small : c.in-Some.number < 2 ^ 64 =
    number_small (struct_layouts [] c.args.self.now) c.args.decl.now _ c.args.scalar c.in-Some.number
    (kept_layouts c.self.inside.map.entries c.args.self.now c.self.view_is c.self.invariant) c.requires.size c.in-Some.ensures in
    omega (arith, small)

pub returns-in-Some : goal.returns-in-Some
returns-in-Some c =
    let slots = (layout_of c.args.self.now c.args.decl.now).slots in
    let by : FitsSigned w128 c.args.offset = c.ranges.offset in
    let from : pos 0 ≤ℤ c.args.offset = omega (arith, ints, c.if-offset-lt0.false) in
    let value : Some c.in-Some.number ≡ number_at slots (nat_abs c.args.offset) c.args.scalar = simp to_z-of_z at c.in-Some.ensures in
    value ∙ number_whole slots c.args.offset c.args.scalar from

pub returns-in-None : goal.returns-in-None
returns-in-None c =
    let slots = (layout_of c.args.self.now c.args.decl.now).slots in
    let by : FitsSigned w128 c.args.offset = c.ranges.offset in
    let from : pos 0 ≤ℤ c.args.offset = omega (arith, ints, c.if-offset-lt0.false) in
    let value : ◌≡◌ None (number_at slots (nat_abs c.args.offset) c.args.scalar) = simp to_z-of_z at c.in-None.ensures in
    value ∙ number_whole slots c.args.offset c.args.scalar from
