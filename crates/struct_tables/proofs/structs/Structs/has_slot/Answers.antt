use Rattle.std.proofs.Common.{◌≡◌, ◌∙◌, is_some, ap, pos, nat_abs, ◌<ℤ◌, ◌≤ℤ◌, FitsSigned, arith}
use Rattle.std.specs.Int.{w128}
use Rattle.std.proofs.lemmas.Int.{ints, to_z-of_z}
use Rattle.gimple_core.specs.Layout.{layout_of}
use Rattle.struct_tables.specs.Slots.{number_at}
use Rattle.struct_tables.proofs.OffsetLemmas.{has_below, has_whole}
use Rattle.struct_tables.proofs.structs.Structs.has_slot.Goals as goal

pub returns-then-offset-lt0 : goal.returns-then-offset-lt0
returns-then-offset-lt0 c = let below : c.args.offset <ℤ pos 0 = omega (arith, ints, c.if-offset-lt0.true) in has_below (layout_of c.args.self.now c.args.decl.now).slots c.args.offset c.args.scalar below

pub returns : goal.returns
returns c =
    let slots = (layout_of c.args.self.now c.args.decl.now).slots in
    let by : FitsSigned w128 c.args.offset = c.ranges.offset in
    let from : pos 0 ≤ℤ c.args.offset = omega (arith, ints, c.if-offset-lt0.false) in
    let value : c.number_at.result ≡ number_at slots (nat_abs c.args.offset) c.args.scalar = simp to_z-of_z at c.number_at.ensures in
    c.is_some.ensures ∙ ap is_some value ∙ has_whole slots c.args.offset c.args.scalar from
