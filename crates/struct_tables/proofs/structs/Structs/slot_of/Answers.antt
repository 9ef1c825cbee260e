use Rattle.std.proofs.Common.{◌<◌, ◌^◌, ◌∙◌, slice_get, ap, sym, subst, arith}
use Rattle.gimple_core.specs.Layout.{decl_layout, layout_of, count_of}
use Rattle.struct_tables.specs.Sizes.{first_layouts}
use Rattle.struct_tables.proofs.KeptLemmas.{all_first}
use Rattle.struct_tables.proofs.SolidLemmas.{small_size, first_solid}
use Rattle.struct_tables.proofs.NumberedLemmas.{placed_all}
use Rattle.struct_tables.proofs.structs.Structs.slot_of.Goals as goal

pub loop-scalar-init : goal.loop-scalar-init
unfolding layout_of
loop-scalar-init c =
    let known = first_layouts c.len-bound.result c.args.self.now in
    let all = ap (λ n. first_layouts n c.args.self.now) c.len-bound.ensures.len ∙ all_first c.args.self.now c.self.inside.map.entries c.self.view_is in
    let solid = first_solid c.self.inside.map.entries c.args.self.now c.len-bound.result c.self.view_is c.self.invariant in
    let count : count_of c.args.decl.now.length < 2 ^ 64 = subst (λ n. n < 2 ^ 64) c.count_of.ensures c.count_of.type_inv in
    let small : (decl_layout known c.args.decl.now).size < 2 ^ 127 = small_size known c.args.decl.now solid count in
    record {
      room = omega (arith, small);
      same = ap (λ k. slice_get (decl_layout k c.args.decl.now).slots c.args.number) (sym all) ∙ sym (placed_all (slice_get (decl_layout known c.args.decl.now).slots c.args.number));
    }
