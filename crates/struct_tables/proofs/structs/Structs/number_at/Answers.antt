use Rattle.std.proofs.Common.{◌<◌, ◌^◌, ◌∙◌, length, ap, sym, subst, arith}
use Rattle.gimple_core.specs.Layout.{decl_layout, layout_of, count_of}
use Rattle.struct_tables.specs.Sizes.{first_layouts}
use Rattle.struct_tables.specs.Slots.{number_at}
use Rattle.struct_tables.proofs.KeptLemmas.{all_first}
use Rattle.struct_tables.proofs.SolidLemmas.{few_slots, first_solid}
use Rattle.struct_tables.proofs.OffsetLemmas.{counted_all}
use Rattle.struct_tables.proofs.structs.Structs.number_at.Goals as goal

pub loop-own-init : goal.loop-own-init
unfolding layout_of
loop-own-init c =
    let known = first_layouts c.len-bound.result c.args.self.now in
    let all = ap (λ n. first_layouts n c.args.self.now) c.len-bound.ensures.len ∙ all_first c.args.self.now c.self.inside.map.entries c.self.view_is in
    let solid = first_solid c.self.inside.map.entries c.args.self.now c.len-bound.result c.self.view_is c.self.invariant in
    let count : count_of c.args.decl.now.length < 2 ^ 64 = subst (λ n. n < 2 ^ 64) c.count_of.ensures c.count_of.type_inv in
    let few : length (decl_layout known c.args.decl.now).slots < 2 ^ 127 = few_slots known c.args.decl.now solid count in
    record {
      room = omega (arith, few);
      same = ap (λ k. number_at (decl_layout k c.args.decl.now).slots c.args.offset c.args.scalar) (sym all) ∙ sym (counted_all (number_at (decl_layout known c.args.decl.now).slots c.args.offset c.args.scalar));
    }
