use Rattle.std.proofs.Common.{rules, ◌≡◌, ◌∙◌, ◌+◌, ◌*◌, ◌≤◌, [], ap, sym, length, max, arith}
use Rattle.gimple_core.specs.Layout.{shape_layout, struct_layouts, decl_layout, count_of, round_up}
use Rattle.struct_tables.specs.Sizes.{field_end}
use Rattle.struct_tables.specs.declared.structs.Extent.{Extent}
use Rattle.struct_tables.proofs.SizeLemmas.{repeated_length}
use Rattle.struct_tables.proofs.structs.Structs.with_field.Goals as goal

pub returns-clause-extent : goal.returns-clause-extent
returns-clause-extent c =
    let known = struct_layouts [] c.args.self.now in
    let f = c.args.field.now in
    let n = c.args.whole.size in
    let one = shape_layout known f.shape in
    let a : c.extent-one.result.size ≡ one.size = ap (λ (e : Extent). e.size) c.extent-one.ensures.same in
    let b : c.extent-one.result.align ≡ one.align = ap (λ (e : Extent). e.align) c.extent-one.ensures.same in
    let s : c.extent-one.result.slots ≡ length one.slots = ap (λ (e : Extent). e.slots) c.extent-one.ensures.same in
    let k : c.count_of-count.result ≡ count_of f.length = c.count_of-count.ensures in
    let r : c.next_multiple-offset.result ≡ round_up n one.align = c.next_multiple-offset.ensures.same ∙ ap (round_up n) b in
    let size : c.end_of-size.result ≡ field_end known n f =
    c.end_of-size.ensures ∙ ap (λ x. x + c.count_of-count.result * c.extent-one.result.size) r ∙ ap (λ x. round_up n one.align + x * c.extent-one.result.size) k ∙ ap (λ x. round_up n one.align + count_of f.length * x) a in
    let align : c.max.result ≡ max c.args.whole.align (decl_layout known f).align = search rules in
    let slots : c.args.whole.slots + c.count_of-count.result * c.extent-one.result.slots ≡ c.args.whole.slots + length (decl_layout known f).slots =
    ap (λ x. c.args.whole.slots + x * c.extent-one.result.slots) k ∙ ap (λ x. c.args.whole.slots + count_of f.length * x) s
    ∙ ap (λ x. c.args.whole.slots + x) (sym (repeated_length (count_of f.length) one.size one.slots)) in
    let small : c.end_of-size.result ≤ 16777216 = search rules in
    (λ i. record { size = size i; align = align i; slots = slots i }, omega (arith, size, small))
