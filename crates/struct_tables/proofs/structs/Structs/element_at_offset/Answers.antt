use Rattle.std.proofs.Common.{◌∙◌, length, ap, sym, subst, arith}
use Rattle.std.specs.List.Sorted.{IsNonDecreasing}
use Rattle.gimple_core.specs.Layout.{shape_layout}
use Rattle.struct_tables.specs.Sizes.{first_layouts}
use Rattle.struct_tables.specs.Slots.{IsPartFrom}
use Rattle.struct_tables.proofs.FieldLemmas.{named_layout, starts_ascend, starts_length}
use Rattle.struct_tables.proofs.NumberedLemmas.{before_length}
use Rattle.struct_tables.proofs.SolidLemmas.{first_solid, lawful_all}
use Rattle.struct_tables.proofs.OffsetLemmas.{offset_in_plain, offset_off_plain, offset_in_struct}
use Rattle.struct_tables.proofs.structs.Structs.element_at_offset.Goals as goal

pub returns-then-offset-eq0 : goal.returns-then-offset-eq0
returns-then-offset-eq0 c = offset_in_plain c.args.self.now (first_layouts c.args.bound c.args.self.now) c.args.shape.now c.in-Plain.scalar c.args.offset c.args.ahead c.args.bound c.in-Plain.is c.if-offset-eq0.true

pub returns-else-offset-eq0 : goal.returns-else-offset-eq0
returns-else-offset-eq0 c = offset_off_plain c.args.self.now (first_layouts c.args.bound c.args.self.now) c.args.shape.now c.in-Plain.scalar c.args.offset c.args.ahead c.args.bound c.in-Plain.is (omega (arith, c.if-offset-eq0.false))

pub returns-in-Some : goal.returns-in-Some
returns-in-Some c =
    let kept = c.in-Some.kept.now in
    let s = kept.definition.now in
    let before = first_layouts kept.number c.args.self.now in
    let known = first_layouts c.args.bound c.args.self.now in
    offset_in_struct c.args.self.now (shape_layout known c.args.shape.now) s.fields c.as_slice-offsets.result.now c.as_slice-slots.result.now kept.number c.args.ahead c.args.offset c.args.bound c.part_from.result
    (lawful_all before (first_solid c.self.inside.map.entries c.args.self.now kept.number c.self.view_is c.self.invariant))
    (named_layout known before c.args.shape.now c.in-Named.name s c.in-Named.is c.in-Some.ensures.1) c.in-Some.ensures.0
    (c.as_slice-offsets.ensures.value ∙ c.in-Some.ensures.3) (c.as_slice-slots.ensures.value ∙ c.in-Some.ensures.4)
    (subst (λ fs. IsPartFrom fs c.as_slice-offsets.result.now c.as_slice-slots.result.now kept.number c.args.ahead c.args.offset c.part_from.result) c.as_slice-fields.ensures c.part_from.ensures)

pub part_from-requires-clause-ascending : goal.part_from-requires-clause-ascending
part_from-requires-clause-ascending c =
    let kept = c.in-Some.kept.now in
    let before = first_layouts kept.number c.args.self.now in
    let lawful = lawful_all before (first_solid c.self.inside.map.entries c.args.self.now kept.number c.self.view_is c.self.invariant) in
    subst IsNonDecreasing (sym (c.as_slice-offsets.ensures.value ∙ c.in-Some.ensures.3)) (starts_ascend before kept.definition.now.fields 0 lawful)

pub part_from-requires-clause-each : goal.part_from-requires-clause-each
part_from-requires-clause-each c =
    let kept = c.in-Some.kept.now in
    ap length (c.as_slice-offsets.ensures.value ∙ c.in-Some.ensures.3) ∙ starts_length (first_layouts kept.number c.args.self.now) kept.definition.now.fields 0 ∙ ap length (sym c.as_slice-fields.ensures)

pub part_from-requires-clause-both : goal.part_from-requires-clause-both
part_from-requires-clause-both c =
    let kept = c.in-Some.kept.now in
    ap length (c.as_slice-slots.ensures.value ∙ c.in-Some.ensures.4) ∙ before_length (first_layouts kept.number c.args.self.now) kept.definition.now.fields 0 ∙ ap length (sym c.as_slice-fields.ensures)
