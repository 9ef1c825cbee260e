use Rattle.std.proofs.Common.{◌≡◌, ◌∙◌, ◌≤◌, ℕ, List, [], ◌∷◌, ◌++◌, ap, sym, subst, Bor}
use Rattle.indexmap.proofs.CallerLemmas.{insert_entry-new}
use Rattle.gimple_ir.specs.declared.declarations.StructDef.{StructDef}
use Rattle.gimple_core.specs.Declarations.{struct_size}
use Rattle.gimple_core.specs.Env.{has, structs_by_name}
use Rattle.gimple_core.specs.Layout.{empty_layout, with_fields, struct_layouts}
use Rattle.struct_tables.specs.Sizes.{extent_of, field_starts, slots_before, definitions, IsKept, AreKept}
use Rattle.struct_tables.specs.declared.structs.Kept.{Kept}
use Rattle.struct_tables.proofs.KeptLemmas.{has_is, known_length, kept_added, definitions_added}
use Rattle.struct_tables.proofs.KeptLemmas.{no_value}
use Rattle.struct_tables.proofs.structs.Structs.keep.Goals as goal

pub invariant_of-self-2 : goal.invariant_of-self-2
invariant_of-self-2 c =
    let es = c.self.inside.map.entries in
    let s : StructDef = c.args.definition.now in
    let key : Bor (List ℕ) = c.as_slice.result in
    let kept : Kept = record { definition = c.args.definition; number = c.len.result; extent = c.args.extent; starts = c.args.starts } in
    let gone = no_value _ (has_is key.now [] es c.self.invariant ∙ ap (λ ss. has key.now (structs_by_name ss)) c.self.view_is ∙ ap (λ n. has n (structs_by_name c.args.self.now)) c.as_slice.ensures ∙ c.requires.new) in
    let new : c.insert.new.self.entries ≡ es ++ (key, kept) ∷ [] = c.in_ok-insert.ensures.entries ∙ insert_entry-new _ c.self.inside.map key kept gone in
    let e : c.args.extent ≡ extent_of (with_fields (struct_layouts [] (definitions es)) empty_layout s.fields) =
    c.requires.same ∙ ap (λ ss. extent_of (with_fields (struct_layouts [] ss) empty_layout s.fields)) (sym c.self.view_is) in
    let small : (with_fields (struct_layouts [] (definitions es)) empty_layout s.fields).size ≤ 16777216 = subst (λ ss. struct_size ss s.fields ≤ 16777216) (sym c.self.view_is) c.requires.small in
    let offsets : c.args.starts.offsets.items ≡ field_starts (struct_layouts [] (definitions es)) 0 s.fields = c.requires.offsets ∙ ap (λ ss. field_starts (struct_layouts [] ss) 0 s.fields) (sym c.self.view_is) in
    let slots : c.args.starts.slots.items ≡ slots_before (struct_layouts [] (definitions es)) 0 s.fields = c.requires.slots ∙ ap (λ ss. slots_before (struct_layouts [] ss) 0 s.fields) (sym c.self.view_is) in
    let one : IsKept (struct_layouts [] (definitions es)) (key, kept) = record { name = c.as_slice.ensures; number = c.len.ensures.len ∙ known_length es; extent = e; small = small; offsets = offsets; slots = slots } in
    subst (AreKept []) (sym new) (kept_added [] es (key, kept) c.self.invariant one)

pub returns-clause-more : goal.returns-clause-more
returns-clause-more c =
    let es = c.self.inside.map.entries in
    let s : StructDef = c.args.definition.now in
    let key : Bor (List ℕ) = c.as_slice.result in
    let kept : Kept = record { definition = c.args.definition; number = c.len.result; extent = c.args.extent; starts = c.args.starts } in
    let gone = no_value _ (has_is key.now [] es c.self.invariant ∙ ap (λ ss. has key.now (structs_by_name ss)) c.self.view_is ∙ ap (λ n. has n (structs_by_name c.args.self.now)) c.as_slice.ensures ∙ c.requires.new) in
    let new : c.insert.new.self.entries ≡ es ++ (key, kept) ∷ [] = c.in_ok-insert.ensures.entries ∙ insert_entry-new _ c.self.inside.map key kept gone in
    ap definitions new ∙ definitions_added es (key, kept) ∙ ap (λ ss. ss ++ s ∷ []) c.self.view_is
