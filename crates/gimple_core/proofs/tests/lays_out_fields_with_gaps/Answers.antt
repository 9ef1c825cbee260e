use Rattle.std.proofs.Common.{◌≡◌, ℕ, zero, suc, ◌≤◌, ◌^◌, List, [], ◌∷◌, Some, None, sym, subst, take, slice_get, lit≤}
use Rattle.gimple_ir.specs.declared.scalar.Scalar.TheVariants.{I8, I16, I64}
use Rattle.gimple_ir.specs.declared.declarations.Shape.TheVariants.{Plain, Named}
use Rattle.gimple_ir.specs.declared.declarations.Decl.{Decl}
use Rattle.gimple_ir.specs.declared.declarations.StructDef.{StructDef}
use Rattle.gimple_core.specs.Layout.{layout_of, with_fields, struct_layouts, empty_layout, HasLayout}
use Rattle.gimple_core.proofs.tests.lays_out_fields_with_gaps.Goals as goal

abbrev padded : StructDef
padded = record { name = 115 ∷ []; fields = record { name = 97 ∷ []; shape = Plain I8; length = None } ∷ record { name = 98 ∷ []; shape = Plain I64; length = None } ∷ record { name = 99 ∷ []; shape = Plain I16; length = Some 3 } ∷ [] }

abbrev variable : List ℕ → List ℕ → Decl
variable name text = record { name = name; shape = Named text; length = None }

before : (k : ℕ) (s : StructDef) → slice_get (padded ∷ []) k ≡ Some s → (with_fields (struct_layouts [] (take k (padded ∷ []))) empty_layout s.fields).size ≤ 2 ^ 24
before zero s e = let same : padded ≡ s = cc in subst (λ (z : StructDef). (with_fields [] empty_layout z.fields).size ≤ 2 ^ 24) same (lit≤ tt)
before (suc k) s e = cc

has : (name : List ℕ) → HasLayout (padded ∷ []) (variable name (115 ∷ []))
unfolding layout_of
has name = record { size = lit≤ tt; before = λ k s e n. before k s e }

pub layout_of-requires : goal.layout_of-requires
layout_of-requires g c =
    subst (λ ss. HasLayout ss (variable c.new.result c.in_ok-from_bytes.field-0)) (sym c.in_ok-program.ensures)
    (subst (λ text. HasLayout (padded ∷ []) (variable c.new.result text)) (sym c.in_ok-from_bytes.ensures) (has c.new.result))
