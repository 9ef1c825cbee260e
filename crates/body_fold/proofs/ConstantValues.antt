-- Constants and their operands.
use Rattle.std.proofs.Common.{◌≡◌, ℕ, ℤ, pos, ◌+ℤ◌, Bool, true, false, if◌then◌else◌, List, refl, sym, ◌∙◌, ap, subst, Option, Some, None, Ok, Err, slice_get}
use Rattle.gimple_ir.specs.declared.scalar.Scalar.{Scalar}
use Rattle.gimple_ir.specs.declared.scalar.Scalar.TheVariants.{I8, I16, I32, I64, U8, U16, U32, U64, Ptr}
use Rattle.gimple_ir.specs.declared.value.Object.{Object}
use Rattle.gimple_ir.specs.declared.value.Object.TheVariants.{Global as GlobalObject, Local as LocalObject}
use Rattle.gimple_ir.specs.declared.value.Value.{Value}
use Rattle.gimple_ir.specs.declared.value.Value.TheVariants.{Int as IntValue, Null as NullValue, At, Code}
use Rattle.gimple_ir.specs.declared.value.Constant.{Constant}
use Rattle.gimple_ir.specs.declared.value.Constant.TheVariants.{Int, Null, Global}
use Rattle.gimple_ir.specs.declared.operand.Operand.{Operand}
use Rattle.gimple_ir.specs.declared.operand.Operand.TheVariants.{Number, Null as NullOperand, Address}
use Rattle.gimple_ir.specs.declared.operand.Base.TheVariants.{Variable}
use Rattle.gimple_ir.specs.declared.operand.Place.{Place}
use Rattle.gimple_ir.specs.declared.declarations.Global.{Global as GlobalDef}
use Rattle.gimple_core.specs.Operators.{in_scalar, wrapped}
use Rattle.gimple_core.specs.Memory.{moved_by}
use Rattle.gimple_core.specs.State.{Scope, number_in, offset_in, is_of}
use Rattle.gimple_core.specs.Run.{value_of, place_value, address_of, address_of_global, global_address}
use Rattle.gimple_core.specs.Verdict.{Verdict}
use Rattle.gimple_core.proofs.RangeLemmas.{wrapped_in}
use Rattle.value_domain.specs.AbsOperators.{first_constant}
use Rattle.value_domain.specs.Holding.{constant_of}
use Rattle.body_values.proofs.Operands.{from_begin, local_free}
use Rattle.body_fold.specs.Fold.{value_of_constant, address_in, constant_operand, passes, put_or, is_put, place_in, place_from}
use Rattle.body_fold.specs.Folders.{Means, NamesMean}

-- ---- values that are constants

pub constant_is : (v : Value) (c : Constant) → constant_of v ≡ Some c → v ≡ value_of_constant c
constant_is (IntValue z) c e = let same : Int z ≡ c = cc in ap value_of_constant same
constant_is NullValue c e = let same : Null ≡ c = cc in ap value_of_constant same
constant_is (At (GlobalObject k) offset) c e = let same : Global k offset ≡ c = cc in ap value_of_constant same
constant_is (At (LocalObject serial k) offset) c e = cc
constant_is (Code name) c e = cc

typed_offset : (scalar : Scalar) (object : Object) (z : ℤ) → is_of scalar (At object z) ≡ true → in_scalar I64 z ≡ true
typed_offset I8 object z h = cc
typed_offset I16 object z h = cc
typed_offset I32 object z h = cc
typed_offset I64 object z h = cc
typed_offset U8 object z h = cc
typed_offset U16 object z h = cc
typed_offset U32 object z h = cc
typed_offset U64 object z h = cc
typed_offset Ptr object z h = h

-- the offset of a typed address lies in i64
abbrev pub OffsetFits : Constant → Type 0
OffsetFits (Int z) = Unit {0}
OffsetFits Null = Unit {0}
OffsetFits (Global k offset) = in_scalar I64 offset ≡ true

pub offset_fits : (scalar : Scalar) (v : Value) (c : Constant) → is_of scalar v ≡ true → v ≡ value_of_constant c → OffsetFits c
offset_fits scalar v (Int z) h e = tt
offset_fits scalar v Null h e = tt
offset_fits scalar v (Global k offset) h e = typed_offset scalar (GlobalObject k) offset (subst (λ u. is_of scalar u ≡ true) e h)

offset_by : (z : ℤ) (b : Bool) → in_scalar I64 z ≡ b → b ≡ true → (if b then z else pos 0) ≡ z
offset_by z true e h = refl
offset_by z false e h = cc

pub offset_same : (z : ℤ) → in_scalar I64 z ≡ true → offset_in z ≡ z
unfolding number_in
offset_same z h = offset_by z (in_scalar I64 z) refl h

-- ---- names

module _ (globals : List GlobalDef) (scope : Scope) (values : List Value) (mean : NamesMean globals scope.locals) where
  address_at : (k : ℕ) (g : GlobalDef) → slice_get globals k ≡ Some g → address_of globals scope g.decl.name ≡ At (GlobalObject k) (pos 0)
  unfolding address_of_global
  address_at k g e =
      let m : Means globals scope.locals k g = mean k g e in
      local_free globals scope g.decl.name m.free ∙ ap (global_address g.decl.name) m.place

  moved_at : (k : ℕ) (g : GlobalDef) (offset : ℤ) → slice_get globals k ≡ Some g → moved_by (address_of globals scope g.decl.name) (offset_in offset) ≡ At (GlobalObject k) (offset_in offset)
  unfolding moved_by
  moved_at k g offset e =
      let there : address_of globals scope g.decl.name ≡ At (GlobalObject k) (pos 0) = address_at k g e in
      ap (λ v. moved_by v (offset_in offset)) there ∙ ap (λ z. At (GlobalObject k) z) (from_begin offset)

  address_value : (k : ℕ) (offset : ℤ) (y : Operand) → in_scalar I64 offset ≡ true → (o : Option GlobalDef) → slice_get globals k ≡ o → address_in o offset ≡ Some y → value_of globals scope values y ≡ At (GlobalObject k) offset
  address_value k offset y h None e f = cc
  address_value k offset y h (Some g) e f =
      let same : Address g.decl.name offset ≡ y = cc in
      ap (value_of globals scope values) (sym same) ∙ (moved_at k g offset e ∙ ap (λ z. At (GlobalObject k) z) (offset_same offset h))

  -- the operand of a constant has its value
  pub constant_value : (c : Constant) (y : Operand) → OffsetFits c → constant_operand globals (Some c) ≡ Some y → value_of globals scope values y ≡ value_of_constant c
  unfolding constant_operand
  constant_value (Int z) y h e = let same : Number z ≡ y = cc in ap (value_of globals scope values) (sym same)
  constant_value Null y h e = let same : NullOperand ≡ y = cc in ap (value_of globals scope values) (sym same)
  constant_value (Global k offset) y h e = address_value k offset y h (slice_get globals k) refl e

  place_at : (k : ℕ) (z : ℤ) (q : Place) → (o : Option GlobalDef) → slice_get globals k ≡ o → place_in o (wrapped I64 z) ≡ Some q → place_value globals scope values q ≡ At (GlobalObject k) (wrapped I64 z)
  place_at k z q None e f = cc
  place_at k z q (Some g) e f =
      let same : record { base = Variable g.decl.name; offset = wrapped I64 z } ≡ q = cc in
      ap (place_value globals scope values) (sym same) ∙ (moved_at k g (wrapped I64 z) e ∙ ap (λ y. At (GlobalObject k) y) (offset_same (wrapped I64 z) (wrapped_in I64 z)))

  -- the place at an offset from the address of a global
  pub from_value : (c : Constant) (offset : ℤ) (q : Place) → place_from globals (Some c) offset ≡ Some q → place_value globals scope values q ≡ moved_by (value_of_constant c) (offset_in offset)
  unfolding moved_by
  from_value (Int z) offset q e = cc
  from_value Null offset q e = cc
  from_value (Global k start) offset q e = place_at k (start +ℤ offset_in offset) q (slice_get globals k) refl e

-- ---- what is put

passed : (v : Verdict (Unit {0})) → passes v ≡ true → v ≡ Ok tt
passed (Ok x) h = refl
passed (Err code) h = cc

pub put_has : {X : Type 0} (P : X → Type 0) (check : X → Verdict (Unit {0})) (x : X) (o : Option X) → P x → ((y : X) → o ≡ Some y → check y ≡ Ok tt → P y) → P (put_or check x o)
put_has P check x None h g = h
put_has P check x (Some y) h g = by (passes (check y)) refl
  where
    by : (b : Bool) → passes (check y) ≡ b → P (if b then y else x)
    by true e = g y refl (passed (check y) e)
    by false e = h

pub put_is : {X : Type 0} (check : X → Verdict (Unit {0})) (o : Option X) (b : Bool) → is_put check o ≡ b → b ≡ true → (y : X) × (o ≡ Some y) × (check y ≡ Ok tt)
put_is check None b e h = cc
put_is check (Some y) b e h = (y, refl, passed (check y) (e ∙ h))

pub first_by : (a b : Option Constant) (c : Constant) (P : Type 0) → (a ≡ Some c → P) → (b ≡ Some c → P) → first_constant a b ≡ Some c → P
first_by (Some a) b c P g h e = g e
first_by None b c P g h e = h e
