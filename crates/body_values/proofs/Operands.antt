-- The values of operands are in their abstract values.
use Rattle.std.proofs.Common.{◌≡◌, ℕ, ◌+◌, ◌<◌, ℤ, pos, ◌+ℤ◌, Bool, true, false, cond, not, ◌||◌, nat_lt, if◌then◌else◌, List, [], ◌∷◌, ◌++◌, length, refl, sym, ◌∙◌, ap, subst, arith, Option, Some, None, IfSome, IsSomeAnd, Ok, slice_get}
use Rattle.std.specs.List.{position, position_or_len}
use Rattle.std.proofs.lemmas.Int.{ints}
use Rattle.std.proofs.lemmas.Option.{slice_get_within}
use Rattle.gimple_ir.specs.declared.scalar.Scalar.{Scalar}
use Rattle.gimple_ir.specs.declared.scalar.Scalar.TheVariants.{I64}
use Rattle.gimple_ir.specs.declared.value.Value.{Value}
use Rattle.gimple_ir.specs.declared.value.Value.TheVariants.{Int as Number, Null as NullPointer, Code}
use Rattle.gimple_ir.specs.declared.value.Constant.TheVariants.{Int, Null as NullConstant, Global as GlobalConstant}
use Rattle.gimple_ir.specs.declared.operand.Operand.{Operand}
use Rattle.gimple_ir.specs.declared.operand.Operand.TheVariants.{Reg, Number as NumberOperand, Null, Address}
use Rattle.gimple_ir.specs.declared.declarations.Decl.{Decl}
use Rattle.gimple_ir.specs.declared.declarations.Global.{Global}
use Rattle.gimple_ir.specs.declared.program.Function.{Function}
use Rattle.gimple_core.specs.Sealed.{Sealed}
use Rattle.std.specs.Str.{bytes_eq}
use Rattle.gimple_core.specs.Operators.{in_scalar, wrapped}
use Rattle.gimple_core.specs.Memory.{moved_by}
use Rattle.gimple_core.specs.State.{Scope, registers_of, value_in, number_in, offset_in, is_of}
use Rattle.gimple_core.specs.Run.{value_of, address_of, address_of_global, local_address, global_address}
use Rattle.gimple_core.specs.Env.{scalar_of}
use Rattle.gimple_core.specs.Statements as s
use Rattle.gimple_core.proofs.Passed.{first_passed, demanded}
use Rattle.gimple_core.proofs.ScalarLemmas.{same_scalar_true}
use Rattle.gimple_claims.specs.Checks.{env_of}
use Rattle.gimple_claims.specs.Typed.{registers_typed}
use Rattle.gimple_claims.proofs.TypedValues.{HasRegister, has_register, value_there, operand_is}
use Rattle.value_domain.specs.declared.abs_val.AbsVal.{AbsVal}
use Rattle.value_domain.specs.AbsOperators.{top_of}
use Rattle.value_domain.specs.Values.{FitsWith}
use Rattle.value_domain.specs.Thresholds.{IsLawful}
use Rattle.value_domain.specs.Holding.{Holds}
use Rattle.value_domain.proofs.ScalarLemmas.{in_type, wrapped_same}
use Rattle.value_domain.proofs.TopLaws.{top_holds}
use Rattle.value_domain.proofs.AloneLaws.{alone_holds}
use Rattle.value_domain.proofs.BringLaws.{brought_holds}
use Rattle.body_values.specs.declared.facts.Facts.{Facts}
use Rattle.body_values.specs.Bodies.{Body, place_of, register_scalar, brought_or, is_local, global_place, global_value, operand_value}
use Rattle.body_values.specs.Flow.{body_of}
use Rattle.body_values.specs.Rows.{RowFits, get_fits}
use Rattle.body_values.proofs.Held.{RowHolds, place_is, scalar_is, value_placed, held_at}

-- ---- offsets

zero_inside : in_scalar I64 (pos 0) ≡ true
zero_inside = refl

offset_by : (z : ℤ) (b : Bool) → in_scalar I64 z ≡ b → in_scalar I64 (if b then z else pos 0) ≡ true
offset_by z true e = e
offset_by z false e = zero_inside

offset_inside : (z : ℤ) → in_scalar I64 (offset_in z) ≡ true
unfolding number_in
offset_inside z = offset_by z (in_scalar I64 z) refl

-- from the begin of an object
pub from_begin : (z : ℤ) → wrapped I64 (pos 0 +ℤ offset_in z) ≡ offset_in z
from_begin z =
    let zero : (pos 0 +ℤ offset_in z) ≡ offset_in z = omega (arith, ints) in
    ap (wrapped I64) zero ∙ wrapped_same I64 (offset_in z) (in_type I64 (offset_in z) (offset_inside z))

-- ---- names of locals

place_missing : (b : Bool) (n : ℕ) → b ≡ false → cond b (Some n) None ≡ None
place_missing true n h = cc
place_missing false n h = refl

abbrev AreUnlike : List ℕ → List Decl → Type 0
AreUnlike name ds = is_local ds name ≡ false

none_passes : (name : List ℕ) (ds : List Decl) → is_local ds name ≡ false → length ds ≡ position_or_len (λ d. bytes_eq d.name name) ds
none_passes name [] h = refl
none_passes name (d ∷ ds) h = by (bytes_eq d.name name) h (none_passes name ds)
  where
    by : (b : Bool) → (b || is_local ds name) ≡ false → (is_local ds name ≡ false → length ds ≡ position_or_len (λ d. bytes_eq d.name name) ds) → length (d ∷ ds) ≡ cond (not b) (1 + position_or_len (λ d. bytes_eq d.name name) ds) 0
    by true e more = cc
    by false e more = let n = more e in omega (arith, n)

not_less : (n m : ℕ) → m ≡ n → nat_lt n m ≡ false
not_less n m e = grind (arith, e)

pub no_local : (name : List ℕ) (ds : List Decl) → is_local ds name ≡ false → position (λ (d : Decl). bytes_eq d.name name) ds ≡ None
no_local name ds h = place_missing _ _ (not_less _ _ (none_passes name ds h))

pub local_free : (globals : List Global) (scope : Scope) (name : List ℕ) → is_local scope.locals name ≡ false → address_of globals scope name ≡ address_of_global globals name
unfolding address_of
local_free globals scope name h = ap (λ o. local_address scope.serial o (address_of_global globals name)) (no_local name scope.locals h)

-- ---- operands

module _ (p : Sealed) (n : ℕ) (f : Function) (facts : Facts) (most : ℕ) (ts : List ℤ) (law : IsLawful ts) (serial : ℕ) (values : List Value) (row : List AbsVal)
    (t : registers_typed (registers_of f) values ≡ true) (fits : RowFits most ts (length (f.params ++ f.registers)) row) (h : RowHolds row values) where
  abbrev B : Body
  B = body_of p n f facts most ts

  abbrev scope : Scope
  scope = record { declared = registers_of f; locals = f.locals; serial = serial }

  -- a value, and the abstract value that it is in
  pub record Stays (scalar : Scalar) (v : Value) (a : AbsVal) : Type 0 where
    pub typed : is_of scalar v ≡ true
    pub holds : Holds v a

  -- a register that the function has
  pub record RegisterHolds (name : List ℕ) (scalar : Scalar) : Type 0 where
    pub has : HasRegister (registers_of f) name scalar
    pub scalar_same : register_scalar (f.params ++ f.registers) name ≡ scalar
    pub typed : is_of scalar (value_in scope values name) ≡ true
    pub holds : Holds (value_in scope values name) (operand_value B row scalar (Reg name))

  brought_by : (scalar : Scalar) (v : Value) (o : Option AbsVal) → is_of scalar v ≡ true → IfSome o (FitsWith most ts) → IsSomeAnd o (Holds v) → Holds v (brought_or scalar o)
  brought_by scalar v None w g e = absurd e
  brought_by scalar v (Some a) w g e = brought_holds most ts scalar a g v w e

  pub register_holds : (name : List ℕ) (scalar : Scalar) → scalar_of (env_of p.program f) name ≡ Ok scalar → RegisterHolds name scalar
  unfolding value_in operand_value
  register_holds name scalar e =
      let c : HasRegister (registers_of f) name scalar = has_register p.program f (registers_of f) name scalar refl e in
      let place : place_of (registers_of f) name ≡ c.place = place_is (registers_of f) name c.place c.place_is in
      let among : c.place < length (registers_of f) = slice_get_within (registers_of f) c.place c.register c.at in
      let within : place_of (registers_of f) name < length (registers_of f) = omega (arith, place, among) in
      let count : length row ≡ length (registers_of f) = fits.count in
      let typed : is_of scalar (value_in scope values name) ≡ true = value_there scope values name scalar t c in
      record {
        has = c;
        scalar_same = scalar_is (registers_of f) name scalar c;
        typed = typed;
        holds = brought_by scalar (value_in scope values name) (slice_get row (place_of (registers_of f) name)) typed
            (get_fits (FitsWith most ts) row (place_of (registers_of f) name) fits.each)
            (subst (λ v. IsSomeAnd (slice_get row (place_of (registers_of f) name)) (Holds v)) (sym (value_placed scope values name within)) (held_at row values (place_of (registers_of f) name) (omega (arith, within, count)) h));
      }

  global_holds : (scalar : Scalar) (name : List ℕ) (o : Option ℕ) (offset : ℤ) → is_of scalar (moved_by (global_address name o) (offset_in offset)) ≡ true → Holds (moved_by (global_address name o) (offset_in offset)) (global_value B scalar o offset)
  unfolding moved_by
  global_holds scalar name None offset w = top_holds scalar (Code name) w
  global_holds scalar name (Some j) offset w = alone_holds most ts law scalar _ (GlobalConstant j (offset_in offset)) w (ap (λ z. Some (GlobalConstant j z)) (from_begin offset))

  address_holds : (scalar : Scalar) (name : List ℕ) (offset : ℤ) → is_of scalar (value_of p.program.globals scope values (Address name offset)) ≡ true → (b : Bool) → is_local f.locals name ≡ b →
      Holds (value_of p.program.globals scope values (Address name offset)) (cond b (top_of scalar) (global_value B scalar (global_place p.program.globals name) offset))
  unfolding address_of_global
  address_holds scalar name offset w true e = top_holds scalar _ w
  address_holds scalar name offset w false e =
      let free : address_of p.program.globals scope name ≡ global_address name (global_place p.program.globals name) = local_free p.program.globals scope name e in
      subst (λ v. Holds (moved_by v (offset_in offset)) (global_value B scalar (global_place p.program.globals name) offset)) (sym free)
      (global_holds scalar name (global_place p.program.globals name) offset (subst (λ v. is_of scalar (moved_by v (offset_in offset)) ≡ true) free w))

  pub operand_holds : (wrong : ℕ) (scalar : Scalar) (x : Operand) → s.operand (env_of p.program f) wrong scalar x ≡ Ok tt → Stays scalar (value_of p.program.globals scope values x) (operand_value B row scalar x)
  unfolding operand_value s.operand
  operand_holds wrong scalar x e = let w = operand_is p.program f p.program.globals scope values refl t wrong scalar x e in record { typed = w; holds = by x e w }
    where
      register : (name : List ℕ) → s.operand (env_of p.program f) wrong scalar (Reg name) ≡ Ok tt → Holds (value_in scope values name) (operand_value B row scalar (Reg name))
      register name g =
          let own = first_passed (scalar_of (env_of p.program f) name) _ tt g in
          let same : own.0 ≡ scalar = same_scalar_true own.0 scalar (demanded _ wrong own.2) in
          (register_holds name scalar (subst (λ a. scalar_of (env_of p.program f) name ≡ Ok a) same own.1)).holds

      by : (x : Operand) → s.operand (env_of p.program f) wrong scalar x ≡ Ok tt → is_of scalar (value_of p.program.globals scope values x) ≡ true → Holds (value_of p.program.globals scope values x) (operand_value B row scalar x)
      by (Reg name) g w = register name g
      by (NumberOperand z) g w = alone_holds most ts law scalar (Number z) (Int z) w refl
      by Null g w = alone_holds most ts law scalar NullPointer NullConstant w refl
      by (Address name offset) g w = address_holds scalar name offset w (is_local f.locals name) refl
