-- Values of operands and of operators, of their scalars.
use Rattle.std.proofs.Common.{◌≡◌, ℕ, zero, suc, ◌<◌, ℤ, pos, Bool, true, false, not, List, [], ◌∷◌, ◌++◌, length, refl, sym, ◌∙◌, ap, subst, rules, Option, Some, None, Result, Ok, Err, if◌then◌else◌, slice_get}
use Rattle.std.specs.Prelude.{slice_set, unwrap_or}
use Rattle.std.specs.List.{find, position, position_or_len}
use Rattle.std.proofs.lemmas.List.{map-append}
use Rattle.std.proofs.lemmas.List.Folds.{find_at}
use Rattle.std.proofs.lemmas.Option.{slice_get_within}
use Rattle.gimple_ir.specs.declared.scalar.Scalar.{Scalar}
use Rattle.gimple_ir.specs.declared.scalar.Scalar.TheVariants.{I8, I16, I32, I64, U8, U16, U32, U64, Ptr}
use Rattle.gimple_ir.specs.declared.scalar.Mode.{Mode}
use Rattle.gimple_ir.specs.declared.scalar.Op.{Op}
use Rattle.gimple_ir.specs.declared.declarations.Register.{Register}
use Rattle.gimple_ir.specs.declared.declarations.Global.{Global}
use Rattle.gimple_ir.specs.declared.operand.Operand.{Operand}
use Rattle.gimple_ir.specs.declared.operand.Operand.TheVariants.{Reg, Number, Null as NullOperand, Address}
use Rattle.gimple_ir.specs.declared.value.Value.{Value}
use Rattle.gimple_ir.specs.declared.value.Value.TheVariants.{Int, Null, At, Code}
use Rattle.gimple_ir.specs.declared.value.TrapKind.{TrapKind}
use Rattle.gimple_ir.specs.declared.program.Function.{Function}
use Rattle.gimple_ir.specs.declared.program.Program.{Program}
use Rattle.std.specs.Str.{bytes_eq}
use Rattle.gimple_core.specs.Operators.{in_scalar, op_of}
use Rattle.gimple_core.specs.Memory.{moved_by}
use Rattle.gimple_core.specs.State.{Scope, registers_of, register_place, value_at, scalar_or_pointer, value_in, scalar_in, number_in, offset_in, zero_of, is_of}
use Rattle.gimple_core.specs.Run.{address_of, address_of_global, global_address, local_address, value_of, value_result, any_number, arith_of, one_if}
use Rattle.gimple_core.specs.Verdict.{demand, found}
use Rattle.gimple_core.specs.Env.{named, registers_by_name, scalar_of}
use Rattle.gimple_core.specs.Statements as s
use Rattle.gimple_core.proofs.Passed.{first_passed, demanded, found_so}
use Rattle.gimple_core.proofs.EnvLemmas.{named_find}
use Rattle.gimple_core.proofs.RangeLemmas.{wrapped_in, op_in}
use Rattle.gimple_core.proofs.ScalarLemmas.{same_scalar_true, pointer_is}
use Rattle.gimple_claims.specs.Checks.{env_of}
use Rattle.gimple_claims.specs.Typed.{registers_typed}
use Rattle.gimple_claims.proofs.Checked.{ok_same}
use Rattle.gimple_claims.proofs.Lists.{both_true}

-- ---- numbers and pointers

pub int_is : (scalar : Scalar) (z : ℤ) → not (s.is_pointer scalar) ≡ true → in_scalar scalar z ≡ true → is_of scalar (Int z) ≡ true
int_is I8 z n h = h
int_is I16 z n h = h
int_is I32 z n h = h
int_is I64 z n h = h
int_is U8 z n h = h
int_is U16 z n h = h
int_is U32 z n h = h
int_is U64 z n h = h
int_is Ptr z n h = cc

pub zero_is : (scalar : Scalar) → is_of scalar (zero_of scalar) ≡ true
zero_is I8 = refl
zero_is I16 = refl
zero_is I32 = refl
zero_is I64 = refl
zero_is U8 = refl
zero_is U16 = refl
zero_is U32 = refl
zero_is U64 = refl
zero_is Ptr = refl

pub bit_in : (scalar : Scalar) (b : Bool) → not (s.is_pointer scalar) ≡ true → is_of scalar (one_if b) ≡ true
bit_in I8 true n = refl
bit_in I8 false n = refl
bit_in I16 true n = refl
bit_in I16 false n = refl
bit_in I32 true n = refl
bit_in I32 false n = refl
bit_in I64 true n = refl
bit_in I64 false n = refl
bit_in U8 true n = refl
bit_in U8 false n = refl
bit_in U16 true n = refl
bit_in U16 false n = refl
bit_in U32 true n = refl
bit_in U32 false n = refl
bit_in U64 true n = refl
bit_in U64 false n = refl
bit_in Ptr true n = cc
bit_in Ptr false n = cc

pub moved_is : (v : Value) (z : ℤ) → is_of Ptr v ≡ true → is_of Ptr (moved_by v z) ≡ true
unfolding moved_by
moved_is (Int x) z e = e
moved_is Null z e = refl
moved_is (At object offset) z e = wrapped_in I64 _
moved_is (Code name) z e = refl

global_is : (name : List ℕ) (o : Option ℕ) → is_of Ptr (global_address name o) ≡ true
global_is name None = refl
global_is name (Some k) = refl

pub address_of_global_is : (globals : List Global) (name : List ℕ) → is_of Ptr (address_of_global globals name) ≡ true
unfolding address_of_global
address_of_global_is globals name = global_is name _

local_is : (serial : ℕ) (o : Option ℕ) (v : Value) → is_of Ptr v ≡ true → is_of Ptr (local_address serial o v) ≡ true
local_is serial None v e = e
local_is serial (Some k) v e = refl

address_is : (globals : List Global) (scope : Scope) (name : List ℕ) → is_of Ptr (address_of globals scope name) ≡ true
unfolding address_of
address_is globals scope name = local_is scope.serial (position (λ d. bytes_eq d.name name) scope.locals) (address_of_global globals name) (address_of_global_is globals name)

-- ---- registers

-- a register of this scalar, at its place
pub record HasRegister (declared : List Register) (name : List ℕ) (scalar : Scalar) : Type 0 where
  pub place : ℕ
  pub register : Register
  pub place_is : register_place declared name ≡ Some place
  pub at : slice_get declared place ≡ Some register
  pub scalar_is : register.scalar ≡ scalar

pub register_found : (declared : List Register) (name : List ℕ) (r : Register) → find (λ x. bytes_eq x.name name) declared ≡ Some r → HasRegister declared name r.scalar
unfolding register_place
register_found declared name r e =
    let there : slice_get declared (position_or_len (λ (x : Register). bytes_eq x.name name) declared) ≡ Some r = sym (find_at (λ (x : Register). bytes_eq x.name name) declared) ∙ e in
    let within : position_or_len (λ (x : Register). bytes_eq x.name name) declared < length declared = slice_get_within declared _ r there in
    record { place = position_or_len (λ (x : Register). bytes_eq x.name name) declared; register = r; place_is = search (rules, within); at = there; scalar_is = refl }

register_named : (p : Program) (f : Function) (name : List ℕ) (scalar : Scalar) → scalar_of (env_of p f) name ≡ Ok scalar → (r : Register) × (find (λ x. bytes_eq x.name name) (registers_of f) ≡ Some r) × (r.scalar ≡ scalar)
unfolding scalar_of
register_named p f name scalar h =
    let r = first_passed (found (named name (env_of p f).registers) 1) _ scalar h in
    let there : named name (registers_by_name (registers_of f)) ≡ Some r.0 = ap (named name) (map-append (λ (x : Register). (x.name, x)) f.params f.registers) ∙ found_so _ 1 r.0 r.1 in
    (r.0, sym (named_find (λ (x : Register). x.name) name (registers_of f)) ∙ there, ok_same r.2)

pub has_register : (p : Program) (f : Function) (declared : List Register) (name : List ℕ) (scalar : Scalar) → declared ≡ registers_of f → scalar_of (env_of p f) name ≡ Ok scalar → HasRegister declared name scalar
has_register p f declared name scalar d h =
    let r = register_named p f name scalar h in
    subst (HasRegister declared name) r.2 (register_found declared name r.0 (ap (find (λ (x : Register). bytes_eq x.name name)) d ∙ r.1))

pub scalar_there : (p : Program) (f : Function) (scope : Scope) (name : List ℕ) (scalar : Scalar) → scope.declared ≡ registers_of f → scalar_of (env_of p f) name ≡ Ok scalar → scalar_in scope name ≡ scalar
unfolding scalar_in
scalar_there p f scope name scalar d h =
    let r = register_named p f name scalar h in
    ap scalar_or_pointer (ap (find (λ (x : Register). bytes_eq x.name name)) d ∙ r.1) ∙ r.2

-- the value at a place has the scalar of the register there
pub typed_at : (rs : List Register) (vs : List Value) (k : ℕ) (r : Register) → registers_typed rs vs ≡ true → slice_get rs k ≡ Some r → is_of r.scalar (unwrap_or (slice_get vs k) Null) ≡ true
typed_at [] vs k r t e = cc
typed_at (x ∷ rs) [] k r t e = cc
typed_at (x ∷ rs) (v ∷ vs) zero r t e = let same : x ≡ r = cc in ap (λ (y : Register). is_of y.scalar v) (sym same) ∙ (both_true (is_of x.scalar v) (registers_typed rs vs) t).0
typed_at (x ∷ rs) (v ∷ vs) (suc k) r t e = typed_at rs vs k r ((both_true (is_of x.scalar v) (registers_typed rs vs) t).1) e

-- a value of the register's scalar put at its place
pub typed_put : (rs : List Register) (vs : List Value) (k : ℕ) (r : Register) (v : Value) → registers_typed rs vs ≡ true → slice_get rs k ≡ Some r → is_of r.scalar v ≡ true → registers_typed rs (slice_set vs k v) ≡ true
typed_put [] vs k r v t e h = cc
typed_put (x ∷ rs) [] k r v t e h = cc
typed_put (x ∷ rs) (w ∷ vs) zero r v t e h =
    let same : x ≡ r = cc in
    let here : is_of x.scalar v ≡ true = ap (λ (y : Register). is_of y.scalar v) same ∙ h in
    rw here ((both_true (is_of x.scalar w) (registers_typed rs vs) t).1)
typed_put (x ∷ rs) (w ∷ vs) (suc k) r v t e h =
    rw ((both_true (is_of x.scalar w) (registers_typed rs vs) t).0) (typed_put rs vs k r v ((both_true (is_of x.scalar w) (registers_typed rs vs) t).1) e h)

pub typed_append : (rs ss : List Register) (vs ws : List Value) → registers_typed rs vs ≡ true → registers_typed ss ws ≡ true → registers_typed (rs ++ ss) (vs ++ ws) ≡ true
typed_append [] ss [] ws t u = u
typed_append [] ss (v ∷ vs) ws t u = cc
typed_append (r ∷ rs) ss [] ws t u = cc
typed_append (r ∷ rs) ss (v ∷ vs) ws t u =
    rw ((both_true (is_of r.scalar v) (registers_typed rs vs) t).0) (typed_append rs ss vs ws ((both_true (is_of r.scalar v) (registers_typed rs vs) t).1) u)

pub value_there : (scope : Scope) (values : List Value) (name : List ℕ) (scalar : Scalar) → registers_typed scope.declared values ≡ true → HasRegister scope.declared name scalar → is_of scalar (value_in scope values name) ≡ true
unfolding value_in
value_there scope values name scalar t c =
    ap (λ o. is_of scalar (value_at values o)) c.place_is
    ∙ (ap (λ a. is_of a (unwrap_or (slice_get values c.place) Null)) (sym c.scalar_is) ∙ typed_at scope.declared values c.place c.register t c.at)

-- ---- operands

module _ (p : Program) (f : Function) (globals : List Global) (scope : Scope) (values : List Value) (d : scope.declared ≡ registers_of f) (t : registers_typed scope.declared values ≡ true) where
  pub operand_is : (wrong : ℕ) (scalar : Scalar) (x : Operand) → s.operand (env_of p f) wrong scalar x ≡ Ok tt → is_of scalar (value_of globals scope values x) ≡ true
  unfolding s.operand
  operand_is wrong scalar (Reg name) h =
      let own = first_passed (scalar_of (env_of p f) name) _ tt h in
      let same : own.0 ≡ scalar = same_scalar_true own.0 scalar (demanded _ wrong own.2) in
      value_there scope values name scalar t (has_register p f scope.declared name scalar d (subst (λ a. scalar_of (env_of p f) name ≡ Ok a) same own.1))
  operand_is wrong scalar (Number z) h =
      let a = first_passed (demand (not (s.is_pointer scalar)) wrong) _ tt h in
      int_is scalar z (demanded _ wrong a.1) (demanded _ 13 a.2)
  operand_is wrong scalar NullOperand h = let same : scalar ≡ Ptr = pointer_is scalar (demanded _ wrong h) in ap (λ a. is_of a Null) same
  operand_is wrong scalar (Address name offset) h =
      let a = first_passed (demand (s.is_pointer scalar) wrong) _ tt h in
      let same : scalar ≡ Ptr = pointer_is scalar (demanded _ wrong a.1) in
      subst (λ a. is_of a (moved_by (address_of globals scope name) (offset_in offset)) ≡ true) (sym same) (moved_is (address_of globals scope name) (offset_in offset) (address_is globals scope name))

-- ---- arithmetic

-- where a result is, it is of the scalar
abbrev pub ValueIs : Scalar → Result Value TrapKind → Type 0
ValueIs scalar (Ok v) = is_of scalar v ≡ true
ValueIs scalar (Err kind) = Unit {0}

result_is : (mode : Mode) (op : Op) (scalar : Scalar) (l r : ℤ) → not (s.is_pointer scalar) ≡ true → in_scalar scalar l ≡ true → (e : Result ℤ TrapKind) → op_of mode op scalar l r ≡ e → ValueIs scalar (value_result e)
result_is mode op scalar l r n h (Ok z) e = int_is scalar z n (op_in mode op scalar l r z h e)
result_is mode op scalar l r n h (Err kind) e = tt

zero_in : (scalar : Scalar) → in_scalar scalar (pos 0) ≡ true
zero_in I8 = refl
zero_in I16 = refl
zero_in I32 = refl
zero_in I64 = refl
zero_in U8 = refl
zero_in U16 = refl
zero_in U32 = refl
zero_in U64 = refl
zero_in Ptr = refl

number_by : (scalar : Scalar) (z : ℤ) (b : Bool) → in_scalar scalar z ≡ b → in_scalar scalar (if b then z else pos 0) ≡ true
number_by scalar z true e = e
number_by scalar z false e = zero_in scalar

number_is : (scalar : Scalar) (v : Value) → in_scalar scalar (number_in scalar v) ≡ true
unfolding number_in
number_is scalar (Int z) = number_by scalar z (in_scalar scalar z) refl
number_is scalar Null = zero_in scalar
number_is scalar (At object offset) = zero_in scalar
number_is scalar (Code name) = zero_in scalar

pub arith_is : (mode : Mode) (scalar : Scalar) (l : Value) (op : Op) (r : Value) → (scalar ≡ Ptr → is_of Ptr l ≡ true) → ValueIs scalar (arith_of mode scalar l op r)
unfolding arith_of
arith_is mode I8 l op r h = result_is mode op I8 _ _ refl (number_is I8 l) _ refl
arith_is mode I16 l op r h = result_is mode op I16 _ _ refl (number_is I16 l) _ refl
arith_is mode I32 l op r h = result_is mode op I32 _ _ refl (number_is I32 l) _ refl
arith_is mode I64 l op r h = result_is mode op I64 _ _ refl (number_is I64 l) _ refl
arith_is mode U8 l op r h = result_is mode op U8 _ _ refl (number_is U8 l) _ refl
arith_is mode U16 l op r h = result_is mode op U16 _ _ refl (number_is U16 l) _ refl
arith_is mode U32 l op r h = result_is mode op U32 _ _ refl (number_is U32 l) _ refl
arith_is mode U64 l op r h = result_is mode op U64 _ _ refl (number_is U64 l) _ refl
arith_is mode Ptr l op r h = moved_is l (any_number r) (h refl)
