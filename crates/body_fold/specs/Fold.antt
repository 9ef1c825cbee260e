-- A body with known constants put in.
use Rattle.std.specs.Prelude.{◌≡◌, ◌↔◌, ℕ, ℤ, ◌+ℤ◌, pos, Bool, true, false, not, if◌then◌else◌, int_le, ◌&&◌, List, [], ◌∷◌, length, Option, Some, None, Result, Ok, Err, slice_get}
use Rattle.gimple_ir.specs.declared.scalar.Scalar.{Scalar}
use Rattle.gimple_ir.specs.declared.scalar.Scalar.TheVariants.{I32, I64}
use Rattle.gimple_ir.specs.declared.scalar.Op.{Op}
use Rattle.gimple_ir.specs.declared.scalar.Cmp.{Cmp}
use Rattle.gimple_ir.specs.declared.operand.Operand.{Operand}
use Rattle.gimple_ir.specs.declared.operand.Operand.TheVariants.{Reg, Number, Null as NullOperand, Address}
use Rattle.gimple_ir.specs.declared.operand.Base.{Base}
use Rattle.gimple_ir.specs.declared.operand.Base.TheVariants.{Reg as RegBase, Variable}
use Rattle.gimple_ir.specs.declared.operand.Place.{Place}
use Rattle.gimple_ir.specs.declared.declarations.Global.{Global as GlobalDef}
use Rattle.gimple_ir.specs.declared.value.Object.TheVariants.{Global as GlobalObject}
use Rattle.gimple_ir.specs.declared.value.Value.{Value}
use Rattle.gimple_ir.specs.declared.value.Value.TheVariants.{Int as IntValue, Null as NullValue, At}
use Rattle.gimple_ir.specs.declared.value.TrapKind.{TrapKind}
use Rattle.gimple_ir.specs.declared.value.Constant.{Constant}
use Rattle.gimple_ir.specs.declared.value.Constant.TheVariants.{Int, Null, Global}
use Rattle.gimple_ir.specs.declared.statement.Stmt.{Stmt}
use Rattle.gimple_ir.specs.declared.statement.Stmt.TheVariants.{Copy, Arith, Compare, Convert, Load, Store, Call, Indirect, Get, Put, Abort}
use Rattle.gimple_ir.specs.declared.block.Case.{Case}
use Rattle.gimple_ir.specs.declared.block.Block.{Block}
use Rattle.gimple_ir.specs.declared.block.End.{End}
use Rattle.gimple_ir.specs.declared.block.End.TheVariants.{Goto, If, Switch, Return}
use Rattle.gimple_ir.specs.declared.program.Function.{Function}
use Rattle.gimple_core.specs.Operators.{wrapped}
use Rattle.gimple_core.specs.State.{offset_in}
use Rattle.gimple_core.specs.Run.{arith_of, compares, one_if, any_number, case_for, converted}
use Rattle.gimple_core.specs.Verdict.{Verdict, ◌>>◌, demand}
use Rattle.gimple_core.specs.Env.{Env, Names, named}
use Rattle.gimple_core.specs.Statements as check
use Rattle.gimple_claims.specs.Kept.{new_blocks}
use Rattle.fix_engine.specs.declared.lifted.Lifted.{Lifted}
use Rattle.fix_engine.specs.declared.lifted.Lifted.TheVariants.{NotReached, Reached}
use Rattle.value_domain.specs.declared.abs_val.AbsVal.{AbsVal}
use Rattle.value_domain.specs.AbsOperators.{first_constant, known_of, may_trap_of}
use Rattle.value_domain.specs.Holding.{constant_of}
use Rattle.body_values.specs.Bodies.{Body, register_scalar, is_local, global_place, operand_value, right_scalar, sides_scalar, compare_value, target_of, result_value}
use Rattle.block_flow.specs.Branches.{block_place, place_or, labels_of}
use Rattle.block_flow.specs.System.{body_at}

-- What the constants in a body depend on: what the function sees, the other functions, and the setting of its values.
pub record Folding : Type 0 where
  pub env : Env
  pub names : Names Function
  pub body : Body

-- ---- constants

abbrev pub value_of_constant : Constant → Value
value_of_constant (Int z) = IntValue z
value_of_constant Null = NullValue
value_of_constant (Global k offset) = At (GlobalObject k) offset

abbrev pub address_in : Option GlobalDef → ℤ → Option Operand
address_in None offset = None
address_in (Some g) offset = Some (Address g.decl.name offset)

-- a constant as an operand
unfoldable pub constant_operand : List GlobalDef → Option Constant → Option Operand
constant_operand globals None = None
constant_operand globals (Some (Int z)) = Some (Number z)
constant_operand globals (Some Null) = Some NullOperand
constant_operand globals (Some (Global k offset)) = address_in (slice_get globals k) offset

abbrev pub global_constant : Option ℕ → ℤ → Option Constant
global_constant None offset = None
global_constant (Some k) offset = Some (Global k (offset_in offset))

-- the constant that a register is known to hold
unfoldable pub known_register : Body → List AbsVal → List ℕ → Option Constant
known_register B row name = known_of (register_scalar B.registers name) (operand_value B row (register_scalar B.registers name) (Reg name))

-- the constant that an operand is known to be; the address of a local is none
unfoldable pub known_operand : Body → List AbsVal → Operand → Option Constant
known_operand B row (Reg name) = known_register B row name
known_operand B row (Number z) = Some (Int z)
known_operand B row NullOperand = Some Null
known_operand B row (Address name offset) = if is_local B.locals name then None else global_constant (global_place B.globals name) offset

-- ---- known results

abbrev pub result_constant : Result Value TrapKind → Option Constant
result_constant (Ok v) = constant_of v
result_constant (Err kind) = None

abbrev pub one_known : Option Constant → (Value → Option Constant) → Option Constant
one_known None f = None
one_known (Some c) f = f (value_of_constant c)

abbrev pub both_known : Option Constant → Option Constant → (Value → Value → Option Constant) → Option Constant
both_known None d f = None
both_known (Some c) d f = one_known d (f (value_of_constant c))

-- the result of a comparison whose sides are both known
unfoldable pub compared_constant : Body → List AbsVal → Operand → Cmp → Operand → Option Constant
compared_constant B row left cmp right = both_known (known_operand B row left) (known_operand B row right) (λ v w. constant_of (one_if (compares v cmp w)))

-- the result of a statement whose operands are all known, for a target of this scalar; where it traps there is none
unfoldable pub evaluated : Body → List AbsVal → Scalar → Stmt → Option Constant
evaluated B row scalar (Copy to from) = known_operand B row from
evaluated B row scalar (Arith to left op right) = both_known (known_operand B row left) (known_operand B row right) (λ v w. result_constant (arith_of B.mode scalar v op w))
evaluated B row scalar (Compare to left cmp right) = compared_constant B row left cmp right
evaluated B row scalar (Convert to target from) = one_known (known_operand B row from) (λ v. constant_of (converted target v))
evaluated B row scalar x = None

-- whether a statement has a result that can be known by its value, and cannot trap
unfoldable pub never_traps : Body → List AbsVal → Scalar → Stmt → Bool
never_traps B row scalar (Copy to from) = true
never_traps B row scalar (Arith to left op right) = not (may_trap_of B.mode op scalar (operand_value B row scalar left) (operand_value B row (right_scalar B scalar op right) right))
never_traps B row scalar (Compare to left cmp right) = true
never_traps B row scalar (Convert to target from) = true
never_traps B row scalar x = false

-- a result that is known, of a statement that cannot trap
unfoldable pub known_result : Body → ℕ → ℕ → List AbsVal → Scalar → Stmt → Option Constant
known_result B k i row scalar x = first_constant (evaluated B row scalar x) (if never_traps B row scalar x then known_of scalar (result_value B k i row scalar x) else None)

-- ---- operands

abbrev pub passes : Verdict (Unit {0}) → Bool
passes (Ok x) = true
passes (Err code) = false

-- whether something else is there that passes the check of the place
abbrev pub is_put : {X : Type 0} → (X → Verdict (Unit {0})) → Option X → Bool
is_put check None = false
is_put check (Some y) = passes (check y)

-- and that in its place
abbrev pub put_or : {X : Type 0} → (X → Verdict (Unit {0})) → X → Option X → X
put_or check x None = x
put_or check x (Some y) = if passes (check y) then y else x

-- the constant that a register is known to hold, as an operand; nothing is put for another operand
unfoldable pub constant_for : Body → List AbsVal → Operand → Option Operand
constant_for B row (Reg name) = constant_operand B.globals (known_register B row name)
constant_for B row x = None

abbrev pub folded_operand : Folding → List AbsVal → (Operand → Verdict (Unit {0})) → Operand → Operand
folded_operand S row check x = put_or check x (constant_for S.body row x)

-- the check of the right side of an operator
abbrev pub right_check : Env → Scalar → Op → Operand → Verdict (Unit {0})
right_check env scalar op y = if check.is_pointer scalar then check.operand env 4 I64 y else check.right_side env scalar op y

-- in a comparison the right side is put, and only where it is not, the left one
unfoldable pub folded_right : Folding → List AbsVal → Operand → Cmp → Operand → Operand
folded_right S row left cmp right = folded_operand S row (λ y. check.compared S.env left cmp y) right

unfoldable pub folded_left : Folding → List AbsVal → Operand → Cmp → Operand → Operand
folded_left S row left cmp right =
    if is_put (λ y. check.compared S.env left cmp y) (constant_for S.body row right) then left else folded_operand S row (λ y. check.compared S.env y cmp right) left

-- the scalars of the formals of a function; of none there are none
abbrev pub formals_of : Option Function → List Scalar
formals_of None = []
formals_of (Some g) = check.scalars_of g.params

-- each argument, checked against the scalar of its formal
abbrev pub folded_arguments : Folding → List AbsVal → List Scalar → List Operand → List Operand
folded_arguments S row formals [] = []
folded_arguments S row [] (x ∷ xs) = x ∷ xs
folded_arguments S row (scalar ∷ scalars) (x ∷ xs) = folded_operand S row (check.operand S.env 6 scalar) x ∷ folded_arguments S row scalars xs

-- ---- bases

abbrev pub place_in : Option GlobalDef → ℤ → Option Place
place_in None offset = None
place_in (Some g) offset = Some (record { base = Variable g.decl.name; offset = offset })

-- the place at an offset from a constant, which is no place but at the address of a global
abbrev pub place_from : List GlobalDef → Option Constant → ℤ → Option Place
place_from globals None offset = None
place_from globals (Some (Int z)) offset = None
place_from globals (Some Null) offset = None
place_from globals (Some (Global k start)) offset = place_in (slice_get globals k) (wrapped I64 (start +ℤ offset_in offset))

abbrev pub place_on : Body → List AbsVal → Base → ℤ → Option Place
place_on B row (RegBase name) offset = place_from B.globals (known_register B row name) offset
place_on B row (Variable name) offset = None

-- a place by the variable to which its base register is known to point
unfoldable pub folded_place : Folding → List AbsVal → (Place → Verdict (Unit {0})) → Place → Place
folded_place S row check place = put_or check place (place_on S.body row place.base place.offset)

abbrev pub stored_place : Env → Scalar → Place → Verdict (Unit {0})
stored_place env scalar place = check.place env scalar place >> demand (not (check.is_read_only env place.base)) 14

-- ---- statements

-- the operands and the base of a statement whose target has this scalar
unfoldable pub with_operands : Folding → List AbsVal → Scalar → Stmt → Stmt
with_operands S row scalar (Copy to from) = Copy to (folded_operand S row (check.operand S.env 4 scalar) from)
with_operands S row scalar (Arith to left op right) = Arith to (folded_operand S row (check.operand S.env 4 scalar) left) op (folded_operand S row (right_check S.env scalar op) right)
with_operands S row scalar (Compare to left cmp right) = Compare to (folded_left S row left cmp right) cmp (folded_right S row left cmp right)
with_operands S row scalar (Convert to target from) = Convert to target from
with_operands S row scalar (Load to from place) = Load to from (folded_place S row (check.place S.env from) place)
with_operands S row scalar (Store at place from) = Store at (folded_place S row (stored_place S.env at) place) (folded_operand S row (check.operand S.env 4 at) from)
with_operands S row scalar (Call to callee xs) = Call to callee (folded_arguments S row (formals_of (named callee S.names)) xs)
with_operands S row scalar (Indirect to signature callee xs) = Indirect to signature callee (folded_arguments S row signature.params xs)
with_operands S row scalar (Get to) = Get to
with_operands S row scalar (Put from) = Put (folded_operand S row (check.printed S.env) from)
with_operands S row scalar Abort = Abort

-- the constant put into the register, where it passes the check, else the other statement
abbrev pub copy_or : (Operand → Verdict (Unit {0})) → List ℕ → Stmt → Option Operand → Stmt
copy_or check to y None = y
copy_or check to y (Some c) = if passes (check c) then Copy to c else y

-- a known result put into the target, else the operands
abbrev pub with_result : Folding → ℕ → ℕ → List AbsVal → Stmt → Option (List ℕ) → Scalar → Stmt
with_result S k i row x None scalar = with_operands S row scalar x
with_result S k i row x (Some to) scalar = copy_or (check.operand S.env 4 scalar) to (with_operands S row scalar x) (constant_operand S.body.globals (known_result S.body k i row scalar x))

abbrev pub target_scalar : Body → Option (List ℕ) → Scalar
target_scalar B None = I64
target_scalar B (Some to) = register_scalar B.registers to

unfoldable pub folded_stmt : Folding → ℕ → ℕ → List AbsVal → Stmt → Stmt
folded_stmt S k i row x = with_result S k i row x (target_of x) (target_scalar S.body (target_of x))

-- ---- ends

-- what a comparison is known to give, 1 or 0
unfoldable pub known_comparison : Body → List AbsVal → Operand → Cmp → Operand → Option Constant
known_comparison B row left cmp right = first_constant (compared_constant B row left cmp right) (known_of I32 (compare_value B row I32 (sides_scalar B left right) left cmp right))

abbrev pub is_zero : Constant → Bool
is_zero (Int z) = int_le z (pos 0) && int_le (pos 0) z
is_zero Null = false
is_zero (Global k offset) = false

abbrev pub goto_or : Option Constant → ℕ → ℕ → End → End
goto_or None hit miss e = e
goto_or (Some c) hit miss e = Goto (if is_zero c then miss else hit)

abbrev pub case_or : Option Constant → List Case → ℕ → End → End
case_or None cases other e = e
case_or (Some c) cases other e = Goto (case_for (any_number (value_of_constant c)) cases other)

unfoldable pub folded_end : Folding → List AbsVal → End → End
folded_end S row (Goto to) = Goto to
folded_end S row (If left cmp right hit miss) =
    goto_or (known_comparison S.body row left cmp right) hit miss (If (folded_left S row left cmp right) cmp (folded_right S row left cmp right) hit miss)
folded_end S row (Switch on cases other) = case_or (known_operand S.body row on) cases other (Switch on cases other)
folded_end S row (Return None) = Return None
folded_end S row (Return (Some x)) = Return (Some (folded_operand S row (λ y. check.returned S.env (Some y) S.env.result) x))

-- ---- bodies

-- at a point that is not reached nothing changes
abbrev pub stmt_at : Folding → ℕ → ℕ → Stmt → Lifted (List AbsVal) → Stmt
stmt_at S k i x NotReached = x
stmt_at S k i x (Reached row) = folded_stmt S k i row x

abbrev pub end_at : Folding → End → Lifted (List AbsVal) → End
end_at S e NotReached = e
end_at S e (Reached row) = folded_end S row e

-- the statement at this point, and the end of this block, by the values at each point
abbrev pub new_stmt : Folding → (ℕ → ℕ → Lifted (List AbsVal)) → ℕ → ℕ → Stmt → Stmt
new_stmt S values k i x = stmt_at S k i x (values k i)

abbrev pub new_end : Folding → List Block → (ℕ → ℕ → Lifted (List AbsVal)) → ℕ → End → End
new_end S blocks values k e = end_at S e (values k (length (body_at (slice_get blocks k))))

-- the new ends lead from the first block to the block of this number
pub data IsLinked (blocks : List Block) (end : ℕ → End → End) : ℕ → Type 0 where
  first : IsLinked blocks end 0
  linked : (k : ℕ) (b : Block) (slot label : ℕ) → IsLinked blocks end k → slice_get blocks k ≡ Some b → slice_get (labels_of (end k b.end)) slot ≡ Some label → IsLinked blocks end (place_or (block_place label blocks))

-- A function with its known constants put in. The blocks to which no new end leads are gone.
pub record IsFolded (S : Folding) (values : ℕ → ℕ → Lifted (List AbsVal)) (f g : Function) : Type 0 where
  pub keep : ℕ → Bool
  pub kept : (k : ℕ) → (keep k ≡ true) ↔ IsLinked f.blocks (new_end S f.blocks values) k
  pub is : g ≡ record f { blocks = new_blocks (new_stmt S values) (new_end S f.blocks values) keep 0 f.blocks }
