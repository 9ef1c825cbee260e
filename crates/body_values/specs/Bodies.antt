-- What the values of registers are, at a point and after it.
use Rattle.std.specs.Prelude.{ℕ, ◌==◌, ◌&&◌, ◌||◌, not, ℤ, pos, Bool, true, false, if◌then◌else◌, List, [], ◌∷◌, Option, Some, None, slice_get, slice_set, position, find}
use Rattle.std.specs.List.{position_or_len, list_any}
use Rattle.gimple_ir.specs.declared.scalar.Scalar.{Scalar}
use Rattle.gimple_ir.specs.declared.scalar.Scalar.TheVariants.{I64, Ptr}
use Rattle.gimple_ir.specs.declared.scalar.Mode.{Mode}
use Rattle.gimple_ir.specs.declared.scalar.Op.{Op}
use Rattle.gimple_ir.specs.declared.scalar.Cmp.{Cmp}
use Rattle.gimple_ir.specs.declared.scalar.Cmp.TheVariants.{Eq, Ne, Lt, Le, Gt, Ge}
use Rattle.gimple_ir.specs.declared.operand.Operand.{Operand}
use Rattle.gimple_ir.specs.declared.operand.Operand.TheVariants.{Reg, Number, Null, Address}
use Rattle.gimple_ir.specs.declared.operand.Base.{Base}
use Rattle.gimple_ir.specs.declared.operand.Base.TheVariants.{Reg as RegBase, Variable}
use Rattle.gimple_ir.specs.declared.operand.Place.{Place}
use Rattle.gimple_ir.specs.declared.declarations.Register.{Register}
use Rattle.gimple_ir.specs.declared.declarations.Decl.{Decl}
use Rattle.gimple_ir.specs.declared.declarations.StructDef.{StructDef}
use Rattle.gimple_ir.specs.declared.declarations.Global.{Global}
use Rattle.gimple_ir.specs.declared.value.LayoutSlot.{LayoutSlot}
use Rattle.gimple_ir.specs.declared.value.Constant.{Constant}
use Rattle.gimple_ir.specs.declared.value.Constant.TheVariants.{Int, Null as NullConstant, Global as GlobalConstant}
use Rattle.gimple_ir.specs.declared.statement.Stmt.{Stmt}
use Rattle.gimple_ir.specs.declared.statement.Stmt.TheVariants.{Copy, Arith, Compare, Convert, Load, Store, Call, Indirect, Get, Put, Abort}
use Rattle.gimple_ir.specs.declared.block.Case.{Case}
use Rattle.gimple_ir.specs.declared.block.End.{End}
use Rattle.gimple_ir.specs.declared.block.End.TheVariants.{Goto, If, Switch, Return}
use Rattle.std.specs.Str.{bytes_eq}
use Rattle.gimple_core.specs.Layout.{layout_of}
use Rattle.gimple_core.specs.State.{offset_in}
use Rattle.gimple_core.specs.Statements.{is_pointer, is_shift, is_add, is_slot_at}
use Rattle.fix_engine.specs.declared.lifted.Lifted.{Lifted}
use Rattle.fix_engine.specs.declared.lifted.Lifted.TheVariants.{NotReached, Reached}
use Rattle.block_flow.specs.Steps.{where_reached}
use Rattle.value_domain.specs.declared.abs_val.AbsVal.{AbsVal}
use Rattle.value_domain.specs.RangeOperators.{opposite}
use Rattle.value_domain.specs.AbsOperators.{top_of, abs_op_of, abs_cmp_of, abs_convert_of, abs_met, refined_of, brought_into}
use Rattle.value_domain.specs.Holding.{is_equality}
use Rattle.value_domain.specs.Values.{is_none_val}
use Rattle.value_domain.specs.AbsOperators.{exactly_of}

-- What the values in a body depend on: the program's structs and globals and the mode of its arithmetic, the function's locals
-- and registers with the formals first, the limit of constants, the thresholds, and what is given of loads by block and index.
pub record Body : Type 0 where
  pub structs : List StructDef
  pub globals : List Global
  pub mode : Mode
  pub locals : List Decl
  pub registers : List Register
  pub most : ℕ
  pub ends : List ℤ
  pub loads : ℕ → ℕ → Option AbsVal

-- ---- registers by number

-- the number of the first register of a name, or how many there are
abbrev pub place_of : List Register → List ℕ → ℕ
place_of rs name = position_or_len (λ r. bytes_eq r.name name) rs

abbrev pub scalar_or : Option Register → Scalar
scalar_or None = Ptr
scalar_or (Some r) = r.scalar

abbrev pub register_scalar : List Register → List ℕ → Scalar
register_scalar rs name = scalar_or (slice_get rs (place_of rs name))

-- the values of registers after a register got a value; after none the point is not reached
abbrev pub put_value : List Register → List AbsVal → List ℕ → AbsVal → Lifted (List AbsVal)
put_value rs row name v = if is_none_val v then NotReached else Reached (slice_set row (place_of rs name) v)

-- ---- operands

-- a value as one of the scalar; of a name that is no register nothing is known
abbrev pub brought_or : Scalar → Option AbsVal → AbsVal
brought_or scalar None = top_of scalar
brought_or scalar (Some a) = brought_into scalar a

abbrev pub is_local : List Decl → List ℕ → Bool
is_local locals name = list_any (λ d. bytes_eq d.name name) locals

abbrev pub global_place : List Global → List ℕ → Option ℕ
global_place globals name = position (λ g. bytes_eq g.decl.name name) globals

-- the value of the address of a global; that of a local or of a function is no constant
abbrev pub global_value : Body → Scalar → Option ℕ → ℤ → AbsVal
global_value B scalar None offset = top_of scalar
global_value B scalar (Some k) offset = exactly_of scalar B.most B.ends (GlobalConstant k (offset_in offset))

unfoldable pub operand_value : Body → List AbsVal → Scalar → Operand → AbsVal
operand_value B row scalar (Reg name) = brought_or scalar (slice_get row (place_of B.registers name))
operand_value B row scalar (Number z) = exactly_of scalar B.most B.ends (Int z)
operand_value B row scalar Null = exactly_of scalar B.most B.ends NullConstant
operand_value B row scalar (Address name offset) = if is_local B.locals name then top_of scalar else global_value B scalar (global_place B.globals name) offset

-- ---- operators

-- the scalar of the count of a shift
abbrev pub count_scalar : Body → Scalar → Operand → Scalar
count_scalar B scalar (Reg name) = register_scalar B.registers name
count_scalar B scalar x = scalar

-- the scalar of the right side of an operator
abbrev pub right_scalar : Body → Scalar → Op → Operand → Scalar
right_scalar B scalar op right = if is_pointer scalar then I64 else (if is_shift op then count_scalar B scalar right else scalar)

-- to a pointer a number is added, and else no side is a pointer
abbrev pub is_lawful : Op → Scalar → Scalar → Bool
is_lawful op scalar other = if is_pointer scalar then is_add op else not (is_pointer other)

unfoldable pub arith_value : Body → List AbsVal → Scalar → Scalar → Operand → Op → Operand → AbsVal
arith_value B row scalar other left op right =
    if is_lawful op scalar other then abs_op_of B.mode op scalar other B.most B.ends (operand_value B row scalar left) (operand_value B row other right) else top_of scalar

-- the scalar of both sides of a comparison
abbrev pub sides_scalar : Body → Operand → Operand → Scalar
sides_scalar B (Reg name) right = register_scalar B.registers name
sides_scalar B left (Reg name) = register_scalar B.registers name
sides_scalar B left right = Ptr

-- pointers are compared by `==` and `!=` alone
abbrev pub may_compare : Cmp → Scalar → Bool
may_compare cmp scalar = not (is_pointer scalar) || is_equality cmp

unfoldable pub compare_value : Body → List AbsVal → Scalar → Scalar → Operand → Cmp → Operand → AbsVal
compare_value B row target scalar left cmp right =
    if not (is_pointer target) && may_compare cmp scalar then abs_cmp_of target cmp scalar B.most (operand_value B row scalar left) (operand_value B row scalar right) else top_of target

-- the scalar of a register that is converted
abbrev pub source_scalar : Body → Operand → Scalar
source_scalar B (Reg name) = register_scalar B.registers name
source_scalar B x = Ptr

unfoldable pub convert_value : Body → List AbsVal → Scalar → Scalar → Operand → AbsVal
convert_value B row target source from =
    if not (is_pointer target) && not (is_pointer source) then abs_convert_of target source B.most B.ends (operand_value B row source from) else top_of target

-- ---- loads

-- the address of a global; that of a function is no constant
abbrev pub address_constant : Option ℕ → ℤ → Option Constant
address_constant None offset = None
address_constant (Some k) offset = Some (GlobalConstant k (offset_in offset))

-- an item as a constant; without an item a slot has zero or null
abbrev pub item_constant : List Global → Scalar → Option Operand → Option Constant
item_constant globals scalar (Some (Number z)) = Some (Int z)
item_constant globals scalar (Some (Address name offset)) = address_constant (global_place globals name) offset
item_constant globals scalar (Some x) = Some NullConstant
item_constant globals scalar None = Some (if is_pointer scalar then NullConstant else Int (pos 0))

-- of what is no constant nothing is said here
abbrev pub constant_value : Body → Scalar → Option Constant → Option AbsVal
constant_value B scalar None = None
constant_value B scalar (Some c) = Some (exactly_of scalar B.most B.ends c)

-- the slot of this offset and scalar, among the slots of a variable
abbrev pub slot_place : List LayoutSlot → ℤ → Scalar → Option ℕ
slot_place slots offset scalar = position (is_slot_at offset scalar) slots

abbrev pub slot_value : Body → Scalar → Global → Option ℕ → Option AbsVal
slot_value B scalar g None = None
slot_value B scalar g (Some n) = constant_value B scalar (item_constant B.globals scalar (slice_get g.items n))

abbrev pub constant_slot : Body → Scalar → ℤ → Option Global → Option AbsVal
constant_slot B scalar offset None = None
constant_slot B scalar offset (Some g) = if g.constant then slot_value B scalar g (slot_place (layout_of B.structs g.decl).slots offset scalar) else None

-- what a slot of a read-only variable by name holds
unfoldable pub item_value : Body → Scalar → Place → Option AbsVal
item_value B scalar place = of_base place.base
  where
    of_base : Base → Option AbsVal
    of_base (RegBase name) = None
    of_base (Variable name) = if is_local B.locals name then None else constant_slot B scalar place.offset (find (λ g. bytes_eq g.decl.name name) B.globals)

abbrev pub first_value : Option AbsVal → AbsVal → AbsVal
first_value (Some a) b = a
first_value None b = b

-- an item of a read-only variable, else what is given of the load
abbrev pub load_value : Body → ℕ → ℕ → Scalar → Place → AbsVal
load_value B k i scalar place = first_value (item_value B scalar place) (brought_or scalar (B.loads k i))

-- ---- statements

-- the register that a statement assigns
abbrev pub target_of : Stmt → Option (List ℕ)
target_of (Copy to from) = Some to
target_of (Arith to left op right) = Some to
target_of (Compare to left cmp right) = Some to
target_of (Convert to scalar from) = Some to
target_of (Load to scalar place) = Some to
target_of (Store scalar place from) = None
target_of (Call to callee arguments) = to
target_of (Indirect to signature callee arguments) = to
target_of (Get to) = Some to
target_of (Put from) = None
target_of Abort = None

-- what it gets there, of a scalar of the register; of results of calls and of `getint` nothing is known
unfoldable pub result_value : Body → ℕ → ℕ → List AbsVal → Scalar → Stmt → AbsVal
result_value B k i row scalar (Copy to from) = operand_value B row scalar from
result_value B k i row scalar (Arith to left op right) = arith_value B row scalar (right_scalar B scalar op right) left op right
result_value B k i row scalar (Compare to left cmp right) = compare_value B row scalar (sides_scalar B left right) left cmp right
result_value B k i row scalar (Convert to target from) = convert_value B row target (source_scalar B from) from
result_value B k i row scalar (Load to from place) = load_value B k i from place
result_value B k i row scalar x = top_of scalar

abbrev pub is_abort : Stmt → Bool
is_abort Abort = true
is_abort x = false

abbrev pub after_target : Body → ℕ → ℕ → Stmt → List AbsVal → Option (List ℕ) → Lifted (List AbsVal)
after_target B k i x row None = Reached row
after_target B k i x row (Some to) = put_value B.registers row to (result_value B k i row (register_scalar B.registers to) x)

-- the values after a statement; `abort` ends reaching
unfoldable pub after_stmt : Body → ℕ → ℕ → Stmt → List AbsVal → Lifted (List AbsVal)
after_stmt B k i x row = if is_abort x then NotReached else after_target B k i x row (target_of x)

-- ---- ends

-- the comparison with its sides exchanged
abbrev pub turned : Cmp → Cmp
turned Eq = Eq
turned Ne = Ne
turned Lt = Gt
turned Le = Ge
turned Gt = Lt
turned Ge = Le

-- the register that an operand is
abbrev pub register_of : Operand → Option (List ℕ)
register_of (Reg name) = Some name
register_of x = None

-- two registers that get values, or one that gets what both say
abbrev pub both_put : List Register → List AbsVal → List ℕ → List ℕ → AbsVal → AbsVal → Lifted (List AbsVal)
both_put rs row m n a b = if bytes_eq m n then put_value rs row m (abs_met a b) else where_reached (put_value rs row m a) (λ other. put_value rs other n b)

-- what a taken comparison leaves of the registers at its sides, both by the values before it
abbrev pub left_sides : Body → Cmp → List AbsVal → Option (List ℕ) → Option (List ℕ) → AbsVal → AbsVal → Lifted (List AbsVal)
left_sides B cmp row (Some m) (Some n) a b = both_put B.registers row m n (refined_of cmp B.ends a b) (refined_of (turned cmp) B.ends b a)
left_sides B cmp row (Some m) None a b = put_value B.registers row m (refined_of cmp B.ends a b)
left_sides B cmp row None (Some n) a b = put_value B.registers row n (refined_of (turned cmp) B.ends b a)
left_sides B cmp row None None a b = Reached row

unfoldable pub after_compare : Body → Scalar → Cmp → Operand → Operand → List AbsVal → Lifted (List AbsVal)
after_compare B scalar cmp left right row =
    if may_compare cmp scalar then left_sides B cmp row (register_of left) (register_of right) (operand_value B row scalar left) (operand_value B row scalar right) else Reached row

-- without the constants of the cases
abbrev pub without_cases : Body → Scalar → List Case → AbsVal → AbsVal
without_cases B scalar [] a = a
without_cases B scalar (c ∷ cs) a = without_cases B scalar cs (refined_of Ne B.ends a (exactly_of scalar B.most B.ends (Int c.value)))

abbrev pub case_left : Body → Scalar → List Case → AbsVal → Option Case → AbsVal
case_left B scalar cases a None = without_cases B scalar cases a
case_left B scalar cases a (Some c) = refined_of Eq B.ends a (exactly_of scalar B.most B.ends (Int c.value))

abbrev pub switch_left : Body → List Case → Option Case → List AbsVal → Option (List ℕ) → Lifted (List AbsVal)
switch_left B cases taken row None = Reached row
switch_left B cases taken row (Some name) =
    put_value B.registers row name (case_left B (register_scalar B.registers name) cases (operand_value B row (register_scalar B.registers name) (Reg name)) taken)

-- the case of this number, or the default
unfoldable pub after_switch : Body → Operand → List Case → Option Case → List AbsVal → Lifted (List AbsVal)
after_switch B on cases taken row = switch_left B cases taken row (register_of on)

-- the values where an end takes its branch of this number, counted from 0
unfoldable pub after_end : Body → End → ℕ → List AbsVal → Lifted (List AbsVal)
after_end B (Goto label) slot row = Reached row
after_end B (If left cmp right hit miss) slot row = after_compare B (sides_scalar B left right) (if slot == 0 then cmp else opposite cmp) left right row
after_end B (Switch on cases other) slot row = after_switch B on cases (slice_get cases slot) row
after_end B (Return x) slot row = Reached row
