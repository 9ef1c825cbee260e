-- What statements make of the symbols of a function's registers.
use Rattle.std.specs.Prelude.{ℕ, ◌+◌, ℤ, pos, ◌+ℤ◌, if◌then◌else◌, nat_lt, List, [], ◌∷◌, ◌++◌, length, Option, Some, None, Result, Ok, Err, slice_get, slice_set, position}
use Rattle.std.specs.List.{position_or_len}
use Rattle.std.specs.Str.{bytes_eq}
use Rattle.gimple_ir.specs.declared.scalar.Scalar.{Scalar}
use Rattle.gimple_ir.specs.declared.scalar.Scalar.TheVariants.{I64}
use Rattle.gimple_ir.specs.declared.scalar.Mode.{Mode}
use Rattle.gimple_ir.specs.declared.scalar.Op.{Op}
use Rattle.gimple_ir.specs.declared.scalar.Cmp.{Cmp}
use Rattle.gimple_ir.specs.declared.value.Value.{Value}
use Rattle.gimple_ir.specs.declared.value.Value.TheVariants.{Int as IntValue, Null as NullValue, At, Code}
use Rattle.gimple_ir.specs.declared.value.Object.TheVariants.{Global as GlobalObject, Local as LocalObject}
use Rattle.gimple_ir.specs.declared.value.TrapKind.{TrapKind}
use Rattle.gimple_ir.specs.declared.value.Constant.{Constant}
use Rattle.gimple_ir.specs.declared.value.Constant.TheVariants.{Int, Null, Global as GlobalAddress}
use Rattle.gimple_ir.specs.declared.operand.Operand.{Operand}
use Rattle.gimple_ir.specs.declared.operand.Operand.TheVariants.{Reg, Number, Null as NullOperand, Address}
use Rattle.gimple_ir.specs.declared.declarations.Decl.{Decl}
use Rattle.gimple_ir.specs.declared.declarations.Global.{Global as GlobalDef}
use Rattle.gimple_ir.specs.declared.declarations.Register.{Register}
use Rattle.gimple_ir.specs.declared.statement.Stmt.{Stmt}
use Rattle.gimple_ir.specs.declared.statement.Stmt.TheVariants.{Copy, Arith, Compare, Convert, Load, Store, Call, Indirect, Get, Put, Abort}
use Rattle.gimple_ir.specs.declared.program.Function.{Function}
use Rattle.gimple_core.specs.Sealed.{Sealed}
use Rattle.gimple_core.specs.Operators.{wrapped}
use Rattle.gimple_core.specs.State.{offset_in, scalar_or_pointer}
use Rattle.gimple_core.specs.Run.{any_number, arith_of, compares, one_if}
use Rattle.gimple_core.specs.Statements.{is_pointer}
use Rattle.fix_engine.specs.declared.lifted.Lifted.{Lifted}
use Rattle.fix_engine.specs.declared.lifted.Lifted.TheVariants.{NotReached, Reached}
use Rattle.block_flow.specs.Steps.{BodySteps}
use Rattle.body_symbols.specs.declared.symbol.Variable.TheVariants.{Global, Local}
use Rattle.body_symbols.specs.declared.symbol.Symbol.{Symbol}
use Rattle.body_symbols.specs.declared.symbol.Symbol.TheVariants.{Const, Formal, FormalOp, FormalAt, VariableAt, Unknown}
use Rattle.body_symbols.specs.declared.change.Change.{Change}
use Rattle.body_symbols.specs.declared.change.Change.TheVariants.{Nothing, Sets, Ends}

-- What the symbols in a body depend on: the program's globals and the mode of its arithmetic, and the function's locals and
-- registers, of which the first ones, as many as there are formals, are the formals.
pub record Body : Type 0 where
  pub globals : List GlobalDef
  pub mode : Mode
  pub locals : List Decl
  pub registers : List Register
  pub formals : ℕ

abbrev pub body_of : Sealed → Function → Body
body_of p f = record { globals = p.program.globals; mode = p.mode; locals = f.locals; registers = f.params ++ f.registers; formals = length f.params }

-- ---- operands

-- the number of the first register of a name, or how many there are
abbrev pub place_of : List Register → List ℕ → ℕ
place_of rs name = position_or_len (λ r. bytes_eq r.name name) rs

-- a local hides a global of its name, and what is neither is a function
abbrev pub global_symbol : Option ℕ → ℤ → Symbol
global_symbol None offset = Unknown
global_symbol (Some k) offset = VariableAt (Global k) (Some (offset_in offset))

abbrev pub local_symbol : Option ℕ → ℤ → Symbol → Symbol
local_symbol None offset other = other
local_symbol (Some k) offset other = VariableAt (Local k) (Some (offset_in offset))

unfoldable pub address_symbol : List GlobalDef → List Decl → List ℕ → ℤ → Symbol
address_symbol globals locals name offset =
    local_symbol (position (λ d. bytes_eq d.name name) locals) offset (global_symbol (position (λ g. bytes_eq g.decl.name name) globals) offset)

abbrev pub symbol_or : Option Symbol → Symbol
symbol_or None = Unknown
symbol_or (Some a) = a

-- an operand, by the symbols of the registers
unfoldable pub operand_symbol : Body → List Symbol → Operand → Symbol
operand_symbol B row (Reg name) = symbol_or (slice_get row (place_of B.registers name))
operand_symbol B row (Number z) = Const (Int z)
operand_symbol B row NullOperand = Const Null
operand_symbol B row (Address name offset) = address_symbol B.globals B.locals name offset

-- ---- operators

abbrev pub value_of_constant : Constant → Value
value_of_constant (Int z) = IntValue z
value_of_constant Null = NullValue
value_of_constant (GlobalAddress k offset) = At (GlobalObject k) offset

-- a value as a constant, if it is one
abbrev pub symbol_of_value : Value → Symbol
symbol_of_value (IntValue z) = Const (Int z)
symbol_of_value NullValue = Const Null
symbol_of_value (At (GlobalObject k) offset) = Const (GlobalAddress k offset)
symbol_of_value (At (LocalObject serial k) offset) = Unknown
symbol_of_value (Code name) = Unknown

-- what an operator makes of two constants; behind a trap no point is reached
abbrev pub evaluated : Result Value TrapKind → Lifted Symbol
evaluated (Ok v) = Reached (symbol_of_value v)
evaluated (Err kind) = NotReached

-- a known offset and a constant give a known offset, modulo 2^64
abbrev pub moved_offset : Option ℤ → Symbol → Option ℤ
moved_offset None r = None
moved_offset (Some o) (Const d) = Some (wrapped I64 (o +ℤ any_number (value_of_constant d)))
moved_offset (Some o) r = None

-- a pointer moved by some bytes; null stays
abbrev pub moved_symbol : Symbol → Symbol → Symbol
moved_symbol (Const Null) r = Const Null
moved_symbol (FormalAt i o) r = FormalAt i (moved_offset o r)
moved_symbol (VariableAt v o) r = VariableAt v (moved_offset o r)
moved_symbol l r = Unknown

-- an argument under an operator with a number at its right
abbrev pub operated_symbol : Symbol → Op → Symbol → Symbol
operated_symbol (Formal i) op (Const (Int z)) = FormalOp i op z
operated_symbol l op r = Unknown

abbrev pub other_symbol : Scalar → Symbol → Op → Symbol → Symbol
other_symbol scalar l op r = if is_pointer scalar then moved_symbol l r else operated_symbol l op r

-- an operator whose result has this scalar
unfoldable pub arith_symbol : Mode → Scalar → Symbol → Op → Symbol → Lifted Symbol
arith_symbol mode scalar (Const c) op (Const d) = evaluated (arith_of mode scalar (value_of_constant c) op (value_of_constant d))
arith_symbol mode scalar l op r = Reached (other_symbol scalar l op r)

-- a comparison
unfoldable pub compare_symbol : Symbol → Cmp → Symbol → Symbol
compare_symbol (Const c) cmp (Const d) = symbol_of_value (one_if (compares (value_of_constant c) cmp (value_of_constant d)))
compare_symbol l cmp r = Unknown

-- ---- statements

-- the scalar of the first register of a name
abbrev pub register_scalar : List Register → List ℕ → Scalar
register_scalar rs name = scalar_or_pointer (slice_get rs (place_of rs name))

abbrev pub set_symbol : Body → List ℕ → Symbol → Change
set_symbol B to a = Sets (place_of B.registers to) a

abbrev pub set_reached : Body → List ℕ → Lifted Symbol → Change
set_reached B to NotReached = Ends
set_reached B to (Reached a) = set_symbol B to a

abbrev pub set_result : Body → Option (List ℕ) → Change
set_result B None = Nothing
set_result B (Some to) = set_symbol B to Unknown

-- what a statement changes in the symbols of the registers
unfoldable pub change_of : Body → List Symbol → Stmt → Change
change_of B row (Copy to from) = set_symbol B to (operand_symbol B row from)
change_of B row (Arith to left op right) = set_reached B to (arith_symbol B.mode (register_scalar B.registers to) (operand_symbol B row left) op (operand_symbol B row right))
change_of B row (Compare to left cmp right) = set_symbol B to (compare_symbol (operand_symbol B row left) cmp (operand_symbol B row right))
change_of B row (Convert to scalar from) = set_symbol B to Unknown
change_of B row (Load to scalar place) = set_symbol B to Unknown
change_of B row (Store scalar place from) = Nothing
change_of B row (Call to callee arguments) = set_result B to
change_of B row (Indirect to signature callee arguments) = set_result B to
change_of B row (Get to) = set_symbol B to Unknown
change_of B row (Put from) = Nothing
change_of B row Abort = Ends

-- the symbols after a change
abbrev pub changed : List Symbol → Change → Lifted (List Symbol)
changed row Nothing = Reached row
changed row (Sets place a) = Reached (slice_set row place a)
changed row Ends = NotReached

-- ---- the entry

-- an integer formal is the argument, a pointer formal the argument moved by nothing
abbrev pub formal_symbol : ℕ → Scalar → Symbol
formal_symbol k scalar = if is_pointer scalar then FormalAt k (Some (pos 0)) else Formal k

-- zero or null
abbrev pub zero_symbol : Scalar → Symbol
zero_symbol scalar = Const (if is_pointer scalar then Null else Int (pos 0))

-- the symbols of registers from a number on
abbrev pub first_symbols : ℕ → ℕ → List Register → List Symbol
first_symbols formals k [] = []
first_symbols formals k (r ∷ rs) = (if nat_lt k formals then formal_symbol k r.scalar else zero_symbol r.scalar) ∷ first_symbols formals (k + 1) rs

-- ---- the analysis: a value is a symbol for each register, the formals first; an end changes nothing
abbrev pub symbol_steps : Body → BodySteps (List Symbol)
symbol_steps B = record {
  begin = Reached (first_symbols B.formals 0 B.registers);
  statement = λ k i x row. changed row (change_of B row x);
  branch = λ k e slot row. Reached row;
}
