-- The state of a run.
use Rattle.std.specs.Prelude.{find, position, unwrap_or, slice_get, slice_set, ◌++◌, ℕ, ℤ, pos, Bool, true, false, if◌then◌else◌, List, Option, Some, None}
use Rattle.gimple_ir.specs.declared.scalar.Scalar.{Scalar}
use Rattle.gimple_ir.specs.declared.scalar.Scalar.TheVariants.{I64, Ptr}
use Rattle.gimple_ir.specs.declared.value.Value.{Value}
use Rattle.gimple_ir.specs.declared.value.Value.TheVariants.{Int, Null, At, Code}
use Rattle.gimple_ir.specs.declared.scalar.Mode.{Mode}
use Rattle.gimple_ir.specs.declared.declarations.Decl.{Decl}
use Rattle.gimple_ir.specs.declared.declarations.Global.{Global}
use Rattle.gimple_ir.specs.declared.declarations.Register.{Register}
use Rattle.gimple_ir.specs.declared.statement.Stmt.{Stmt}
use Rattle.gimple_ir.specs.declared.block.End.{End}
use Rattle.gimple_ir.specs.declared.program.Function.{Function}
use Rattle.gimple_core.specs.Sealed.{Sealed}
use Rattle.std.specs.Str.{bytes_eq}
use Rattle.gimple_core.specs.Operators.{in_scalar}
use Rattle.gimple_core.specs.Memory.{Memory}

-- Where a call that has not returned stands. `rest` is what is left of the body of its block, and `end` is the block's
-- end; `block` and `index` say the same by numbers, for the events of a trace. `takes` is the caller's register for the
-- result, by its position there.
pub record Control : Type 0 where
  pub function : Function
  pub block : ℕ
  pub index : ℕ
  pub rest : List Stmt
  pub end : End
  pub serial : ℕ
  pub takes : Option ℕ

-- a call that waits for another one; the registers are values by position: the formals, then the other registers
pub record Frame : Type 0 where
  pub control : Control
  pub registers : List Value

-- what a statement that is no call can change: the running frame's registers, the memory, the place in the input, the output
pub record World : Type 0 where
  pub registers : List Value
  pub memory : Memory
  pub input : List ℤ
  pub taken : ℕ
  pub output : List ℕ

pub record State : Type 0 where
  pub top : Control
  pub below : List Frame
  pub world : World
  pub next : ℕ

-- what the names of a frame mean: its registers with their scalars, and its locals, which are objects of its serial
pub record Scope : Type 0 where
  pub declared : List Register
  pub locals : List Decl
  pub serial : ℕ

-- the registers of a function by position: its formals, then the others
abbrev pub registers_of : Function → List Register
registers_of f = f.params ++ f.registers

abbrev pub scope_of : Control → Scope
scope_of c = record { declared = registers_of c.function; locals = c.function.locals; serial = c.serial }

-- what statements need of a program: its globals, and the mode of its arithmetic
pub record Setting : Type 0 where
  pub globals : List Global
  pub mode : Mode

abbrev pub setting_of : Sealed → Setting
setting_of p = record { globals = p.program.globals; mode = p.mode }

-- zero or null
abbrev pub zero_of : Scalar → Value
zero_of Ptr = Null
zero_of scalar = Int (pos 0)

-- the position of a register
unfoldable pub register_place : List Register → List ℕ → Option ℕ
register_place declared name = position (λ r. bytes_eq r.name name) declared

abbrev pub value_at : List Value → Option ℕ → Value
value_at values None = Null
value_at values (Some k) = unwrap_or (slice_get values k) Null

-- what a register holds
unfoldable pub value_in : Scope → List Value → List ℕ → Value
value_in scope values name = value_at values (register_place scope.declared name)

abbrev pub scalar_or_pointer : Option Register → Scalar
scalar_or_pointer None = Ptr
scalar_or_pointer (Some r) = r.scalar

-- the scalar of a register
unfoldable pub scalar_in : Scope → List ℕ → Scalar
scalar_in scope name = scalar_or_pointer (find (λ r. bytes_eq r.name name) scope.declared)

-- the registers with a value put at a position
abbrev pub put_at : List Value → Option ℕ → Value → List Value
put_at values None v = values
put_at values (Some k) v = slice_set values k v

-- the registers after an assignment
abbrev pub assigned : Scope → List Value → List ℕ → Value → List Value
assigned scope values name v = put_at values (register_place scope.declared name) v

-- a value as a number of a scalar: what is none counts as 0, which no program without a type fault meets
unfoldable pub number_in : Scalar → Value → ℤ
number_in scalar (Int z) = if in_scalar scalar z then z else pos 0
number_in scalar Null = pos 0
number_in scalar (At object offset) = pos 0
number_in scalar (Code name) = pos 0

-- an offset, which lies in i64 in every program without a type fault
abbrev pub offset_in : ℤ → ℤ
offset_in z = number_in I64 (Int z)

-- the value is of the scalar: a number in range for an integer scalar; null, a function, or a pointer whose offset is an i64 for `ptr`
abbrev pub is_of : Scalar → Value → Bool
is_of Ptr (Int z) = false
is_of Ptr Null = true
is_of Ptr (At object offset) = in_scalar I64 offset
is_of Ptr (Code name) = true
is_of scalar (Int z) = in_scalar scalar z
is_of scalar Null = false
is_of scalar (At object offset) = false
is_of scalar (Code name) = false
