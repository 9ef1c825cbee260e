-- Functions with positions in the place of names: of registers, locals and blocks.
use Rattle.std.specs.Prelude.{ℕ, ◌==◌, ℤ, position, List, [], ◌∷◌, map, Option, Some, None}
use Rattle.std.specs.List.{position_or_len}
use Rattle.std.specs.Str.{bytes_eq}
use Rattle.gimple_ir.specs.declared.scalar.Scalar.{Scalar}
use Rattle.gimple_ir.specs.declared.scalar.Op.{Op}
use Rattle.gimple_ir.specs.declared.scalar.Cmp.{Cmp}
use Rattle.gimple_ir.specs.declared.operand.Operand.{Operand}
use Rattle.gimple_ir.specs.declared.operand.Operand.TheVariants as operand
use Rattle.gimple_ir.specs.declared.operand.Base.{Base}
use Rattle.gimple_ir.specs.declared.operand.Base.TheVariants as base
use Rattle.gimple_ir.specs.declared.statement.Signature.{Signature}
use Rattle.gimple_ir.specs.declared.statement.Stmt.{Stmt}
use Rattle.gimple_ir.specs.declared.statement.Stmt.TheVariants as stmt
use Rattle.gimple_ir.specs.declared.block.Case.{Case}
use Rattle.gimple_ir.specs.declared.block.End.{End}
use Rattle.gimple_ir.specs.declared.block.End.TheVariants as end
use Rattle.gimple_ir.specs.declared.block.Block.{Block}
use Rattle.gimple_ir.specs.declared.declarations.Shape.{Shape}
use Rattle.gimple_ir.specs.declared.declarations.Decl.{Decl}
use Rattle.gimple_ir.specs.declared.declarations.Register.{Register}
use Rattle.gimple_ir.specs.declared.program.Function.{Function}
use Rattle.gimple_ir.specs.declared.program.Program.{Program}
use Rattle.gimple_core.specs.State.{registers_of, register_place}

-- a register or a label by its position, if there is one
abbrev pub Spot : Type 0
Spot = Option ℕ

-- what a name means in memory: a local by its position, else the global or function of the name
pub data Seen : Type 0 where
  Own : ℕ → Seen
  Outer : List ℕ → Seen

-- an operand without names of its function; of an address what is seen, and the offset
pub data PlacedOperand : Type 0 where
  Reg : Spot → PlacedOperand
  Number : ℤ → PlacedOperand
  Null : PlacedOperand
  Address : Seen → ℤ → PlacedOperand

-- what an access starts from, without names of its function
pub data PlacedBase : Type 0 where
  RegBase : Spot → PlacedBase
  Variable : Seen → PlacedBase

-- A statement without names of its function, its parts in their order; of an access the base and the offset. A call by name
-- says nothing of its callee.
pub data PlacedStmt : Type 0 where
  Copy : Spot → PlacedOperand → PlacedStmt
  Arith : Spot → PlacedOperand → Op → PlacedOperand → PlacedStmt
  Compare : Spot → PlacedOperand → Cmp → PlacedOperand → PlacedStmt
  Convert : Spot → Scalar → PlacedOperand → PlacedStmt
  Load : Spot → Scalar → PlacedBase → ℤ → PlacedStmt
  Store : Scalar → PlacedBase → ℤ → PlacedOperand → PlacedStmt
  Call : Option Spot → List PlacedOperand → PlacedStmt
  Indirect : Option Spot → Signature → Spot → List PlacedOperand → PlacedStmt
  Get : Spot → PlacedStmt
  Put : PlacedOperand → PlacedStmt
  Abort : PlacedStmt

-- a case of a `switch`, which leads to a block by its position
pub record PlacedCase : Type 0 where
  pub value : ℤ
  pub target : Spot

-- how a block ends, without names of its function, and with blocks by their positions
pub data PlacedEnd : Type 0 where
  Goto : Spot → PlacedEnd
  If : PlacedOperand → Cmp → PlacedOperand → Spot → Spot → PlacedEnd
  Switch : PlacedOperand → List PlacedCase → Spot → PlacedEnd
  Return : Option PlacedOperand → PlacedEnd

-- a block without its label
pub record PlacedBlock : Type 0 where
  pub body : List PlacedStmt
  pub end : PlacedEnd

-- a local without its name
pub record PlacedLocal : Type 0 where
  pub shape : Shape
  pub length : Option ℕ

-- a function without names of its own, and without its callees
pub record PlacedFunction : Type 0 where
  pub params : List Scalar
  pub result : Option Scalar
  pub locals : List PlacedLocal
  pub registers : List Scalar
  pub blocks : List PlacedBlock

-- ---- from names to positions

abbrev pub seen_by : List ℕ → Option ℕ → Seen
seen_by name None = Outer name
seen_by name (Some k) = Own k

-- a variable of a function
abbrev pub seen_in : Function → List ℕ → Seen
seen_in f name = seen_by name (position (λ d. bytes_eq d.name name) f.locals)

-- a register of a function: the formals, then the other registers
abbrev pub spot_in : Function → List ℕ → Spot
spot_in f name = register_place (registers_of f) name

-- the first block of a label
abbrev pub label_in : Function → ℕ → Spot
label_in f label = position (λ b. b.label == label) f.blocks

abbrev pub placed_operand : Function → Operand → PlacedOperand
placed_operand f (operand.Reg name) = Reg (spot_in f name)
placed_operand f (operand.Number z) = Number z
placed_operand f operand.Null = Null
placed_operand f (operand.Address name offset) = Address (seen_in f name) offset

abbrev pub placed_base : Function → Base → PlacedBase
placed_base f (base.Reg name) = RegBase (spot_in f name)
placed_base f (base.Variable name) = Variable (seen_in f name)

abbrev pub placed_operands : Function → List Operand → List PlacedOperand
placed_operands f xs = map (placed_operand f) xs

abbrev pub placed_target : Function → Option (List ℕ) → Option Spot
placed_target f None = None
placed_target f (Some name) = Some (spot_in f name)

unfoldable pub placed_stmt : Function → Stmt → PlacedStmt
placed_stmt f (stmt.Copy to from) = Copy (spot_in f to) (placed_operand f from)
placed_stmt f (stmt.Arith to left op right) = Arith (spot_in f to) (placed_operand f left) op (placed_operand f right)
placed_stmt f (stmt.Compare to left cmp right) = Compare (spot_in f to) (placed_operand f left) cmp (placed_operand f right)
placed_stmt f (stmt.Convert to scalar from) = Convert (spot_in f to) scalar (placed_operand f from)
placed_stmt f (stmt.Load to scalar place) = Load (spot_in f to) scalar (placed_base f place.base) place.offset
placed_stmt f (stmt.Store scalar place from) = Store scalar (placed_base f place.base) place.offset (placed_operand f from)
placed_stmt f (stmt.Call to callee arguments) = Call (placed_target f to) (placed_operands f arguments)
placed_stmt f (stmt.Indirect to signature callee arguments) = Indirect (placed_target f to) signature (spot_in f callee) (placed_operands f arguments)
placed_stmt f (stmt.Get to) = Get (spot_in f to)
placed_stmt f (stmt.Put from) = Put (placed_operand f from)
placed_stmt f stmt.Abort = Abort

abbrev pub placed_case : Function → Case → PlacedCase
placed_case f c = record { value = c.value; target = label_in f c.target }

abbrev pub placed_result : Function → Option Operand → Option PlacedOperand
placed_result f None = None
placed_result f (Some x) = Some (placed_operand f x)

unfoldable pub placed_end : Function → End → PlacedEnd
placed_end f (end.Goto to) = Goto (label_in f to)
placed_end f (end.If left cmp right hit miss) = If (placed_operand f left) cmp (placed_operand f right) (label_in f hit) (label_in f miss)
placed_end f (end.Switch on cases other) = Switch (placed_operand f on) (map (placed_case f) cases) (label_in f other)
placed_end f (end.Return x) = Return (placed_result f x)

abbrev pub placed_block : Function → Block → PlacedBlock
placed_block f b = record { body = map (placed_stmt f) b.body; end = placed_end f b.end }

abbrev pub placed_local : Decl → PlacedLocal
placed_local d = record { shape = d.shape; length = d.length }

abbrev pub scalar_of : Register → Scalar
scalar_of r = r.scalar

abbrev pub placed_function : Function → PlacedFunction
placed_function f = record {
  params = map scalar_of f.params;
  result = f.result;
  locals = map placed_local f.locals;
  registers = map scalar_of f.registers;
  blocks = map (placed_block f) f.blocks;
}

-- ---- callees by name

-- the number of the first function of a name, or how many functions there are if no function has it
unfoldable pub number_of : Program → List ℕ → ℕ
number_of p name = position_or_len (λ f. bytes_eq f.name name) p.functions

abbrev pub with_callee : Program → Stmt → List ℕ → List ℕ
with_callee p (stmt.Call to callee arguments) rest = number_of p callee ∷ rest
with_callee p x rest = rest

abbrev pub callees_in_body : Program → List Stmt → List ℕ → List ℕ
callees_in_body p [] rest = rest
callees_in_body p (x ∷ xs) rest = with_callee p x (callees_in_body p xs rest)

abbrev pub callees_in_blocks : Program → List Block → List ℕ
callees_in_blocks p [] = []
callees_in_blocks p (b ∷ bs) = callees_in_body p b.body (callees_in_blocks p bs)

-- the functions that a function calls by name, by their numbers, in the order of the calls
unfoldable pub callees_of : Program → Function → List ℕ
callees_of p f = callees_in_blocks p f.blocks
