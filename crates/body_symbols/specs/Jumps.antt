-- Jump functions: what the arguments of a call are in terms of the formals of the caller.
use Rattle.std.specs.Prelude.{ℕ, ℤ, pos, if◌then◌else◌, List, [], map, Option, Some, None, slice_get}
use Rattle.std.specs.Ordering.{int_eq}
use Rattle.gimple_ir.specs.declared.operand.Operand.{Operand}
use Rattle.gimple_ir.specs.declared.declarations.Decl.{Decl}
use Rattle.gimple_ir.specs.declared.declarations.Global.{Global}
use Rattle.gimple_ir.specs.declared.declarations.Register.{Register}
use Rattle.gimple_ir.specs.declared.point.Point.{Point}
use Rattle.gimple_ir.specs.declared.statement.Stmt.{Stmt}
use Rattle.gimple_ir.specs.declared.statement.Stmt.TheVariants.{Call, Indirect}
use Rattle.gimple_ir.specs.declared.block.Block.{Block}
use Rattle.gimple_ir.specs.declared.program.Function.{Function}
use Rattle.gimple_ir.specs.declared.program.Program.{Program}
use Rattle.fix_engine.specs.declared.lifted.Lifted.{Lifted}
use Rattle.body_symbols.specs.declared.symbol.Symbol.{Symbol}
use Rattle.body_symbols.specs.declared.symbol.Symbol.TheVariants.{Const, Formal, FormalOp, FormalAt, VariableAt, Unknown}
use Rattle.body_symbols.specs.declared.jumps.JumpFn.{JumpFn}
use Rattle.body_symbols.specs.declared.jumps.JumpFn.TheVariants.{Unknown as UnknownJump, Const as ConstJump, Pass, Ancestor, Address}
use Rattle.body_symbols.specs.Found.{Found, symbol_in, found_symbol}

-- a pointer formal moved by nothing is passed on as it is
abbrev pub ancestor : ℕ → ℤ → JumpFn
ancestor i o = if int_eq o (pos 0) then Pass i None (pos 0) else Ancestor i o

-- the jump function of an argument with this symbol
abbrev pub jump_of : Symbol → JumpFn
jump_of (Const c) = ConstJump c
jump_of (Formal i) = Pass i None (pos 0)
jump_of (FormalOp i op z) = Pass i (Some op) z
jump_of (FormalAt i (Some o)) = ancestor i o
jump_of (FormalAt i None) = UnknownJump
jump_of (VariableAt v (Some o)) = Address v o
jump_of (VariableAt v None) = UnknownJump
jump_of Unknown = UnknownJump

-- where symbols do not reach the call nothing is known
abbrev pub jump_or : Option Symbol → JumpFn
jump_or None = UnknownJump
jump_or (Some a) = jump_of a

-- ---- the arguments of the call at a point

abbrev pub arguments_of : Stmt → Option (List Operand)
arguments_of (Call to callee xs) = Some xs
arguments_of (Indirect to signature callee xs) = Some xs
arguments_of x = None

abbrev pub statement_of : Option Block → ℕ → Option Stmt
statement_of None i = None
statement_of (Some b) i = slice_get b.body i

abbrev pub block_of : Option Function → ℕ → Option Block
block_of None k = None
block_of (Some f) k = slice_get f.blocks k

abbrev pub statement_at : Program → Point → Option Stmt
statement_at p at = statement_of (block_of (slice_get p.functions at.function) at.block) at.index

abbrev pub arguments_in : Option Stmt → Option (List Operand)
arguments_in None = None
arguments_in (Some x) = arguments_of x

abbrev pub arguments_or : Option (List Operand) → List Operand
arguments_or None = []
arguments_or (Some xs) = xs

-- one for each argument of the call at a point
abbrev pub jumps_at : List Global → List Decl → Found → Point → List Operand → List JumpFn
jumps_at globals locals t at xs = map (λ x. jump_or (found_symbol globals locals t at x)) xs

abbrev pub jumps_in : Program → List Global → List Decl → Found → Point → List JumpFn
jumps_in p globals locals t at = jumps_at globals locals t at (arguments_or (arguments_in (statement_at p at)))

-- the same where the registers have these symbols
abbrev pub jumps_by : List Global → List Decl → List Register → Lifted (List Symbol) → List Operand → List JumpFn
jumps_by globals locals registers row xs = map (λ x. jump_or (symbol_in globals locals registers row x)) xs
