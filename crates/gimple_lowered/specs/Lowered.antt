-- The lowered form of a function: positions in place of names, and addresses worked out.
use Rattle.std.specs.Prelude.{ℕ, ℤ, pos, ◌+ℤ◌, List, map, Option, Some, None, position}
use Rattle.std.specs.Str.{bytes_eq}
use Rattle.gimple_ir.specs.declared.scalar.Scalar.TheVariants.{I64}
use Rattle.gimple_ir.specs.declared.value.Value.TheVariants as value
use Rattle.gimple_ir.specs.declared.operand.Operand.{Operand}
use Rattle.gimple_ir.specs.declared.operand.Operand.TheVariants as operand
use Rattle.gimple_ir.specs.declared.operand.Base.{Base}
use Rattle.gimple_ir.specs.declared.operand.Base.TheVariants as base
use Rattle.gimple_ir.specs.declared.operand.Place.{Place}
use Rattle.gimple_ir.specs.declared.declarations.Global.{Global}
use Rattle.gimple_ir.specs.declared.statement.Stmt.{Stmt}
use Rattle.gimple_ir.specs.declared.statement.Stmt.TheVariants as stmt
use Rattle.gimple_ir.specs.declared.block.Case.{Case}
use Rattle.gimple_ir.specs.declared.block.End.{End}
use Rattle.gimple_ir.specs.declared.block.End.TheVariants as end
use Rattle.gimple_ir.specs.declared.block.Block.{Block}
use Rattle.gimple_ir.specs.declared.program.Function.{Function}
use Rattle.gimple_core.specs.Operators.{wrapped}
use Rattle.gimple_core.specs.Memory.{moved_by}
use Rattle.gimple_core.specs.State.{register_place, offset_in}
use Rattle.gimple_core.specs.Run.{address_of_global}
use Rattle.gimple_lowered.specs.declared.types.Source.{Source}
use Rattle.gimple_lowered.specs.declared.types.Source.TheVariants.{Register, Constant, Own}
use Rattle.gimple_lowered.specs.declared.types.Pointer.{Pointer}
use Rattle.gimple_lowered.specs.declared.types.Pointer.TheVariants.{Moved, Fixed}
use Rattle.gimple_lowered.specs.declared.types.Instruction.{Instruction}
use Rattle.gimple_lowered.specs.declared.types.Instruction.TheVariants.{Copy, Arith, Compare, Convert, Load, Store, Call, Indirect, Get, Put, Abort}
use Rattle.gimple_lowered.specs.declared.types.Choice.{Choice}
use Rattle.gimple_lowered.specs.declared.types.Ending.{Ending}
use Rattle.gimple_lowered.specs.declared.types.Ending.TheVariants.{Goto, If, Switch, Return}
use Rattle.gimple_lowered.specs.declared.types.Piece.{Piece}
use Rattle.gimple_lowered.specs.Names.{Names, names_of, scalar_named, taking, function_place, block_place}

-- the address of a local, moved by some bytes, or that of the global or function of a name
abbrev pub address_by : List Global → List ℕ → Option ℕ → ℤ → Source
address_by globals name (Some k) by = Own k (wrapped I64 (pos 0 +ℤ by))
address_by globals name None by = Constant (moved_by (address_of_global globals name) by)

unfoldable pub address_source : Names → List ℕ → ℤ → Source
address_source n name by = address_by n.globals name (position (λ d. bytes_eq d.name name) n.locals) by

abbrev pub source_of : Names → Operand → Source
source_of n (operand.Reg name) = Register (register_place n.registers name)
source_of n (operand.Number z) = Constant (value.Int z)
source_of n operand.Null = Constant value.Null
source_of n (operand.Address name offset) = address_source n name (offset_in offset)

abbrev pub sources_of : Names → List Operand → List Source
sources_of n xs = map (source_of n) xs

abbrev pub pointer_by : Names → Base → ℤ → Pointer
pointer_by n (base.Reg name) by = Moved (register_place n.registers name) by
pointer_by n (base.Variable name) by = Fixed (address_source n name by)

abbrev pub pointer_of : Names → Place → Pointer
pointer_of n place = pointer_by n place.base (offset_in place.offset)

unfoldable pub instruction_of : Names → Stmt → Instruction
instruction_of n (stmt.Copy to from) = Copy (register_place n.registers to) (source_of n from)
instruction_of n (stmt.Arith to left op right) = Arith (register_place n.registers to) (scalar_named n to) (source_of n left) op (source_of n right)
instruction_of n (stmt.Compare to left cmp right) = Compare (register_place n.registers to) (source_of n left) cmp (source_of n right)
instruction_of n (stmt.Convert to scalar from) = Convert (register_place n.registers to) scalar (source_of n from)
instruction_of n (stmt.Load to scalar place) = Load (register_place n.registers to) scalar (pointer_of n place)
instruction_of n (stmt.Store scalar place from) = Store scalar (pointer_of n place) (source_of n from)
instruction_of n (stmt.Call to callee arguments) = Call (taking n to) (function_place n callee) (sources_of n arguments)
instruction_of n (stmt.Indirect to signature callee arguments) = Indirect (taking n to) signature (register_place n.registers callee) (sources_of n arguments)
instruction_of n (stmt.Get to) = Get (register_place n.registers to)
instruction_of n (stmt.Put from) = Put (source_of n from)
instruction_of n stmt.Abort = Abort

abbrev pub instructions_of : Names → List Stmt → List Instruction
instructions_of n xs = map (instruction_of n) xs

abbrev pub choice_of : Names → Case → Choice
choice_of n c = record { value = c.value; target = block_place n c.target }

abbrev pub choices_of : Names → List Case → List Choice
choices_of n cs = map (choice_of n) cs

unfoldable pub ending_of : Names → End → Ending
ending_of n (end.Goto label) = Goto (block_place n label)
ending_of n (end.If left cmp right this that) = If (source_of n left) cmp (source_of n right) (block_place n this) (block_place n that)
ending_of n (end.Switch on cases other) = Switch (source_of n on) (choices_of n cases) (block_place n other)
ending_of n (end.Return None) = Return None
ending_of n (end.Return (Some x)) = Return (Some (source_of n x))

abbrev pub piece_of : Names → Block → Piece
piece_of n b = record { body = instructions_of n b.body; end = ending_of n b.end }

-- the code of blocks
abbrev pub pieces_of : Names → List Block → List Piece
pieces_of n bs = map (piece_of n) bs

-- the code of a function
unfoldable pub code_of : List Function → List Global → Function → List Piece
code_of functions globals f = pieces_of (names_of functions globals f) f.blocks
