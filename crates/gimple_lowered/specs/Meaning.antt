-- What lowered statements and ends do.
use Rattle.std.specs.Prelude.{ℕ, ◌+◌, ℤ, pos, if◌then◌else◌, List, map, find, Option, Some, None, Result, Ok, Err, slice_get}
use Rattle.gimple_ir.specs.declared.value.Object.TheVariants.{Local as LocalObject}
use Rattle.gimple_ir.specs.declared.value.Value.{Value}
use Rattle.gimple_ir.specs.declared.value.Value.TheVariants.{Int, At}
use Rattle.gimple_ir.specs.declared.value.TrapKind.{TrapKind}
use Rattle.gimple_ir.specs.declared.value.TrapKind.TheVariants.{Abort as AbortTrap}
use Rattle.gimple_ir.specs.declared.scalar.Mode.{Mode}
use Rattle.gimple_ir.specs.declared.scalar.Cmp.TheVariants.{Eq}
use Rattle.gimple_ir.specs.declared.block.Block.{Block}
use Rattle.gimple_ir.specs.declared.program.Function.{Function}
use Rattle.gimple_core.specs.declared.machine.FoundSlot.{FoundSlot}
use Rattle.gimple_core.specs.Operators.{cmp_of}
use Rattle.gimple_core.specs.Memory.{moved_by, found_at}
use Rattle.gimple_core.specs.Sealed.{Sealed}
use Rattle.gimple_core.specs.State.{World, State, value_at, put_at}
use Rattle.gimple_core.specs.Run.{arith_of, one_if, compares, converted, stored, put, any_number, Did, Reached, Reaches, acted, called_by_name, called_through, enter, jumped, returned}
use Rattle.gimple_lowered.specs.declared.types.Source.{Source}
use Rattle.gimple_lowered.specs.declared.types.Source.TheVariants.{Register, Constant, Own}
use Rattle.gimple_lowered.specs.declared.types.Pointer.{Pointer}
use Rattle.gimple_lowered.specs.declared.types.Pointer.TheVariants.{Moved, Fixed}
use Rattle.gimple_lowered.specs.declared.types.Instruction.{Instruction}
use Rattle.gimple_lowered.specs.declared.types.Instruction.TheVariants.{Copy, Arith, Compare, Convert, Load, Store, Call, Indirect, Get, Put, Abort}
use Rattle.gimple_lowered.specs.declared.types.Choice.{Choice}
use Rattle.gimple_lowered.specs.declared.types.Ending.{Ending}
use Rattle.gimple_lowered.specs.declared.types.Ending.TheVariants.{Goto, If, Switch, Return}

-- ---- values, in a frame of this serial with these registers

abbrev pub source_value : ℕ → List Value → Source → Value
source_value serial vs (Register spot) = value_at vs spot
source_value serial vs (Constant v) = v
source_value serial vs (Own k offset) = At (LocalObject serial k) offset

abbrev pub source_values : ℕ → List Value → List Source → List Value
source_values serial vs xs = map (source_value serial vs) xs

abbrev pub source_result : ℕ → List Value → Option Source → Option Value
source_result serial vs None = None
source_result serial vs (Some x) = Some (source_value serial vs x)

abbrev pub pointer_value : ℕ → List Value → Pointer → Value
pointer_value serial vs (Moved spot by) = moved_by (value_at vs spot) by
pointer_value serial vs (Fixed x) = source_value serial vs x

-- ---- statements that are no calls

abbrev pub assign : World → Option ℕ → Value → World
assign d spot v = record d { registers = put_at d.registers spot v }

abbrev pub assign_result : World → Option ℕ → Result Value TrapKind → Result World TrapKind
assign_result d spot (Ok v) = Ok (assign d spot v)
assign_result d spot (Err kind) = Err kind

abbrev pub loaded : World → Option ℕ → Result FoundSlot TrapKind → Result World TrapKind
loaded d spot (Err kind) = Err kind
loaded d spot (Ok f) = Ok (assign d spot f.value)

abbrev pub got : World → Option ℕ → Option ℤ → World
got d spot None = assign d spot (Int (pos 0))
got d spot (Some z) = record (assign d spot (Int z)) { taken = d.taken + 1 }

unfoldable pub does : Mode → ℕ → Instruction → World → Result World TrapKind
does mode serial (Copy to from) d = Ok (assign d to (source_value serial d.registers from))
does mode serial (Arith to scalar left op right) d =
    assign_result d to (arith_of mode scalar (source_value serial d.registers left) op (source_value serial d.registers right))
does mode serial (Compare to left cmp right) d =
    Ok (assign d to (one_if (compares (source_value serial d.registers left) cmp (source_value serial d.registers right))))
does mode serial (Convert to scalar from) d = Ok (assign d to (converted scalar (source_value serial d.registers from)))
does mode serial (Load to scalar pointer) d = loaded d to (found_at d.memory (pointer_value serial d.registers pointer) scalar)
does mode serial (Store scalar pointer from) d =
    stored d scalar (source_value serial d.registers from) (found_at d.memory (pointer_value serial d.registers pointer) scalar)
does mode serial (Call to callee arguments) d = Err AbortTrap
does mode serial (Indirect to signature callee arguments) d = Err AbortTrap
does mode serial (Get to) d = Ok (got d to (slice_get d.input d.taken))
does mode serial (Put from) d = Ok (put d (source_value serial d.registers from))
does mode serial Abort d = Err AbortTrap

-- ---- statements

-- the function of a number
abbrev pub function_at : List Function → Option ℕ → Option Function
function_at fs None = None
function_at fs (Some k) = slice_get fs k

abbrev pub arguments_in : State → List Source → List Value
arguments_in s xs = source_values s.top.serial s.world.registers xs

unfoldable pub performs : Sealed → Instruction → State → Did
performs p (Call to callee arguments) s =
    Reaches (enter p.program.structs s to (arguments_in s arguments) (called_by_name (function_at p.program.functions callee)))
performs p (Indirect to signature callee arguments) s =
    Reaches (enter p.program.structs s to (arguments_in s arguments) (called_through p.program.functions signature (value_at s.world.registers callee)))
performs p x s = acted s (does p.mode s.top.serial x s.world)

-- ---- ends

abbrev pub numbered : ℕ → Option Block → Option (ℕ × Block)
numbered k None = None
numbered k (Some b) = Some (k, b)

-- the block of a number
abbrev pub block_at : List Block → Option ℕ → Option (ℕ × Block)
block_at bs None = None
block_at bs (Some k) = numbered k (slice_get bs k)

abbrev pub goes : State → Option ℕ → Reached
goes s spot = jumped s (block_at s.top.function.blocks spot)

abbrev pub chosen_or : Option Choice → Option ℕ → Option ℕ
chosen_or None other = other
chosen_or (Some c) other = c.target

-- the block of the first choice with this value
abbrev pub chosen : ℤ → List Choice → Option ℕ → Option ℕ
chosen z choices other = chosen_or (find (λ c. cmp_of Eq z c.value) choices) other

abbrev pub value_in : State → Source → Value
value_in s x = source_value s.top.serial s.world.registers x

unfoldable pub ends : Ending → State → Reached
ends (Goto spot) s = goes s spot
ends (If left cmp right this that) s = goes s (if compares (value_in s left) cmp (value_in s right) then this else that)
ends (Switch on choices other) s = goes s (chosen (any_number (value_in s on)) choices other)
ends (Return from) s = returned s (source_result s.top.serial s.world.registers from) s.below
