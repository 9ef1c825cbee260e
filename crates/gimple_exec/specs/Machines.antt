-- The state that the interpreter's machine stands for.
use Rattle.std.specs.List.{All}
use Rattle.std.specs.Prelude.{◌≡◌, ℕ, ℤ, ◌+◌, ◌<◌, ◌≤◌, ◌^◌, ◌++◌, List, [], ◌∷◌, map, reverse, drop, length, slice_index_or, Option, Some, None, Result, Ok, Err}
use Rattle.gimple_ir.specs.declared.block.End.TheVariants.{Return}
use Rattle.gimple_ir.specs.declared.block.Block.{Block}
use Rattle.gimple_ir.specs.declared.program.Function.{Function}
use Rattle.gimple_ir.specs.declared.value.Value.{Value}
use Rattle.gimple_ir.specs.declared.value.TrapKind.{TrapKind}
use Rattle.gimple_core.specs.Sealed.{Sealed}
use Rattle.gimple_core.specs.State.{Control, Frame, State}
use Rattle.gimple_core.specs.Memory.{Memory}
use Rattle.gimple_core.specs.Layout.{layout_of}
use Rattle.gimple_core.specs.Run as run
use Rattle.gimple_core.specs.Run.{paused, start, registers_made, with_locals, with_globals, no_memory, Goes as GoesOn, Reaches as Ends}
use Rattle.gimple_ir.specs.declared.value.Outcome.TheVariants.{Going}
use Rattle.gimple_exec.specs.declared.machine.Stand.{Stand}
use Rattle.gimple_exec.specs.declared.machine.Waiting.{Waiting}
use Rattle.gimple_exec.specs.declared.machine.Machine.{Machine}
use Rattle.gimple_exec.specs.declared.machine.Step.{Step}
use Rattle.gimple_exec.specs.declared.machine.Step.TheVariants.{Goes, Reaches}
use Rattle.gimple_exec.specs.declared.machine.Reach.{Reach}
use Rattle.gimple_exec.specs.declared.machine.Reach.TheVariants.{Moves, Spent, Stops, Traps}
use Rattle.struct_tables.specs.Tables.{HaveTable}
use Rattle.gimple_exec.specs.Acts.{world_of}

abbrev pub no_block : Block
no_block = record { label = 0; body = []; end = Return None }

abbrev pub no_function : Function
no_function = record { name = []; params = []; result = None; locals = []; registers = []; blocks = [] }

abbrev pub function_of : Sealed → ℕ → Function
function_of p k = slice_index_or p.program.functions k no_function

abbrev pub block_of : Function → ℕ → Block
block_of f k = slice_index_or f.blocks k no_block

-- the frame that stands at a place of this function and block
abbrev pub control_at : Function → Block → Stand → Control
control_at f b s = record { function = f; block = s.block; index = s.index; rest = drop s.index b.body; end = b.end; serial = s.serial; takes = s.takes }

abbrev pub control_of : Sealed → Stand → Control
control_of p s = control_at (function_of p s.function) (block_of (function_of p s.function) s.block) s

abbrev pub frame_of : Sealed → Waiting → Frame
frame_of p w = record { control = control_of p w.stand; registers = w.registers.items }

abbrev pub state_of : Sealed → Machine → State
state_of p m = record { top = control_of p m.top; below = map (frame_of p) (reverse m.below.items); world = world_of m.world; next = m.next }

-- a place of the program
pub record IsPlaced (p : Sealed) (s : Stand) : Type 0 where
  pub function : s.function < length p.program.functions
  pub block : s.block < length (function_of p s.function).blocks
  pub index : s.index ≤ length (block_of (function_of p s.function) s.block).body

abbrev pub ArePlaced : Sealed → List Waiting → Type 0
ArePlaced p [] = Unit {0}
ArePlaced p (w ∷ ws) = IsPlaced p w.stand × ArePlaced p ws

-- every frame is at a place of the program
pub record IsSound (p : Sealed) (m : Machine) : Type 0 where
  pub top : IsPlaced p m.top
  pub below : ArePlaced p (reverse m.below.items)

-- the numbers of globals and locals are those of objects, the structs have a table, and each variable is at most 2 ^ 24 bytes large
pub record IsLimited (p : Sealed) : Type 0 where
  pub globals : length p.program.globals < 2 ^ 32
  pub locals : (k : ℕ) → length (function_of p k).locals < 2 ^ 32
  pub structs : HaveTable p.program.structs
  pub global_sizes : All (λ g. (layout_of p.program.structs g.decl).size ≤ 2 ^ 24) p.program.globals
  pub local_sizes : (k : ℕ) → All (λ d. (layout_of p.program.structs d).size ≤ 2 ^ 24) (function_of p k).locals

-- The machine arrives where the definition does, from a state with this next serial: it has moved on, and stays sound; or the
-- next serial is past those of frames, and the output alone is right; or the run is over.
abbrev pub Arrives : Sealed → ℕ → Reach → run.Reached → Machine → Type 0
Arrives p n Moves r m = (k : run.Transfer) × (r ≡ run.Moves k (state_of p m)) × IsSound p m × (m.next ≤ n + 1)
Arrives p n Spent r m = (2 ^ 64 ≤ n) × (paused r ≡ Going m.world.output)
Arrives p n (Stops z) r m = r ≡ run.Stops m.world.output z
Arrives p n (Traps kind) r m = r ≡ run.Traps m.world.output kind

abbrev pub ArrivesBy : Sealed → ℕ → Reach → run.Did → Machine → Type 0
ArrivesBy p n reach (GoesOn s) m = ⊥
ArrivesBy p n reach (Ends r) m = Arrives p n reach r m

-- a step of the machine is one of the definition, and stays sound where the run goes on
abbrev pub Leads : Sealed → ℕ → Step → run.Did → Machine → Type 0
Leads p n Goes d m = (d ≡ run.Goes (state_of p m)) × IsSound p m × (m.next ≡ n)
Leads p n (Reaches reach) d m = ArrivesBy p n reach d m

-- where the run goes on, it does so in the same block
abbrev pub Stays : Step → Stand → Stand → Type 0
Stays Goes old new = (new.function ≡ old.function) × (new.block ≡ old.block)
Stays (Reaches reach) old new = Unit {0}

-- the number of the function that is called, or the kind of trap
abbrev pub IsCalled : Sealed → Result ℕ TrapKind → Result Function TrapKind → Type 0
IsCalled p (Ok k) r = (k < length p.program.functions) × (r ≡ Ok (function_of p k))
IsCalled p (Err kind) r = r ≡ Err kind

-- a frame begins, and the one that ran waits
pub record Begins (old : Machine) (function : ℕ) (takes : Option ℕ) (registers : List Value) (memory : Memory) (new : Machine) : Type 0 where
  pub top : new.top ≡ record { function = function; block = 0; index = 0; serial = old.next; takes = takes }
  pub below : new.below.items ≡ old.below.items ++ record { stand = old.top; registers = old.world.registers } ∷ []
  pub world : world_of new.world ≡ record (world_of old.world) { registers = registers; memory = memory }
  pub next : new.next ≡ old.next + 1

-- the first frame of a function begins, with the globals in memory
pub record IsFirst (p : Sealed) (k : ℕ) (input : List ℤ) (m : Machine) : Type 0 where
  pub top : m.top ≡ record { function = k; block = 0; index = 0; serial = 0; takes = None }
  pub below : m.below.items ≡ []
  pub world : world_of m.world ≡ record {
    registers = registers_made (function_of p k) [];
    memory = with_locals p.program.structs 0 0 (function_of p k).locals (with_globals p.program.structs p.program.globals 0 p.program.globals no_memory);
    input = input;
    taken = 0;
    output = [];
  }
  pub next : m.next ≡ 1

-- the machine is in the first state, where there is one
abbrev pub Starts : Sealed → List ℤ → Option Machine → Type 0
Starts p input None = start p input ≡ None
Starts p input (Some m) = (start p input ≡ Some (state_of p m)) × IsSound p m × (m.next ≡ 1)
