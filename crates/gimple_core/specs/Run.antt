-- What a program does: one statement, the statements up to the next transfer, and a run.
use Rattle.std.specs.Prelude.{unwrap_or, position, find, ℕ, zero, suc, ◌+◌, ◌==◌, ℤ, pos, Bool, true, false, not, if◌then◌else◌, List, [], ◌∷◌, ◌++◌, map, Option, Some, None, Result, Ok, Err, int_le, ◌&&◌, slice_get}
use Rattle.std.specs.Fmt.{signed_decimal}
use Rattle.gimple_ir.specs.declared.scalar.Scalar.{Scalar}
use Rattle.gimple_ir.specs.declared.scalar.Scalar.TheVariants.{I32, I64, U64, Ptr}
use Rattle.gimple_ir.specs.declared.value.Value.{Value}
use Rattle.gimple_ir.specs.declared.value.Value.TheVariants.{Int, Null, At, Code}
use Rattle.gimple_ir.specs.declared.value.Object.{Object}
use Rattle.gimple_ir.specs.declared.value.Object.TheVariants.{Global as GlobalObject, Local as LocalObject}
use Rattle.gimple_ir.specs.declared.declarations.Decl.{Decl}
use Rattle.gimple_ir.specs.declared.declarations.StructDef.{StructDef}
use Rattle.gimple_ir.specs.declared.operand.Operand.{Operand}
use Rattle.gimple_ir.specs.declared.operand.Operand.TheVariants.{Reg, Number, Null as NullOperand, Address}
use Rattle.gimple_ir.specs.declared.operand.Base.{Base}
use Rattle.gimple_ir.specs.declared.operand.Base.TheVariants.{Reg as RegBase, Variable}
use Rattle.gimple_ir.specs.declared.operand.Place.{Place}
use Rattle.gimple_ir.specs.declared.declarations.Global.{Global}
use Rattle.gimple_ir.specs.declared.declarations.Register.{Register}
use Rattle.gimple_ir.specs.declared.scalar.Mode.{Mode}
use Rattle.gimple_ir.specs.declared.scalar.Op.{Op}
use Rattle.gimple_ir.specs.declared.scalar.Op.TheVariants.{Shl, Shr}
use Rattle.gimple_ir.specs.declared.scalar.Cmp.{Cmp}
use Rattle.gimple_ir.specs.declared.scalar.Cmp.TheVariants.{Eq, Ne}
use Rattle.gimple_ir.specs.declared.statement.Stmt.{Stmt}
use Rattle.gimple_ir.specs.declared.statement.Signature.{Signature}
use Rattle.gimple_ir.specs.declared.statement.Stmt.TheVariants.{Copy, Arith, Compare, Convert, Load, Store, Call, Indirect, Get, Put, Abort}
use Rattle.gimple_ir.specs.declared.block.Case.{Case}
use Rattle.gimple_ir.specs.declared.block.End.{End}
use Rattle.gimple_ir.specs.declared.block.End.TheVariants.{Goto, If, Switch, Return}
use Rattle.gimple_ir.specs.declared.block.Block.{Block}
use Rattle.gimple_ir.specs.declared.program.Function.{Function}
use Rattle.gimple_ir.specs.declared.program.Program.{Program}
use Rattle.gimple_ir.specs.declared.value.TrapKind.{TrapKind}
use Rattle.gimple_ir.specs.declared.value.TrapKind.TheVariants.{NullAccess, ReadOnly, BadCall, Abort as AbortTrap}
use Rattle.gimple_ir.specs.declared.value.Outcome.{Outcome}
use Rattle.gimple_ir.specs.declared.value.Outcome.TheVariants.{Going, Ended, Trapped}
use Rattle.gimple_core.specs.declared.machine.MemorySlot.{MemorySlot}
use Rattle.gimple_core.specs.declared.machine.FoundSlot.{FoundSlot}
use Rattle.std.specs.Str.{bytes_eq}
use Rattle.gimple_core.specs.Operators.{wrapped, op_of, cmp_of}
use Rattle.gimple_ir.specs.declared.value.LayoutSlot.{LayoutSlot}
use Rattle.gimple_ir.specs.declared.value.Layout.{Layout}
use Rattle.gimple_core.specs.Layout.{layout_of}
use Rattle.gimple_core.specs.Memory.{Memory, moved_by, found_at, put_slot, without_frame, same_object, same_scalar}
use Rattle.gimple_core.specs.Sealed.{Sealed}
use Rattle.gimple_core.specs.State.{Control, Frame, World, State, Scope, scope_of, registers_of, Setting, setting_of, zero_of, register_place, value_in, scalar_in, put_at, assigned, number_in, offset_in}

-- ---- values

abbrev pub local_address : ℕ → Option ℕ → Value → Value
local_address serial None other = other
local_address serial (Some k) other = At (LocalObject serial k) (pos 0)

-- the address of a global, or the function of a name that no global has
abbrev pub global_address : List ℕ → Option ℕ → Value
global_address name None = Code name
global_address name (Some k) = At (GlobalObject k) (pos 0)

unfoldable pub address_of_global : List Global → List ℕ → Value
address_of_global globals name = global_address name (position (λ g. bytes_eq g.decl.name name) globals)

-- the address of a variable that a frame sees, or the function of a name that no variable has
unfoldable pub address_of : List Global → Scope → List ℕ → Value
address_of globals scope name =
    local_address scope.serial (position (λ d. bytes_eq d.name name) scope.locals) (address_of_global globals name)

abbrev pub value_of : List Global → Scope → List Value → Operand → Value
value_of globals scope registers (Reg name) = value_in scope registers name
value_of globals scope registers (Number z) = Int z
value_of globals scope registers NullOperand = Null
value_of globals scope registers (Address name offset) = moved_by (address_of globals scope name) (offset_in offset)

abbrev pub base_value : List Global → Scope → List Value → Base → Value
base_value globals scope registers (RegBase name) = value_in scope registers name
base_value globals scope registers (Variable name) = address_of globals scope name

-- where a place points
abbrev pub place_value : List Global → Scope → List Value → Place → Value
place_value globals scope registers place = moved_by (base_value globals scope registers place.base) (offset_in place.offset)

abbrev pub values_of : List Global → Scope → List Value → List Operand → List Value
values_of globals scope registers operands = map (value_of globals scope registers) operands

abbrev pub value_result : Result ℤ TrapKind → Result Value TrapKind
value_result (Ok z) = Ok (Int z)
value_result (Err kind) = Err kind

-- the right side of an operator as a number: of any integer scalar for a shift, and an i64 for a pointer
abbrev pub any_number : Value → ℤ
any_number (Int z) = if int_le (pos 0) z then number_in U64 (Int z) else number_in I64 (Int z)
any_number Null = pos 0
any_number (At object offset) = pos 0
any_number (Code name) = pos 0

-- the right side of an operator: for a shift it may be of any integer scalar
abbrev pub right_number : Op → Scalar → Value → ℤ
right_number Shl scalar v = any_number v
right_number Shr scalar v = any_number v
right_number op scalar v = number_in scalar v

-- an operator with a result of this scalar
unfoldable pub arith_of : Mode → Scalar → Value → Op → Value → Result Value TrapKind
arith_of mode Ptr l op r = Ok (moved_by l (any_number r))
arith_of mode scalar l op r = value_result (op_of mode op scalar (number_in scalar l) (right_number op scalar r))

abbrev pub one_if : Bool → Value
one_if true = Int (pos 1)
one_if false = Int (pos 0)

abbrev pub same_pointer : Value → Value → Bool
same_pointer Null Null = true
same_pointer (At a i) (At b j) = same_object a b && cmp_of Eq i j
same_pointer (Code f) (Code g) = bytes_eq f g
same_pointer v w = false

abbrev pub pointers_compare : Cmp → Bool → Bool
pointers_compare Eq same = same
pointers_compare Ne same = not same
pointers_compare cmp same = false

-- a comparison of two values
unfoldable pub compares : Value → Cmp → Value → Bool
compares (Int a) cmp (Int b) = cmp_of cmp a b
compares l cmp r = pointers_compare cmp (same_pointer l r)

abbrev pub converted : Scalar → Value → Value
converted scalar v = Int (wrapped scalar (any_number v))

-- ---- what lives

abbrev pub filled : Object → List LayoutSlot → List Value → List MemorySlot
filled object [] vs = []
filled object (s ∷ ss) [] = record { object = object; offset = s.offset; scalar = s.scalar; value = zero_of s.scalar } ∷ filled object ss []
filled object (s ∷ ss) (v ∷ vs) = record { object = object; offset = s.offset; scalar = s.scalar; value = v } ∷ filled object ss vs

abbrev pub item_value : List Global → Operand → Value
item_value globals (Reg name) = Null
item_value globals (Number z) = Int z
item_value globals NullOperand = Null
item_value globals (Address name offset) = moved_by (address_of_global globals name) (offset_in offset)

-- the memory with one more object
abbrev pub with_object : Memory → Object → Layout → Bool → List Value → Memory
with_object m object layout constant vs = record {
  living = m.living ++ record { object = object; size = layout.size; constant = constant } ∷ [];
  slots = m.slots ++ filled object layout.slots vs;
}

-- with the globals from this number on
unfoldable pub with_globals : List StructDef → List Global → ℕ → List Global → Memory → Memory
with_globals structs all k [] m = m
with_globals structs all k (g ∷ gs) m =
    with_globals structs all (k + 1) gs (with_object m (GlobalObject k) (layout_of structs g.decl) g.constant (map (item_value all) g.items))

-- with a frame's locals from this number on
unfoldable pub with_locals : List StructDef → ℕ → ℕ → List Decl → Memory → Memory
with_locals structs serial k [] m = m
with_locals structs serial k (d ∷ ds) m =
    with_locals structs serial (k + 1) ds (with_object m (LocalObject serial k) (layout_of structs d) false [])

-- what registers hold where a call begins: the k-th value, or zero or null
unfoldable pub values_made : List Register → List Value → ℕ → List Value
values_made [] vs k = []
values_made (r ∷ rs) vs k = unwrap_or (slice_get vs k) (zero_of r.scalar) ∷ values_made rs vs (k + 1)

-- the registers of a call: the formals hold the arguments, the others zero or null
abbrev pub registers_made : Function → List Value → List Value
registers_made f arguments = values_made f.params arguments 0 ++ values_made f.registers [] 0

-- ---- one statement

pub data Transfer : Type 0 where
  Jump : Transfer
  CallEntry : Transfer
  CallReturn : Transfer

-- how the statements up to a transfer end: at the transfer, with the state after it; with main's last return; or with a trap
pub data Reached : Type 0 where
  Moves : Transfer → State → Reached
  Stops : (output : List ℕ) → (status : ℤ) → Reached
  Traps : (output : List ℕ) → TrapKind → Reached

-- what a statement comes to
pub data Did : Type 0 where
  Goes : State → Did
  Reaches : Reached → Did

abbrev pub assign : Scope → World → List ℕ → Value → World
assign scope d to v = record d { registers = assigned scope d.registers to v }

abbrev pub assign_result : Scope → World → List ℕ → Result Value TrapKind → Result World TrapKind
assign_result scope d to (Ok v) = Ok (assign scope d to v)
assign_result scope d to (Err kind) = Err kind

abbrev pub loaded : Scope → World → List ℕ → Result FoundSlot TrapKind → Result World TrapKind
loaded scope d to (Err kind) = Err kind
loaded scope d to (Ok f) = Ok (assign scope d to f.value)

abbrev pub stored : World → Scalar → Value → Result FoundSlot TrapKind → Result World TrapKind
stored d scalar v (Err kind) = Err kind
stored d scalar v (Ok f) =
    if f.constant then Err ReadOnly else Ok (record d { memory = record d.memory { slots = put_slot d.memory.slots f.object f.offset scalar v } })

abbrev pub got : Scope → World → List ℕ → Option ℤ → World
got scope d to None = assign scope d to (Int (pos 0))
got scope d to (Some z) = record (assign scope d to (Int z)) { taken = d.taken + 1 }

abbrev pub put : World → Value → World
put d v = record d { output = d.output ++ (signed_decimal (any_number v) ++ 10 ∷ []) }

-- a statement that is no call
unfoldable pub act : Setting → Scope → Stmt → World → Result World TrapKind
act e scope (Copy to from) d = Ok (assign scope d to (value_of e.globals scope d.registers from))
act e scope (Arith to left op right) d =
    assign_result scope d to (arith_of e.mode (scalar_in scope to) (value_of e.globals scope d.registers left) op (value_of e.globals scope d.registers right))
act e scope (Compare to left cmp right) d =
    Ok (assign scope d to (one_if (compares (value_of e.globals scope d.registers left) cmp (value_of e.globals scope d.registers right))))
act e scope (Convert to scalar from) d = Ok (assign scope d to (converted scalar (value_of e.globals scope d.registers from)))
act e scope (Load to scalar place) d = loaded scope d to (found_at d.memory (place_value e.globals scope d.registers place) scalar)
act e scope (Store scalar place from) d =
    stored d scalar (value_of e.globals scope d.registers from) (found_at d.memory (place_value e.globals scope d.registers place) scalar)
act e scope (Call to callee arguments) d = Err AbortTrap
act e scope (Indirect to signature callee arguments) d = Err AbortTrap
act e scope (Get to) d = Ok (got scope d to (slice_get d.input d.taken))
act e scope (Put from) d = Ok (put d (value_of e.globals scope d.registers from))
act e scope Abort d = Err AbortTrap

abbrev pub acted : State → Result World TrapKind → Did
acted s (Ok d) = Goes (record s { world = d })
acted s (Err kind) = Reaches (Traps s.world.output kind)

-- a program with a type fault can name a function or a block that is not there: it then traps with `Abort`
abbrev pub lost : State → Reached
lost s = Traps s.world.output AbortTrap

-- what a call names: a function, or a register that holds one, with the signature that is written
pub data Callee : Type 0 where
  Named : List ℕ → Callee
  Through : List ℕ → Signature → Callee

-- what a call says
pub record Calling : Type 0 where
  pub to : Option (List ℕ)
  pub callee : Callee
  pub arguments : List Operand

abbrev pub call_of : Stmt → Option Calling
call_of (Call to callee arguments) = Some (record { to = to; callee = Named callee; arguments = arguments })
call_of (Indirect to signature callee arguments) = Some (record { to = to; callee = Through callee signature; arguments = arguments })
call_of x = None

unfoldable pub function_named : List ℕ → List Function → Option Function
function_named name fs = find (λ f. bytes_eq f.name name) fs

abbrev pub same_scalars : List Scalar → List Scalar → Bool
same_scalars [] [] = true
same_scalars [] (b ∷ bs) = false
same_scalars (a ∷ rest) [] = false
same_scalars (a ∷ rest) (b ∷ bs) = same_scalar a b && same_scalars rest bs

abbrev pub same_result : Option Scalar → Option Scalar → Bool
same_result None None = true
same_result None (Some b) = false
same_result (Some a) None = false
same_result (Some a) (Some b) = same_scalar a b

-- the function's formal scalars and result are the written ones
abbrev pub has_signature : Signature → Function → Bool
has_signature signature f = same_scalars (map (λ r. r.scalar) f.params) signature.params && same_result f.result signature.result

-- a program with a type fault can name a function that is not there: it then traps with `Abort`
abbrev pub called_by_name : Option Function → Result Function TrapKind
called_by_name None = Err AbortTrap
called_by_name (Some f) = Ok f

abbrev pub called_with : Signature → Option Function → Result Function TrapKind
called_with signature None = Err BadCall
called_with signature (Some f) = if has_signature signature f then Ok f else Err BadCall

-- the function that a value is, if it has this signature
abbrev pub called_through : List Function → Signature → Value → Result Function TrapKind
called_through fs signature (Int z) = Err BadCall
called_through fs signature Null = Err NullAccess
called_through fs signature (At object offset) = Err BadCall
called_through fs signature (Code name) = called_with signature (function_named name fs)

-- the function that is called, or why the call traps
abbrev pub called_function : List Function → Scope → List Value → Callee → Result Function TrapKind
called_function fs scope registers (Named name) = called_by_name (function_named name fs)
called_function fs scope registers (Through name signature) = called_through fs signature (value_in scope registers name)

-- the register that takes a call's result, by its position
abbrev pub taking : Scope → Option (List ℕ) → Option ℕ
taking scope None = None
taking scope (Some name) = register_place scope.declared name

-- the frame of a call that begins
abbrev pub control_made : Function → Block → ℕ → Option ℕ → Control
control_made f b serial takes = record { function = f; block = 0; index = 0; rest = b.body; end = b.end; serial = serial; takes = takes }

abbrev pub entered : List StructDef → State → Option ℕ → List Value → Function → List Block → Reached
entered structs s takes arguments f [] = lost s
entered structs s takes arguments f (b ∷ bs) = Moves CallEntry (record {
  top = control_made f b s.next takes;
  below = record { control = s.top; registers = s.world.registers } ∷ s.below;
  world = record s.world {
    registers = registers_made f arguments;
    memory = with_locals structs s.next 0 f.locals s.world.memory;
  };
  next = s.next + 1;
})

abbrev pub enter : List StructDef → State → Option ℕ → List Value → Result Function TrapKind → Reached
enter structs s takes arguments (Err kind) = Traps s.world.output kind
enter structs s takes arguments (Ok f) = entered structs s takes arguments f f.blocks

abbrev pub call : Sealed → Calling → State → Reached
call p c s =
    enter p.program.structs s (taking (scope_of s.top) c.to) (values_of p.program.globals (scope_of s.top) s.world.registers c.arguments)
    (called_function p.program.functions (scope_of s.top) s.world.registers c.callee)

-- the statement is this call, or it is none
abbrev pub performed : Sealed → Option Calling → Stmt → State → Did
performed p None x s = acted s (act (setting_of p) (scope_of s.top) x s.world)
performed p (Some c) x s = Reaches (call p c s)

abbrev pub perform : Sealed → Stmt → State → Did
perform p x s = performed p (call_of x) x s

-- ---- an end

-- the first block with this label, and its number, from this number on
unfoldable pub block_from : ℕ → ℕ → List Block → Option (ℕ × Block)
block_from label k [] = None
block_from label k (b ∷ bs) = if b.label == label then Some (k, b) else block_from label (k + 1) bs

abbrev pub labelled : ℕ → List Block → Option (ℕ × Block)
labelled label bs = block_from label 0 bs

abbrev pub jumped : State → Option (ℕ × Block) → Reached
jumped s None = lost s
jumped s (Some (k, b)) = Moves Jump (record s { top = record s.top { block = k; index = 0; rest = b.body; end = b.end } })

abbrev pub jump : State → ℕ → Reached
jump s label = jumped s (labelled label s.top.function.blocks)

abbrev pub case_target : Option Case → ℕ → ℕ
case_target None other = other
case_target (Some c) other = c.target

-- the label of the first case with this value
abbrev pub case_for : ℤ → List Case → ℕ → ℕ
case_for z cases other = case_target (find (λ c. cmp_of Eq z c.value) cases) other

-- goes on in the caller's frame with these registers
abbrev pub returned_to : State → Control → List Value → List Frame → Reached
returned_to s c registers fs =
    Moves CallReturn (record s { top = c; below = fs; world = record s.world { registers = registers; memory = without_frame s.top.serial s.world.memory } })

-- the status that main's last return gives
abbrev pub status_of : Option Value → ℤ
status_of None = pos 0
status_of (Some v) = number_in I32 v

-- a result put into the register that takes it
abbrev pub given : List Value → Option ℕ → Option Value → List Value
given registers takes None = registers
given registers takes (Some v) = put_at registers takes v

abbrev pub returned : State → Option Value → List Frame → Reached
returned s value [] = Stops s.world.output (status_of value)
returned s value (f ∷ fs) = returned_to s f.control (given f.registers s.top.takes value) fs

-- where an end leads: to a label, or to a return of this value
pub data Exit : Type 0 where
  ToLabel : ℕ → Exit
  Returns : Option Value → Exit

abbrev pub exit_of : List Global → End → State → Exit
exit_of globals (Goto label) s = ToLabel label
exit_of globals (If left cmp right this that) s =
    ToLabel (if compares (value_of globals (scope_of s.top) s.world.registers left) cmp (value_of globals (scope_of s.top) s.world.registers right) then this else that)
exit_of globals (Switch on cases other) s = ToLabel (case_for (any_number (value_of globals (scope_of s.top) s.world.registers on)) cases other)
exit_of globals (Return None) s = Returns None
exit_of globals (Return (Some operand)) s = Returns (Some (value_of globals (scope_of s.top) s.world.registers operand))

abbrev pub leave : State → Exit → Reached
leave s (ToLabel label) = jump s label
leave s (Returns value) = returned s value s.below

abbrev pub finish : List Global → End → State → Reached
finish globals e s = leave s (exit_of globals e s)

-- ---- runs

-- the state whose running frame goes on with these statements
abbrev pub resumed : State → List Stmt → State
resumed s rest = record s { top = record s.top { rest = rest; index = s.top.index + 1 } }

abbrev pub stepped : Sealed → State → List Stmt → Did
stepped p s [] = Reaches (finish p.program.globals s.top.end s)
stepped p s (x ∷ xs) = perform p x (resumed s xs)

-- one statement or end
abbrev pub step : Sealed → State → Did
step p s = stepped p s s.top.rest

-- goes on where a statement does
abbrev pub then_walk : Did → (State → Reached) → Reached
then_walk (Goes t) on = on t
then_walk (Reaches r) on = r

-- the statements up to the next transfer
unfoldable pub walk : Sealed → List Stmt → State → Reached
walk p [] s = finish p.program.globals s.top.end s
walk p (x ∷ xs) s = then_walk (perform p x (resumed s xs)) (walk p xs)

-- the run would make one transfer too many
abbrev pub paused : Reached → Outcome
paused (Moves kind t) = Going t.world.output
paused (Stops output status) = Going output
paused (Traps output kind) = Trapped output kind

-- goes on after a transfer
abbrev pub then_run : Reached → (State → Outcome) → Outcome
then_run (Moves kind t) on = on t
then_run (Stops output status) on = Ended output status
then_run (Traps output kind) on = Trapped output kind

-- a run that may make n more transfers
unfoldable pub runs : Sealed → ℕ → State → Outcome
runs p zero s = paused (walk p s.top.rest s)
runs p (suc n) s = then_run (walk p s.top.rest s) (runs p n)

-- "main"
abbrev pub main_name : List ℕ
main_name = 109 ∷ 97 ∷ 105 ∷ 110 ∷ []

abbrev pub no_memory : Memory
no_memory = record { living = []; slots = [] }

-- the memory in which main's first frame begins, but for its own locals
abbrev pub first_memory : Program → Memory
first_memory p = with_globals p.structs p.globals 0 p.globals no_memory

abbrev pub begun : Program → List ℤ → Function → List Block → Option State
begun p input f [] = None
begun p input f (b ∷ bs) = Some (record {
  top = control_made f b 0 None;
  below = [];
  world = record {
    registers = registers_made f [];
    memory = with_locals p.structs 0 0 f.locals (first_memory p);
    input = input;
    taken = 0;
    output = [];
  };
  next = 1;
})

abbrev pub begun_by : Program → List ℤ → Option Function → Option State
begun_by p input None = None
begun_by p input (Some f) = begun p input f f.blocks

-- the state in which main's first frame begins
abbrev pub start : Sealed → List ℤ → Option State
start p input = begun_by p.program input (function_named main_name p.program.functions)

abbrev pub runs_from : Sealed → ℕ → Option State → Outcome
runs_from p n None = Trapped [] AbortTrap
runs_from p n (Some s) = runs p n s

-- what a program has come to after at most n transfers
unfoldable pub Run : Sealed → List ℤ → ℕ → Outcome
Run p input n = runs_from p n (start p input)
