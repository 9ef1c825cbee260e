-- Pointers to locals are of frames that have begun.
use Rattle.std.proofs.Common.{◌≡◌, ℕ, ◌+◌, ◌<◌, ◌≤◌, ℤ, arith, List, [], ◌∷◌, subst, Option, Some, None, All, IfSome}
use Rattle.std.specs.List.{AllByRecursion}
use Rattle.std.proofs.lemmas.List.Elements.{All-nil, All-weaker}
use Rattle.gimple_ir.specs.declared.value.Value.{Value}
use Rattle.gimple_ir.specs.declared.value.Value.TheVariants.{Int, Null, At, Code}
use Rattle.gimple_ir.specs.declared.value.Object.{Object}
use Rattle.gimple_ir.specs.declared.value.Object.TheVariants.{Global as GlobalObject, Local as LocalObject}
use Rattle.gimple_ir.specs.declared.operand.Operand.{Operand}
use Rattle.gimple_ir.specs.declared.declarations.Global.{Global}
use Rattle.gimple_ir.specs.declared.statement.Stmt.{Stmt}
use Rattle.gimple_ir.specs.declared.block.End.{End}
use Rattle.gimple_ir.specs.declared.block.End.TheVariants.{Goto, If, Switch, Return}
use Rattle.gimple_ir.specs.declared.block.Block.{Block}
use Rattle.gimple_ir.specs.declared.program.Function.{Function}
use Rattle.gimple_core.specs.declared.machine.MemorySlot.{MemorySlot}
use Rattle.gimple_core.specs.Sealed.{Sealed}
use Rattle.gimple_core.specs.Memory.{Memory, moved_by}
use Rattle.gimple_core.specs.State.{Frame, State, Scope, setting_of, scope_of}
use Rattle.gimple_core.specs.Run.{Calling, call_of, Did, local_address, global_address, address_of_global, address_of, values_of, given, Exit, ToLabel, Returns, exit_of, no_memory, first_memory, begun, begun_by, function_named, main_name, step}
use Rattle.gimple_core.specs.Trace.{Event, Entry, At as AtPoint, Load, Store, Leave, access, crossing, arguments_at, told_by, main_entry, EachAfter}
use Rattle.gimple_core.proofs.ValuesIn.{IsOfAddresses, put_at_in, first_in, values_of_in, registers_made_in, with_locals_in, with_globals_in, without_frame_in, act_in, ActedIn, WorldIn}
use Rattle.gimple_claims.specs.Pointers.{IsOldObject, IsOldValue, IsOldMemory, HasOldPointers, PointersAreOld, EntryIsOld, EntriesGetOldPointers}
use Rattle.gimple_claims.proofs.Comes.{InDid, AtEach, each_append, holds_with}
use Rattle.gimple_claims.proofs.OneRun.{in_run}
use Rattle.gimple_claims.proofs.Stack.{IsInner, mid}
use Rattle.gimple_claims.proofs.Accesses.{access_all}
use Rattle.gimple_claims.proofs.Steps.{Steps, acts, calls, jumps, leaves, stops, traps, step_is, older}

moved_old : (n : ℕ) (v : Value) (by : ℤ) → IsOldValue n v → IsOldValue n (moved_by v by)
unfolding moved_by
moved_old n (Int z) by h = tt
moved_old n Null by h = tt
moved_old n (At object offset) by h = h
moved_old n (Code name) by h = tt

abbrev law : (n : ℕ) → IsOfAddresses (IsOldValue n)
law n = record { number = λ z. tt; null = tt; moved = moved_old n }

global_old : (n : ℕ) (name : List ℕ) (o : Option ℕ) → IsOldValue n (global_address name o)
global_old n name None = tt
global_old n name (Some k) = tt

local_old : (n serial : ℕ) (o : Option ℕ) (v : Value) → serial < n → IsOldValue n v → IsOldValue n (local_address serial o v)
local_old n serial None v l h = h
local_old n serial (Some k) v l h = l

global_address_old : (n : ℕ) (globals : List Global) (name : List ℕ) → IsOldValue n (address_of_global globals name)
unfolding address_of_global
global_address_old n globals name = global_old n name _

address_old : (n : ℕ) (globals : List Global) (scope : Scope) (name : List ℕ) → scope.serial < n → IsOldValue n (address_of globals scope name)
unfolding address_of
address_old n globals scope name l = local_old n scope.serial _ _ l (global_address_old n globals name)

object_more : (n m : ℕ) (o : Object) → n ≤ m → IsOldObject n o → IsOldObject m o
object_more n m (GlobalObject k) l h = tt
object_more n m (LocalObject serial k) l h = let less : serial < n = h in omega (arith, less, l)

value_more : (n m : ℕ) (v : Value) → n ≤ m → IsOldValue n v → IsOldValue m v
value_more n m (Int z) l h = tt
value_more n m Null l h = tt
value_more n m (At object offset) l h = object_more n m object l h
value_more n m (Code name) l h = tt

values_more : (n m : ℕ) (vs : List Value) → n ≤ m → All (IsOldValue n) vs → All (IsOldValue m) vs
values_more n m vs l h = All-weaker (IsOldValue n) (IsOldValue m) (λ v. value_more n m v l) vs h

memory_more : (n k : ℕ) (m : Memory) → n ≤ k → IsOldMemory n m → IsOldMemory k m
memory_more n k m l h = All-weaker (λ (x : MemorySlot). IsOldValue n x.value) (λ (x : MemorySlot). IsOldValue k x.value) (λ x. value_more n k x.value l) m.slots h

abbrev FramesOld : ℕ → List Frame → Type 0
FramesOld n fs = AllByRecursion (λ (f : Frame). All (IsOldValue n) f.registers) fs

frames_more : (n m : ℕ) (fs : List Frame) → n ≤ m → FramesOld n fs → FramesOld m fs
frames_more n m [] l h = tt
frames_more n m (f ∷ fs) l h = (values_more n m f.registers l h.0, frames_more n m fs l h.1)

-- ---- a step

abbrev ExitOld : ℕ → Exit → Type 0
ExitOld n (ToLabel label) = Unit {0}
ExitOld n (Returns v) = IfSome v (IsOldValue n)

exit_old : (n : ℕ) (globals : List Global) (s : State) (e : End) → s.top.serial < n → All (IsOldValue n) s.world.registers → ExitOld n (exit_of globals e s)
exit_old n globals s (Goto label) l h = tt
exit_old n globals s (If left cmp right hit miss) l h = tt
exit_old n globals s (Switch on cases other) l h = tt
exit_old n globals s (Return None) l h = tt
exit_old n globals s (Return (Some x)) l h = first_in (IsOldValue n) (law n) globals (scope_of s.top) s.world.registers x [] h (λ name t. address_old n globals (scope_of s.top) name l)

given_old : (n : ℕ) (vs : List Value) (to : Option ℕ) (v : Option Value) → All (IsOldValue n) vs → IfSome v (IsOldValue n) → All (IsOldValue n) (given vs to v)
given_old n vs to None h k = h
given_old n vs to (Some v) h k = put_at_in (IsOldValue n) (law n) vs to v k h

arguments_old : (p : Sealed) (s : State) (xs : List Operand) → s.top.serial < s.next → All (IsOldValue s.next) s.world.registers → All (IsOldValue s.next) (values_of p.program.globals (scope_of s.top) s.world.registers xs)
arguments_old p s xs l h = values_of_in (IsOldValue s.next) (law s.next) p.program.globals (scope_of s.top) s.world.registers xs h (λ name t. address_old s.next p.program.globals (scope_of s.top) name l)

old_did : (p : Sealed) (s : State) → s.top.serial < s.next → HasOldPointers s → (d : Did) → Steps p s d → InDid HasOldPointers d
old_did p s l h _ (acts x xs w e n r) =
    let world : WorldIn (IsOldValue s.next) (law s.next) w =
    subst (ActedIn (IsOldValue s.next) (law s.next)) r
    (act_in (IsOldValue s.next) (law s.next) (setting_of p) (scope_of s.top) x s.world (λ name t. address_old s.next p.program.globals (scope_of s.top) name l) (record { registers = h.top; memory = h.memory })) in
    record { top = world.registers; below = h.below; memory = world.memory }
old_did p s l h _ (calls x xs c g b bs e n f y) =
    let more : s.next ≤ s.next + 1 = omega arith in
    record {
      top = registers_made_in (IsOldValue (s.next + 1)) (law (s.next + 1)) g _ (values_more s.next (s.next + 1) _ more (arguments_old p s c.arguments l h.top));
      below = (values_more s.next (s.next + 1) s.world.registers more h.top, frames_more s.next (s.next + 1) s.below more h.below);
      memory = with_locals_in (IsOldValue (s.next + 1)) (law (s.next + 1)) p.program.structs s.next 0 g.locals s.world.memory (memory_more s.next (s.next + 1) s.world.memory more h.memory);
    }
old_did p s l h _ (jumps label k b e x f) = record { top = h.top; below = h.below; memory = h.memory }
old_did p s l h _ (leaves v f fs e x y) =
    let rest : FramesOld s.next (f ∷ fs) = subst (FramesOld s.next) y h.below in
    let value : ExitOld s.next (Returns v) = subst (ExitOld s.next) x (exit_old s.next p.program.globals s s.top.end l h.top) in
    record {
      top = given_old s.next f.registers s.top.takes v rest.0 value;
      below = rest.1;
      memory = without_frame_in (IsOldValue s.next) (law s.next) s.top.serial s.world.memory h.memory;
    }
old_did p s l h _ (stops o z) = tt
old_did p s l h _ (traps o k) = tt

-- ---- the whole run

globals_old : (p : Sealed) (n : ℕ) → IsOldMemory n (first_memory p.program)
globals_old p n =
    with_globals_in (IsOldValue n) (law n) p.program.structs p.program.globals 0 p.program.globals no_memory (All-nil (λ (x : MemorySlot). IsOldValue n x.value)) (λ name t. global_address_old n p.program.globals name)

abbrev FirstOld : Option State → Type 0
FirstOld None = Unit {0}
FirstOld (Some s) = HasOldPointers s

begun_old : (p : Sealed) (input : List ℤ) (f : Function) (bs : List Block) → FirstOld (begun p.program input f bs)
begun_old p input f [] = tt
begun_old p input f (b ∷ bs) = record {
  top = registers_made_in (IsOldValue 1) (law 1) f [] (All-nil (IsOldValue 1));
  below = tt;
  memory = with_locals_in (IsOldValue 1) (law 1) p.program.structs 0 0 f.locals (first_memory p.program) (globals_old p 1);
}

start_old : (p : Sealed) (input : List ℤ) (o : Option Function) → FirstOld (begun_by p.program input o)
start_old p input None = tt
start_old p input (Some f) = begun_old p input f f.blocks

pub pointers_are_old : PointersAreOld
pointers_are_old p input past s c =
    holds_with p input (λ past t. HasOldPointers t)
    (λ t e. subst FirstOld e (start_old p input (function_named main_name p.program.functions)))
    (λ past t c h. let o = older p input past t c in old_did p t o.top h (step p t) (step_is p t)) past s c

-- ---- entries

inner_one : (past : List Event) (e : Event) → IsInner e → EntryIsOld past e
inner_one past (Entry n g arguments m caller) h = absurd h
inner_one past (AtPoint c w) h = tt
inner_one past (Load c scalar object offset v) h = tt
inner_one past (Store c scalar object offset v) h = tt
inner_one past (Leave n) h = tt

inner_old : (past es : List Event) → AllByRecursion IsInner es → EachAfter EntryIsOld past es
inner_old past [] h = tt
inner_old past (e ∷ es) h = (inner_one past e h.0, inner_old (e ∷ past) es h.1)

arguments_there : (p : Sealed) (s : State) (x : Stmt) (xs : List Stmt) (c : Calling) → s.top.rest ≡ x ∷ xs → call_of x ≡ Some c →
    All (IsOldValue s.next) (values_of p.program.globals (scope_of s.top) s.world.registers c.arguments) → All (IsOldValue s.next) (arguments_at p.program.globals s.top.rest s)
arguments_there p s x xs c e n h = rw (e, n) h

crossing_old : (p : Sealed) (past : List Event) (s : State) → s.top.serial < s.next → HasOldPointers s → (d : Did) → Steps p s d → EachAfter EntryIsOld past (crossing p.program.globals s.top.rest s d)
crossing_old p past s l h _ (acts x xs w e n r) = tt
crossing_old p past s l h _ (calls x xs c g b bs e n f y) = ((arguments_there p s x xs c e n (arguments_old p s c.arguments l h.top), h.memory), tt)
crossing_old p past s l h _ (jumps label k b e x f) = tt
crossing_old p past s l h _ (leaves v f fs e x y) = (tt, tt)
crossing_old p past s l h _ (stops o z) = (tt, tt)
crossing_old p past s l h _ (traps o k) = tt

old_each : (p : Sealed) (input : List ℤ) → AtEach p input EntryIsOld
unfolding told_by
old_each p input past s c =
    let o = older p input past s c in (
      tt,
      each_append EntryIsOld (AtPoint s.top s.world ∷ past) (access p.program.globals s.top.rest s) (crossing p.program.globals s.top.rest s (step p s))
          (inner_old (AtPoint s.top s.world ∷ past) (access p.program.globals s.top.rest s) (access_all IsInner s (λ scalar f. tt) (λ scalar f v. tt) p.program.globals s.top.rest))
          (crossing_old p (mid p past s) s o.top (pointers_are_old p input past s c) (step p s) (step_is p s)),
    )

first_entry : (p : Sealed) (past : List Event) (s : State) → EntryIsOld past (main_entry p s)
first_entry p past s = (All-nil (IsOldValue s.top.serial), globals_old p s.top.serial)

pub entries_get_old_pointers : EntriesGetOldPointers
entries_get_old_pointers p input n = in_run p EntryIsOld input (λ s e. first_entry p [] s) (old_each p input) n
