-- Nothing points to a local whose address stands only as the base of accesses.
use Rattle.std.proofs.Common.{◌≡◌, ℕ, ◌+◌, ◌<◌, ◌≤◌, ℤ, arith, List, [], ◌∷◌, refl, sym, ◌∙◌, ap, subst, Option, Some, None, All, IfSome}
use Rattle.std.specs.List.{AllByRecursion, position}
use Rattle.std.specs.Str.{bytes_eq}
use Rattle.std.proofs.lemmas.List.Elements.{All-nil, All-weaker, All-contains, All-from_recursion}
use Rattle.gimple_ir.specs.declared.value.Value.{Value}
use Rattle.gimple_ir.specs.declared.value.Value.TheVariants.{Int, Null, At, Code}
use Rattle.gimple_ir.specs.declared.value.Object.{Object}
use Rattle.gimple_ir.specs.declared.value.Object.TheVariants.{Global as GlobalObject, Local as LocalObject}
use Rattle.gimple_ir.specs.declared.operand.Operand.{Operand}
use Rattle.gimple_ir.specs.declared.declarations.Decl.{Decl}
use Rattle.gimple_ir.specs.declared.declarations.Global.{Global}
use Rattle.gimple_ir.specs.declared.statement.Stmt.{Stmt}
use Rattle.gimple_ir.specs.declared.block.End.{End}
use Rattle.gimple_ir.specs.declared.block.End.TheVariants.{Goto, If, Switch, Return}
use Rattle.gimple_ir.specs.declared.block.Block.{Block}
use Rattle.gimple_ir.specs.declared.program.Function.{Function}
use Rattle.gimple_core.specs.declared.machine.MemorySlot.{MemorySlot}
use Rattle.gimple_core.specs.Sealed.{Sealed}
use Rattle.gimple_core.specs.Memory.{Memory, moved_by, without_frame}
use Rattle.gimple_core.specs.State.{Control, Frame, World, State, setting_of, scope_of}
use Rattle.gimple_core.specs.Run.{Calling, call_of, Did, local_address, global_address, address_of_global, address_of, values_of, given, Exit, ToLabel, Returns, exit_of, no_memory, first_memory, begun, begun_by, function_named, main_name, step}
use Rattle.gimple_core.specs.Trace.{Event, Entry, At as AtPoint, Load, Store, Leave, after, access, crossing, arguments_at, told_by, main_entry, EachAfter}
use Rattle.gimple_core.specs.Reach.{operands_of, operands_of_end, AddressedIn}
use Rattle.gimple_core.proofs.ValuesIn.{IsOfAddresses, OperandsIn, arguments_of_call, put_at_in, first_in, values_of_in, registers_made_in, with_locals_in, with_globals_in, without_frame_in, act_in, ActedIn, WorldIn}
use Rattle.gimple_claims.specs.Runs.{Comes}
use Rattle.gimple_claims.specs.Laws.{IsOlder}
use Rattle.gimple_claims.specs.Private.{IsPrivate, HasBegun, PointsTo, NoPointers, NoPointersIn, PrivateLocalsUnheld, EntryIsUnheld, PrivateLocalsNotPassed}
use Rattle.gimple_claims.proofs.Accesses.{access_all}
use Rattle.gimple_claims.proofs.Blocks.{label_has}
use Rattle.gimple_claims.proofs.Comes.{InDid, AtEach, each_append, holds_with}
use Rattle.gimple_claims.proofs.Fresh.{mid_older}
use Rattle.gimple_claims.proofs.OneRun.{in_run}
use Rattle.gimple_claims.proofs.Stack.{IsInner, mid, told_mid}
use Rattle.gimple_claims.proofs.Steps.{Steps, acts, calls, jumps, leaves, stops, traps, step_is, older}
use Rattle.gimple_claims.proofs.Taken.{Taken, BodyTaken, BlockTaken, blocks_taken}
use Rattle.gimple_claims.proofs.Updates.{place_named}

-- ---- values

-- if the event begins the call of this serial, the local of this number is not private there
abbrev Opens : ℕ → ℕ → Event → Type 0
Opens serial k (Entry n g arguments m caller) = n ≡ serial → IsPrivate g k → ⊥
Opens serial k (AtPoint c w) = Unit {0}
Opens serial k (Load c scalar object offset v) = Unit {0}
Opens serial k (Store c scalar object offset v) = Unit {0}
Opens serial k (Leave n) = Unit {0}

-- a global, or a local of a frame with a serial below this one that is private in no call so far
abbrev pub ObjectOpen : List Event → ℕ → Object → Type 0
ObjectOpen past n (GlobalObject k) = Unit {0}
ObjectOpen past n (LocalObject serial k) = (serial < n) × AllByRecursion (Opens serial k) past

abbrev pub ValueOpen : List Event → ℕ → Value → Type 0
ValueOpen past n (Int z) = Unit {0}
ValueOpen past n Null = Unit {0}
ValueOpen past n (At object offset) = ObjectOpen past n object
ValueOpen past n (Code name) = Unit {0}

pub moved_open : (past : List Event) (n : ℕ) (v : Value) (by : ℤ) → ValueOpen past n v → ValueOpen past n (moved_by v by)
unfolding moved_by
moved_open past n (Int z) by h = tt
moved_open past n Null by h = tt
moved_open past n (At object offset) by h = h
moved_open past n (Code name) by h = tt

abbrev pub law : (past : List Event) (n : ℕ) → IsOfAddresses (ValueOpen past n)
law past n = record { number = λ z. tt; null = tt; moved = moved_open past n }

-- ---- one event more

-- a call that the event begins has this serial or a later one
abbrev IsLater : ℕ → Event → Type 0
IsLater n (Entry m g arguments k caller) = n ≤ m
IsLater n (AtPoint c w) = Unit {0}
IsLater n (Load c scalar object offset v) = Unit {0}
IsLater n (Store c scalar object offset v) = Unit {0}
IsLater n (Leave m) = Unit {0}

opens_later : (serial k n : ℕ) (e : Event) → serial < n → IsLater n e → Opens serial k e
opens_later serial k n (Entry m g arguments memory caller) l h = λ same. absurd (let later : n ≤ m = h in omega (arith, l, later, same))
opens_later serial k n (AtPoint c w) l h = tt
opens_later serial k n (Load c scalar object offset v) l h = tt
opens_later serial k n (Store c scalar object offset v) l h = tt
opens_later serial k n (Leave m) l h = tt

object_more : (past : List Event) (n m : ℕ) (e : Event) → n ≤ m → IsLater n e → (o : Object) → ObjectOpen past n o → ObjectOpen (e ∷ past) m o
object_more past n m e l h (GlobalObject k) was = tt
object_more past n m e l h (LocalObject serial k) was = let less : serial < n = was.0 in (omega (arith, less, l), (opens_later serial k n e less h, was.1))

value_more : (past : List Event) (n m : ℕ) (e : Event) → n ≤ m → IsLater n e → (v : Value) → ValueOpen past n v → ValueOpen (e ∷ past) m v
value_more past n m e l h (Int z) was = tt
value_more past n m e l h Null was = tt
value_more past n m e l h (At object offset) was = object_more past n m e l h object was
value_more past n m e l h (Code name) was = tt

abbrev ValuesOpen : List Event → ℕ → List Value → Type 0
ValuesOpen past n vs = All (ValueOpen past n) vs

abbrev MemoryOpen : List Event → ℕ → Memory → Type 0
MemoryOpen past n m = All (λ (x : MemorySlot). ValueOpen past n x.value) m.slots

values_more : (past : List Event) (n m : ℕ) (e : Event) → n ≤ m → IsLater n e → (vs : List Value) → ValuesOpen past n vs → ValuesOpen (e ∷ past) m vs
values_more past n m e l h vs was = All-weaker (ValueOpen past n) (ValueOpen (e ∷ past) m) (value_more past n m e l h) vs was

memory_more : (past : List Event) (n k : ℕ) (e : Event) → n ≤ k → IsLater n e → (m : Memory) → MemoryOpen past n m → MemoryOpen (e ∷ past) k m
memory_more past n k e l h m was = All-weaker (λ (x : MemorySlot). ValueOpen past n x.value) (λ (x : MemorySlot). ValueOpen (e ∷ past) k x.value) (λ x. value_more past n k e l h x.value) m.slots was

-- ---- frames

-- if the event begins the call of this serial, it is of this function
abbrev IsOwn : ℕ → Function → Event → Type 0
IsOwn serial f (Entry n g arguments m caller) = n ≡ serial → g ≡ f
IsOwn serial f (AtPoint c w) = Unit {0}
IsOwn serial f (Load c scalar object offset v) = Unit {0}
IsOwn serial f (Store c scalar object offset v) = Unit {0}
IsOwn serial f (Leave n) = Unit {0}

own_later : (serial n : ℕ) (f : Function) (e : Event) → serial < n → IsLater n e → IsOwn serial f e
own_later serial n f (Entry m g arguments memory caller) l h = λ same. absurd (let later : n ≤ m = h in omega (arith, l, later, same))
own_later serial n f (AtPoint c w) l h = tt
own_later serial n f (Load c scalar object offset v) l h = tt
own_later serial n f (Store c scalar object offset v) l h = tt
own_later serial n f (Leave m) l h = tt

own_older : (n : ℕ) (f : Function) (e : Event) → IsOlder n e → IsOwn n f e
own_older n f (Entry m g arguments memory caller) h = λ same. absurd (let less : m < n = h in omega (arith, less, same))
own_older n f (AtPoint c w) h = tt
own_older n f (Load c scalar object offset v) h = tt
own_older n f (Store c scalar object offset v) h = tt
own_older n f (Leave m) h = tt

all_own_older : (n : ℕ) (f : Function) (past : List Event) → AllByRecursion (IsOlder n) past → AllByRecursion (IsOwn n f) past
all_own_older n f [] h = tt
all_own_older n f (e ∷ past) h = (own_older n f e h.0, all_own_older n f past h.1)

-- the code of a frame takes addresses that its function takes
pub record InCode (c : Control) : Type 0 where
  pub rest : BodyTaken (λ name. AddressedIn name c.function.blocks) c.rest
  pub end : Taken (λ name. AddressedIn name c.function.blocks) (operands_of_end c.end)
  pub blocks : AllByRecursion (BlockTaken (λ name. AddressedIn name c.function.blocks)) c.function.blocks

pub record ControlIn (past : List Event) (n : ℕ) (c : Control) : Type 0 where
  pub code : InCode c
  pub less : c.serial < n
  pub own : AllByRecursion (IsOwn c.serial c.function) past

pub record FrameIn (past : List Event) (n : ℕ) (f : Frame) : Type 0 where
  pub control : ControlIn past n f.control
  pub registers : ValuesOpen past n f.registers

pub record Inside (past : List Event) (s : State) : Type 0 where
  pub control : ControlIn past s.next s.top
  pub below : AllByRecursion (FrameIn past s.next) s.below
  pub world : WorldIn (ValueOpen past s.next) (law past s.next) s.world

control_more : (past : List Event) (n m : ℕ) (e : Event) → n ≤ m → IsLater n e → (c : Control) → ControlIn past n c → ControlIn (e ∷ past) m c
control_more past n m e l h c k = let less : c.serial < n = k.less in record { code = k.code; less = omega (arith, less, l); own = (own_later c.serial n c.function e less h, k.own) }

frames_more : (past : List Event) (n m : ℕ) (e : Event) → n ≤ m → IsLater n e → (fs : List Frame) → AllByRecursion (FrameIn past n) fs → AllByRecursion (FrameIn (e ∷ past) m) fs
frames_more past n m e l h [] k = tt
frames_more past n m e l h (f ∷ fs) k = (record { control = control_more past n m e l h f.control k.0.control; registers = values_more past n m e l h f.registers k.0.registers }, frames_more past n m e l h fs k.1)

world_more : (past : List Event) (n m : ℕ) (e : Event) → n ≤ m → IsLater n e → (w : World) → WorldIn (ValueOpen past n) (law past n) w → WorldIn (ValueOpen (e ∷ past) m) (law (e ∷ past) m) w
world_more past n m e l h w k = record { registers = values_more past n m e l h w.registers k.registers; memory = memory_more past n m e l h w.memory k.memory }

same_number : (n : ℕ) → n ≤ n
same_number n = omega arith

inside_more : (past : List Event) (s : State) (e : Event) → IsLater s.next e → Inside past s → Inside (e ∷ past) s
inside_more past s e h k = record {
  control = control_more past s.next s.next e (same_number s.next) h s.top k.control;
  below = frames_more past s.next s.next e (same_number s.next) h s.below k.below;
  world = world_more past s.next s.next e (same_number s.next) h s.world k.world;
}

inside_after : (past es : List Event) (s : State) → AllByRecursion (IsLater s.next) es → Inside past s → Inside (after past es) s
inside_after past [] s h k = k
inside_after past (e ∷ es) s h k = inside_after (e ∷ past) es s h.1 (inside_more past s e h.0 k)

-- the events of a step before its transfer
pub inside_mid : (p : Sealed) (past : List Event) (s : State) → Inside past s → Inside (mid p past s) s
inside_mid p past s k =
    inside_after (AtPoint s.top s.world ∷ past) (access p.program.globals s.top.rest s) s (access_all (IsLater s.next) s (λ scalar f. tt) (λ scalar f v. tt) p.program.globals s.top.rest)
    (inside_more past s (AtPoint s.top s.world) tt k)

-- and the first of them
pub inside_point : (past : List Event) (s : State) → Inside past s → Inside (AtPoint s.top s.world ∷ past) s
inside_point past s k = inside_more past s (AtPoint s.top s.world) tt k

-- a call that has begun with the serial of a frame is of its function
pub function_own : (past : List Event) (n : ℕ) (c : Control) → ControlIn past n c → (serial : ℕ) (f : Function) → HasBegun past serial f → serial ≡ c.serial → f ≡ c.function
function_own past n c h serial f begun same =
    All-contains (IsOwn c.serial c.function) past (Entry serial f begun.arguments begun.memory begun.caller) (All-from_recursion (IsOwn c.serial c.function) past h.own) begun.there same

-- ---- addresses

pub not_private : (f : Function) (name : List ℕ) (k : ℕ) → position (λ (d : Decl). bytes_eq d.name name) f.locals ≡ Some k → AddressedIn name f.blocks → IsPrivate f k → ⊥
not_private f name k e a h =
    let x = place_named (λ (d : Decl). d.name) f.locals name k e in
    let items : Some x.0 ≡ Some h.decl = sym x.1 ∙ h.there in
    let same : x.0 ≡ h.decl = cc in
    let names : name ≡ h.decl.name = sym x.2 ∙ ap (λ (d : Decl). d.name) same in
    h.unaddressed (subst (λ n. AddressedIn n f.blocks) names a)

opens_own : (f : Function) (serial k : ℕ) → (IsPrivate f k → ⊥) → (e : Event) → IsOwn serial f e → Opens serial k e
opens_own f serial k never (Entry n g arguments m caller) h = λ same private. never (subst (λ (x : Function). IsPrivate x k) (h same) private)
opens_own f serial k never (AtPoint c w) h = tt
opens_own f serial k never (Load c scalar object offset v) h = tt
opens_own f serial k never (Store c scalar object offset v) h = tt
opens_own f serial k never (Leave n) h = tt

all_open : (f : Function) (serial k : ℕ) → (IsPrivate f k → ⊥) → (past : List Event) → AllByRecursion (IsOwn serial f) past → AllByRecursion (Opens serial k) past
all_open f serial k never [] h = tt
all_open f serial k never (e ∷ past) h = (opens_own f serial k never e h.0, all_open f serial k never past h.1)

global_open : (past : List Event) (n : ℕ) (name : List ℕ) (o : Option ℕ) → ValueOpen past n (global_address name o)
global_open past n name None = tt
global_open past n name (Some k) = tt

global_address_open : (past : List Event) (n : ℕ) (globals : List Global) (name : List ℕ) → ValueOpen past n (address_of_global globals name)
unfolding address_of_global
global_address_open past n globals name = global_open past n name _

local_open : (past : List Event) (n serial : ℕ) (o : Option ℕ) (v : Value) → ValueOpen past n v → ((k : ℕ) → o ≡ Some k → ObjectOpen past n (LocalObject serial k)) → ValueOpen past n (local_address serial o v)
local_open past n serial None v h k = h
local_open past n serial (Some j) v h k = k j refl

address_open : (past : List Event) (n : ℕ) (globals : List Global) (c : Control) (name : List ℕ) → ControlIn past n c → AddressedIn name c.function.blocks → ValueOpen past n (address_of globals (scope_of c) name)
unfolding address_of
address_open past n globals c name h a =
    local_open past n c.serial _ _ (global_address_open past n globals name)
    (λ k e. (h.less, all_open c.function c.serial k (not_private c.function name k e a) past h.own))

operands_open : (past : List Event) (n : ℕ) (globals : List Global) (c : Control) (xs : List Operand) → ControlIn past n c → Taken (λ name. AddressedIn name c.function.blocks) xs → OperandsIn (ValueOpen past n) (law past n) globals (scope_of c) xs
operands_open past n globals c xs h taken name t = address_open past n globals c name h (taken name t)

-- ---- a step

abbrev ExitOpen : List Event → ℕ → Exit → Type 0
ExitOpen past n (ToLabel label) = Unit {0}
ExitOpen past n (Returns v) = IfSome v (ValueOpen past n)

exit_open : (past : List Event) (n : ℕ) (globals : List Global) (s : State) (e : End) → OperandsIn (ValueOpen past n) (law past n) globals (scope_of s.top) (operands_of_end e) → ValuesOpen past n s.world.registers → ExitOpen past n (exit_of globals e s)
exit_open past n globals s (Goto label) k h = tt
exit_open past n globals s (If left cmp right hit miss) k h = tt
exit_open past n globals s (Switch on cases other) k h = tt
exit_open past n globals s (Return None) k h = tt
exit_open past n globals s (Return (Some x)) k h = first_in (ValueOpen past n) (law past n) globals (scope_of s.top) s.world.registers x [] h k

given_open : (past : List Event) (n : ℕ) (vs : List Value) (to : Option ℕ) (v : Option Value) → ValuesOpen past n vs → IfSome v (ValueOpen past n) → ValuesOpen past n (given vs to v)
given_open past n vs to None h k = h
given_open past n vs to (Some v) h k = put_at_in (ValueOpen past n) (law past n) vs to v k h

entered : (g : Function) (b : Block) (bs : List Block) (serial : ℕ) (takes : Option ℕ) → g.blocks ≡ b ∷ bs → InCode (record { function = g; block = 0; index = 0; rest = b.body; end = b.end; serial = serial; takes = takes })
entered g b bs serial takes e =
    let all : AllByRecursion (BlockTaken (λ name. AddressedIn name g.blocks)) g.blocks = blocks_taken (λ name. AddressedIn name g.blocks) g.blocks (λ name a. a) in
    let first : AllByRecursion (BlockTaken (λ name. AddressedIn name g.blocks)) (b ∷ bs) = subst (AllByRecursion (BlockTaken (λ name. AddressedIn name g.blocks))) e all in
    record { rest = first.0.body; end = first.0.end; blocks = all }

-- the operands of the next statement, and the frame behind it
record Next (past : List Event) (n : ℕ) (globals : List Global) (c : Control) (x : Stmt) (xs : List Stmt) : Type 0 where
  operands : OperandsIn (ValueOpen past n) (law past n) globals (scope_of c) (operands_of x)
  control : ControlIn past n (record c { rest = xs; index = c.index + 1 })

next : (past : List Event) (n : ℕ) (globals : List Global) (c : Control) (x : Stmt) (xs : List Stmt) → ControlIn past n c → c.rest ≡ x ∷ xs → Next past n globals c x xs
next past n globals c x xs h e =
    let taken : BodyTaken (λ name. AddressedIn name c.function.blocks) (x ∷ xs) = subst (BodyTaken (λ name. AddressedIn name c.function.blocks)) e h.code.rest in
    record {
      operands = operands_open past n globals c (operands_of x) h taken.0;
      control = record { code = record { rest = taken.1; end = h.code.end; blocks = h.code.blocks }; less = h.less; own = h.own };
    }

arguments_open : (p : Sealed) (past : List Event) (s : State) (x : Stmt) (xs : List Stmt) (c : Calling) → Inside past s → s.top.rest ≡ x ∷ xs → call_of x ≡ Some c →
    ValuesOpen past s.next (values_of p.program.globals (scope_of s.top) s.world.registers c.arguments)
arguments_open p past s x xs c h e n =
    let k = next past s.next p.program.globals s.top x xs h.control e in
    values_of_in (ValueOpen past s.next) (law past s.next) p.program.globals (scope_of s.top) s.world.registers c.arguments h.world.registers
    (subst (OperandsIn (ValueOpen past s.next) (law past s.next) p.program.globals (scope_of s.top)) (arguments_of_call x c n) k.operands)

inside_did : (p : Sealed) (now : List Event) (s : State) → AllByRecursion (IsOlder s.next) now → Inside now s → (d : Did) → Steps p s d → InDid (Inside (after now (crossing p.program.globals s.top.rest s d))) d
inside_did p now s old h _ (acts x xs w e n r) =
    let k = next now s.next p.program.globals s.top x xs h.control e in
    record {
      control = k.control;
      below = h.below;
      world = subst (ActedIn (ValueOpen now s.next) (law now s.next)) r (act_in (ValueOpen now s.next) (law now s.next) (setting_of p) (scope_of s.top) x s.world k.operands h.world);
    }
inside_did p now s old h _ (calls x xs c g b bs e n f y) =
    let k = next now s.next p.program.globals s.top x xs h.control e in
    let begins : Event = Entry s.next g (arguments_at p.program.globals s.top.rest s) s.world.memory (Some s.top) in
    let more : s.next ≤ s.next + 1 = omega arith in
    record {
      control = record { code = entered g b bs s.next _ y; less = omega arith; own = ((λ same. refl), all_own_older s.next g now old) };
      below = (
        record {
          control = control_more now s.next (s.next + 1) begins more (same_number s.next) _ k.control;
          registers = values_more now s.next (s.next + 1) begins more (same_number s.next) s.world.registers h.world.registers;
        },
        frames_more now s.next (s.next + 1) begins more (same_number s.next) s.below h.below,
      );
      world = record {
        registers = registers_made_in (ValueOpen (begins ∷ now) (s.next + 1)) (law (begins ∷ now) (s.next + 1)) g _
            (values_more now s.next (s.next + 1) begins more (same_number s.next) _ (arguments_open p now s x xs c h e n));
        memory = with_locals_in (ValueOpen (begins ∷ now) (s.next + 1)) (law (begins ∷ now) (s.next + 1)) p.program.structs s.next 0 g.locals s.world.memory
            (memory_more now s.next (s.next + 1) begins more (same_number s.next) s.world.memory h.world.memory);
      };
    }
inside_did p now s old h _ (jumps label k b e x f) =
    let taken = label_has (BlockTaken (λ name. AddressedIn name s.top.function.blocks)) label k s.top.function.blocks b h.control.code.blocks f in
    record {
      control = record { code = record { rest = taken.body; end = taken.end; blocks = h.control.code.blocks }; less = h.control.less; own = h.control.own };
      below = h.below;
      world = h.world;
    }
inside_did p now s old h _ (leaves v f fs e x y) =
    let rest : AllByRecursion (FrameIn now s.next) (f ∷ fs) = subst (AllByRecursion (FrameIn now s.next)) y h.below in
    let value : ExitOpen now s.next (Returns v) =
    subst (ExitOpen now s.next) x (exit_open now s.next p.program.globals s s.top.end (operands_open now s.next p.program.globals s.top (operands_of_end s.top.end) h.control h.control.code.end) h.world.registers) in
    let t : State = record s { top = f.control; below = fs; world = record s.world { registers = given f.registers s.top.takes v; memory = without_frame s.top.serial s.world.memory } } in
    let inside : Inside now t = record {
      control = rest.0.control;
      below = rest.1;
      world = record {
        registers = given_open now s.next f.registers s.top.takes v rest.0.registers value;
        memory = without_frame_in (ValueOpen now s.next) (law now s.next) s.top.serial s.world.memory h.world.memory;
      };
    } in
    inside_more now t (Leave s.top.serial) tt inside
inside_did p now s old h _ (stops o z) = tt
inside_did p now s old h _ (traps o k) = tt

-- ---- the whole run

abbrev FirstInside : Sealed → Option State → Type 0
FirstInside p None = Unit {0}
FirstInside p (Some s) = Inside (main_entry p s ∷ []) s

begun_inside : (p : Sealed) (input : List ℤ) (f : Function) (bs : List Block) → f.blocks ≡ bs → FirstInside p (begun p.program input f bs)
begun_inside p input f [] e = tt
begun_inside p input f (b ∷ bs) e =
    let past : List Event = Entry 0 f [] (first_memory p.program) None ∷ [] in
    record {
      control = record { code = entered f b bs 0 None e; less = omega arith; own = ((λ same. refl), tt) };
      below = tt;
      world = record {
        registers = registers_made_in (ValueOpen past 1) (law past 1) f [] (All-nil (ValueOpen past 1));
        memory = with_locals_in (ValueOpen past 1) (law past 1) p.program.structs 0 0 f.locals (first_memory p.program)
            (with_globals_in (ValueOpen past 1) (law past 1) p.program.structs p.program.globals 0 p.program.globals no_memory (All-nil (λ (x : MemorySlot). ValueOpen past 1 x.value)) (λ name t. global_address_open past 1 p.program.globals name));
      };
    }

start_inside : (p : Sealed) (input : List ℤ) (o : Option Function) → FirstInside p (begun_by p.program input o)
start_inside p input None = tt
start_inside p input (Some f) = begun_inside p input f f.blocks refl

pub inside : (p : Sealed) (input : List ℤ) (past : List Event) (s : State) → Comes p input past s → Inside past s
inside p input past s c =
    holds_with p input Inside
    (λ t e. subst (FirstInside p) e (start_inside p input (function_named main_name p.program.functions)))
    (λ past t c h.
    subst (λ es. InDid (Inside es) (step p t)) (sym (told_mid p past t))
    (inside_did p (mid p past t) t (mid_older p past t (older p input past t c)) (inside_mid p past t h) (step p t) (step_is p t)))
    past s c

-- ---- what that says of private locals

open_at : (past : List Event) (serial k : ℕ) (f : Function) → HasBegun past serial f → IsPrivate f k → AllByRecursion (Opens serial k) past → ⊥
open_at past serial k f begun private h =
    All-contains (Opens serial k) past (Entry serial f begun.arguments begun.memory begun.caller) (All-from_recursion (Opens serial k) past h) begun.there refl private

pub value_lacks : (past : List Event) (n serial k : ℕ) (f : Function) → HasBegun past serial f → IsPrivate f k → (v : Value) → ValueOpen past n v → PointsTo (LocalObject serial k) v → ⊥
value_lacks past n serial k f begun private (Int z) h to = to
value_lacks past n serial k f begun private Null h to = to
value_lacks past n serial k f begun private (At object offset) h to =
    let was : ObjectOpen past n (LocalObject serial k) = subst (ObjectOpen past n) to h in
    open_at past serial k f begun private was.1
value_lacks past n serial k f begun private (Code name) h to = to

values_lack : (past : List Event) (n serial k : ℕ) (f : Function) → HasBegun past serial f → IsPrivate f k → (vs : List Value) → ValuesOpen past n vs → NoPointers (LocalObject serial k) vs
values_lack past n serial k f begun private vs h = All-weaker (ValueOpen past n) (λ (v : Value). PointsTo (LocalObject serial k) v → ⊥) (value_lacks past n serial k f begun private) vs h

memory_lacks : (past : List Event) (n serial k : ℕ) (f : Function) → HasBegun past serial f → IsPrivate f k → (m : Memory) → MemoryOpen past n m → NoPointersIn (LocalObject serial k) m
memory_lacks past n serial k f begun private m h =
    All-weaker (λ (x : MemorySlot). ValueOpen past n x.value) (λ (x : MemorySlot). PointsTo (LocalObject serial k) x.value → ⊥) (λ x was. value_lacks past n serial k f begun private x.value was) m.slots h

frames_lack : (past : List Event) (n serial k : ℕ) (f : Function) → HasBegun past serial f → IsPrivate f k → (fs : List Frame) → AllByRecursion (FrameIn past n) fs → AllByRecursion (λ (x : Frame). NoPointers (LocalObject serial k) x.registers) fs
frames_lack past n serial k f begun private [] h = tt
frames_lack past n serial k f begun private (x ∷ xs) h = (values_lack past n serial k f begun private x.registers h.0.registers, frames_lack past n serial k f begun private xs h.1)

pub private_locals_unheld : PrivateLocalsUnheld
private_locals_unheld p input past s c f serial k begun private =
    let h : Inside past s = inside p input past s c in
    record {
      top = values_lack past s.next serial k f begun private s.world.registers h.world.registers;
      below = frames_lack past s.next serial k f begun private s.below h.below;
      memory = memory_lacks past s.next serial k f begun private s.world.memory h.world.memory;
    }

-- ---- entries

inner_one : (past : List Event) (e : Event) → IsInner e → EntryIsUnheld past e
inner_one past (Entry n g arguments m caller) h = absurd h
inner_one past (AtPoint c w) h = tt
inner_one past (Load c scalar object offset v) h = tt
inner_one past (Store c scalar object offset v) h = tt
inner_one past (Leave n) h = tt

inner_each : (past es : List Event) → AllByRecursion IsInner es → EachAfter EntryIsUnheld past es
inner_each past [] h = tt
inner_each past (e ∷ es) h = (inner_one past e h.0, inner_each (e ∷ past) es h.1)

entry_lacks : (past : List Event) (n : ℕ) (arguments : List Value) (m : Memory) → ValuesOpen past n arguments → MemoryOpen past n m → (f : Function) (other k : ℕ) → HasBegun past other f → IsPrivate f k →
    NoPointers (LocalObject other k) arguments × NoPointersIn (LocalObject other k) m
entry_lacks past n arguments m h g f other k begun private = (values_lack past n other k f begun private arguments h, memory_lacks past n other k f begun private m g)

passed_open : (p : Sealed) (now : List Event) (s : State) (x : Stmt) (xs : List Stmt) (c : Calling) → s.top.rest ≡ x ∷ xs → call_of x ≡ Some c →
    ValuesOpen now s.next (values_of p.program.globals (scope_of s.top) s.world.registers c.arguments) → ValuesOpen now s.next (arguments_at p.program.globals s.top.rest s)
passed_open p now s x xs c e n h = rw (e, n) h

crossing_unheld : (p : Sealed) (now : List Event) (s : State) → Inside now s → (d : Did) → Steps p s d → EachAfter EntryIsUnheld now (crossing p.program.globals s.top.rest s d)
crossing_unheld p now s h _ (acts x xs w e n r) = tt
crossing_unheld p now s h _ (calls x xs c g b bs e n f y) =
    (entry_lacks now s.next (arguments_at p.program.globals s.top.rest s) s.world.memory (passed_open p now s x xs c e n (arguments_open p now s x xs c h e n)) h.world.memory, tt)
crossing_unheld p now s h _ (jumps label k b e x f) = tt
crossing_unheld p now s h _ (leaves v f fs e x y) = (tt, tt)
crossing_unheld p now s h _ (stops o z) = (tt, tt)
crossing_unheld p now s h _ (traps o k) = tt

unheld_each : (p : Sealed) (input : List ℤ) → AtEach p input EntryIsUnheld
unfolding told_by
unheld_each p input past s c = (
  tt,
  each_append EntryIsUnheld (AtPoint s.top s.world ∷ past) (access p.program.globals s.top.rest s) (crossing p.program.globals s.top.rest s (step p s))
      (inner_each (AtPoint s.top s.world ∷ past) (access p.program.globals s.top.rest s) (access_all IsInner s (λ scalar f. tt) (λ scalar f v. tt) p.program.globals s.top.rest))
      (crossing_unheld p (mid p past s) s (inside_mid p past s (inside p input past s c)) (step p s) (step_is p s)),
)

none_begun : (serial : ℕ) (f : Function) → HasBegun [] serial f → ⊥
none_begun serial f h = let within : h.there.0 < 0 = h.there.1 in omega (arith, within)

pub private_locals_not_passed : PrivateLocalsNotPassed
private_locals_not_passed p input n = in_run p EntryIsUnheld input (λ s e f other k begun private. absurd (none_begun other f begun)) (unheld_each p input) n
