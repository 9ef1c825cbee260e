-- In each run of an accepted program a function value is of a function whose address is taken in the program.
use Rattle.std.proofs.Common.{◌≡◌, ℕ, suc, ◌<◌, ℤ, Bool, true, false, List, [], ◌∷◌, length, refl, subst, arith, Option, Some, None, All, IfSome, if◌then◌else◌}
use Rattle.std.specs.List.{AllByRecursion, Contains, find}
use Rattle.std.proofs.lemmas.List.Elements.{All-nil, All-weaker}
use Rattle.std.specs.Str.{bytes_eq}
use Rattle.gimple_ir.specs.declared.operand.Operand.{Operand}
use Rattle.gimple_ir.specs.declared.value.Value.{Value}
use Rattle.gimple_ir.specs.declared.value.Value.TheVariants.{Int, Null, At, Code}
use Rattle.gimple_ir.specs.declared.statement.Stmt.{Stmt}
use Rattle.gimple_ir.specs.declared.block.End.{End}
use Rattle.gimple_ir.specs.declared.block.End.TheVariants.{Goto, If, Switch, Return}
use Rattle.gimple_ir.specs.declared.block.Block.{Block}
use Rattle.gimple_ir.specs.declared.program.Function.{Function}
use Rattle.gimple_ir.specs.declared.program.Program.{Program}
use Rattle.gimple_core.specs.declared.machine.MemorySlot.{MemorySlot}
use Rattle.gimple_core.specs.Sealed.{Sealed}
use Rattle.gimple_core.specs.State.{Control, Frame, State, scope_of, setting_of}
use Rattle.gimple_core.specs.Run.{Did, Exit, ToLabel, Returns, exit_of, step, given, function_named, first_memory, no_memory, main_name, begun, begun_by}
use Rattle.gimple_core.specs.Trace.{Event}
use Rattle.gimple_core.specs.Env.{functions_by_name}
use Rattle.gimple_core.specs.Reach.{operands_of, operands_of_end, IsAddressed}
use Rattle.gimple_core.specs.Typed.{FunctionsTyped, env_of}
use Rattle.gimple_core.specs.Accepted.{first_fault}
use Rattle.gimple_core.proofs.FunctionValues.{ValueIn, OperandsIn, WorldIn, ActedIn, put_at_in, first_in, values_of_in, registers_made_in, with_locals_in, with_globals_in, without_frame_in, act_in, arguments_of_call}
use Rattle.gimple_core.proofs.ProgramTyped.{accepted_typed}
use Rattle.gimple_claims.specs.Addressed.{ValueAddressed, FunctionValuesAreAddressed}
use Rattle.gimple_claims.proofs.Blocks.{label_has}
use Rattle.gimple_claims.proofs.Callees.{called_own}
use Rattle.gimple_claims.proofs.Comes.{Comes, InDid, holds}
use Rattle.gimple_claims.proofs.KnownAddresses.{AddressesKnown, BlockKnown, blocks_known, address_function, item_names}
use Rattle.gimple_claims.proofs.Lists.{all_found}
use Rattle.gimple_claims.proofs.Taken.{Taken, BodyTaken, BlockTaken, blocks_taken}
use Rattle.gimple_claims.proofs.Steps.{Steps, acts, calls, jumps, leaves, stops, traps, step_is}

-- ---- the addresses in a function of the program

contains_first : (f g : Function) (fs : List Function) (o : Option Function) → f ≡ g → Contains (f ∷ fs) g
contains_first f g fs o e = (0, omega arith, e)

contains_of : (f g : Function) (fs : List Function) (o : Option Function) → (o ≡ Some g → Contains fs g) → (b : Bool) → (if b then Some f else o) ≡ Some g → Contains (f ∷ fs) g
contains_of f g fs o more true e = let same : f ≡ g = cc in contains_first f g fs o same
contains_of f g fs o more false e = let c = more e in (suc c.0, (let lt : c.0 < length fs = c.1 in omega (arith, lt)), c.2)

found_contained : (test : Function → Bool) (fs : List Function) (g : Function) → find test fs ≡ Some g → Contains fs g
found_contained test [] g e = cc
found_contained test (f ∷ fs) g e = contains_of f g fs (find test fs) (found_contained test fs g) (test f) e

named_contained : (name : List ℕ) (fs : List Function) (g : Function) → function_named name fs ≡ Some g → Contains fs g
unfolding function_named
named_contained name fs g e = found_contained (λ f. bytes_eq f.name name) fs g e

-- a function of a typed program
typed_known : (p : Program) (fs : List Function) → FunctionsTyped p fs → AllByRecursion (λ (f : Function). AllByRecursion (BlockKnown (env_of p f)) f.blocks) fs
typed_known p [] h = tt
typed_known p (f ∷ fs) h = (blocks_known (env_of p f) (functions_by_name p.functions) f.blocks h.2, typed_known p fs h.3)

named_known : (p : Program) → first_fault p ≡ None → (name : List ℕ) (g : Function) → function_named name p.functions ≡ Some g → AllByRecursion (BlockKnown (env_of p g)) g.blocks
unfolding function_named
named_known p accepted name g e =
    all_found (λ (f : Function). AllByRecursion (BlockKnown (env_of p f)) f.blocks) (λ f. bytes_eq f.name name) p.functions g (typed_known p p.functions (accepted_typed p accepted).1) e

-- ---- what holds in each state

module _ (p : Program) where
  -- a function of the program whose address is taken there
  abbrev Named : List ℕ → Type 0
  Named name = ((f : Function) × (function_named name p.functions ≡ Some f)) × IsAddressed p name

  -- the code of a frame: its addresses are taken in the program, and known
  record InCode (c : Control) : Type 0 where
    taken : BodyTaken (IsAddressed p) c.rest
    known : AllByRecursion (λ (x : Stmt). AddressesKnown (env_of p c.function) (operands_of x)) c.rest
    end_taken : Taken (IsAddressed p) (operands_of_end c.end)
    end_known : AddressesKnown (env_of p c.function) (operands_of_end c.end)
    blocks_are_taken : AllByRecursion (BlockTaken (IsAddressed p)) c.function.blocks
    blocks_are_known : AllByRecursion (BlockKnown (env_of p c.function)) c.function.blocks

  record FrameIn (f : Frame) : Type 0 where
    code : InCode f.control
    registers : All (ValueIn Named) f.registers

  record StateIn (s : State) : Type 0 where
    code : InCode s.top
    below : AllByRecursion FrameIn s.below
    world : WorldIn Named s.world

  operands_in : (c : Control) (xs : List Operand) → Taken (IsAddressed p) xs → AddressesKnown (env_of p c.function) xs → OperandsIn Named p.globals (scope_of c) xs
  operands_in c xs taken known name t e = (address_function p c.function (scope_of c) name refl (known name t) e, taken name t)

  abbrev ExitIn : Exit → Type 0
  ExitIn (ToLabel label) = Unit {0}
  ExitIn (Returns v) = IfSome v (ValueIn Named)

  exit_in : (s : State) (e : End) → OperandsIn Named p.globals (scope_of s.top) (operands_of_end e) → All (ValueIn Named) s.world.registers → ExitIn (exit_of p.globals e s)
  exit_in s (Goto label) k h = tt
  exit_in s (If left cmp right hit miss) k h = tt
  exit_in s (Switch on cases other) k h = tt
  exit_in s (Return None) k h = tt
  exit_in s (Return (Some x)) k h = first_in Named p.globals (scope_of s.top) s.world.registers x [] h k

  given_in : (vs : List Value) (to : Option ℕ) (v : Option Value) → All (ValueIn Named) vs → IfSome v (ValueIn Named) → All (ValueIn Named) (given vs to v)
  given_in vs to None h k = h
  given_in vs to (Some v) h k = put_at_in Named vs to v k h

module _ (p : Sealed) (accepted : first_fault p.program ≡ None) where
  entered : (name : List ℕ) (g : Function) (b : Block) (bs : List Block) (serial : ℕ) (takes : Option ℕ) → function_named name p.program.functions ≡ Some g → g.blocks ≡ b ∷ bs →
      InCode p.program (record { function = g; block = 0; index = 0; rest = b.body; end = b.end; serial = serial; takes = takes })
  entered name g b bs serial takes e f =
      let taken : AllByRecursion (BlockTaken (IsAddressed p.program)) g.blocks = blocks_taken (IsAddressed p.program) g.blocks (λ other a. IsAddressed.body g (named_contained name p.program.functions g e) a) in
      let known : AllByRecursion (BlockKnown (env_of p.program g)) g.blocks = named_known p.program accepted name g e in
      let first : AllByRecursion (BlockTaken (IsAddressed p.program)) (b ∷ bs) = subst (AllByRecursion (BlockTaken (IsAddressed p.program))) f taken in
      let second : AllByRecursion (BlockKnown (env_of p.program g)) (b ∷ bs) = subst (AllByRecursion (BlockKnown (env_of p.program g))) f known in
      record { taken = first.0.body; known = second.0.body; end_taken = first.0.end; end_known = second.0.end; blocks_are_taken = taken; blocks_are_known = known }

  -- the frame with one statement less to do
  record Next (s : State) (x : Stmt) (xs : List Stmt) : Type 0 where
    operands : OperandsIn (Named p.program) p.program.globals (scope_of s.top) (operands_of x)
    taken : BodyTaken (IsAddressed p.program) xs
    known : AllByRecursion (λ (y : Stmt). AddressesKnown (env_of p.program s.top.function) (operands_of y)) xs

  next : (s : State) (x : Stmt) (xs : List Stmt) → InCode p.program s.top → s.top.rest ≡ x ∷ xs → Next s x xs
  next s x xs h e =
      let taken : BodyTaken (IsAddressed p.program) (x ∷ xs) = subst (BodyTaken (IsAddressed p.program)) e h.taken in
      let known : AllByRecursion (λ (y : Stmt). AddressesKnown (env_of p.program s.top.function) (operands_of y)) (x ∷ xs) = subst (AllByRecursion (λ (y : Stmt). AddressesKnown (env_of p.program s.top.function) (operands_of y))) e h.known in
      record { operands = operands_in p.program s.top (operands_of x) taken.0 known.0; taken = taken.1; known = known.1 }

  in_did : (s : State) → StateIn p.program s → (d : Did) → Steps p s d → InDid (StateIn p.program) d
  in_did s h _ (acts x xs w e n r) =
      let k = next s x xs h.code e in
      record {
        code = record { taken = k.taken; known = k.known; end_taken = h.code.end_taken; end_known = h.code.end_known; blocks_are_taken = h.code.blocks_are_taken; blocks_are_known = h.code.blocks_are_known };
        below = h.below;
        world = subst (ActedIn (Named p.program)) r (act_in (Named p.program) (setting_of p) (scope_of s.top) x s.world k.operands h.world);
      }
  in_did s h _ (calls x xs c g b bs e n f y) =
      let k = next s x xs h.code e in
      let operands : OperandsIn (Named p.program) p.program.globals (scope_of s.top) c.arguments = subst (OperandsIn (Named p.program) p.program.globals (scope_of s.top)) (arguments_of_call x c n) k.operands in
      record {
        code = entered g.name g b bs s.next _ (called_own p.program.functions (scope_of s.top) s.world.registers c.callee g f) y;
        below = (
          record {
            code = record { taken = k.taken; known = k.known; end_taken = h.code.end_taken; end_known = h.code.end_known; blocks_are_taken = h.code.blocks_are_taken; blocks_are_known = h.code.blocks_are_known };
            registers = h.world.registers;
          },
          h.below,
        );
        world = record {
          registers = registers_made_in (Named p.program) g _ (values_of_in (Named p.program) p.program.globals (scope_of s.top) s.world.registers c.arguments h.world.registers operands);
          memory = with_locals_in (Named p.program) p.program.structs s.next 0 g.locals s.world.memory h.world.memory;
        };
      }
  in_did s h _ (jumps label k b e x f) =
      let taken = label_has (BlockTaken (IsAddressed p.program)) label k s.top.function.blocks b h.code.blocks_are_taken f in
      let known = label_has (BlockKnown (env_of p.program s.top.function)) label k s.top.function.blocks b h.code.blocks_are_known f in
      record {
        code = record { taken = taken.body; known = known.body; end_taken = taken.end; end_known = known.end; blocks_are_taken = h.code.blocks_are_taken; blocks_are_known = h.code.blocks_are_known };
        below = h.below;
        world = h.world;
      }
  in_did s h _ (leaves v f fs e x y) =
      let rest : AllByRecursion (FrameIn p.program) (f ∷ fs) = subst (AllByRecursion (FrameIn p.program)) y h.below in
      let value : ExitIn p.program (Returns v) =
      subst (ExitIn p.program) x (exit_in p.program s s.top.end (operands_in p.program s.top (operands_of_end s.top.end) h.code.end_taken h.code.end_known) h.world.registers) in
      record {
        code = rest.0.code;
        below = rest.1;
        world = record { registers = given_in p.program f.registers s.top.takes v rest.0.registers value; memory = without_frame_in (Named p.program) s.top.serial s.world.memory h.world.memory };
      }
  in_did s h _ (stops o z) = tt
  in_did s h _ (traps o k) = tt

  abbrev FirstIn : Option State → Type 0
  FirstIn None = Unit {0}
  FirstIn (Some s) = StateIn p.program s

  begun_in : (input : List ℤ) (name : List ℕ) (f : Function) → function_named name p.program.functions ≡ Some f → (bs : List Block) → f.blocks ≡ bs → FirstIn (begun p.program input f bs)
  begun_in input name f n [] e = tt
  begun_in input name f n (b ∷ bs) e = record {
    code = entered name f b bs 0 None n e;
    below = tt;
    world = record {
      registers = registers_made_in (Named p.program) f [] (All-nil (ValueIn (Named p.program)));
      memory = with_locals_in (Named p.program) p.program.structs 0 0 f.locals (first_memory p.program)
          (with_globals_in (Named p.program) p.program.structs p.program.globals 0 p.program.globals no_memory (All-nil _) (λ other m a. (item_names p.program accepted other m a, IsAddressed.item m)));
    };
  }

  start_in : (input : List ℤ) (o : Option Function) → function_named main_name p.program.functions ≡ o → FirstIn (begun_by p.program input o)
  start_in input None e = tt
  start_in input (Some f) e = begun_in input main_name f e f.blocks refl

  in_each : (input : List ℤ) (past : List Event) (s : State) → Comes p input past s → StateIn p.program s
  in_each input past s c =
      holds p input (λ past t. StateIn p.program t) (record {
        begin = λ t e. subst FirstIn e (start_in input (function_named main_name p.program.functions) refl);
        keep = λ past t h. in_did t h (step p t) (step_is p t);
      }) past s c

value_addressed : (p : Program) (v : Value) → ValueIn (Named p) v → ValueAddressed p v
value_addressed p (Int z) h = tt
value_addressed p Null h = tt
value_addressed p (At object offset) h = tt
value_addressed p (Code name) h = h

frames_addressed : (p : Program) (fs : List Frame) → AllByRecursion (FrameIn p) fs → AllByRecursion (λ (f : Frame). All (ValueAddressed p) f.registers) fs
frames_addressed p [] h = tt
frames_addressed p (f ∷ fs) h = (All-weaker (ValueIn (Named p)) (ValueAddressed p) (value_addressed p) f.registers h.0.registers, frames_addressed p fs h.1)

pub function_values_are_addressed : FunctionValuesAreAddressed
function_values_are_addressed p accepted input past s c =
    let h : StateIn p.program s = in_each p accepted input past s c in
    record {
      top = All-weaker (ValueIn (Named p.program)) (ValueAddressed p.program) (value_addressed p.program) s.world.registers h.world.registers;
      below = frames_addressed p.program s.below h.below;
      memory = All-weaker (λ (x : MemorySlot). ValueIn (Named p.program) x.value) (λ (x : MemorySlot). ValueAddressed p.program x.value) (λ x k. value_addressed p.program x.value k) s.world.memory.slots h.world.memory;
    }
