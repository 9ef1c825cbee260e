-- What the machine's calls leave, as steps of the definition.
use Rattle.std.proofs.Common.{◌≡◌, ◌∙◌, ap, sym, refl, subst, List, [], ◌∷◌, ◌++◌, reverse, map, slice_get, get_or, Option, None, Some, Ok, ℕ, zero, suc, ◌+◌, ◌<◌, ◌≤◌, ◌^◌, length, arith, Vec, Global as Heap}
use Rattle.std.proofs.lemmas.List.{reverse-append}
use Rattle.gimple_core.specs.Sealed.{Sealed}
use Rattle.gimple_ir.specs.declared.block.Block.{Block}
use Rattle.gimple_ir.specs.declared.value.Value.{Value}
use Rattle.gimple_ir.specs.declared.value.Outcome.TheVariants.{Going}
use Rattle.gimple_ir.specs.declared.value.TrapKind.TheVariants.{Abort as AbortTrap}
use Rattle.gimple_core.specs.Memory.{Memory, without_frame}
use Rattle.gimple_core.specs.State as meant
use Rattle.gimple_core.specs.State.{State}
use Rattle.gimple_core.specs.Run.{Reached, Moves, Jump, CallReturn, CallEntry, Traps, jumped, enter, entered, with_locals, registers_made, returned, given, paused}
use Rattle.gimple_lowered.specs.Meaning.{goes, numbered}
use Rattle.gimple_exec.specs.declared.machine.Machine.{Machine}
use Rattle.gimple_exec.specs.declared.machine.Waiting.{Waiting}
use Rattle.gimple_exec.specs.declared.machine.Stand.{Stand}
use Rattle.gimple_exec.specs.declared.machine.Reach.TheVariants.{Moves as HasMoved, Spent as HasSpent}
use Rattle.gimple_exec.specs.Acts.{world_of}
use Rattle.gimple_exec.specs.Machines.{state_of, frame_of, control_of, function_of, no_block, IsSound, IsPlaced, ArePlaced, Arrives, Begins}

-- a machine that goes on in the frame of w
abbrev pub left_in : Machine → Machine → Waiting → Vec Value Heap → Memory → Vec (Vec Value Heap) Heap → Machine
left_in m rest w registers memory spare = record {
  top = w.stand;
  below = rest.below;
  world = record m.world { registers = registers; memory = memory };
  next = m.next;
  spare = spare;
}

pub leave_arrives : (p : Sealed) (m rest : Machine) (v : Option Value) (w : Waiting) (registers : Vec Value Heap) (memory : Memory) (spare : Vec (Vec Value Heap) Heap) → m.below.items ≡ rest.below.items ++ w ∷ [] → registers.items ≡ given w.registers.items m.top.takes v → memory ≡ without_frame m.top.serial m.world.memory → IsSound p m → Arrives p m.next HasMoved (returned (state_of p m) v (state_of p m).below) (left_in m rest w registers memory spare)
leave_arrives p m rest v w registers memory spare e a b sound =
    let back : reverse m.below.items ≡ w ∷ reverse rest.below.items = ap reverse e ∙ reverse-append rest.below.items (w ∷ []) in
    let placed : ArePlaced p (w ∷ reverse rest.below.items) = subst (λ ws. ArePlaced p ws) back sound.below in
    (CallReturn, rw (back, a, b) refl, record { top = placed.0; below = placed.1 }, omega arith)

-- the same machine with other spare rows
abbrev pub sparing : Machine → Vec (Vec Value Heap) Heap → Machine
sparing m spare = record m { spare = spare }

pub sparing_sound : (p : Sealed) (m : Machine) (spare : Vec (Vec Value Heap) Heap) → IsSound p m → IsSound p (sparing m spare)
sparing_sound p m spare sound = record { top = sound.top; below = sound.below }

-- ---- a jump

-- a machine that goes on in a block
abbrev pub jumped_to : Machine → ℕ → Machine
jumped_to m k = record m { top = record m.top { block = k; index = 0 } }

item_at : {X : Type 0} (xs : List X) (k : ℕ) (d : X) → k < length xs → slice_get xs k ≡ Some (get_or xs k d)
item_at [] k d l = absurd (omega arith)
item_at (x ∷ xs) zero d l = refl
item_at (x ∷ xs) (suc k) d l = item_at xs k d (omega arith)

item_past : {X : Type 0} (xs : List X) (k : ℕ) → length xs ≤ k → slice_get xs k ≡ None
item_past [] zero l = refl
item_past [] (suc k) l = refl
item_past (x ∷ xs) zero l = absurd (omega arith)
item_past (x ∷ xs) (suc k) l = item_past xs k (omega arith)

pub goes_some : (p : Sealed) (m : Machine) (k : ℕ) → k < length (function_of p m.top.function).blocks → IsSound p m → Arrives p m.next HasMoved (goes (state_of p m) (Some k)) (jumped_to m k)
goes_some p m k within sound =
    (Jump, ap (λ (o : Option Block). jumped (state_of p m) (numbered k o)) (item_at (function_of p m.top.function).blocks k no_block within), record { top = record { function = sound.top.function; block = within; index = omega arith }; below = sound.below }, omega arith)

pub goes_past : (p : Sealed) (m : Machine) (k : ℕ) → length (function_of p m.top.function).blocks ≤ k → goes (state_of p m) (Some k) ≡ Traps m.world.output AbortTrap
goes_past p m k past = ap (λ (o : Option Block). jumped (state_of p m) (numbered k o)) (item_past (function_of p m.top.function).blocks k past)

-- ---- a call

-- the call of a function that is found
abbrev pub opens : Sealed → Machine → Option ℕ → List Value → ℕ → Reached
opens p m takes arguments k = enter p.program.structs (state_of p m) takes arguments (Ok (function_of p k))

pub opens_empty : (p : Sealed) (m : Machine) (takes : Option ℕ) (arguments : List Value) (k : ℕ) → (function_of p k).blocks ≡ [] → opens p m takes arguments k ≡ Traps m.world.output AbortTrap
opens_empty p m takes arguments k e = ap (entered p.program.structs (state_of p m) takes arguments (function_of p k)) e

-- a state by the parts of a machine
abbrev state_by : Sealed → Stand → List Waiting → meant.World → ℕ → State
state_by p stand ws world next = record { top = control_of p stand; below = map (frame_of p) (reverse ws); world = world; next = next }

-- the memory in which a call begins
abbrev pub held : Sealed → Machine → ℕ → Memory
held p m k = with_locals p.program.structs m.next 0 (function_of p k).locals m.world.memory

opens_some : (p : Sealed) (m : Machine) (takes : Option ℕ) (arguments : List Value) (k : ℕ) (registers : List Value) (b : Block) (bs : List Block) → (function_of p k).blocks ≡ b ∷ bs → registers ≡ registers_made (function_of p k) arguments → opens p m takes arguments k ≡ Moves CallEntry (state_by p (record { function = k; block = 0; index = 0; serial = m.next; takes = takes }) (m.below.items ++ record { stand = m.top; registers = m.world.registers } ∷ []) (record (world_of m.world) { registers = registers; memory = held p m k }) (m.next + 1))
opens_some p m takes arguments k registers b bs e made =
    rw (e, reverse-append m.below.items (record { stand = m.top; registers = m.world.registers } ∷ []), made) refl

begun_placed : (p : Sealed) (m : Machine) (k : ℕ) (takes : Option ℕ) (registers : List Value) (memory : Memory) (new : Machine) (b : Block) (bs : List Block) → k < length p.program.functions → (function_of p k).blocks ≡ b ∷ bs → Begins m k takes registers memory new → IsSound p m → IsSound p new
begun_placed p m k takes registers memory new b bs within e begins sound =
    let back : reverse new.below.items ≡ record { stand = m.top; registers = m.world.registers } ∷ reverse m.below.items = ap reverse begins.below ∙ reverse-append m.below.items (record { stand = m.top; registers = m.world.registers } ∷ []) in
    let some : 0 < length (function_of p k).blocks = rw e (omega arith) in
    record {
      top = subst (λ (x : Stand). IsPlaced p x) (sym begins.top) (record { function = within; block = some; index = omega arith });
      below = subst (λ ws. ArePlaced p ws) (sym back) (sound.top, sound.below);
    }

begun_arrives : (p : Sealed) (m : Machine) (takes : Option ℕ) (arguments : List Value) (k : ℕ) (registers : List Value) (new : Machine) (b : Block) (bs : List Block) → k < length p.program.functions → (function_of p k).blocks ≡ b ∷ bs → registers ≡ registers_made (function_of p k) arguments → Begins m k takes registers (held p m k) new → IsSound p m → Arrives p m.next HasMoved (opens p m takes arguments k) new
begun_arrives p m takes arguments k registers new b bs within e made begins sound =
    let same : state_by p (record { function = k; block = 0; index = 0; serial = m.next; takes = takes }) (m.below.items ++ record { stand = m.top; registers = m.world.registers } ∷ []) (record (world_of m.world) { registers = registers; memory = held p m k }) (m.next + 1) ≡ state_of p new =
    λ i. state_by p (sym begins.top i) (sym begins.below i) (sym begins.world i) (sym begins.next i) in
    let next : new.next ≡ m.next + 1 = begins.next in
    (CallEntry, opens_some p m takes arguments k registers b bs e made ∙ ap (Moves CallEntry) same, begun_placed p m k takes registers (held p m k) new b bs within e begins sound, omega (arith, next))

enters_by : (p : Sealed) (m : Machine) (takes : Option ℕ) (arguments : List Value) (k : ℕ) (registers : List Value) (new : Machine) (bs : List Block) → k < length p.program.functions → (function_of p k).blocks ≡ bs → (bs ≡ [] → ⊥) → registers ≡ registers_made (function_of p k) arguments → Begins m k takes registers (held p m k) new → IsSound p m → Arrives p m.next HasMoved (opens p m takes arguments k) new
enters_by p m takes arguments k registers new [] within e some made begins sound = absurd (some refl)
enters_by p m takes arguments k registers new (b ∷ bs) within e some made begins sound = begun_arrives p m takes arguments k registers new b bs within e made begins sound

pub enters : (p : Sealed) (m : Machine) (takes : Option ℕ) (arguments : List Value) (k : ℕ) (registers : List Value) (new : Machine) → k < length p.program.functions → ((function_of p k).blocks ≡ [] → ⊥) → registers ≡ registers_made (function_of p k) arguments → Begins m k takes registers (held p m k) new → IsSound p m → Arrives p m.next HasMoved (opens p m takes arguments k) new
enters p m takes arguments k registers new within some = enters_by p m takes arguments k registers new (function_of p k).blocks within refl some

spent_by : (p : Sealed) (m : Machine) (takes : Option ℕ) (arguments : List Value) (k : ℕ) (bs : List Block) → (function_of p k).blocks ≡ bs → (bs ≡ [] → ⊥) → paused (opens p m takes arguments k) ≡ Going m.world.output
spent_by p m takes arguments k [] e some = absurd (some refl)
spent_by p m takes arguments k (b ∷ bs) e some = ap paused (opens_some p m takes arguments k (registers_made (function_of p k) arguments) b bs e refl)

-- a call that no serial is left for
pub spent : (p : Sealed) (m : Machine) (takes : Option ℕ) (arguments : List Value) (k : ℕ) → ((function_of p k).blocks ≡ [] → ⊥) → 2 ^ 64 ≤ m.next → Arrives p m.next HasSpent (opens p m takes arguments k) m
spent p m takes arguments k some l = (l, spent_by p m takes arguments k (function_of p k).blocks refl some)
