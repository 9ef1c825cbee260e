-- What a step can be.
use Rattle.std.proofs.Common.{◌+◌, ◌<◌, ◌≤◌, ◌≡◌, ℕ, ℤ, List, [], ◌∷◌, ◌++◌, refl, sym, subst, arith, Option, Some, None, Result, Ok, Err}
use Rattle.gimple_ir.specs.declared.statement.Stmt.{Stmt}
use Rattle.gimple_ir.specs.declared.value.Value.{Value}
use Rattle.gimple_ir.specs.declared.block.Block.{Block}
use Rattle.gimple_ir.specs.declared.program.Function.{Function}
use Rattle.gimple_core.specs.Sealed.{Sealed}
use Rattle.gimple_ir.specs.declared.value.TrapKind.{TrapKind}
use Rattle.gimple_core.specs.Memory.{without_frame}
use Rattle.gimple_core.specs.State.{Frame, World, State, scope_of, setting_of}
use Rattle.gimple_core.specs.Run.{step, stepped, given, registers_made, with_locals, control_made, taking, Calling, call_of, called_function, Did, Goes, Reaches, Moves, Stops, Traps, CallEntry, Jump, CallReturn, performed, act, acted, resumed, Exit, ToLabel, Returns, exit_of, leave, jumped, labelled, returned, entered, enter, values_of, function_named, main_name, begun, begun_by}
use Rattle.gimple_core.specs.Trace.{Event, Entry, At, Load, Store, Leave, main_entry, told, told_by, access, crossing, after}
use Rattle.std.specs.List.{AllByRecursion}
use Rattle.gimple_claims.specs.Laws.{IsOlder, Older, SerialsGrow}
use Rattle.gimple_claims.proofs.Accesses.{access_all}
use Rattle.gimple_claims.proofs.Comes.{InDid, IsKept, holds}

-- the state in which a call begins
abbrev pub called : Sealed → State → List Stmt → Calling → Function → Block → State
called p s xs c g b = record {
  top = control_made g b s.next (taking (scope_of s.top) c.to);
  below = record { control = (resumed s xs).top; registers = s.world.registers } ∷ s.below;
  world = record s.world {
    registers = registers_made g (values_of p.program.globals (scope_of s.top) s.world.registers c.arguments);
    memory = with_locals p.program.structs s.next 0 g.locals s.world.memory;
  };
  next = s.next + 1;
}

pub data Steps (p : Sealed) (s : State) : Did → Type 0 where
  acts : (x : Stmt) (xs : List Stmt) (w : World) → s.top.rest ≡ x ∷ xs → call_of x ≡ None → act (setting_of p) (scope_of s.top) x s.world ≡ Ok w → Steps p s (Goes (record (resumed s xs) { world = w }))
  calls : (x : Stmt) (xs : List Stmt) (c : Calling) (g : Function) (b : Block) (bs : List Block) → s.top.rest ≡ x ∷ xs → call_of x ≡ Some c → called_function p.program.functions (scope_of s.top) s.world.registers c.callee ≡ Ok g → g.blocks ≡ b ∷ bs → Steps p s (Reaches (Moves CallEntry (called p s xs c g b)))
  jumps : (label k : ℕ) (b : Block) → s.top.rest ≡ [] → exit_of p.program.globals s.top.end s ≡ ToLabel label → labelled label s.top.function.blocks ≡ Some (k, b) →
      Steps p s (Reaches (Moves Jump (record s { top = record s.top { block = k; index = 0; rest = b.body; end = b.end } })))
  leaves : (v : Option Value) (f : Frame) (fs : List Frame) → s.top.rest ≡ [] → exit_of p.program.globals s.top.end s ≡ Returns v → s.below ≡ f ∷ fs →
      Steps p s (Reaches (Moves CallReturn (record s { top = f.control; below = fs; world = record s.world { registers = given f.registers s.top.takes v; memory = without_frame s.top.serial s.world.memory } })))
  stops : (o : List ℕ) (z : ℤ) → Steps p s (Reaches (Stops o z))
  traps : (o : List ℕ) (k : TrapKind) → Steps p s (Reaches (Traps o k))

acted_is : (p : Sealed) (s : State) (x : Stmt) (xs : List Stmt) → s.top.rest ≡ x ∷ xs → call_of x ≡ None → (r : Result World TrapKind) → act (setting_of p) (scope_of s.top) x s.world ≡ r → Steps p s (acted (resumed s xs) r)
acted_is p s x xs e n (Ok w) r = acts x xs w e n r
acted_is p s x xs e n (Err k) r = traps _ k

entered_is : (p : Sealed) (s : State) (x : Stmt) (xs : List Stmt) (c : Calling) → s.top.rest ≡ x ∷ xs → call_of x ≡ Some c → (g : Function) → called_function p.program.functions (scope_of s.top) s.world.registers c.callee ≡ Ok g → (bs : List Block) → g.blocks ≡ bs →
    Steps p s (Reaches (entered p.program.structs (resumed s xs) (taking (scope_of s.top) c.to) (values_of p.program.globals (scope_of s.top) s.world.registers c.arguments) g bs))
entered_is p s x xs c e n g f [] bs = traps _ _
entered_is p s x xs c e n g f (b ∷ cs) bs = calls x xs c g b cs e n f bs

enter_is : (p : Sealed) (s : State) (x : Stmt) (xs : List Stmt) (c : Calling) → s.top.rest ≡ x ∷ xs → call_of x ≡ Some c → (o : Result Function TrapKind) → called_function p.program.functions (scope_of s.top) s.world.registers c.callee ≡ o →
    Steps p s (Reaches (enter p.program.structs (resumed s xs) (taking (scope_of s.top) c.to) (values_of p.program.globals (scope_of s.top) s.world.registers c.arguments) o))
enter_is p s x xs c e n (Err k) f = traps _ k
enter_is p s x xs c e n (Ok g) f = entered_is p s x xs c e n g f g.blocks refl

performed_is : (p : Sealed) (s : State) (x : Stmt) (xs : List Stmt) → s.top.rest ≡ x ∷ xs → (o : Option Calling) → call_of x ≡ o → Steps p s (performed p o x (resumed s xs))
performed_is p s x xs e None n = acted_is p s x xs e n (act (setting_of p) (scope_of s.top) x s.world) refl
performed_is p s x xs e (Some c) n = enter_is p s x xs c e n (called_function p.program.functions (scope_of s.top) s.world.registers c.callee) refl

jumped_is : (p : Sealed) (s : State) (label : ℕ) → s.top.rest ≡ [] → exit_of p.program.globals s.top.end s ≡ ToLabel label → (o : Option (ℕ × Block)) → labelled label s.top.function.blocks ≡ o → Steps p s (Reaches (jumped s o))
jumped_is p s label e x None f = traps _ _
jumped_is p s label e x (Some (k, b)) f = jumps label k b e x f

returned_is : (p : Sealed) (s : State) (v : Option Value) → s.top.rest ≡ [] → exit_of p.program.globals s.top.end s ≡ Returns v → (fs : List Frame) → s.below ≡ fs → Steps p s (Reaches (returned s v fs))
returned_is p s v e x [] f = stops _ _
returned_is p s v e x (r ∷ rs) f = leaves v r rs e x f

leave_is : (p : Sealed) (s : State) → s.top.rest ≡ [] → (z : Exit) → exit_of p.program.globals s.top.end s ≡ z → Steps p s (Reaches (leave s z))
leave_is p s e (ToLabel label) x = jumped_is p s label e x (labelled label s.top.function.blocks) refl
leave_is p s e (Returns v) x = returned_is p s v e x s.below refl

stepped_is : (p : Sealed) (s : State) (xs : List Stmt) → s.top.rest ≡ xs → Steps p s (stepped p s xs)
stepped_is p s [] e = leave_is p s e (exit_of p.program.globals s.top.end s) refl
stepped_is p s (x ∷ xs) e = performed_is p s x xs e (call_of x) refl

pub step_is : (p : Sealed) (s : State) → Steps p s (step p s)
step_is p s = stepped_is p s s.top.rest refl

-- ---- serials: each frame and each event is older than the next serial

abbrev pub OlderFrames : ℕ → List Frame → Type 0
OlderFrames n fs = AllByRecursion (λ (f : Frame). f.control.serial < n) fs

frames_more : (n m : ℕ) (fs : List Frame) → n ≤ m → OlderFrames n fs → OlderFrames m fs
frames_more n m [] l h = tt
frames_more n m (f ∷ fs) l h = let one : f.control.serial < n = h.0 in (omega (arith, one, l), frames_more n m fs l h.1)

event_more : (n m : ℕ) (e : Event) → n ≤ m → IsOlder n e → IsOlder m e
event_more n m (Entry s g arguments k caller) l h = omega (arith, l, h)
event_more n m (At c w) l h = omega (arith, l, h)
event_more n m (Load c scalar object offset v) l h = omega (arith, l, h)
event_more n m (Store c scalar object offset v) l h = omega (arith, l, h)
event_more n m (Leave s) l h = omega (arith, l, h)

pub events_more : (n m : ℕ) (es : List Event) → n ≤ m → AllByRecursion (IsOlder n) es → AllByRecursion (IsOlder m) es
events_more n m [] l h = tt
events_more n m (e ∷ es) l h = (event_more n m e l h.0, events_more n m es l h.1)

pub each_of_append : (P : Event → Type 0) (es fs : List Event) → AllByRecursion P es → AllByRecursion P fs → AllByRecursion P (es ++ fs)
each_of_append P [] fs a b = b
each_of_append P (e ∷ es) fs a b = (a.0, each_of_append P es fs a.1 b)

pub each_of_after : (P : Event → Type 0) (past es : List Event) → AllByRecursion P past → AllByRecursion P es → AllByRecursion P (after past es)
each_of_after P past [] a b = a
each_of_after P past (e ∷ es) a b = each_of_after P (e ∷ past) es (b.0, a) b.1

told_older : (p : Sealed) (past : List Event) (s : State) (m : ℕ) → Older past s → s.next ≤ m → AllByRecursion (IsOlder m) (crossing p.program.globals s.top.rest s (step p s)) → AllByRecursion (IsOlder m) (after past (told p s))
unfolding told_by
told_older p past s m h l c =
    let top : s.top.serial < s.next = h.top in
    let here : s.top.serial < m = omega (arith, top, l) in
    let news : AllByRecursion (IsOlder m) (told p s) = (here, each_of_append (IsOlder m) (access p.program.globals s.top.rest s) (crossing p.program.globals s.top.rest s (step p s)) (access_all (IsOlder m) s (λ scalar f. here) (λ scalar f v. here) p.program.globals s.top.rest) c) in
    each_of_after (IsOlder m) past (told p s) (events_more s.next m past l h.past_older) news

older_did : (p : Sealed) (past : List Event) (s : State) → Older past s → (d : Did) → Steps p s d → ((m : ℕ) → s.next ≤ m → AllByRecursion (IsOlder m) (crossing p.program.globals s.top.rest s d) → AllByRecursion (IsOlder m) (after past (told p s))) → InDid (Older (after past (told p s))) d
older_did p past s h _ (acts x xs w e n r) more = record { top = h.top; below = h.below; past_older = more s.next (omega arith) tt }
older_did p past s h _ (calls x xs c g b bs e n f y) more =
    let top : s.top.serial < s.next = h.top in
    record { top = omega arith; below = (omega (arith, top), frames_more s.next (s.next + 1) s.below (omega arith) h.below); past_older = more (s.next + 1) (omega arith) (omega arith, tt) }
older_did p past s h _ (jumps label k b e x f) more = record { top = h.top; below = h.below; past_older = more s.next (omega arith) tt }
older_did p past s h _ (leaves v f fs e x y) more =
    let rest : OlderFrames s.next (f ∷ fs) = subst (OlderFrames s.next) y h.below in
    record { top = rest.0; below = rest.1; past_older = more s.next (omega arith) (h.top, tt) }
older_did p past s h _ (stops o z) more = tt
older_did p past s h _ (traps o k) more = tt

abbrev pub IsFirst : Option State → Type 0
IsFirst None = Unit {0}
IsFirst (Some s) = (s.top.serial ≡ 0) × (s.below ≡ []) × (s.next ≡ 1)

begun_first : (p : Sealed) (input : List ℤ) (g : Function) (bs : List Block) → IsFirst (begun p.program input g bs)
begun_first p input g [] = tt
begun_first p input g (b ∷ bs) = (refl, refl, refl)

pub start_first : (p : Sealed) (input : List ℤ) (o : Option Function) → IsFirst (begun_by p.program input o)
start_first p input None = tt
start_first p input (Some g) = begun_first p input g g.blocks

first_older : (p : Sealed) (s : State) → IsFirst (Some s) → Older (main_entry p s ∷ []) s
first_older p s h =
    let serial : s.top.serial ≡ 0 = h.0 in
    let next : s.next ≡ 1 = h.2 in
    let top : s.top.serial < s.next = omega (arith, serial, next) in
    record { top = top; below = subst (OlderFrames s.next) (sym h.1) tt; past_older = (top, tt) }

older_kept : (p : Sealed) (input : List ℤ) → IsKept p input Older
older_kept p input = record {
  begin = λ s e. first_older p s (subst IsFirst e (start_first p input (function_named main_name p.program.functions)));
  keep = λ past s h. older_did p past s h (step p s) (step_is p s) (λ m l c. told_older p past s m h l c);
}

pub older : SerialsGrow
older p input past s c = holds p input Older (older_kept p input) past s c
