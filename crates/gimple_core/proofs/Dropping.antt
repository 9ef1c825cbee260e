-- A program runs as before without the functions outside a closed set of names: the two are always in the same state.
use Rattle.std.proofs.Common.{◌≡◌, ◌↔◌, ℕ, ◌+◌, ℤ, Bool, true, false, cond, List, [], ◌∷◌, refl, sym, ◌∙◌, ap, subst, Option, Some, None, Result, Ok, Err, IsTrue, All, IfSome, filter, ◌==◌, if◌then◌else◌}
use Rattle.std.specs.List.{find}
use Rattle.std.proofs.lemmas.List.Elements.{All-nil}
use Rattle.gimple_ir.specs.declared.operand.Operand.{Operand}
use Rattle.gimple_ir.specs.declared.statement.Signature.{Signature}
use Rattle.gimple_ir.specs.declared.statement.Stmt.{Stmt}
use Rattle.gimple_ir.specs.declared.statement.Stmt.TheVariants.{Copy, Arith, Compare, Convert, Load, Store, Call, Indirect, Get, Put, Abort}
use Rattle.gimple_ir.specs.declared.block.End.{End}
use Rattle.gimple_ir.specs.declared.block.End.TheVariants.{Goto, If, Switch, Return}
use Rattle.gimple_ir.specs.declared.value.Value.{Value}
use Rattle.gimple_ir.specs.declared.value.Value.TheVariants.{Int, Null, At, Code}
use Rattle.gimple_ir.specs.declared.block.Block.{Block}
use Rattle.gimple_ir.specs.declared.declarations.Global.{Global}
use Rattle.gimple_ir.specs.declared.program.Function.{Function}
use Rattle.gimple_ir.specs.declared.declarations.StructDef.{StructDef}
use Rattle.gimple_ir.specs.declared.program.Program.{Program}
use Rattle.gimple_ir.specs.declared.value.TrapKind.{TrapKind}
use Rattle.gimple_ir.specs.declared.value.TrapKind.TheVariants.{BadCall}
use Rattle.std.specs.Str.{bytes_eq}
use Rattle.gimple_core.specs.Sealed.{Sealed, with_functions}
use Rattle.gimple_core.specs.Memory.{Memory}
use Rattle.gimple_core.specs.State.{Control, Frame, World, State, Scope, scope_of, setting_of, value_in}
use Rattle.gimple_core.specs.Run.{Callee, Named, Through, Calling, call_of, call, called_by_name, called_with, called_through, called_function, taking, Reached, Moves, Stops, Traps, performed, act, acted, resumed, value_of, values_of, exit_of, finish, jump, jumped, block_from, labelled, given, returned, entered, enter, function_named, main_name, first_memory, no_memory, begun, begun_by, runs_from, Run}
use Rattle.gimple_core.specs.Reach.{operands_of, operands_of_end, TakesAddress, Mentions, MentionsIn, MentionsInBlocks, MentionsInItems, IsReached, IsClosed, with_kept, KeptRuns, ReachedRuns}
use Rattle.gimple_core.proofs.Simulation.{Matches, Does, Stands, Follows, simulates, runs_same, one}
use Rattle.gimple_core.proofs.NameLemmas.{same_name_true}
use Rattle.gimple_core.proofs.FunctionValues.{ValueIn, MemoryIn, WorldIn, ActedIn, value_at_in, put_at_in, first_in, values_of_in, registers_made_in, with_locals_in, with_globals_in, without_frame_in, act_in, arguments_of_call}

-- ---- what stays within a set of names

abbrev WithinStmts : (List ℕ → Type 0) → List Stmt → Type 0
WithinStmts K xs = (name : List ℕ) → MentionsIn name xs → K name

abbrev WithinBlocks : (List ℕ → Type 0) → List Block → Type 0
WithinBlocks K bs = (name : List ℕ) → MentionsInBlocks name bs → K name

-- the addresses among the operands are of the set
abbrev AddressesIn : (List ℕ → Type 0) → List Operand → Type 0
AddressesIn K xs = (name : List ℕ) → TakesAddress name xs → K name

record FrameWithin (K : List ℕ → Type 0) (f : Control) : Type 0 where
  rest : WithinStmts K f.rest
  end : AddressesIn K (operands_of_end f.end)
  blocks : WithinBlocks K f.function.blocks

abbrev FramesWithin : (List ℕ → Type 0) → List Frame → Type 0
FramesWithin K [] = Unit {0}
FramesWithin K (f ∷ fs) = FrameWithin K f.control × All (ValueIn K) f.registers × FramesWithin K fs

record StateWithin (K : List ℕ → Type 0) (s : State) : Type 0 where
  top : FrameWithin K s.top
  below : FramesWithin K s.below
  world : WorldIn K s.world

-- the relation: the same state, all of whose frames and values stay within the set
record Same (K : List ℕ → Type 0) (s t : State) : Type 0 where
  same : s ≡ t
  within : StateWithin K t

-- a set of names within which a program stays
record Closed (K : List ℕ → Type 0) (p : Program) : Type 0 where
  begins : K main_name
  items : (name : List ℕ) → MentionsInItems name p.globals → K name
  bodies : (name : List ℕ) (f : Function) → K name → function_named name p.functions ≡ Some f → WithinBlocks K f.blocks

-- ---- a state against itself

within_itself : (K : List ℕ → Type 0) (s : State) → StateWithin K s → Same K s s
within_itself K s w = record { same = refl; within = w }

-- what moves on stays within
abbrev ReachesWithin : (List ℕ → Type 0) → Reached → Type 0
ReachesWithin K (Moves k t) = StateWithin K t
ReachesWithin K (Stops o z) = Unit {0}
ReachesWithin K (Traps o k) = Unit {0}

matches_itself : (K : List ℕ → Type 0) (r : Reached) → ReachesWithin K r → Matches (Same K) r r
matches_itself K (Moves k t) w = within_itself K t w
matches_itself K (Stops o z) w = (refl, refl)
matches_itself K (Traps o k) w = (refl, refl)

does_itself : (K : List ℕ → Type 0) (s : State) (r : Result World TrapKind) → StateWithin K s → ActedIn K r → Does (Same K) (acted s r) (acted s r)
does_itself K s (Ok d) w a = within_itself K _ (record { top = w.top; below = w.below; world = a })
does_itself K s (Err k) w a = (refl, refl)

-- ---- a call

entered_within : (K : List ℕ → Type 0) (structs : List StructDef) (s : State) (to : Option ℕ) (vs : List Value) (f : Function) (bs : List Block) → StateWithin K s → All (ValueIn K) vs → WithinBlocks K f.blocks → WithinBlocks K bs → ReachesWithin K (entered structs s to vs f bs)
entered_within K structs s to vs f [] w a fw bw = tt
entered_within K structs s to vs f (b ∷ bs) w a fw bw = record {
  top = record { rest = λ name c. bw name (MentionsInBlocks.body b bs c); end = λ name c. bw name (MentionsInBlocks.end b bs c); blocks = fw };
  below = (w.top, w.world.registers, w.below);
  world = record { registers = registers_made_in K f vs a; memory = with_locals_in K structs s.next 0 f.locals s.world.memory w.world.memory };
}

enter_within : (K : List ℕ → Type 0) (structs : List StructDef) (s : State) (to : Option ℕ) (vs : List Value) (r : Result Function TrapKind) → StateWithin K s → All (ValueIn K) vs → ((f : Function) → r ≡ Ok f → WithinBlocks K f.blocks) → ReachesWithin K (enter structs s to vs r)
enter_within K structs s to vs (Err kind) w a fw = tt
enter_within K structs s to vs (Ok f) w a fw = entered_within K structs s to vs f f.blocks w a (fw f refl) (fw f refl)

-- ---- an end

abbrev BlockWithin : (List ℕ → Type 0) → Option (ℕ × Block) → Type 0
BlockWithin K None = Unit {0}
BlockWithin K (Some (k, b)) = WithinStmts K b.body × AddressesIn K (operands_of_end b.end)

block_by : (K : List ℕ → Type 0) (k : ℕ) (b : Block) (o : Option (ℕ × Block)) (here : Bool) → WithinStmts K b.body × AddressesIn K (operands_of_end b.end) → BlockWithin K o → BlockWithin K (if here then Some (k, b) else o)
block_by K k b o true w more = w
block_by K k b o false w more = more

block_within : (K : List ℕ → Type 0) (label k : ℕ) (bs : List Block) → WithinBlocks K bs → BlockWithin K (block_from label k bs)
unfolding block_from
block_within K label k [] w = tt
block_within K label k (b ∷ bs) w =
    block_by K k b (block_from label (k + 1) bs) (b.label == label) ((λ name c. w name (MentionsInBlocks.body b bs c)), (λ name c. w name (MentionsInBlocks.end b bs c)))
    (block_within K label (k + 1) bs (λ name c. w name (MentionsInBlocks.later b bs c)))

jumped_within : (K : List ℕ → Type 0) (s : State) (o : Option (ℕ × Block)) → StateWithin K s → BlockWithin K o → ReachesWithin K (jumped s o)
jumped_within K s None w b = tt
jumped_within K s (Some (k, b)) w bw = record { top = record { rest = bw.0; end = bw.1; blocks = w.top.blocks }; below = w.below; world = w.world }

jump_within : (K : List ℕ → Type 0) (s : State) (label : ℕ) → StateWithin K s → ReachesWithin K (jump s label)
jump_within K s label w = jumped_within K s (labelled label s.top.function.blocks) w (block_within K label 0 s.top.function.blocks w.top.blocks)

given_within : (K : List ℕ → Type 0) (vs : List Value) (takes : Option ℕ) (o : Option Value) → All (ValueIn K) vs → IfSome o (ValueIn K) → All (ValueIn K) (given vs takes o)
given_within K vs takes None w v = w
given_within K vs takes (Some x) w v = put_at_in K vs takes x v w

returned_within : (K : List ℕ → Type 0) (s : State) (o : Option Value) (fs : List Frame) → StateWithin K s → IfSome o (ValueIn K) → FramesWithin K fs → ReachesWithin K (returned s o fs)
returned_within K s o [] w v fw = tt
returned_within K s o (f ∷ fs) w v fw = record {
  top = fw.0;
  below = fw.2;
  world = record { registers = given_within K f.registers s.top.takes o fw.1 v; memory = without_frame_in K s.top.serial s.world.memory w.world.memory };
}

finish_within : (K : List ℕ → Type 0) (globals : List Global) (e : End) (s : State) → AddressesIn K (operands_of_end e) → StateWithin K s → ReachesWithin K (finish globals e s)
finish_within K globals (Goto label) s k w = jump_within K s label w
finish_within K globals (If l cmp r this that) s k w = jump_within K s _ w
finish_within K globals (Switch on cases other) s k w = jump_within K s _ w
finish_within K globals (Return None) s k w = returned_within K s None s.below w tt w.below
finish_within K globals (Return (Some x)) s k w =
    returned_within K s (Some (value_of globals (scope_of s.top) s.world.registers x)) s.below w (first_in K globals (scope_of s.top) s.world.registers x [] w.world.registers (λ name t e. k name t)) w.below

-- ---- the two programs

-- the names of the set mean the same in both
abbrev pub Agree : (List ℕ → Type 0) → List Function → List Function → Type 0
Agree K fs gs = (name : List ℕ) → K name → function_named name gs ≡ function_named name fs

through_same : (K : List ℕ → Type 0) (fs gs : List Function) → Agree K fs gs → (signature : Signature) (v : Value) → ValueIn K v → called_through gs signature v ≡ called_through fs signature v
through_same K fs gs agree signature (Int z) h = refl
through_same K fs gs agree signature Null h = refl
through_same K fs gs agree signature (At object offset) h = refl
through_same K fs gs agree signature (Code name) h = ap (called_with signature) (agree name h)

called_same : (K : List ℕ → Type 0) (fs gs : List Function) → Agree K fs gs → (scope : Scope) (vs : List Value) (callee : Callee) → All (ValueIn K) vs → ((name : List ℕ) → callee ≡ Named name → K name) → called_function gs scope vs callee ≡ called_function fs scope vs callee
unfolding value_in
called_same K fs gs agree scope vs (Named name) h k = ap called_by_name (agree name (k name refl))
called_same K fs gs agree scope vs (Through name signature) h k = through_same K fs gs agree signature _ (value_at_in K vs _ h)

-- the function that a call finds stays within
named_within : (K : List ℕ → Type 0) (p : Program) → Closed K p → (name : List ℕ) → K name → (o : Option Function) → function_named name p.functions ≡ o → (f : Function) → called_by_name o ≡ Ok f → WithinBlocks K f.blocks
named_within K p closed name k None e f h = cc
named_within K p closed name k (Some g) e f h = let same : g ≡ f = cc in closed.bodies name f k (e ∙ ap Some same)

signed_by : (K : List ℕ → Type 0) (g f : Function) (b : Bool) → (if b then Ok g else Err BadCall) ≡ Ok f → g ≡ f
signed_by K g f true h = cc
signed_by K g f false h = cc

with_within : (K : List ℕ → Type 0) (p : Program) → Closed K p → (signature : Signature) (name : List ℕ) → K name → (o : Option Function) → function_named name p.functions ≡ o → (f : Function) → called_with signature o ≡ Ok f → WithinBlocks K f.blocks
with_within K p closed signature name k None e f h = cc
with_within K p closed signature name k (Some g) e f h = closed.bodies name f k (e ∙ ap Some (signed_by K g f _ h))

through_within : (K : List ℕ → Type 0) (p : Program) → Closed K p → (signature : Signature) (v : Value) → ValueIn K v → (f : Function) → called_through p.functions signature v ≡ Ok f → WithinBlocks K f.blocks
through_within K p closed signature (Int z) w f h = cc
through_within K p closed signature Null w f h = cc
through_within K p closed signature (At object offset) w f h = cc
through_within K p closed signature (Code name) w f h = with_within K p closed signature name w (function_named name p.functions) refl f h

called_within : (K : List ℕ → Type 0) (p : Program) → Closed K p → (scope : Scope) (vs : List Value) (callee : Callee) → All (ValueIn K) vs → ((name : List ℕ) → callee ≡ Named name → K name) → (f : Function) → called_function p.functions scope vs callee ≡ Ok f → WithinBlocks K f.blocks
unfolding value_in
called_within K p closed scope vs (Named name) w k f h = named_within K p closed name (k name refl) (function_named name p.functions) refl f h
called_within K p closed scope vs (Through name signature) w k f h = through_within K p closed signature _ (value_at_in K vs _ w) f h

-- what a statement mentions is of the set
record StmtWithin (K : List ℕ → Type 0) (x : Stmt) : Type 0 where
  operands : AddressesIn K (operands_of x)
  calls : (c : Calling) (name : List ℕ) → call_of x ≡ Some c → c.callee ≡ Named name → K name

stmt_same : (K : List ℕ → Type 0) (p : Sealed) (gs : List Function) → Closed K p.program → Agree K p.program.functions gs → (o : Option Calling) (x : Stmt) (s : State) → StateWithin K s → StmtWithin K x → call_of x ≡ o → Does (Same K) (performed (with_functions p gs) o x s) (performed p o x s)
stmt_same K p gs closed agree None x s w k e = does_itself K s (act (setting_of p) (scope_of s.top) x s.world) w (act_in K (setting_of p) (scope_of s.top) x s.world (λ name t c. k.operands name t) w.world)
stmt_same K p gs closed agree (Some c) x s w k e =
    let operands : AddressesIn K c.arguments = subst (AddressesIn K) (arguments_of_call x c e) k.operands in
    let arguments = values_of_in K p.program.globals (scope_of s.top) s.world.registers c.arguments w.world.registers (λ name t c. operands name t) in
    subst (λ r. Matches (Same K) (enter p.program.structs s (taking (scope_of s.top) c.to) (values_of p.program.globals (scope_of s.top) s.world.registers c.arguments) r) (call p c s))
    (sym (called_same K p.program.functions gs agree (scope_of s.top) s.world.registers c.callee w.world.registers (λ name n. k.calls c name e n)))
    (matches_itself K (call p c s) (enter_within K p.program.structs s _ _ _ w arguments
    (called_within K p.program closed (scope_of s.top) s.world.registers c.callee w.world.registers (λ name n. k.calls c name e n))))

resumed_within : (K : List ℕ → Type 0) (s : State) (x : Stmt) (xs : List Stmt) → StateWithin K s → s.top.rest ≡ x ∷ xs → StateWithin K (resumed s xs)
resumed_within K s x xs w e = record {
  top = record { rest = λ name c. w.top.rest name (subst (λ ys. MentionsIn name ys) (sym e) (MentionsIn.later x xs c)); end = w.top.end; blocks = w.top.blocks };
  below = w.below;
  world = record { registers = w.world.registers; memory = w.world.memory };
}

next_within : (K : List ℕ → Type 0) (s : State) (x : Stmt) (xs : List Stmt) → StateWithin K s → s.top.rest ≡ x ∷ xs → StmtWithin K x
next_within K s x xs w e = record {
  operands = λ name t. w.top.rest name (subst (λ ys. MentionsIn name ys) (sym e) (MentionsIn.here x xs (Mentions.addresses t)));
  calls = λ c name g n. w.top.rest name (subst (λ ys. MentionsIn name ys) (sym e) (MentionsIn.here x xs (Mentions.calls c g n)));
}

stands_same : (K : List ℕ → Type 0) (p : Sealed) (gs : List Function) → Closed K p.program → Agree K p.program.functions gs → (s : State) (x : Stmt) (xs : List Stmt) → StateWithin K s → s.top.rest ≡ x ∷ xs → Stands (with_functions p gs) p (Same K) s x xs s
stands_same K p gs closed agree s x xs w e =
    one (with_functions p gs) p (Same K) s x xs s x xs e
    (stmt_same K p gs closed agree (call_of x) x (resumed s xs) (resumed_within K s x xs w e) (next_within K s x xs w e) refl)

follows_same : (K : List ℕ → Type 0) (p : Sealed) (gs : List Function) → Closed K p.program → Agree K p.program.functions gs → Follows (with_functions p gs) p (Same K)
follows_same K p gs closed agree = record {
  output = λ s t r. ap (λ (u : State). u.world.output) r.same;
  stmt = λ s t x xs r e.
      subst (λ (u : State). Stands (with_functions p gs) p (Same K) u x xs t) (sym r.same)
      (stands_same K p gs closed agree t x xs r.within (sym (ap (λ (u : State). u.top.rest) r.same) ∙ e));
  last = λ s t r e. sym (ap (λ (u : State). u.top.rest) r.same) ∙ e;
  end = λ s t r e.
      subst (λ (u : State). Matches (Same K) (finish p.program.globals u.top.end u) (finish p.program.globals t.top.end t)) (sym r.same)
      (matches_itself K (finish p.program.globals t.top.end t) (finish_within K p.program.globals t.top.end t r.within.top.end r.within));
}

-- ---- whole runs

begun_same : (K : List ℕ → Type 0) (p : Sealed) (gs : List Function) → Closed K p.program → Agree K p.program.functions gs → (input : List ℤ) (n : ℕ) (f : Function) (bs : List Block) → WithinBlocks K f.blocks → WithinBlocks K bs → runs_from (with_functions p gs) n (begun (with_functions p gs).program input f bs) ≡ runs_from p n (begun p.program input f bs)
begun_same K p gs closed agree input n f [] fw bw = refl
begun_same K p gs closed agree input n f (b ∷ bs) fw bw =
    let globals = with_globals_in K p.program.structs p.program.globals 0 p.program.globals no_memory (All-nil _) (λ name t e. closed.items name t) in
    runs_same (with_functions p gs) p (Same K) (simulates (with_functions p gs) p (Same K) (follows_same K p gs closed agree)) n _ _
    (within_itself K _ (record {
      top = record { rest = λ name c. bw name (MentionsInBlocks.body b bs c); end = λ name c. bw name (MentionsInBlocks.end b bs c); blocks = fw };
      below = tt;
      world = record { registers = registers_made_in K f [] (All-nil _); memory = with_locals_in K p.program.structs 0 0 f.locals (first_memory p.program) globals };
    }))

begun_by_same : (K : List ℕ → Type 0) (p : Sealed) (gs : List Function) → Closed K p.program → Agree K p.program.functions gs → (input : List ℤ) (n : ℕ) (o : Option Function) → ((f : Function) → o ≡ Some f → WithinBlocks K f.blocks) → runs_from (with_functions p gs) n (begun_by (with_functions p gs).program input o) ≡ runs_from p n (begun_by p.program input o)
begun_by_same K p gs closed agree input n None fw = refl
begun_by_same K p gs closed agree input n (Some f) fw = begun_same K p gs closed agree input n f f.blocks (fw f refl) (fw f refl)

run_same : (K : List ℕ → Type 0) (p : Sealed) (gs : List Function) → Closed K p.program → Agree K p.program.functions gs → (input : List ℤ) (n : ℕ) → Run (with_functions p gs) input n ≡ Run p input n
unfolding Run
run_same K p gs closed agree input n =
    rw (agree main_name closed.begins)
    (begun_by_same K p gs closed agree input n (function_named main_name p.program.functions) (λ f e. closed.bodies main_name f closed.begins e))

-- ---- the functions of a closed set, and those that are reached

first_kept_of : {X : Type 0} (test keep : X → Bool) (f : X) (fs gs : List X) → (test f ≡ true → keep f ≡ true) → find test gs ≡ find test fs → (a b : Bool) → a ≡ test f → b ≡ keep f → find test (cond b (f ∷ gs) gs) ≡ (if a then Some f else find test fs)
first_kept_of test keep f fs gs h e true true x y = rw (← x) refl
first_kept_of test keep f fs gs h e true false x y = let k = h (sym x) in cc
first_kept_of test keep f fs gs h e false true x y = rw (← x) e
first_kept_of test keep f fs gs h e false false x y = e

-- a search finds the same in a filtered list where the filter keeps what passes the test
pub first_kept : {X : Type 0} (test keep : X → Bool) → ((f : X) → test f ≡ true → keep f ≡ true) → (fs : List X) → find test (filter keep fs) ≡ find test fs
first_kept test keep h [] = refl
first_kept test keep h (f ∷ fs) = first_kept_of test keep f fs (filter keep fs) (h f) (first_kept test keep h fs) (test f) (keep f) refl refl

none_kept_of : {X : Type 0} (test keep : X → Bool) (f : X) (fs gs : List X) → (find test fs ≡ None → find test gs ≡ None) → (a b : Bool) → a ≡ test f → (if a then Some f else find test fs) ≡ None → find test (cond b (f ∷ gs) gs) ≡ None
none_kept_of test keep f fs gs more true b x e = cc
none_kept_of test keep f fs gs more false true x e = rw (← x) (more e)
none_kept_of test keep f fs gs more false false x e = more e

-- nothing is found in a filtered list where nothing is found in the list
pub none_kept : {X : Type 0} (test keep : X → Bool) (fs : List X) → find test fs ≡ None → find test (filter keep fs) ≡ None
none_kept test keep [] e = refl
none_kept test keep (f ∷ fs) e = none_kept_of test keep f fs (filter keep fs) (none_kept test keep fs) (test f) (keep f) refl e

-- a function of this name is kept
abbrev IsKept : Program → (List ℕ → Bool) → List ℕ → Type 0
IsKept p keeps name = (f : Function) → function_named name p.functions ≡ Some f → IsTrue (keeps name)

kept_agree_by : (p : Program) (keeps : List ℕ → Bool) (name : List ℕ) → IsKept p keeps name → (o : Option Function) → function_named name p.functions ≡ o → function_named name (filter (λ f. keeps f.name) p.functions) ≡ function_named name p.functions
unfolding function_named
kept_agree_by p keeps name k None e = none_kept (λ (f : Function). bytes_eq f.name name) (λ (f : Function). keeps f.name) p.functions e ∙ sym e
kept_agree_by p keeps name k (Some f) e =
    first_kept (λ (g : Function). bytes_eq g.name name) (λ (g : Function). keeps g.name) (λ g t. rw (same_name_true g.name name t) (k f e)) p.functions

-- a program without the functions outside a closed set runs as the program does
pub kept_runs : KeptRuns
kept_runs p keeps closed input n =
    run_same (IsKept p.program keeps) p (filter (λ f. keeps f.name) p.program.functions)
    (record {
      begins = λ f e. closed.main;
      items = λ name m f e. closed.items name f m e;
      bodies = λ name f k e other m g h. closed.bodies name f other g (k f e) e m h;
    })
    (λ name k. kept_agree_by p.program keeps name k (function_named name p.program.functions) refl)
    input n

-- the reached functions are a closed set
pub reached_closed : (p : Program) (keeps : List ℕ → Bool) → ((name : List ℕ) → IsTrue (keeps name) ↔ IsReached p name) → IsClosed p keeps
reached_closed p keeps r = record {
  main = (r main_name).1 IsReached.main;
  items = λ name f m e. (r name).1 (IsReached.item name f m e);
  bodies = λ name f other g k e m h. (r other).1 (IsReached.mentioned name f other g ((r name).0 k) e m h);
}

pub reached_runs : ReachedRuns
reached_runs p q w same input n =
    let whole : q ≡ record p { program = with_kept w.keeps p.program } = λ i. record { program = w.program i; mode = same i } in
    subst (λ r. Run r input n ≡ Run p input n) (sym whole) (kept_runs p w.keeps (reached_closed p.program w.keeps w.reached) input n)
