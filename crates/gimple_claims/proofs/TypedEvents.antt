-- In each run of an accepted program the events tell values of their scalars.
use Rattle.std.proofs.Common.{◌≡◌, ℕ, ℤ, Bool, true, false, not, List, [], ◌∷◌, length, refl, sym, ◌∙◌, ap, subst, arith, Option, Some, None, Result, Ok, Err, if◌then◌else◌}
use Rattle.std.specs.List.{AllByRecursion, list_all}
use Rattle.std.proofs.lemmas.List.{length-map}
use Rattle.gimple_ir.specs.declared.scalar.Scalar.{Scalar}
use Rattle.gimple_ir.specs.declared.scalar.Scalar.TheVariants.{I64}
use Rattle.gimple_ir.specs.declared.declarations.Register.{Register}
use Rattle.gimple_ir.specs.declared.declarations.Global.{Global}
use Rattle.gimple_ir.specs.declared.operand.Operand.{Operand}
use Rattle.gimple_ir.specs.declared.value.Value.{Value}
use Rattle.gimple_ir.specs.declared.value.TrapKind.{TrapKind}
use Rattle.gimple_ir.specs.declared.statement.Stmt.{Stmt}
use Rattle.gimple_ir.specs.declared.statement.Stmt.TheVariants.{Copy, Arith, Compare, Convert, Load as LoadStmt, Store as StoreStmt, Call, Indirect, Get, Put, Abort}
use Rattle.gimple_ir.specs.declared.block.Block.{Block}
use Rattle.gimple_ir.specs.declared.program.Function.{Function}
use Rattle.gimple_ir.specs.declared.program.Program.{Program}
use Rattle.gimple_core.specs.declared.machine.FoundSlot.{FoundSlot}
use Rattle.gimple_core.specs.Sealed.{Sealed}
use Rattle.gimple_core.specs.Operators.{in_scalar}
use Rattle.gimple_core.specs.State.{Control, State, Scope, scope_of, registers_of, is_of}
use Rattle.gimple_core.specs.Run.{Calling, call_of, Did, step, values_of, function_named, main_name, begun, begun_by}
use Rattle.gimple_core.specs.Trace.{Event, At, Store, EachAfter, Trace, load_event, store_event, accesses, access, arguments_at, crossing, told_by}
use Rattle.gimple_core.specs.Env.{functions_by_name}
use Rattle.gimple_core.specs.Statements as s
use Rattle.gimple_core.specs.Verdict.{demand}
use Rattle.gimple_core.specs.Accepted.{first_fault}
use Rattle.gimple_core.specs.Typed.{MainTyped}
use Rattle.gimple_core.proofs.Passed.{first_passed}
use Rattle.gimple_core.proofs.ProgramTyped.{accepted_typed}
use Rattle.gimple_claims.specs.Checks.{env_of, StmtsPass}
use Rattle.gimple_claims.specs.Typed.{registers_typed, frame_typed, slots_typed, EventTyped, EventsAreTyped}
use Rattle.gimple_claims.proofs.Comes.{AtEach, each_append}
use Rattle.gimple_claims.proofs.OneRun.{in_run}
use Rattle.gimple_claims.proofs.Stack.{mid}
use Rattle.gimple_claims.proofs.Steps.{Steps, acts, calls, jumps, leaves, stops, traps, step_is}
use Rattle.gimple_claims.proofs.Callees.{call_passes}
use Rattle.gimple_claims.proofs.Lost.{Stands, stands}
use Rattle.gimple_claims.proofs.TypedValues.{operand_is}
use Rattle.gimple_claims.proofs.TypedStmts.{FoundIs, found_is}
use Rattle.gimple_claims.proofs.Typed.{first_typed, values_are_typed}

each_of : (past es : List Event) → AllByRecursion EventTyped es → EachAfter (λ past e. EventTyped e) past es
each_of past [] h = tt
each_of past (e ∷ es) h = (h.0, each_of (e ∷ past) es h.1)

-- ---- arguments

module _ (p : Program) (f : Function) (globals : List Global) (scope : Scope) (values : List Value) (d : scope.declared ≡ registers_of f) (t : registers_typed scope.declared values ≡ true) where
  arguments_typed : (formals : List Register) (xs : List Operand) → s.arguments (env_of p f) (s.scalars_of formals) xs ≡ Ok tt → length xs ≡ length formals → registers_typed formals (values_of globals scope values xs) ≡ true
  unfolding s.arguments
  arguments_typed [] [] h e = refl
  arguments_typed [] (x ∷ xs) h e = absurd (omega (arith, e))
  arguments_typed (r ∷ rs) [] h e = absurd (omega (arith, e))
  arguments_typed (r ∷ rs) (x ∷ xs) h e =
      let a = first_passed (s.operand (env_of p f) 6 r.scalar x) _ tt h in
      rw (operand_is p f globals scope values d t 6 r.scalar x a.1) (arguments_typed rs xs a.2 (omega (arith, e)))

-- ---- accesses

load_typed : (c : Control) (scalar : Scalar) (r : Result FoundSlot TrapKind) → FoundIs scalar r → AllByRecursion EventTyped (load_event c scalar r)
load_typed c scalar (Ok f) h = (h, tt)
load_typed c scalar (Err k) h = tt

store_by : (c : Control) (scalar : Scalar) (v : Value) (f : FoundSlot) (b : Bool) → is_of scalar v ≡ true → AllByRecursion EventTyped (if b then [] else Store c scalar f.object f.offset v ∷ [])
store_by c scalar v f true h = tt
store_by c scalar v f false h = (h, tt)

store_typed : (c : Control) (scalar : Scalar) (v : Value) (r : Result FoundSlot TrapKind) → is_of scalar v ≡ true → AllByRecursion EventTyped (store_event c scalar v r)
store_typed c scalar v (Ok f) h = store_by c scalar v f f.constant h
store_typed c scalar v (Err k) h = tt

module _ (p : Sealed) (accepted : first_fault p.program ≡ None) (input : List ℤ) (numbers : list_all (in_scalar I64) input ≡ true) where
  accesses_typed : (u : State) (x : Stmt) → frame_typed u.top u.world.registers ≡ true → slots_typed u.world.memory.slots ≡ true → s.statement (env_of p.program u.top.function) (functions_by_name p.program.functions) x ≡ Ok tt →
      AllByRecursion EventTyped (accesses p.program.globals x u)
  unfolding s.statement
  accesses_typed u (Copy to from) t m h = tt
  accesses_typed u (Arith to left op right) t m h = tt
  accesses_typed u (Compare to left cmp right) t m h = tt
  accesses_typed u (Convert to scalar from) t m h = tt
  accesses_typed u (LoadStmt to scalar place) t m h = load_typed u.top scalar _ (found_is u.world.memory m _ scalar)
  accesses_typed u (StoreStmt scalar place from) t m h =
      let a = first_passed (s.place (env_of p.program u.top.function) scalar place) _ tt h in
      let b = first_passed (demand (not (s.is_read_only (env_of p.program u.top.function) place.base)) 14) _ tt a.2 in
      store_typed u.top scalar _ _ (operand_is p.program u.top.function p.program.globals (scope_of u.top) u.world.registers refl t 4 scalar from b.2)
  accesses_typed u (Call to callee arguments) t m h = tt
  accesses_typed u (Indirect to signature callee arguments) t m h = tt
  accesses_typed u (Get to) t m h = tt
  accesses_typed u (Put from) t m h = tt
  accesses_typed u Abort t m h = tt

  access_typed : (u : State) (xs : List Stmt) → frame_typed u.top u.world.registers ≡ true → slots_typed u.world.memory.slots ≡ true → StmtsPass (env_of p.program u.top.function) (functions_by_name p.program.functions) xs → AllByRecursion EventTyped (access p.program.globals xs u)
  access_typed u [] t m h = tt
  access_typed u (x ∷ xs) t m h = accesses_typed u x t m h.0

  -- ---- entries and ends

  arguments_there : (u : State) (x : Stmt) (xs : List Stmt) (c : Calling) (g : Function) → u.top.rest ≡ x ∷ xs → call_of x ≡ Some c →
      registers_typed g.params (values_of p.program.globals (scope_of u.top) u.world.registers c.arguments) ≡ true → registers_typed g.params (arguments_at p.program.globals u.top.rest u) ≡ true
  arguments_there u x xs c g e n h = rw (e, n) h

  crossing_typed : (u : State) → Stands p.program u → frame_typed u.top u.world.registers ≡ true → slots_typed u.world.memory.slots ≡ true → (d : Did) → Steps p u d → AllByRecursion EventTyped (crossing p.program.globals u.top.rest u d)
  crossing_typed u k t m _ (acts x xs w e n r) = tt
  crossing_typed u k t m _ (calls x xs c g b bs e n f y) =
      let rest : StmtsPass (env_of p.program u.top.function) (functions_by_name p.program.functions) (x ∷ xs) = subst (StmtsPass (env_of p.program u.top.function) (functions_by_name p.program.functions)) e k.top.rest in
      let a = call_passes (env_of p.program u.top.function) p.program.functions (scope_of u.top) u.world.registers x c g n rest.0 f in
      let arguments = arguments_typed p.program u.top.function p.program.globals (scope_of u.top) u.world.registers refl t g.params c.arguments a.arguments (a.count ∙ length-map g.params (λ (r : Register). r.scalar)) in
      ((arguments_there u x xs c g e n arguments, m), tt)
  crossing_typed u k t m _ (jumps label j b e x f) = tt
  crossing_typed u k t m _ (leaves v f fs e x y) = (tt, tt)
  crossing_typed u k t m _ (stops o z) = (tt, tt)
  crossing_typed u k t m _ (traps o z) = tt

  typed_each : AtEach p input (λ past e. EventTyped e)
  unfolding told_by
  typed_each past u c =
      let h = values_are_typed p accepted input numbers past u c in
      let k = stands p accepted input past u c in (
        (h.top, h.memory),
        each_append (λ past e. EventTyped e) (At u.top u.world ∷ past) (access p.program.globals u.top.rest u) (crossing p.program.globals u.top.rest u (step p u))
            (each_of (At u.top u.world ∷ past) (access p.program.globals u.top.rest u) (access_typed u u.top.rest h.top h.memory k.top.rest))
            (each_of (mid p past u) (crossing p.program.globals u.top.rest u (step p u)) (crossing_typed u k h.top h.memory (step p u) (step_is p u))),
      )

  -- ---- main's own entry

  abbrev FirstTyped : Option State → Type 0
  FirstTyped None = Unit {0}
  FirstTyped (Some u) = registers_typed u.top.function.params [] ≡ true

  begun_first : (f : Function) (bs : List Block) → f.params ≡ [] → FirstTyped (begun p.program input f bs)
  begun_first f [] e = tt
  begun_first f (b ∷ bs) e = ap (λ rs. registers_typed rs []) e

  start_first : (o : Option Function) → function_named main_name p.program.functions ≡ o → FirstTyped (begun_by p.program input o)
  start_first None e = tt
  start_first (Some f) e =
      let m : MainTyped p.program = (accepted_typed p.program accepted).0 in
      let both : Some f ≡ Some m.0 = sym e ∙ m.1 in
      let same : f ≡ m.0 = cc in
      begun_first f f.blocks (ap (λ (g : Function). g.params) same ∙ m.2)

  typed_run : (n : ℕ) → EachAfter (λ past e. EventTyped e) [] (Trace p input n)
  typed_run n =
      in_run p (λ past e. EventTyped e) input
      (λ u e. (subst FirstTyped e (start_first (function_named main_name p.program.functions) refl), first_typed p.program accepted))
      typed_each n

pub events_are_typed : EventsAreTyped
events_are_typed p accepted input numbers n = typed_run p accepted input numbers n
