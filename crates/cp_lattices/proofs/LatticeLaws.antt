-- The values of formals hold in each run.
use Rattle.std.proofs.Common.{◌≡◌, ℕ, zero, suc, ◌<◌, ℤ, true, List, [], ◌∷◌, length, refl, sym, ◌∙◌, ap, subst, arith, Option, Some, None, Ok, All, slice_get, slice_index_or, unwrap_or}
use Rattle.std.specs.List.{AllByRecursion, list_all}
use Rattle.std.proofs.lemmas.List.Elements.{All-head, All-tail}
use Rattle.std.proofs.lemmas.Option.{slice_get_within}
use Rattle.gimple_ir.specs.declared.options.Passes.{Passes}
use Rattle.gimple_ir.specs.declared.scalar.Scalar.TheVariants.{I64}
use Rattle.gimple_ir.specs.declared.declarations.Register.{Register}
use Rattle.gimple_ir.specs.declared.operand.Operand.{Operand}
use Rattle.gimple_ir.specs.declared.value.Value.{Value}
use Rattle.gimple_ir.specs.declared.value.Value.TheVariants.{Null, Code}
use Rattle.gimple_ir.specs.declared.block.Block.{Block}
use Rattle.gimple_ir.specs.declared.program.Function.{Function}
use Rattle.gimple_ir.specs.declared.statement.Stmt.{Stmt}
use Rattle.gimple_core.specs.Accepted.{first_fault}
use Rattle.gimple_core.specs.Env.{functions_by_name}
use Rattle.gimple_core.specs.Operators.{in_scalar}
use Rattle.gimple_core.specs.Reach.{IsAddressed}
use Rattle.gimple_core.specs.Run.{Callee, Named, Through, Calling, call_of, called_function, function_named, main_name, start, begun, begun_by, value_of, values_of, Did, step}
use Rattle.gimple_core.specs.Sealed.{Sealed}
use Rattle.gimple_core.specs.State.{State, Scope, scope_of, value_at, value_in, zero_of, is_of}
use Rattle.gimple_core.specs.Statements as check
use Rattle.gimple_core.specs.Trace.{Event, Entry, At, Load, Store, Leave, EachAfter, main_entry, told, told_by, access, Trace, arguments_at, crossing}
use Rattle.gimple_core.proofs.ProgramTyped.{accepted_typed}
use Rattle.gimple_core.proofs.StepLemmas.{calling_stmt, call_is}
use Rattle.gimple_claims.specs.Addressed.{ValueAddressed}
use Rattle.gimple_claims.specs.Bodies.{FactsClaim}
use Rattle.gimple_claims.specs.Checks.{env_of, StmtsPass}
use Rattle.gimple_claims.proofs.Accesses.{access_all}
use Rattle.gimple_claims.proofs.Activation.{own}
use Rattle.gimple_claims.proofs.Addressed.{function_values_are_addressed}
use Rattle.gimple_claims.proofs.Callees.{by_name, through_is, call_passes}
use Rattle.gimple_claims.proofs.Comes.{Comes, holds_with}
use Rattle.gimple_claims.proofs.Lost.{stands}
use Rattle.gimple_claims.proofs.OneRun.{in_run}
use Rattle.gimple_claims.proofs.Points.{in_did_always}
use Rattle.gimple_claims.proofs.Steps.{Steps, acts, calls, jumps, leaves, stops, traps, step_is}
use Rattle.gimple_claims.proofs.Typed.{values_are_typed}
use Rattle.gimple_claims.proofs.TypedValues.{operand_is}
use Rattle.value_domain.specs.declared.abs_val.AbsVal.{AbsVal}
use Rattle.value_domain.specs.AbsOperators.{top_of}
use Rattle.value_domain.specs.Holding.{Holds}
use Rattle.value_domain.specs.Thresholds.{IsLawful, thresholds_list}
use Rattle.value_domain.proofs.AboveLaws.{above_holds}
use Rattle.value_domain.proofs.LawfulLemmas.{list_lawful}
use Rattle.value_domain.proofs.TopLaws.{top_fits, top_holds}
use Rattle.body_symbols.specs.Tables.{AreTables}
use Rattle.body_symbols.proofs.Jumping.{called_with}
use Rattle.body_values.specs.Claims.{given_of, FormalsMeet}
use Rattle.cp_lattices.specs.Gifts.{Bodies, AreBodies}
use Rattle.cp_lattices.specs.Lattices.{row_value, IsSolution}
use Rattle.cp_lattices.specs.LatticeClaims.{row_facts, LatticesHold}
use Rattle.cp_lattices.proofs.Entering.{EntryHas, all_appended, all_after}
use Rattle.cp_lattices.proofs.HeldArguments.{argument_at, value_given, IsMet, named_holds}
use Rattle.cp_lattices.proofs.OwnNumbers.{name_is, numbered, table_at, meets_by}

-- ---- main, and functions that values are

begun_is : (p : Sealed) (input : List ℤ) (f : Function) (bs : List Block) (s : State) → begun p.program input f bs ≡ Some s → f ≡ s.top.function
begun_is p input f [] s e = cc
begun_is p input f (b ∷ bs) s e = function_of e
  where
    function_of : {x y : State} → Some x ≡ Some y → x.top.function ≡ y.top.function
    function_of h = cc

begun_main : (p : Sealed) (input : List ℤ) (o : Option Function) (f : Function) (s : State) → o ≡ Some f → begun_by p.program input o ≡ Some s → f ≡ s.top.function
begun_main p input None f s e h = cc
begun_main p input (Some g) f s e h = let same : g ≡ f = cc in sym same ∙ begun_is p input g g.blocks s h

got_addressed : (P : Value → Type 0) → P Null → (vs : List Value) (k : ℕ) → All P vs → P (unwrap_or (slice_get vs k) Null)
got_addressed P null [] k h = null
got_addressed P null (v ∷ vs) zero h = All-head P v vs h
got_addressed P null (v ∷ vs) (suc k) h = got_addressed P null vs k (All-tail P v vs h)

at_addressed : (P : Value → Type 0) → P Null → (vs : List Value) (o : Option ℕ) → All P vs → P (value_at vs o)
at_addressed P null vs None h = null
at_addressed P null vs (Some k) h = got_addressed P null vs k h

in_addressed : (P : Value → Type 0) → P Null → (scope : Scope) (vs : List Value) (name : List ℕ) → All P vs → P (value_in scope vs name)
unfolding value_in
in_addressed P null scope vs name h = at_addressed P null vs _ h

module _ (p : Sealed) (passes : Passes) (most : ℕ) (rows : List (List AbsVal)) (bodies : Bodies) (accepted : first_fault p.program ≡ None) (known : AreBodies p most bodies) (solves : IsSolution p passes most bodies rows) (input : List ℤ) (numbers : list_all (in_scalar I64) input ≡ true) where
  abbrev Met : Function → List Value → Type 0
  Met g arguments = IsMet p passes most rows bodies accepted known solves input numbers g arguments

  abbrev EachMet : List Event → Type 0
  EachMet es = AllByRecursion (EntryHas Met) es

  law : IsLawful (thresholds_list p.program)
  law = list_lawful p.program

  main_met : (s : State) → start p input ≡ Some s → Met s.top.function []
  main_met s e n there =
      let m = (accepted_typed p.program accepted).0 in
      let same : m.0 ≡ s.top.function = begun_main p input (function_named main_name p.program.functions) m.0 s m.1 e in
      let none : s.top.function.params ≡ [] = ap (λ (f : Function). f.params) (sym same) ∙ m.2 in
      subst (λ rs. FormalsMeet rs (slice_index_or rows n []) [] 0) (sym none) tt

  module _ (past : List Event) (s : State) (comes : Comes p input past s) (met : EachMet past) (x : Stmt) (xs : List Stmt) (at : s.top.rest ≡ x ∷ xs) where
    stmt_passes : check.statement (env_of p.program s.top.function) (functions_by_name p.program.functions) x ≡ Ok tt
    stmt_passes =
        let all : StmtsPass (env_of p.program s.top.function) (functions_by_name p.program.functions) (x ∷ xs) = subst (StmtsPass (env_of p.program s.top.function) (functions_by_name p.program.functions)) at (stands p accepted input past s comes).top.rest in
        all.0

    -- a call through a register
    through_holds : (scope : Scope) (vs : List Value) → scope ≡ scope_of s.top → (name : List ℕ) (signature : _) (g : Function) (n j : ℕ) (r : Register) (v : Value) → called_function p.program.functions (scope_of s.top) s.world.registers (Through name signature) ≡ Ok g → slice_get p.program.functions n ≡ Some g → slice_get g.params j ≡ Some r → is_of r.scalar v ≡ true → Holds v (row_value rows n j)
    through_holds scope vs same name signature g n j r v e its declared typed =
        let held = through_is p.program.functions signature (value_in (scope_of s.top) s.world.registers name) g e in
        let value : ValueAddressed p.program (value_in (scope_of s.top) s.world.registers name) =
        in_addressed (ValueAddressed p.program) tt (scope_of s.top) s.world.registers name (function_values_are_addressed p accepted input past s comes).top in
        let code : ValueAddressed p.program (Code held.name) = subst (ValueAddressed p.program) held.value_is value in
        let addressed : IsAddressed p.program g.name = subst (IsAddressed p.program) (sym (name_is held.name p.program.functions g held.found)) code.1 in
        above_holds most (thresholds_list p.program) (top_of r.scalar) (row_value rows n j) (top_fits most (thresholds_list p.program) law r.scalar).0
        (solves.addressed n j g r (record { own = its; declared = declared }) addressed) v (top_holds r.scalar v typed)

    -- a call by name
    by_name_holds : (to : Option (List ℕ)) (name : List ℕ) (ys : List Operand) (g : Function) (n j : ℕ) (r : Register) (y : Operand) → x ≡ calling_stmt to ys (Named name) → function_named name p.program.functions ≡ Some g → slice_get p.program.functions n ≡ Some g → slice_get g.params j ≡ Some r →
        slice_get ys j ≡ Some y → check.operand (env_of p.program s.top.function) 6 r.scalar y ≡ Ok tt → Holds (value_of p.program.globals (scope_of s.top) s.world.registers y) (row_value rows n j)
    by_name_holds to name ys g n j r y is named its declared given checked =
        let caller = numbered p.program s.top.function (own p input past s comes) in
        let within : caller.0 < length p.program.functions = slice_get_within p.program.functions caller.0 s.top.function caller.1 in
        let tables : AreTables p bodies.symbols = known.symbols in
        let count = tables.count in
        let t = table_at p 0 caller.0 caller.0 s.top.function bodies.symbols (omega arith) (omega (arith, within, count)) tables.each caller.1 in
        named_holds p passes most rows bodies accepted known solves input numbers past s comes met caller.0 caller.1 t.0 t.1 t.2 y r checked to name ys xs (at ∙ ap (λ z. z ∷ xs) is) g n j named its declared given

    module _ (c : Calling) (is : call_of x ≡ Some c) (g : Function) (enters : called_function p.program.functions (scope_of s.top) s.world.registers c.callee ≡ Ok g) where
      argument_holds : (n j : ℕ) (r : Register) (y : Operand) → slice_get p.program.functions n ≡ Some g → slice_get g.params j ≡ Some r → slice_get c.arguments j ≡ Some y → check.operand (env_of p.program s.top.function) 6 r.scalar y ≡ Ok tt →
          (callee : Callee) → c.callee ≡ callee → Holds (value_of p.program.globals (scope_of s.top) s.world.registers y) (row_value rows n j)
      argument_holds n j r y its declared given checked (Named name) e =
          by_name_holds c.to name c.arguments g n j r y (call_is x c is ∙ ap (calling_stmt c.to c.arguments) e)
          (by_name (function_named name p.program.functions) g (subst (λ z. called_function p.program.functions (scope_of s.top) s.world.registers z ≡ Ok g) e enters)) its declared given checked
      argument_holds n j r y its declared given checked (Through name signature) e =
          through_holds (scope_of s.top) s.world.registers refl name signature g n j r (value_of p.program.globals (scope_of s.top) s.world.registers y)
          (subst (λ z. called_function p.program.functions (scope_of s.top) s.world.registers z ≡ Ok g) e enters) its declared
          (operand_is p.program s.top.function p.program.globals (scope_of s.top) s.world.registers refl (values_are_typed p accepted input numbers past s comes).top 6 r.scalar y checked)

      call_met : Met g (values_of p.program.globals (scope_of s.top) s.world.registers c.arguments)
      call_met n its =
          let fits = call_passes (env_of p.program s.top.function) p.program.functions (scope_of s.top) s.world.registers x c g is stmt_passes enters in
          meets_by g.params (slice_index_or rows n []) (values_of p.program.globals (scope_of s.top) s.world.registers c.arguments) 0 (λ j r declared.
          let a = argument_at (env_of p.program s.top.function) g.params c.arguments j r fits.count fits.arguments declared in
          subst (λ v. Holds v (row_value rows n j)) (sym (value_given p.program.globals (scope_of s.top) s.world.registers c.arguments j a.operand (zero_of r.scalar) a.given))
          (argument_holds n j r a.operand its declared a.given a.passes c.callee refl))

  -- ---- each entry that a step tells

  module _ (past : List Event) (s : State) (comes : Comes p input past s) (met : EachMet past) where
    crossing_met : (d : Did) → Steps p s d → EachMet (crossing p.program.globals s.top.rest s d)
    crossing_met _ (acts x xs w e m r) = tt
    crossing_met _ (calls x xs c g b bs e m r y) =
        let given : arguments_at p.program.globals s.top.rest s ≡ values_of p.program.globals (scope_of s.top) s.world.registers c.arguments = ap (λ ys. arguments_at p.program.globals ys s) e ∙ called_with p.program.globals x c s xs m in
        (subst (Met g) (sym given) (call_met past s comes met x xs e c m g r), tt)
    crossing_met _ (jumps label k b e x r) = tt
    crossing_met _ (leaves v r fs e x y) = (tt, tt)
    crossing_met _ (stops o z) = (tt, tt)
    crossing_met _ (traps o k) = tt

    told_met : EachMet (told p s)
    unfolding told_by
    told_met = (
      tt,
      all_appended (EntryHas Met) (access p.program.globals s.top.rest s) (crossing p.program.globals s.top.rest s (step p s))
          (access_all (EntryHas Met) s (λ scalar r. tt) (λ scalar r v. tt) p.program.globals s.top.rest) (crossing_met (step p s) (step_is p s)),
    )

  -- each entry before a state
  past_met : (past : List Event) (s : State) → Comes p input past s → EachMet past
  past_met =
      holds_with p input (λ past s. EachMet past) (λ s e. (main_met s e, tt))
      (λ past s comes h. in_did_always _ (λ t. all_after (EntryHas Met) past (told p s) h (told_met past s comes h)) (step p s))

  -- ---- the claim of one function

  module _ (n : ℕ) (f : Function) (own_is : slice_get p.program.functions n ≡ Some f) where
    abbrev Q : List Event → Event → Type 0
    Q past e = FactsClaim f (given_of n f (row_facts rows n)) past e

    event_claim : (past : List Event) (e : Event) → EntryHas Met e → Q past e
    event_claim past (Entry serial g arguments m caller) h =
        λ same. subst (λ (z : Function). FormalsMeet z.params (slice_index_or rows n []) arguments 0) same (h n (own_is ∙ ap Some (sym same)))
    event_claim past (At c w) h = tt
    event_claim past (Load c scalar object offset v) h = λ same. tt
    event_claim past (Store c scalar object offset v) h = tt
    event_claim past (Leave serial) h = tt

    each_claim : (past es : List Event) → EachMet es → EachAfter Q past es
    each_claim past [] h = tt
    each_claim past (e ∷ es) h = (event_claim past e h.0, each_claim (e ∷ past) es h.1)

    pub function_meets : (turns : ℕ) → EachAfter Q [] (Trace p input turns)
    function_meets turns =
        in_run p Q input (λ s e. event_claim [] (main_entry p s) (main_met s e)) (λ past s comes. each_claim past (told p s) (told_met past s comes (past_met past s comes))) turns

pub lattices_hold : LatticesHold
lattices_hold p passes most rows accepted are n f own_is input numbers turns =
    function_meets p passes most rows are.bodies accepted are.known are.least.solves input numbers n f own_is turns
