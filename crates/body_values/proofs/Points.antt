-- The values hold at each point of each activation that meets the facts.
use Rattle.std.proofs.Common.{◌≡◌, ℕ, ℤ, true, List, ◌∷◌, ◌++◌, length, refl, sym, ◌∙◌, ap, subst, Option, Some, None, Ok, IfSome, slice_get}
use Rattle.std.specs.List.{AllByRecursion, list_all}
use Rattle.gimple_ir.specs.declared.scalar.Scalar.{Scalar}
use Rattle.gimple_ir.specs.declared.scalar.Scalar.TheVariants.{I64}
use Rattle.gimple_ir.specs.declared.value.Value.{Value}
use Rattle.gimple_ir.specs.declared.operand.Place.{Place}
use Rattle.gimple_ir.specs.declared.statement.Stmt.{Stmt}
use Rattle.gimple_ir.specs.declared.statement.Stmt.TheVariants.{Load}
use Rattle.gimple_ir.specs.declared.block.Block.{Block}
use Rattle.gimple_ir.specs.declared.block.End.{End}
use Rattle.gimple_ir.specs.declared.block.End.TheVariants.{Goto, If, Switch, Return}
use Rattle.gimple_ir.specs.declared.program.Function.{Function}
use Rattle.gimple_core.specs.Sealed.{Sealed}
use Rattle.gimple_core.specs.declared.machine.FoundSlot.{FoundSlot}
use Rattle.gimple_core.specs.Operators.{in_scalar}
use Rattle.gimple_core.specs.Memory.{found_at}
use Rattle.gimple_core.specs.State.{World, State, scope_of, setting_of}
use Rattle.gimple_core.specs.Run.{Calling, call_of, act, step, given, taking, Exit, ToLabel, Returns, exit_of, place_value}
use Rattle.gimple_core.specs.Trace.{Event, accesses, load_event}
use Rattle.gimple_core.specs.Env.{functions_by_name}
use Rattle.gimple_core.specs.Statements as check
use Rattle.gimple_core.proofs.Passed.{first_passed}
use Rattle.gimple_core.proofs.StepLemmas.{calling_stmt, call_is}
use Rattle.gimple_claims.specs.Bodies.{MeetsAt, Meets}
use Rattle.gimple_claims.specs.Checks.{env_of, StmtsPass}
use Rattle.gimple_claims.specs.Typed.{frame_typed}
use Rattle.gimple_claims.proofs.Comes.{Comes}
use Rattle.gimple_claims.proofs.Globals.{globals_hold}
use Rattle.gimple_claims.proofs.Callees.{called_of}
use Rattle.gimple_claims.proofs.Lost.{stands}
use Rattle.gimple_claims.proofs.Points.{before, accesses_meet, in_did_always}
use Rattle.gimple_claims.proofs.Typed.{values_are_typed}
use Rattle.fix_engine.specs.declared.lifted.Lifted.{Lifted}
use Rattle.fix_engine.specs.declared.lifted.Lifted.TheVariants.{Reached}
use Rattle.fix_engine.specs.Rows.{FitsRows, rows_below}
use Rattle.block_flow.specs.Branches.{labels_of}
use Rattle.block_flow.specs.Steps.{StepsLaws}
use Rattle.block_flow.specs.System.{point_value}
use Rattle.block_flow.specs.Runs.{Assertion, IsSound}
use Rattle.block_flow.proofs.Holding.{is_there}
use Rattle.value_domain.specs.declared.abs_val.AbsVal.{AbsVal}
use Rattle.value_domain.specs.Holding.{Holds}
use Rattle.value_domain.specs.Values.{FitsAbsVal, abs_val_below, kind_of}
use Rattle.body_values.specs.declared.facts.Facts.{Facts}
use Rattle.body_values.specs.Bodies.{Body, after_stmt, after_end}
use Rattle.body_values.specs.Flow.{given_load, body_of, entry_row, steps_in, values_at}
use Rattle.body_values.specs.Rows.{RowFits}
use Rattle.body_values.specs.Rising.{LoadsFit}
use Rattle.body_values.specs.System.{loads_fit, entry_fits, row_from, steps_laws}
use Rattle.body_values.specs.Claims.{RowHolds, FileHolds, given_of, Analysed}
use Rattle.body_values.proofs.Held.{row_above}
use Rattle.body_values.proofs.Stmts.{stmt_holds, call_holds}
use Rattle.body_values.proofs.Taken.{if_branches, switch_branches}
use Rattle.body_values.proofs.Items.{item_holds}
use Rattle.body_values.proofs.Entered.{entry_holds}

abbrev label_of : Exit → Option ℕ
label_of (ToLabel label) = Some label
label_of (Returns v) = None

-- a load's own event
loaded_by : (f : Function) (n : ℕ) (facts : Facts) (serial : ℕ) (p : Sealed) (s : State) (to : List ℕ) (scalar : Scalar) (place : Place) (x : Stmt) (g : FoundSlot) → x ≡ Load to scalar place → serial ≡ s.top.serial → s.top.function ≡ f →
    found_at s.world.memory (place_value p.program.globals (scope_of s.top) s.world.registers place) scalar ≡ Ok g → AllByRecursion (MeetsAt f (given_of n f facts) serial) (accesses p.program.globals x s) → IfSome (given_load facts.loads n s.top.block s.top.index) (Holds g.value)
loaded_by f n facts serial p s to scalar place x g is same own found h =
    let mine : AllByRecursion (MeetsAt f (given_of n f facts) serial) (accesses p.program.globals (Load to scalar place) s) = subst (λ y. AllByRecursion (MeetsAt f (given_of n f facts) serial) (accesses p.program.globals y s)) is h in
    let one : AllByRecursion (MeetsAt f (given_of n f facts) serial) (load_event s.top scalar (Ok g)) = subst (λ r. AllByRecursion (MeetsAt f (given_of n f facts) serial) (load_event s.top scalar r)) found mine in
    one.0 (sym same) own

module _ (p : Sealed) (n : ℕ) (f : Function) (facts : Facts) (most : ℕ) (ts : List ℤ) (xs : List (Lifted (List AbsVal))) (h : Analysed p n f facts most ts xs) (input : List ℤ) (numbers : list_all (in_scalar I64) input ≡ true) where
  abbrev B : Body
  B = body_of p n f facts most ts

  abbrev count : ℕ
  count = length (f.params ++ f.registers)

  abbrev Fits : List AbsVal → Type 0
  Fits row = FitsRows FitsAbsVal (length (f.params ++ f.registers) ∷ kind_of most ts) row

  loads : LoadsFit B
  loads = loads_fit p n f facts most ts h.fit

  fits_row : (row : List AbsVal) → Fits row → RowFits most ts count row
  fits_row row fit = row_from most ts count row h.lawful fit

  -- Of an activation whose arguments and loads so far meet the facts each register is in its value. While it waits for a call it
  -- will be, whatever the call gives that is a value of the register's scalar.
  abbrev pub values_say : Assertion (List AbsVal)
  values_say = record {
    Given = λ serial past. Meets f (given_of n f facts) serial past;
    Says = λ row past c w. RowHolds row w.registers;
    Waits = λ y past c registers takes m. (v : Option Value) → frame_typed c (given registers takes v) ≡ true → FileHolds y (given registers takes v);
  }

  passes : (past : List Event) (s : State) → Comes p input past s → (x : Stmt) (rest : List Stmt) → s.top.rest ≡ x ∷ rest → check.statement (env_of p.program s.top.function) (functions_by_name p.program.functions) x ≡ Ok tt
  passes past s c x rest e =
      let all : StmtsPass (env_of p.program s.top.function) (functions_by_name p.program.functions) (x ∷ rest) = subst (StmtsPass (env_of p.program s.top.function) (functions_by_name p.program.functions)) e (stands p h.accepted input past s c).top.rest in
      all.0

  typed : (past : List Event) (s : State) → Comes p input past s → frame_typed s.top s.world.registers ≡ true
  typed past s c = (values_are_typed p h.accepted input numbers past s c).top

  -- a statement that is no call
  stmt_goes : (past : List Event) (s : State) (x : Stmt) (rest : List Stmt) (w : World) (row : List AbsVal) → Comes p input past s → s.top.function ≡ f → s.top.rest ≡ x ∷ rest → call_of x ≡ None → act (setting_of p) (scope_of s.top) x s.world ≡ Ok w → frame_typed s.top w.registers ≡ true →
      AllByRecursion (MeetsAt f (given_of n f facts) s.top.serial) (accesses p.program.globals x s) → RowFits most ts count row → RowHolds row s.world.registers → FileHolds (after_stmt B s.top.block s.top.index x row) w.registers
  stmt_goes past s x rest w row c same e uncalled did after_typed met fits holds =
      subst (λ (g : Function). RowFits most ts (length (g.params ++ g.registers)) row → LoadsFit (body_of p n g facts most ts) → FileHolds (after_stmt (body_of p n g facts most ts) s.top.block s.top.index x row) w.registers) same
      (λ fits loads.
      stmt_holds p n s.top.function facts most ts h.lawful s.top.serial s.world w row (typed past s c) fits holds loads s.top.block s.top.index after_typed (functions_by_name p.program.functions) x (passes past s c x rest e) uncalled did
      (λ to scalar place g is found checked kind.
      item_holds p n s.top.function facts most ts h.lawful s.top.serial s.world.registers s.world.memory (λ k g at. globals_hold p input past s c k g at) scalar place g found checked kind)
      (λ to scalar place g is found. loaded_by f n facts s.top.serial p s to scalar place x g is refl same found met))
      fits loads

  call_goes : (past : List Event) (s : State) (x : Stmt) (rest : List Stmt) (k : Calling) (v : Option Value) (row : List AbsVal) → Comes p input past s → s.top.function ≡ f → s.top.rest ≡ x ∷ rest → call_of x ≡ Some k → frame_typed s.top (given s.world.registers (taking (scope_of s.top) k.to) v) ≡ true →
      RowFits most ts count row → RowHolds row s.world.registers → FileHolds (after_stmt B s.top.block s.top.index x row) (given s.world.registers (taking (scope_of s.top) k.to) v)
  call_goes past s x rest k v row c same e is after_typed fits holds =
      let checked = called_of (env_of p.program s.top.function) (functions_by_name p.program.functions) x k is (passes past s c x rest e) in
      subst (λ y. FileHolds (after_stmt B s.top.block s.top.index y row) (given s.world.registers (taking (scope_of s.top) k.to) v)) (sym (call_is x k is))
      (subst (λ (g : Function). RowFits most ts (length (g.params ++ g.registers)) row → LoadsFit (body_of p n g facts most ts) → FileHolds (after_stmt (body_of p n g facts most ts) s.top.block s.top.index (calling_stmt k.to k.arguments k.callee) row) (given s.world.registers (taking (scope_of s.top) k.to) v)) same
      (λ fits loads. call_holds p n s.top.function facts most ts h.lawful s.top.serial s.world.registers row (typed past s c) fits holds loads s.top.block s.top.index (functions_by_name p.program.functions) k v checked after_typed)
      fits loads)

  -- an end that leads to a label
  branch_taken : (past : List Event) (s : State) (label : ℕ) (row : List AbsVal) → Comes p input past s → (e : End) → check.ending (env_of p.program s.top.function) e ≡ Ok tt → exit_of p.program.globals e s ≡ ToLabel label →
      (fits : RowFits most ts (length (s.top.function.params ++ s.top.function.registers)) row) (holds : RowHolds row s.world.registers) (loads : LoadsFit (body_of p n s.top.function facts most ts)) →
      (slot : ℕ) × (slice_get (labels_of e) slot ≡ Some label) × FileHolds (after_end (body_of p n s.top.function facts most ts) e slot row) s.world.registers
  unfolding after_end check.ending
  branch_taken past s label row c (Goto to) checked t fits holds loads = (0, ap label_of t, holds)
  branch_taken past s label row c (If left cmp right hit miss) checked t fits holds loads =
      let a = first_passed (check.compared (env_of p.program s.top.function) left cmp right) _ tt checked in
      let b = if_branches p n s.top.function facts most ts h.lawful s.top.serial s.world.registers (typed past s c) loads row fits holds left cmp right hit miss a.1 in
      (b.slot, b.label_is ∙ ap label_of t, b.holds)
  branch_taken past s label row c (Switch on cs other) checked t fits holds loads =
      let b = switch_branches p n s.top.function facts most ts h.lawful s.top.serial s.world.registers (typed past s c) loads row fits holds on cs other checked in
      (b.slot, b.label_is ∙ ap label_of t, b.holds)
  branch_taken past s label row c (Return None) checked t fits holds loads = cc
  branch_taken past s label row c (Return (Some x)) checked t fits holds loads = cc

  end_goes : (past : List Event) (s : State) (label : ℕ) (row : List AbsVal) → Comes p input past s → s.top.function ≡ f → exit_of p.program.globals s.top.end s ≡ ToLabel label → RowFits most ts count row → RowHolds row s.world.registers →
      (slot : ℕ) × (slice_get (labels_of s.top.end) slot ≡ Some label) × FileHolds (after_end B s.top.end slot row) s.world.registers
  end_goes past s label row c same t fits holds =
      subst (λ (g : Function). RowFits most ts (length (g.params ++ g.registers)) row → LoadsFit (body_of p n g facts most ts) → (slot : ℕ) × (slice_get (labels_of s.top.end) slot ≡ Some label) × FileHolds (after_end (body_of p n g facts most ts) s.top.end slot row) s.world.registers) same
      (λ fits loads. branch_taken past s label row c s.top.end (stands p h.accepted input past s c).top.end t fits holds loads) fits loads

  sound : IsSound p input f Fits (rows_below abs_val_below) (steps_in p n f facts most ts) values_say
  sound = record {
    earlier = λ serial past es meets. before (MeetsAt f (given_of n f facts) serial) past es meets;
    rises = λ a b past c w x y e holds. let u = fits_row a x in let v = fits_row b y in row_above most ts a b w.registers u.each e (u.count ∙ sym v.count) holds;
    enters = λ past serial arguments m caller takes b bs w own be made memory meets kind.
        subst (FileHolds (entry_row f facts.formals most ts)) (sym made) (entry_holds f facts most ts h.lawful h.fit arguments (meets.0 refl refl));
    statement = λ past s x rest w a comes same e uncalled did meets kind fits holds.
        stmt_goes past s x rest w a comes same e uncalled did kind (accesses_meet p (MeetsAt f (given_of n f facts) s.top.serial) past s x rest e meets) (fits_row a fits) holds;
    calls = λ past s x rest k t a comes same e is did meets fits holds v kind. call_goes past s x rest k v a comes same e is kind (fits_row a fits) holds;
    others = λ past s c registers takes y comes meets there. in_did_always _ (λ t. there) (step p s);
    back = λ past s c registers v y comes same e x meets kind there. there v kind;
    jumps = λ past s label k b a comes same e t be meets fits holds. end_goes past s label a comes same t (fits_row a fits) holds;
  }

  laws : StepsLaws (FitsRows FitsAbsVal) (rows_below abs_val_below) (length (f.params ++ f.registers) ∷ kind_of most ts) (steps_in p n f facts most ts)
  laws = steps_laws B h.lawful loads (entry_row f facts.formals most ts) (entry_fits f facts most ts h.lawful h.fit)

  same_point : (k i : ℕ) → values_at B f.blocks xs k i ≡ point_value (steps_in p n f facts most ts) f.blocks xs k i
  unfolding point_value
  same_point k i = refl

  -- where the running activation is, and its registers in their values there
  pub record IsAt (s : State) : Type 0 where
    pub row : List AbsVal
    pub reached : values_at (body_of p n f facts most ts) f.blocks xs s.top.block s.top.index ≡ Reached row
    pub fits : RowFits most ts (length (f.params ++ f.registers)) row
    pub holds : RowHolds row s.world.registers
    pub block : Block
    pub done : List Stmt
    pub found : slice_get f.blocks s.top.block ≡ Some block
    pub body : block.body ≡ done ++ s.top.rest
    pub index : length done ≡ s.top.index
    pub end : s.top.end ≡ block.end

  pub is_at : (past : List Event) (s : State) → Comes p input past s → s.top.function ≡ f → Meets f (given_of n f facts) s.top.serial past → IsAt s
  is_at past s c same meets =
      let at = is_there p input f (FitsRows FitsAbsVal) (rows_below abs_val_below) (length (f.params ++ f.registers) ∷ kind_of most ts) (steps_in p n f facts most ts) laws values_say xs h.solves h.accepted numbers sound past s c same meets in
      record {
        row = at.value;
        reached = same_point s.top.block s.top.index ∙ at.reached;
        fits = fits_row at.value at.fit;
        holds = at.says;
        block = at.block;
        done = at.done;
        found = at.found;
        body = at.body;
        index = at.index;
        end = at.end;
      }
