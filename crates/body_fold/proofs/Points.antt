-- A function that is folded, at each point of a run.
use Rattle.std.proofs.Common.{◌≡◌, ℕ, suc, ◌==◌, ℤ, Bool, true, false, if◌then◌else◌, List, [], ◌∷◌, ◌++◌, map, length, append-nil, refl, sym, ◌∙◌, ap, subst, Option, Some, None, Ok, slice_get}
use Rattle.std.specs.List.{list_all, find}
use Rattle.gimple_ir.specs.declared.scalar.Scalar.TheVariants.{I64}
use Rattle.gimple_ir.specs.declared.operand.Operand.{Operand}
use Rattle.gimple_ir.specs.declared.block.Block.{Block}
use Rattle.gimple_ir.specs.declared.block.Case.{Case}
use Rattle.gimple_ir.specs.declared.block.End.{End}
use Rattle.gimple_ir.specs.declared.block.End.TheVariants.{Goto, If, Switch, Return}
use Rattle.gimple_ir.specs.declared.declarations.Global.{Global as GlobalDef}
use Rattle.gimple_ir.specs.declared.scalar.Scalar.{Scalar}
use Rattle.gimple_ir.specs.declared.statement.Stmt.{Stmt}
use Rattle.gimple_ir.specs.declared.value.Value.{Value}
use Rattle.gimple_ir.specs.declared.program.Function.{Function}
use Rattle.gimple_core.specs.Sealed.{Sealed}
use Rattle.gimple_core.specs.Operators.{in_scalar, cmp_of}
use Rattle.gimple_ir.specs.declared.scalar.Cmp.TheVariants.{Eq}
use Rattle.gimple_core.specs.Memory.{Memory}
use Rattle.gimple_core.specs.State.{Control, World, State, Scope, scope_of, setting_of, registers_of}
use Rattle.gimple_core.specs.Run.{Callee, Named, Through, Calling, ToLabel, exit_of, call_of, act, step, values_of, labelled, case_for, case_target, compares, value_of}
use Rattle.gimple_core.specs.Trace.{Event, InEachRun}
use Rattle.gimple_core.specs.Env.{named, scalar_of, functions_by_name}
use Rattle.gimple_core.specs.Statements as s
use Rattle.gimple_core.specs.Verdict.{found, demand}
use Rattle.gimple_core.proofs.Passed.{first_passed, found_so}
use Rattle.gimple_core.proofs.StepLemmas.{calling_stmt, call_is}
use Rattle.gimple_claims.specs.Bodies.{FactsClaim}
use Rattle.gimple_claims.specs.Checks.{env_of, StmtsPass}
use Rattle.gimple_claims.specs.Typed.{registers_typed}
use Rattle.gimple_claims.specs.Runs.{Comes}
use Rattle.gimple_claims.proofs.Callees.{call_check, called_of}
use Rattle.gimple_claims.proofs.Lost.{stands}
use Rattle.gimple_claims.proofs.Points.{meets_of, in_did_always}
use Rattle.gimple_claims.proofs.Typed.{values_are_typed}
use Rattle.gimple_claims.proofs.Activation.{Activation, here}
use Rattle.fix_engine.specs.declared.lifted.Lifted.{Lifted}
use Rattle.fix_engine.specs.declared.lifted.Lifted.TheVariants.{Reached}
use Rattle.value_domain.specs.declared.abs_val.AbsVal.{AbsVal}
use Rattle.body_values.specs.declared.facts.Facts.{Facts}
use Rattle.block_flow.specs.Branches.{block_place, place_or, labels_of}
use Rattle.block_flow.specs.System.{body_at}
use Rattle.body_values.specs.Flow.{body_of, values_at}
use Rattle.body_values.specs.Rows.{RowFits}
use Rattle.body_values.specs.Rising.{LoadsFit}
use Rattle.body_values.specs.System.{loads_fit}
use Rattle.body_values.specs.Claims.{given_of}
use Rattle.body_values.proofs.Held.{RowHolds}
use Rattle.gimple_claims.proofs.OneRun.{each_before}
use Rattle.body_values.proofs.Points.{is_at}
use Rattle.body_fold.specs.Fold.{Folding, known_result, evaluated, never_traps, constant_operand, folded_arguments, formals_of, with_operands, folded_stmt, folded_end, new_stmt, new_end, stmt_at, end_at, IsLinked, first, linked}
use Rattle.body_fold.proofs.FoldsBy.{folding_of, FoldsBy}
use Rattle.body_fold.specs.Folders.{NamesMean}
use Rattle.body_fold.proofs.Acting.{exit_at, exit_is, stmt_acts, arguments_put, end_leads}
use Rattle.body_fold.proofs.Labels.{block_number}

-- ---- labels that an end leads to

abbrev Listed : List ℕ → ℕ → Type 0
Listed ls label = (slot : ℕ) × (slice_get ls slot ≡ Some label)

one_more : (x : ℕ) (ls : List ℕ) (label : ℕ) → Listed ls label → Listed (x ∷ ls) label
one_more x ls label h = (suc h.0, h.1)

case_listed_by : (c : Case) (o : Option Case) (ls : List ℕ) (other label : ℕ) (b : Bool) → (case_target o other ≡ label → Listed ls label) → case_target (if b then Some c else o) other ≡ label → Listed (c.target ∷ ls) label
case_listed_by c o ls other label true more e = (0, ap Some e)
case_listed_by c o ls other label false more e = one_more c.target ls label (more e)

case_listed : (z : ℤ) (cases : List Case) (other label : ℕ) → case_for z cases other ≡ label → Listed (map (λ (c : Case). c.target) cases ++ other ∷ []) label
case_listed z [] other label e = (0, ap Some e)
case_listed z (c ∷ cs) other label e = case_listed_by c (find (λ c. cmp_of Eq z c.value) cs) (map (λ (c : Case). c.target) cs ++ other ∷ []) other label (cmp_of Eq z c.value) (case_listed z cs other label) e

label_of : {k l : ℕ} → ToLabel k ≡ ToLabel l → k ≡ l
label_of e = cc

-- an end leads to one of its labels
exit_listed : (globals : List GlobalDef) (scope : Scope) (values : List Value) (e : End) (label : ℕ) → exit_at globals scope values e ≡ ToLabel label → Listed (labels_of e) label
exit_listed globals scope values (Goto to) label x = (0, ap Some (label_of x))
exit_listed globals scope values (If left cmp right hit miss) label x = by (compares (value_of globals scope values left) cmp (value_of globals scope values right)) (label_of x)
  where
    by : (b : Bool) → (if b then hit else miss) ≡ label → Listed (hit ∷ miss ∷ []) label
    by true e = (0, ap Some e)
    by false e = (1, ap Some e)
exit_listed globals scope values (Switch on cases other) label x = case_listed _ cases other label (label_of x)
exit_listed globals scope values (Return None) label x = cc
exit_listed globals scope values (Return (Some o)) label x = cc

-- ---- calls

-- the scalars against which the arguments of a call are checked
abbrev scalars_for : Folding → Callee → List Scalar
scalars_for S (Named callee) = formals_of (named callee S.names)
scalars_for S (Through callee signature) = signature.params

-- a call stays a call of what it called
call_folded : (S : Folding) (j i : ℕ) (row : List AbsVal) (to : Option (List ℕ)) (callee : Callee) (xs : List Operand) → folded_stmt S j i row (calling_stmt to xs callee) ≡ calling_stmt to (folded_arguments S row (scalars_for S callee) xs) callee
unfolding folded_stmt with_operands known_result evaluated never_traps constant_operand
call_folded S j i row None (Named callee) xs = refl
call_folded S j i row (Some to) (Named callee) xs = refl
call_folded S j i row None (Through callee signature) xs = refl
call_folded S j i row (Some to) (Through callee signature) xs = refl

called_so : (to : Option (List ℕ)) (xs : List Operand) (callee : Callee) → call_of (calling_stmt to xs callee) ≡ Some (record { to = to; callee = callee; arguments = xs })
called_so to xs (Named callee) = refl
called_so to xs (Through callee signature) = refl

module _ (p : Sealed) (n : ℕ) (f : Function) (facts : Facts) (most : ℕ) (ts : List ℤ) (xs : List (Lifted (List AbsVal))) (g : Function) (folds : FoldsBy p n f facts most ts xs g) (all : InEachRun p (FactsClaim f (given_of n f facts)))
    (mean : NamesMean p.program.globals f.locals) (input : List ℤ) (numbers : list_all (in_scalar I64) input ≡ true) where
  abbrev pub S : Folding
  S = folding_of p n f facts most ts

  abbrev pub values : ℕ → ℕ → Lifted (List AbsVal)
  values = values_at (body_of p n f facts most ts) f.blocks xs

  loads : LoadsFit (body_of p n f facts most ts)
  loads = loads_fit p n f facts most ts folds.values.fit

  -- ---- the point

  -- the registers are in the values of the point, which is one of the function
  pub record IsHere (st : State) : Type 0 where
    pub row : List AbsVal
    pub reached : values st.top.block st.top.index ≡ Reached row
    pub fits : RowFits most ts (length (f.params ++ f.registers)) row
    pub holds : RowHolds row st.world.registers
    pub block : Block
    pub found : slice_get f.blocks st.top.block ≡ Some block
    pub end : st.top.end ≡ block.end
    pub last : st.top.rest ≡ [] → length block.body ≡ st.top.index

  pub is_here : (past : List Event) (st : State) → Comes p input past st → st.top.function ≡ f → IsHere st
  is_here past st c same =
      let a = is_at p n f facts most ts xs folds.values input numbers past st c same (meets_of f (given_of n f facts) st.top.serial past (each_before p (FactsClaim f (given_of n f facts)) input (all input numbers) past st c)) in
      record {
        row = a.row;
        reached = a.reached;
        fits = a.fits;
        holds = a.holds;
        block = a.block;
        found = a.found;
        end = a.end;
        last = λ e. let whole : length a.block.body ≡ length a.done = ap length (a.body ∙ ap (λ ys. a.done ++ ys) e ∙ append-nil a.done) in whole ∙ a.index;
      }

  passes : (past : List Event) (st : State) → Comes p input past st → (x : Stmt) (rest : List Stmt) → st.top.rest ≡ x ∷ rest → s.statement (env_of p.program st.top.function) (functions_by_name p.program.functions) x ≡ Ok tt
  passes past st c x rest e =
      let every : StmtsPass (env_of p.program st.top.function) (functions_by_name p.program.functions) (x ∷ rest) = subst (StmtsPass (env_of p.program st.top.function) (functions_by_name p.program.functions)) e (stands p folds.values.accepted input past st c).top.rest in
      every.0

  typed : (past : List Event) (st : State) → Comes p input past st → registers_typed (registers_of st.top.function) st.world.registers ≡ true
  typed past st c = (values_are_typed p folds.values.accepted input numbers past st c).top

  -- ---- statements

  pub stmt_here : (past : List Event) (st : State) (x : Stmt) (rest : List Stmt) → Comes p input past st → st.top.function ≡ f → st.top.rest ≡ x ∷ rest → call_of x ≡ None →
      (call_of (new_stmt S values st.top.block st.top.index x) ≡ None) × (act (setting_of p) (scope_of st.top) (new_stmt S values st.top.block st.top.index x) st.world ≡ act (setting_of p) (scope_of st.top) x st.world)
  stmt_here past st x rest c same e uncalled =
      let a : IsHere st = is_here past st c same in
      subst (λ v. (call_of (stmt_at S st.top.block st.top.index x v) ≡ None) × (act (setting_of p) (scope_of st.top) (stmt_at S st.top.block st.top.index x v) st.world ≡ act (setting_of p) (scope_of st.top) x st.world)) (sym a.reached)
      (subst (λ (h : Function). RowFits most ts (length (h.params ++ h.registers)) a.row → LoadsFit (body_of p n h facts most ts) → NamesMean p.program.globals h.locals →
      (call_of (folded_stmt (folding_of p n h facts most ts) st.top.block st.top.index a.row x) ≡ None) × (act (setting_of p) (scope_of st.top) (folded_stmt (folding_of p n h facts most ts) st.top.block st.top.index a.row x) st.world ≡ act (setting_of p) (scope_of st.top) x st.world)) same
      (λ fits loads mean.
      stmt_acts p n st.top.function facts most ts folds.values.lawful st.top.serial st.world a.row (typed past st c) fits a.holds loads mean st.top.block st.top.index (functions_by_name p.program.functions) x (passes past st c x rest e) uncalled)
      a.fits loads mean)

  -- a call, and the call that stands for it
  pub record Calls (st : State) (x y : Stmt) (c : Calling) : Type 0 where
    pub arguments : List Operand
    pub is : call_of y ≡ Some (record { to = c.to; callee = c.callee; arguments = arguments })
    pub values_same : values_of p.program.globals (scope_of st.top) st.world.registers arguments ≡ values_of p.program.globals (scope_of st.top) st.world.registers c.arguments

  -- what each argument is checked against, and that it passes
  record Checked (h : Function) (d : Calling) : Type 0 where
    scalars : List Scalar
    are : scalars_for (folding_of p n h facts most ts) d.callee ≡ scalars
    pass : s.arguments (env_of p.program h) scalars d.arguments ≡ Ok tt

  arguments_checked : (h : Function) (to : Option (List ℕ)) (xs : List Operand) (callee : Callee) → call_check (env_of p.program h) (functions_by_name p.program.functions) to xs callee ≡ Ok tt → Checked h (record { to = to; callee = callee; arguments = xs })
  unfolding s.called s.called_through
  arguments_checked h to xs (Named callee) e =
      let a = first_passed (s.target (env_of p.program h) to) _ tt e in
      let b = first_passed (found (named callee (functions_by_name p.program.functions)) 1) _ tt a.2 in
      let w = first_passed (demand (length xs == length b.0.params) 5) _ tt b.2 in
      let q = first_passed (s.arguments (env_of p.program h) (s.scalars_of b.0.params) xs) _ tt w.2 in
      record { scalars = s.scalars_of b.0.params; are = ap formals_of (found_so (named callee (functions_by_name p.program.functions)) 1 b.0 b.1); pass = q.1 }
  arguments_checked h to xs (Through callee signature) e =
      let a = first_passed (s.target (env_of p.program h) to) _ tt e in
      let b = first_passed (found (env_of p.program h).targets 1) _ tt a.2 in
      let o = first_passed (scalar_of (env_of p.program h) callee) _ tt b.2 in
      let t = first_passed (demand (s.is_pointer o.0) 4) _ tt o.2 in
      let w = first_passed (demand (length xs == length signature.params) 5) _ tt t.2 in
      let q = first_passed (s.arguments (env_of p.program h) signature.params xs) _ tt w.2 in
      record { scalars = signature.params; are = refl; pass = q.1 }

  arguments_same : (st : State) (row : List AbsVal) (d : Calling) (h : Function) → Checked h d →
      ((scalars : List Scalar) → s.arguments (env_of p.program h) scalars d.arguments ≡ Ok tt → values_of p.program.globals (scope_of st.top) st.world.registers (folded_arguments (folding_of p n h facts most ts) row scalars d.arguments) ≡ values_of p.program.globals (scope_of st.top) st.world.registers d.arguments) →
      values_of p.program.globals (scope_of st.top) st.world.registers (folded_arguments (folding_of p n h facts most ts) row (scalars_for (folding_of p n h facts most ts) d.callee) d.arguments) ≡ values_of p.program.globals (scope_of st.top) st.world.registers d.arguments
  arguments_same st row d h k put = ap (λ scalars. values_of p.program.globals (scope_of st.top) st.world.registers (folded_arguments (folding_of p n h facts most ts) row scalars d.arguments)) k.are ∙ put k.scalars k.pass

  call_here_by : (past : List Event) (st : State) (x : Stmt) (rest : List Stmt) (d : Calling) (a : IsHere st) → Comes p input past st → st.top.function ≡ f → st.top.rest ≡ x ∷ rest → call_of x ≡ Some d → Calls st x (folded_stmt S st.top.block st.top.index a.row x) d
  call_here_by past st x rest d a c same e is =
      let passed = called_of (env_of p.program st.top.function) (functions_by_name p.program.functions) x d is (passes past st c x rest e) in
      let scalars : List Scalar = scalars_for S d.callee in
      let there : folded_stmt S st.top.block st.top.index a.row x ≡ calling_stmt d.to (folded_arguments S a.row scalars d.arguments) d.callee =
      ap (folded_stmt S st.top.block st.top.index a.row) (call_is x d is) ∙ call_folded S st.top.block st.top.index a.row d.to d.callee d.arguments in
      record {
        arguments = folded_arguments S a.row scalars d.arguments;
        is = ap call_of there ∙ called_so d.to (folded_arguments S a.row scalars d.arguments) d.callee;
        values_same = subst (λ (h : Function). RowFits most ts (length (h.params ++ h.registers)) a.row → LoadsFit (body_of p n h facts most ts) → NamesMean p.program.globals h.locals →
            values_of p.program.globals (scope_of st.top) st.world.registers (folded_arguments (folding_of p n h facts most ts) a.row (scalars_for (folding_of p n h facts most ts) d.callee) d.arguments) ≡ values_of p.program.globals (scope_of st.top) st.world.registers d.arguments) same
            (λ fits loads mean. arguments_same st a.row d st.top.function (arguments_checked st.top.function d.to d.arguments d.callee passed)
            (λ scalars q. arguments_put p n st.top.function facts most ts folds.values.lawful st.top.serial st.world a.row (typed past st c) fits a.holds loads mean scalars d.arguments q))
            a.fits loads mean;
      }

  pub call_here : (past : List Event) (st : State) (x : Stmt) (rest : List Stmt) (d : Calling) → Comes p input past st → st.top.function ≡ f → st.top.rest ≡ x ∷ rest → call_of x ≡ Some d → Calls st x (new_stmt S values st.top.block st.top.index x) d
  call_here past st x rest d c same e is =
      let a : IsHere st = is_here past st c same in
      subst (λ v. Calls st x (stmt_at S st.top.block st.top.index x v) d) (sym a.reached) (call_here_by past st x rest d a c same e is)

  -- ---- ends

  end_value : (st : State) (a : IsHere st) → st.top.rest ≡ [] → new_end S f.blocks values st.top.block st.top.end ≡ folded_end S a.row st.top.end
  end_value st a e =
      let size : length (body_at (slice_get f.blocks st.top.block)) ≡ st.top.index = ap (λ o. length (body_at o)) a.found ∙ a.last e in
      ap (λ m. end_at S st.top.end (values st.top.block m)) size ∙ ap (end_at S st.top.end) a.reached

  pub end_here : (past : List Event) (st : State) → Comes p input past st → st.top.function ≡ f → st.top.rest ≡ [] → exit_at p.program.globals (scope_of st.top) st.world.registers (new_end S f.blocks values st.top.block st.top.end) ≡ exit_of p.program.globals st.top.end st
  end_here past st c same e =
      let a : IsHere st = is_here past st c same in
      ap (exit_at p.program.globals (scope_of st.top) st.world.registers) (end_value st a e)
      ∙ (subst (λ (h : Function). RowFits most ts (length (h.params ++ h.registers)) a.row → LoadsFit (body_of p n h facts most ts) → NamesMean p.program.globals h.locals →
      exit_at p.program.globals (scope_of st.top) st.world.registers (folded_end (folding_of p n h facts most ts) a.row st.top.end) ≡ exit_at p.program.globals (scope_of st.top) st.world.registers st.top.end) same
      (λ fits loads mean. end_leads p n st.top.function facts most ts folds.values.lawful st.top.serial st.world a.row (typed past st c) fits a.holds loads mean st.top.end (stands p folds.values.accepted input past st c).top.end)
      a.fits loads mean
      ∙ sym (exit_is p.program.globals st.top.end st))

  -- ---- blocks

  -- a jump leads to a block to which a new end leads
  goes_linked : (past : List Event) (st : State) (label : ℕ) → Comes p input past st → st.top.function ≡ f → st.top.rest ≡ [] → exit_of p.program.globals st.top.end st ≡ ToLabel label → IsLinked f.blocks (new_end S f.blocks values) st.top.block →
      IsLinked f.blocks (new_end S f.blocks values) (place_or (block_place label f.blocks))
  goes_linked past st label c same e x here =
      let a : IsHere st = is_here past st c same in
      let listed : Listed (labels_of (new_end S f.blocks values st.top.block st.top.end)) label = exit_listed p.program.globals (scope_of st.top) st.world.registers _ label (end_here past st c same e ∙ x) in
      linked st.top.block a.block listed.0 label here a.found (subst (λ (z : End). slice_get (labels_of (new_end S f.blocks values st.top.block z)) listed.0 ≡ Some label) a.end listed.1)

  abbrev pub Kept : ℕ → Type 0
  Kept j = IsLinked f.blocks (new_end S f.blocks values) j

  -- the block of a label that an end leads to
  label_linked : (past : List Event) (st : State) (label k : ℕ) (b : Block) → Comes p input past st → st.top.function ≡ f → st.top.rest ≡ [] → exit_of p.program.globals st.top.end st ≡ ToLabel label → labelled label f.blocks ≡ Some (k, b) → Kept st.top.block → Kept k
  label_linked past st label k b c same e x there h = subst Kept (block_number label f.blocks k b there) (goes_linked past st label c same e x h)

  abbrev Here : List Event → Control → World → Type 0
  Here past c w = Kept c.block

  abbrev Waits : List Event → Control → List Value → Option ℕ → Memory → Type 0
  Waits past c registers takes m = Kept c.block

  stays : Activation p input f Here Waits
  stays = record {
    enters = λ past h serial arguments m caller takes b bs w e o q x y. first;
    stmt = λ past st x rest w c same h e o d. h;
    calls = λ past st x rest d t c same h e o q. h;
    jumps = λ past st label k b c same h e x there. label_linked past st label k b c same e x (subst (λ (g : Function). labelled label g.blocks ≡ Some (k, b)) same there) h;
    others = λ past st c registers takes comes w. in_did_always (λ t. Kept c.block) (λ t. w) (step p st);
    back = λ past st c registers v comes same w e x. w;
  }

  pub kept_here : (past : List Event) (st : State) → Comes p input past st → st.top.function ≡ f → Kept st.top.block
  kept_here past st c same = here p input f Here Waits stays past st c same

  pub jump_kept : (past : List Event) (st : State) (label k : ℕ) (b : Block) → Comes p input past st → st.top.function ≡ f → st.top.rest ≡ [] → exit_of p.program.globals st.top.end st ≡ ToLabel label → labelled label f.blocks ≡ Some (k, b) → Kept k
  jump_kept past st label k b c same e x there = label_linked past st label k b c same e x there (kept_here past st c same)
