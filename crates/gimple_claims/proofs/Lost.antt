-- In a run of an accepted program the callee of a call, and the block that an end leads to, are there.
use Rattle.std.proofs.Common.{◌≡◌, ℕ, ℤ, Bool, true, false, List, [], ◌∷◌, refl, sym, ◌∙◌, ap, subst, Option, Some, None, Result, Ok, Err, if◌then◌else◌}
use Rattle.std.specs.List.{AllByRecursion, find}
use Rattle.gimple_ir.specs.declared.declarations.Global.{Global}
use Rattle.gimple_ir.specs.declared.value.Value.{Value}
use Rattle.gimple_ir.specs.declared.value.Value.TheVariants.{Int, Null, At, Code}
use Rattle.gimple_ir.specs.declared.value.TrapKind.{TrapKind}
use Rattle.gimple_ir.specs.declared.value.TrapKind.TheVariants.{NullAccess, BadCall}
use Rattle.gimple_ir.specs.declared.operand.Operand.{Operand}
use Rattle.gimple_ir.specs.declared.statement.Signature.{Signature}
use Rattle.gimple_ir.specs.declared.block.Block.{Block}
use Rattle.gimple_ir.specs.declared.block.Case.{Case}
use Rattle.gimple_ir.specs.declared.block.End.{End}
use Rattle.gimple_ir.specs.declared.block.End.TheVariants.{Goto, If, Switch, Return}
use Rattle.gimple_ir.specs.declared.program.Function.{Function}
use Rattle.gimple_ir.specs.declared.program.Program.{Program}
use Rattle.gimple_core.specs.Sealed.{Sealed}
use Rattle.gimple_core.specs.State.{Control, Frame, State, Scope, scope_of, value_in}
use Rattle.gimple_core.specs.Run.{Did, step, Callee, Named, Through, function_named, called_by_name, called_with, called_through, called_function, has_signature, taking, main_name, labelled, case_target, case_for, ToLabel, exit_of, begun, begun_by}
use Rattle.gimple_core.specs.Trace.{Event}
use Rattle.gimple_core.specs.Verdict.{found}
use Rattle.gimple_core.specs.Env.{Env, named, functions_by_name}
use Rattle.gimple_core.specs.Statements as s
use Rattle.gimple_core.specs.Accepted.{first_fault}
use Rattle.gimple_core.proofs.Passed.{first_passed, demanded, found_so}
use Rattle.gimple_core.proofs.EnvLemmas.{named_find}
use Rattle.gimple_claims.specs.Runs.{Comes}
use Rattle.gimple_claims.specs.Checks.{env_of, StmtsPass, BlockPasses, BlocksPass, IsChecked, MayTrap, IsCalled, NothingIsLost}
use Rattle.gimple_claims.proofs.Comes.{InDid, holds}
use Rattle.gimple_claims.proofs.Steps.{Steps, acts, calls, jumps, leaves, stops, traps, step_is}
use Rattle.gimple_claims.proofs.Blocks.{label_there, label_has}
use Rattle.gimple_claims.proofs.Callees.{called_if, called_own, call_check, called_of}
use Rattle.gimple_claims.proofs.Checked.{functions_are_checked}

-- ---- callees

callee_of : (env : Env) (fs : List Function) (to : Option (List ℕ)) (name : List ℕ) (xs : List Operand) → s.called env (functions_by_name fs) to name xs ≡ Ok tt → (g : Function) × (function_named name fs ≡ Some g)
unfolding s.called function_named
callee_of env fs to name xs h =
    let a = first_passed (s.target env to) _ tt h in
    let g = first_passed (found (named name (functions_by_name fs)) 1) _ tt a.2 in
    (g.0, sym (named_find (λ (f : Function). f.name) name fs) ∙ found_so (named name (functions_by_name fs)) 1 g.0 g.1)

module _ (name : List ℕ) (signature : Signature) where
  if_traps : (f : Function) (b : Bool) (kind : TrapKind) → called_if b f ≡ Err kind → MayTrap (Through name signature) kind
  if_traps f true kind e = cc
  if_traps f false kind e = let same : BadCall ≡ kind = cc in subst (MayTrap (Through name signature)) same tt

  with_traps : (o : Option Function) (kind : TrapKind) → called_with signature o ≡ Err kind → MayTrap (Through name signature) kind
  with_traps None kind e = let same : BadCall ≡ kind = cc in subst (MayTrap (Through name signature)) same tt
  with_traps (Some f) kind e = if_traps f (has_signature signature f) kind e

  through_traps : (fs : List Function) (v : Value) (kind : TrapKind) → called_through fs signature v ≡ Err kind → MayTrap (Through name signature) kind
  through_traps fs (Int z) kind e = let same : BadCall ≡ kind = cc in subst (MayTrap (Through name signature)) same tt
  through_traps fs Null kind e = let same : NullAccess ≡ kind = cc in subst (MayTrap (Through name signature)) same tt
  through_traps fs (At object offset) kind e = let same : BadCall ≡ kind = cc in subst (MayTrap (Through name signature)) same tt
  through_traps fs (Code f) kind e = with_traps (function_named f fs) kind e

module _ (p : Program) (accepted : first_fault p ≡ None) (scope : Scope) (registers : List Value) where
  called_result : (c : Callee) → ((kind : TrapKind) → called_function p.functions scope registers c ≡ Err kind → MayTrap c kind) → (r : Result Function TrapKind) → called_function p.functions scope registers c ≡ r → IsCalled c r
  called_result c err (Ok g) e = (functions_are_checked p accepted g.name g (called_own p.functions scope registers c g e)).some
  called_result c err (Err kind) e = err kind e

  is_called : (env : Env) (to : Option (List ℕ)) (xs : List Operand) (c : Callee) → call_check env (functions_by_name p.functions) to xs c ≡ Ok tt → IsCalled c (called_function p.functions scope registers c)
  is_called env to xs (Named name) h =
      let g = callee_of env p.functions to name xs h in
      let there : called_function p.functions scope registers (Named name) ≡ Ok g.0 = ap called_by_name g.1 in
      called_result (Named name) (λ kind e. let no : Ok g.0 ≡ Err kind = sym there ∙ e in cc) (called_function p.functions scope registers (Named name)) refl
  is_called env to xs (Through name signature) h =
      called_result (Through name signature) (λ kind e. through_traps name signature p.functions (value_in scope registers name) kind e) (called_function p.functions scope registers (Through name signature)) refl

-- ---- labels

label_found : (p : Program) (f : Function) (to : ℕ) → s.label (env_of p f) to ≡ Ok tt → (k : ℕ) × (b : Block) × (labelled to f.blocks ≡ Some (k, b))
unfolding s.label
label_found p f to h = label_there to f.blocks (demanded _ 8 h)

-- the label of a case is one of those that were checked
case_checked_by : (env : Env) (c : Case) (o : Option Case) (other : ℕ) (b : Bool) → s.label env c.target ≡ Ok tt → s.label env (case_target o other) ≡ Ok tt → s.label env (case_target (if b then Some c else o) other) ≡ Ok tt
case_checked_by env c o other true h more = h
case_checked_by env c o other false h more = more

case_checked : (env : Env) (test : Case → Bool) (cases : List Case) (other : ℕ) → s.case_labels env cases ≡ Ok tt → s.label env other ≡ Ok tt → s.label env (case_target (find test cases) other) ≡ Ok tt
unfolding s.case_labels
case_checked env test [] other h k = k
case_checked env test (c ∷ cs) other h k =
    let p = first_passed (s.label env c.target) _ tt h in
    case_checked_by env c (find test cs) other (test c) p.1 (case_checked env test cs other p.2 k)

exit_checked : (globals : List Global) (env : Env) (e : End) (t : State) (label : ℕ) → s.ending env e ≡ Ok tt → exit_of globals e t ≡ ToLabel label → s.label env label ≡ Ok tt
unfolding s.ending
exit_checked globals env (Goto to) t label h x = let same : to ≡ label = cc in subst (λ l. s.label env l ≡ Ok tt) same h
exit_checked globals env (If left cmp right hit miss) t label h x =
    let a = first_passed (s.compared env left cmp right) _ tt h in
    let b = first_passed (s.label env hit) _ tt a.2 in
    by _ x b.1 b.2
  where
    by : (c : Bool) → ToLabel (if c then hit else miss) ≡ ToLabel label → s.label env hit ≡ Ok tt → s.label env miss ≡ Ok tt → s.label env label ≡ Ok tt
    by true x h k = let same : hit ≡ label = cc in subst (λ l. s.label env l ≡ Ok tt) same h
    by false x h k = let same : miss ≡ label = cc in subst (λ l. s.label env l ≡ Ok tt) same k
exit_checked globals env (Switch on cases other) t label h x =
    let a = first_passed (s.integer env on) _ tt h in
    let b = first_passed (s.case_values a.0 [] cases) _ tt a.2 in
    let c = first_passed (s.case_labels env cases) _ tt b.2 in
    let same : case_for _ cases other ≡ label = label_of x in
    subst (λ l. s.label env l ≡ Ok tt) same (case_checked env _ cases other c.1 c.2)
  where
    label_of : {k l : ℕ} → ToLabel k ≡ ToLabel l → k ≡ l
    label_of e = cc
exit_checked globals env (Return None) t label h x = cc
exit_checked globals env (Return (Some operand)) t label h x = cc

-- ---- each frame stands in checked code

pub record InChecked (p : Program) (c : Control) : Type 0 where
  pub function : IsChecked p c.function
  pub rest : StmtsPass (env_of p c.function) (functions_by_name p.functions) c.rest
  pub end : s.ending (env_of p c.function) c.end ≡ Ok tt

abbrev pub FramesInChecked : Program → List Frame → Type 0
FramesInChecked p fs = AllByRecursion (λ (f : Frame). InChecked p f.control) fs

pub record Stands (p : Program) (t : State) : Type 0 where
  pub top : InChecked p t.top
  pub below : FramesInChecked p t.below

module _ (p : Sealed) (accepted : first_fault p.program ≡ None) where
  entered : (g : Function) (b : Block) (bs : List Block) (serial : ℕ) (takes : Option ℕ) → IsChecked p.program g → g.blocks ≡ b ∷ bs → InChecked p.program (record { function = g; block = 0; index = 0; rest = b.body; end = b.end; serial = serial; takes = takes })
  entered g b bs serial takes h e =
      let blocks : BlocksPass (env_of p.program g) (functions_by_name p.program.functions) (b ∷ bs) = subst (BlocksPass (env_of p.program g) (functions_by_name p.program.functions)) e h.blocks in
      record { function = h; rest = blocks.0.body; end = blocks.0.end }

  stands_did : (past : List Event) (t : State) → Stands p.program t → (d : Did) → Steps p t d → InDid (Stands p.program) d
  stands_did past t h _ (acts x xs w e n r) =
      let rest : StmtsPass (env_of p.program t.top.function) (functions_by_name p.program.functions) (x ∷ xs) = subst (StmtsPass (env_of p.program t.top.function) (functions_by_name p.program.functions)) e h.top.rest in
      record { top = record { function = h.top.function; rest = rest.1; end = h.top.end }; below = h.below }
  stands_did past t h _ (calls x xs c g b bs e n f y) =
      let rest : StmtsPass (env_of p.program t.top.function) (functions_by_name p.program.functions) (x ∷ xs) = subst (StmtsPass (env_of p.program t.top.function) (functions_by_name p.program.functions)) e h.top.rest in
      record {
        top = entered g b bs t.next (taking (scope_of t.top) c.to) (functions_are_checked p.program accepted g.name g (called_own p.program.functions (scope_of t.top) t.world.registers c.callee g f)) y;
        below = (record { function = h.top.function; rest = rest.1; end = h.top.end }, h.below);
      }
  stands_did past t h _ (jumps label k b e x f) =
      let block = label_has (BlockPasses (env_of p.program t.top.function) (functions_by_name p.program.functions)) label k t.top.function.blocks b h.top.function.blocks f in
      record { top = record { function = h.top.function; rest = block.body; end = block.end }; below = h.below }
  stands_did past t h _ (leaves v f fs e x y) =
      let rest : FramesInChecked p.program (f ∷ fs) = subst (FramesInChecked p.program) y h.below in
      record { top = rest.0; below = rest.1 }
  stands_did past t h _ (stops o z) = tt
  stands_did past t h _ (traps o k) = tt

  abbrev StandsFirst : Option State → Type 0
  StandsFirst None = Unit {0}
  StandsFirst (Some t) = Stands p.program t

  begun_stands : (input : List ℤ) (f : Function) → IsChecked p.program f → (bs : List Block) → f.blocks ≡ bs → StandsFirst (begun p.program input f bs)
  begun_stands input f h [] e = tt
  begun_stands input f h (b ∷ bs) e = record { top = entered f b bs 0 None h e; below = tt }

  start_stands : (input : List ℤ) (o : Option Function) → function_named main_name p.program.functions ≡ o → StandsFirst (begun_by p.program input o)
  start_stands input None e = tt
  start_stands input (Some f) e = begun_stands input f (functions_are_checked p.program accepted main_name f e) f.blocks refl

  pub stands : (input : List ℤ) (past : List Event) (t : State) → Comes p input past t → Stands p.program t
  stands input past t c =
      holds p input (λ past t. Stands p.program t) (record {
        begin = λ t e. subst StandsFirst e (start_stands input (function_named main_name p.program.functions) refl);
        keep = λ past t h. stands_did past t h (step p t) (step_is p t);
      }) past t c

pub nothing_is_lost : NothingIsLost
nothing_is_lost p accepted input past t c = record {
  calls = λ x xs k e n.
      let h : Stands p.program t = stands p accepted input past t c in
      let rest : StmtsPass (env_of p.program t.top.function) (functions_by_name p.program.functions) (x ∷ xs) = subst (StmtsPass (env_of p.program t.top.function) (functions_by_name p.program.functions)) e h.top.rest in
      is_called p.program accepted (scope_of t.top) t.world.registers (env_of p.program t.top.function) k.to k.arguments k.callee
      (called_of (env_of p.program t.top.function) (functions_by_name p.program.functions) x k n rest.0);
  jumps = λ label e x.
      let h : Stands p.program t = stands p accepted input past t c in
      label_found p.program t.top.function label (exit_checked p.program.globals (env_of p.program t.top.function) t.top.end t label h.top.end x);
}
