-- At each entry from a call the arguments are what the call's jump functions say.
use Rattle.std.proofs.Common.{◌≡◌, ℕ, zero, suc, ℤ, pos, Bool, true, false, cond, List, [], ◌∷◌, ◌++◌, length, refl, sym, ◌∙◌, ap, subst, Option, Some, None, IsSomeAnd, slice_get, unwrap_or}
use Rattle.std.specs.List.{AllByRecursion, list_all}
use Rattle.std.specs.Ordering.{int_eq}
use Rattle.std.proofs.lemmas.Bool.Decides.{Decides-int_eq}
use Rattle.gimple_ir.specs.declared.scalar.Scalar.{Scalar}
use Rattle.gimple_ir.specs.declared.scalar.Scalar.TheVariants.{I8, I16, I32, I64, U8, U16, U32, U64, Ptr}
use Rattle.gimple_ir.specs.declared.scalar.Mode.{Mode}
use Rattle.gimple_ir.specs.declared.value.Value.{Value}
use Rattle.gimple_ir.specs.declared.value.Value.TheVariants.{Int as IntValue, Null as NullValue, At as AtObject, Code}
use Rattle.gimple_ir.specs.declared.operand.Operand.{Operand}
use Rattle.gimple_ir.specs.declared.operand.Operand.TheVariants.{Reg, Number, Null, Address}
use Rattle.gimple_ir.specs.declared.declarations.Global.{Global}
use Rattle.gimple_ir.specs.declared.declarations.Register.{Register}
use Rattle.gimple_ir.specs.declared.statement.Stmt.{Stmt}
use Rattle.gimple_ir.specs.declared.statement.Stmt.TheVariants.{Copy, Arith, Compare, Convert, Load as LoadStmt, Store as StoreStmt, Call, Indirect, Get, Put, Abort}
use Rattle.gimple_ir.specs.declared.program.Function.{Function}
use Rattle.gimple_core.specs.Sealed.{Sealed}
use Rattle.gimple_core.specs.Operators.{in_scalar}
use Rattle.gimple_core.specs.Accepted.{first_fault}
use Rattle.gimple_core.specs.Memory.{moved_by}
use Rattle.gimple_core.specs.State.{State, scope_of, scalar_or_pointer, zero_of, is_of}
use Rattle.gimple_core.specs.Run.{Did, Calling, call_of, value_of, values_of, step}
use Rattle.gimple_core.specs.Trace.{Event, Entry, At, Load, Store, Leave, EachAfter, access, arguments_at, crossing, told_by, after}
use Rattle.gimple_claims.specs.Typed.{registers_typed}
use Rattle.gimple_claims.proofs.Accesses.{access_all}
use Rattle.gimple_claims.proofs.Comes.{Comes, AtEach, each_append}
use Rattle.gimple_claims.proofs.OneRun.{in_run}
use Rattle.gimple_claims.proofs.Stack.{IsInner, mid}
use Rattle.gimple_claims.proofs.Steps.{Steps, acts, calls, jumps, leaves, stops, traps, step_is}
use Rattle.fix_engine.specs.Bools.{and_left, and_right}
use Rattle.fix_engine.specs.declared.lifted.Lifted.TheVariants.{Reached}
use Rattle.body_symbols.specs.declared.symbol.Symbol.{Symbol}
use Rattle.body_symbols.specs.declared.symbol.Symbol.TheVariants.{Const, Formal, FormalOp, FormalAt, VariableAt, Unknown}
use Rattle.body_symbols.specs.declared.jumps.JumpFn.TheVariants.{Pass, Ancestor}
use Rattle.body_symbols.specs.Bodies.{Body, body_of, place_of, symbol_or, operand_symbol}
use Rattle.body_symbols.specs.Claims.{formal_scalar, argument_of, Stands, arguments_of}
use Rattle.body_symbols.specs.Found.{Found, found_row, symbol_in, found_symbol, AreSymbols}
use Rattle.body_symbols.specs.Jumps.{ancestor, jump_of, jump_or, statement_of, block_of, statement_at, arguments_in, arguments_or, jumps_at, jumps_in}
use Rattle.body_symbols.specs.Jumps as jump
use Rattle.body_symbols.specs.JumpClaims.{JumpStands, JumpsStand, CallStands, JumpsClaim, JumpsHold}
use Rattle.body_symbols.proofs.Holding.{has_begun, operands, still}
use Rattle.body_symbols.proofs.FoundHolding.{There, there_by, row_there, own}

-- ---- arguments

-- an argument is of its formal's scalar
pub get_typed : (rs : List Register) (vs : List Value) (i : ℕ) → registers_typed rs vs ≡ true → is_of (scalar_or_pointer (slice_get rs i)) (unwrap_or (slice_get vs i) (zero_of (scalar_or_pointer (slice_get rs i)))) ≡ true
get_typed [] [] i t = refl
get_typed [] (v ∷ vs) i t = cc
get_typed (r ∷ rs) [] i t = cc
get_typed (r ∷ rs) (v ∷ vs) zero t = and_left (is_of r.scalar v) (registers_typed rs vs) t
get_typed (r ∷ rs) (v ∷ vs) (suc i) t = get_typed rs vs i (and_right (is_of r.scalar v) (registers_typed rs vs) t)

still_by : (scalar : Scalar) (v : Value) → is_of scalar v ≡ true → v ≡ moved_by v (pos 0)
unfolding moved_by
still_by scalar (IntValue z) h = refl
still_by scalar NullValue h = refl
still_by I8 (AtObject object o) h = cc
still_by I16 (AtObject object o) h = cc
still_by I32 (AtObject object o) h = cc
still_by I64 (AtObject object o) h = cc
still_by U8 (AtObject object o) h = cc
still_by U16 (AtObject object o) h = cc
still_by U32 (AtObject object o) h = cc
still_by U64 (AtObject object o) h = cc
still_by Ptr (AtObject object o) h = still (AtObject object o) h
still_by scalar (Code name) h = refl

-- ---- one argument

module _ (mode : Mode) (f : Function) (arguments : List Value) (serial : ℕ) (typed : registers_typed f.params arguments ≡ true) where
  ancestor_by : (i : ℕ) (o : ℤ) (v : Value) (b : Bool) → int_eq o (pos 0) ≡ b → v ≡ moved_by (argument_of f arguments i) o → JumpStands mode f arguments serial (cond b (Pass i None (pos 0)) (Ancestor i o)) v
  ancestor_by i o v true e h =
      let zero : o ≡ pos 0 = (Decides-int_eq o (pos 0)).0 e in
      h ∙ (ap (moved_by (argument_of f arguments i)) zero ∙ sym (still_by (formal_scalar f i) (argument_of f arguments i) (get_typed f.params arguments i typed)))
  ancestor_by i o v false e h = h

  jump_stands : (a : Symbol) (v : Value) → Stands mode f arguments serial a v → JumpStands mode f arguments serial (jump_of a) v
  jump_stands (Const c) v h = h
  jump_stands (Formal i) v h = h
  jump_stands (FormalOp i op z) v h = h
  jump_stands (FormalAt i None) v h = tt
  jump_stands (FormalAt i (Some o)) v h = ancestor_by i o v (int_eq o (pos 0)) refl h
  jump_stands (VariableAt x None) v h = tt
  jump_stands (VariableAt x (Some o)) v h = h
  jump_stands Unknown v h = tt

  known_stands : (o : Option Symbol) (a : Symbol) (v : Value) → jump_or o ≡ jump_of a → Stands mode f arguments serial a v → JumpStands mode f arguments serial (jump_or o) v
  known_stands o a v e h = subst (λ j. JumpStands mode f arguments serial j v) (sym e) (jump_stands a v h)

-- what is looked up is what the analysis has
looked_up : (B : Body) (row : List Symbol) (x : Operand) → jump_or (symbol_in B.globals B.locals B.registers (Reached row) x) ≡ jump_of (operand_symbol B row x)
unfolding symbol_in operand_symbol
looked_up B row (Reg name) = by (slice_get row (place_of B.registers name))
  where
    by : (o : Option Symbol) → jump_or o ≡ jump_of (symbol_or o)
    by None = refl
    by (Some a) = refl
looked_up B row (Number z) = refl
looked_up B row Null = refl
looked_up B row (Address name offset) = refl

-- ---- the statement of a call

at_seam : (ys : List Stmt) (x : Stmt) (xs : List Stmt) → slice_get (ys ++ x ∷ xs) (length ys) ≡ Some x
at_seam [] x xs = refl
at_seam (y ∷ ys) x xs = at_seam ys x xs

call_arguments : (x : Stmt) (c : Calling) → call_of x ≡ Some c → jump.arguments_of x ≡ Some c.arguments
call_arguments (Copy to from) c e = cc
call_arguments (Arith to left op right) c e = cc
call_arguments (Compare to left cmp right) c e = cc
call_arguments (Convert to scalar from) c e = cc
call_arguments (LoadStmt to scalar place) c e = cc
call_arguments (StoreStmt scalar place from) c e = cc
call_arguments (Call to callee xs) c e = cc
call_arguments (Indirect to signature callee xs) c e = cc
call_arguments (Get to) c e = cc
call_arguments (Put from) c e = cc
call_arguments Abort c e = cc

pub called_with : (globals : List Global) (x : Stmt) (c : Calling) (s : State) (xs : List Stmt) → call_of x ≡ Some c → arguments_at globals (x ∷ xs) s ≡ values_of globals (scope_of s.top) s.world.registers c.arguments
called_with globals (Copy to from) c s xs e = cc
called_with globals (Arith to left op right) c s xs e = cc
called_with globals (Compare to left cmp right) c s xs e = cc
called_with globals (Convert to scalar from) c s xs e = cc
called_with globals (LoadStmt to scalar place) c s xs e = cc
called_with globals (StoreStmt scalar place from) c s xs e = cc
called_with globals (Call to callee ys) c s xs e = ap (λ (o : Option Calling). arguments_by o) e
  where
    arguments_by : Option Calling → List Value
    arguments_by None = []
    arguments_by (Some k) = values_of globals (scope_of s.top) s.world.registers k.arguments
called_with globals (Indirect to signature callee ys) c s xs e = ap (λ (o : Option Calling). arguments_by o) e
  where
    arguments_by : Option Calling → List Value
    arguments_by None = []
    arguments_by (Some k) = values_of globals (scope_of s.top) s.world.registers k.arguments
called_with globals (Get to) c s xs e = cc
called_with globals (Put from) c s xs e = cc
called_with globals Abort c s xs e = cc

-- ---- what happened before

inner_kept : (n : ℕ) (past es : List Event) → AllByRecursion IsInner es → arguments_of n (after past es) ≡ arguments_of n past
inner_kept n past [] h = refl
inner_kept n past (Entry s g given m caller ∷ es) h = absurd h.0
inner_kept n past (At c w ∷ es) h = inner_kept n (At c w ∷ past) es h.1
inner_kept n past (Load c scalar object offset v ∷ es) h = inner_kept n (Load c scalar object offset v ∷ past) es h.1
inner_kept n past (Store c scalar object offset v ∷ es) h = inner_kept n (Store c scalar object offset v ∷ past) es h.1
inner_kept n past (Leave s ∷ es) h = absurd h.0

-- ---- the law

module _ (p : Sealed) (n : ℕ) (f : Function) (t : Found) (accepted : first_fault p.program ≡ None) (there : slice_get p.program.functions n ≡ Some f) (found : AreSymbols p n f t) (input : List ℤ) (numbers : list_all (in_scalar I64) input ≡ true) where
  abbrev Q : List Event → Event → Type 0
  Q past e = JumpsClaim p n f t past e

  abbrev pub At_ : (past : List Event) (s : State) → List Value → Type 0
  At_ past s arguments = There p n f t accepted found input numbers past s arguments

  statement_there : (past : List Event) (s : State) (arguments : List Value) (at : At_ past s arguments) (x : Stmt) (xs : List Stmt) → s.top.rest ≡ x ∷ xs → statement_at p.program (record { function = n; block = s.top.block; index = s.top.index }) ≡ Some x
  statement_there past s arguments at x xs e =
      let body : at.block.body ≡ at.done ++ x ∷ xs = at.body ∙ ap (λ ys. at.done ++ ys) e in
      ap (λ o. statement_of (block_of o s.top.block) s.top.index) there
      ∙ (ap (λ o. statement_of o s.top.index) at.found
      ∙ (ap (λ ys. slice_get ys s.top.index) body ∙ (ap (slice_get (at.done ++ x ∷ xs)) (sym at.index) ∙ at_seam at.done x xs)))

  pub symbol_there : (past : List Event) (s : State) (arguments : List Value) (at : At_ past s arguments) (x : Operand) → jump_or (found_symbol p.program.globals f.locals t (record { function = n; block = s.top.block; index = s.top.index }) x) ≡ jump_of (operand_symbol (body_of p f) at.value x)
  symbol_there past s arguments at x =
      ap (λ b. jump_or (cond b (symbol_in p.program.globals f.locals t.registers (found_row t s.top.block s.top.index) x) None)) (own p n f t accepted found input numbers)
      ∙ ((λ i. jump_or (symbol_in p.program.globals f.locals (found.registers i) (row_there p n f t accepted found input numbers past s arguments at i) x)) ∙ looked_up (body_of p f) at.value x)

  -- of one argument
  pub argument_stands : (past : List Event) (s : State) (arguments : List Value) (same : s.top.function ≡ f) (at : At_ past s arguments) (x : Operand) →
      JumpStands p.mode f arguments s.top.serial (jump_or (found_symbol p.program.globals f.locals t (record { function = n; block = s.top.block; index = s.top.index }) x)) (value_of p.program.globals (scope_of s.top) s.world.registers x)
  argument_stands past s arguments same at x =
      known_stands p.mode f arguments s.top.serial at.says.typed (found_symbol p.program.globals f.locals t (record { function = n; block = s.top.block; index = s.top.index }) x) (operand_symbol (body_of p f) at.value x) (value_of p.program.globals (scope_of s.top) s.world.registers x)
      (symbol_there past s arguments at x) (operands p accepted input f arguments s.top s.world at.value same at.says.stands x)

  each_stands : (past : List Event) (s : State) (arguments : List Value) (same : s.top.function ≡ f) (at : At_ past s arguments) (xs : List Operand) →
      JumpsStand p.mode f arguments s.top.serial (jumps_at p.program.globals f.locals t (record { function = n; block = s.top.block; index = s.top.index }) xs) (values_of p.program.globals (scope_of s.top) s.world.registers xs)
  each_stands past s arguments same at [] = tt
  each_stands past s arguments same at (x ∷ xs) = (argument_stands past s arguments same at x, each_stands past s arguments same at xs)

  call_stands : (past : List Event) (s : State) (x : Stmt) (xs : List Stmt) (c : Calling) → Comes p input past s → s.top.rest ≡ x ∷ xs → call_of x ≡ Some c → (now : List Event) → arguments_of s.top.serial now ≡ arguments_of s.top.serial past →
      CallStands p n f t now (arguments_at p.program.globals s.top.rest s) (Some s.top)
  call_stands past s x xs c comes e is now kept same =
      let begun = has_begun p input accepted numbers past s comes in
      let at : At_ past s begun.arguments = there_by p n f t accepted found input numbers past s comes same begun in
      let given : arguments_at p.program.globals s.top.rest s ≡ values_of p.program.globals (scope_of s.top) s.world.registers c.arguments = ap (λ ys. arguments_at p.program.globals ys s) e ∙ called_with p.program.globals x c s xs is in
      let those : arguments_in (statement_at p.program (record { function = n; block = s.top.block; index = s.top.index })) ≡ Some c.arguments = ap arguments_in (statement_there past s begun.arguments at x xs e) ∙ call_arguments x c is in
      subst (λ o. IsSomeAnd o (λ arguments. JumpsStand p.mode f arguments s.top.serial (jumps_in p.program p.program.globals f.locals t (record { function = n; block = s.top.block; index = s.top.index })) (arguments_at p.program.globals s.top.rest s)))
      (sym (kept ∙ begun.are))
      (subst (λ vs. JumpsStand p.mode f begun.arguments s.top.serial (jumps_in p.program p.program.globals f.locals t (record { function = n; block = s.top.block; index = s.top.index })) vs) (sym given)
      (subst (λ o. JumpsStand p.mode f begun.arguments s.top.serial (jumps_at p.program.globals f.locals t (record { function = n; block = s.top.block; index = s.top.index }) (arguments_or o)) (values_of p.program.globals (scope_of s.top) s.world.registers c.arguments)) (sym those)
      (each_stands past s begun.arguments same at c.arguments)))

  inner_claim : (past : List Event) (e : Event) → IsInner e → JumpsClaim p n f t past e
  inner_claim past (Entry s g given m caller) h = absurd h
  inner_claim past (At c w) h = tt
  inner_claim past (Load c scalar object offset v) h = tt
  inner_claim past (Store c scalar object offset v) h = tt
  inner_claim past (Leave s) h = tt

  inner_each : (past es : List Event) → AllByRecursion IsInner es → EachAfter Q past es
  inner_each past [] h = tt
  inner_each past (e ∷ es) h = (inner_claim past e h.0, inner_each (e ∷ past) es h.1)

  crossing_each : (past now : List Event) (s : State) → Comes p input past s → arguments_of s.top.serial now ≡ arguments_of s.top.serial past → (d : Did) → Steps p s d → EachAfter Q now (crossing p.program.globals s.top.rest s d)
  crossing_each past now s comes kept _ (acts x xs w e m r) = tt
  crossing_each past now s comes kept _ (calls x xs c g b bs e m r y) = (call_stands past s x xs c comes e m now kept, tt)
  crossing_each past now s comes kept _ (jumps label k b e x r) = tt
  crossing_each past now s comes kept _ (leaves v r fs e x y) = (tt, tt)
  crossing_each past now s comes kept _ (stops o z) = (tt, tt)
  crossing_each past now s comes kept _ (traps o k) = tt

  jumps_each : AtEach p input Q
  unfolding told_by
  jumps_each past s comes =
      let inner : AllByRecursion IsInner (access p.program.globals s.top.rest s) = access_all IsInner s (λ scalar r. tt) (λ scalar r v. tt) p.program.globals s.top.rest in (
        tt,
        each_append Q (At s.top s.world ∷ past) (access p.program.globals s.top.rest s) (crossing p.program.globals s.top.rest s (step p s)) (inner_each (At s.top s.world ∷ past) (access p.program.globals s.top.rest s) inner)
            (crossing_each past (mid p past s) s comes (inner_kept s.top.serial (At s.top s.world ∷ past) (access p.program.globals s.top.rest s) inner) (step p s) (step_is p s)),
      )

pub jumps_hold : JumpsHold
jumps_hold p n f t accepted there found input numbers turns = in_run p (JumpsClaim p n f t) input (λ s e. tt) (jumps_each p n f t accepted there found input numbers) turns
