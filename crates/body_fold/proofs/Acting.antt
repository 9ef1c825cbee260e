-- A folded statement does what the statement does, and a folded end leads where the end leads.
use Rattle.std.proofs.Common.{◌≡◌, ℕ, ℤ, pos, Bool, true, false, not, if◌then◌else◌, List, [], ◌∷◌, ◌++◌, length, refl, sym, ◌∙◌, ap, subst, Option, Some, None, Result, Ok}
use Rattle.gimple_ir.specs.declared.scalar.Scalar.{Scalar}
use Rattle.gimple_ir.specs.declared.scalar.Cmp.{Cmp}
use Rattle.gimple_ir.specs.declared.value.Value.{Value}
use Rattle.gimple_ir.specs.declared.value.TrapKind.{TrapKind}
use Rattle.gimple_ir.specs.declared.value.Constant.{Constant}
use Rattle.gimple_ir.specs.declared.value.Constant.TheVariants.{Int, Null, Global}
use Rattle.gimple_ir.specs.declared.operand.Operand.{Operand}
use Rattle.gimple_ir.specs.declared.operand.Base.{Base}
use Rattle.gimple_ir.specs.declared.operand.Base.TheVariants.{Reg as RegBase, Variable}
use Rattle.gimple_ir.specs.declared.operand.Place.{Place}
use Rattle.gimple_ir.specs.declared.declarations.Global.{Global as GlobalDef}
use Rattle.gimple_ir.specs.declared.statement.Stmt.{Stmt}
use Rattle.gimple_ir.specs.declared.statement.Stmt.TheVariants.{Copy, Arith, Compare, Convert, Load, Store, Call, Indirect, Get, Put, Abort}
use Rattle.gimple_ir.specs.declared.block.Case.{Case}
use Rattle.gimple_ir.specs.declared.block.End.{End}
use Rattle.gimple_ir.specs.declared.block.End.TheVariants.{Goto, If, Switch, Return}
use Rattle.gimple_ir.specs.declared.program.Function.{Function}
use Rattle.gimple_ir.specs.declared.program.Program.{Program}
use Rattle.gimple_core.specs.Sealed.{Sealed}
use Rattle.gimple_core.specs.Memory.{found_at, same_scalar}
use Rattle.gimple_core.specs.State.{World, State, Scope, scope_of, setting_of, registers_of, scalar_in}
use Rattle.gimple_core.specs.Run.{Exit, ToLabel, Returns, exit_of, call_of, act, assign, assign_result, loaded, stored, put, value_of, values_of, place_value, arith_of, compares, one_if, any_number, case_for}
use Rattle.gimple_core.specs.Verdict.{Verdict, demand}
use Rattle.gimple_core.specs.Env.{Names, scalar_of}
use Rattle.gimple_core.specs.Statements as s
use Rattle.gimple_core.proofs.Passed.{first_passed, demanded}
use Rattle.gimple_core.proofs.ScalarLemmas.{same_scalar_true}
use Rattle.gimple_claims.specs.Checks.{env_of}
use Rattle.gimple_claims.specs.Typed.{registers_typed}
use Rattle.gimple_claims.proofs.TypedValues.{scalar_there}
use Rattle.value_domain.specs.declared.abs_val.AbsVal.{AbsVal}
use Rattle.value_domain.specs.Thresholds.{IsLawful}
use Rattle.body_values.specs.declared.facts.Facts.{Facts}
use Rattle.body_values.specs.Bodies.{Body, register_scalar}
use Rattle.body_values.specs.Flow.{body_of}
use Rattle.body_values.specs.Rows.{RowFits}
use Rattle.body_values.specs.Rising.{LoadsFit}
use Rattle.body_values.proofs.Held.{RowHolds}
use Rattle.body_values.proofs.Stmts.{register}
use Rattle.body_fold.specs.Fold.{Folding, value_of_constant, constant_operand, known_operand, evaluated, never_traps, known_result, known_comparison, constant_for, passes, is_put, folded_operand, folded_left, folded_right, right_check, folded_arguments, place_on, folded_place, stored_place, with_operands, copy_or, with_result, folded_stmt, is_zero, goto_or, case_or, folded_end}
use Rattle.body_fold.proofs.FoldsBy.{folding_of}
use Rattle.body_fold.specs.Folders.{NamesMean}
use Rattle.body_fold.proofs.ConstantValues.{OffsetFits, constant_value, put_has}
use Rattle.body_fold.proofs.Known.{IsNamed, operand_named, printed_named, integer_named, sides_named, for_same, operand_known, comparison_known, arith_sides, arith_known, copy_known, compare_result_known, convert_known, place_same}

abbrev fine : World → Result World TrapKind
fine w = Ok w

truth_number : (b : Bool) (hit miss : ℕ) (c : Constant) → one_if b ≡ value_of_constant c → (if is_zero c then miss else hit) ≡ (if b then hit else miss)
truth_number true hit miss (Int z) e = let same : pos 1 ≡ z = cc in subst (λ y. (if is_zero (Int y) then miss else hit) ≡ hit) same refl
truth_number false hit miss (Int z) e = let same : pos 0 ≡ z = cc in subst (λ y. (if is_zero (Int y) then miss else hit) ≡ miss) same refl
truth_number true hit miss Null e = cc
truth_number false hit miss Null e = cc
truth_number true hit miss (Global k offset) e = cc
truth_number false hit miss (Global k offset) e = cc

-- where an end leads, by the registers of a frame
abbrev pub exit_at : List GlobalDef → Scope → List Value → End → Exit
exit_at globals scope values (Goto label) = ToLabel label
exit_at globals scope values (If left cmp right hit miss) = ToLabel (if compares (value_of globals scope values left) cmp (value_of globals scope values right) then hit else miss)
exit_at globals scope values (Switch on cases other) = ToLabel (case_for (any_number (value_of globals scope values on)) cases other)
exit_at globals scope values (Return None) = Returns None
exit_at globals scope values (Return (Some x)) = Returns (Some (value_of globals scope values x))

pub exit_is : (globals : List GlobalDef) (e : End) (st : State) → exit_of globals e st ≡ exit_at globals (scope_of st.top) st.world.registers e
exit_is globals (Goto label) st = refl
exit_is globals (If left cmp right hit miss) st = refl
exit_is globals (Switch on cases other) st = refl
exit_is globals (Return None) st = refl
exit_is globals (Return (Some x)) st = refl

base_named : (p : Program) (f : Function) (scalar : Scalar) (base : Base) (offset : ℤ) → s.place_at (env_of p f) scalar base offset ≡ Ok tt → (name : List ℕ) → base ≡ RegBase name → (own : Scalar) × (scalar_of (env_of p f) name ≡ Ok own)
unfolding s.place_at
base_named p f scalar (RegBase other) offset e name g =
    let a = first_passed (scalar_of (env_of p f) other) _ tt e in
    let same : other ≡ name = cc in
    (a.0, subst (λ m. scalar_of (env_of p f) m ≡ Ok a.0) same a.1)
base_named p f scalar (Variable other) offset e name g = cc

module _ (p : Sealed) (n : ℕ) (f : Function) (facts : Facts) (most : ℕ) (ts : List ℤ) (law : IsLawful ts) (serial : ℕ) (d : World) (row : List AbsVal)
    (t : registers_typed (registers_of f) d.registers ≡ true) (fits : RowFits most ts (length (f.params ++ f.registers)) row) (h : RowHolds row d.registers)
    (loads : LoadsFit (body_of p n f facts most ts)) (mean : NamesMean p.program.globals f.locals) where
  abbrev S : Folding
  S = folding_of p n f facts most ts

  abbrev B : Body
  B = body_of p n f facts most ts

  abbrev scope : Scope
  scope = record { declared = registers_of f; locals = f.locals; serial = serial }

  abbrev value : Operand → Value
  value x = value_of p.program.globals scope d.registers x

  -- ---- operands

  operand_put : (check : Operand → Verdict (Unit {0})) (x : Operand) → IsNamed p.program f x → value (folded_operand S row check x) ≡ value x
  operand_put check x e =
      put_has (λ y. value y ≡ value x) check x (constant_for B row x) refl (λ y g c. for_same p n f facts most ts law serial d.registers row t fits h loads mean x e y g)

  right_put : (left : Operand) (cmp : Cmp) (right : Operand) → IsNamed p.program f right → value (folded_right S row left cmp right) ≡ value right
  unfolding folded_right
  right_put left cmp right e = operand_put (λ y. s.compared (env_of p.program f) left cmp y) right e

  left_put : (left : Operand) (cmp : Cmp) (right : Operand) → IsNamed p.program f left → value (folded_left S row left cmp right) ≡ value left
  unfolding folded_left
  left_put left cmp right e = by (is_put (λ y. s.compared (env_of p.program f) left cmp y) (constant_for B row right))
    where
      by : (b : Bool) → value (if b then left else folded_operand S row (λ y. s.compared (env_of p.program f) y cmp right) left) ≡ value left
      by true = refl
      by false = operand_put (λ y. s.compared (env_of p.program f) y cmp right) left e

  pub arguments_put : (formals : List Scalar) (xs : List Operand) → s.arguments (env_of p.program f) formals xs ≡ Ok tt → values_of p.program.globals scope d.registers (folded_arguments S row formals xs) ≡ values_of p.program.globals scope d.registers xs
  unfolding s.arguments
  arguments_put formals [] e = refl
  arguments_put [] (x ∷ xs) e = refl
  arguments_put (r ∷ rs) (x ∷ xs) e =
      let a = first_passed (s.operand (env_of p.program f) 6 r x) _ tt e in
      let here : value (folded_operand S row (s.operand (env_of p.program f) 6 r) x) ≡ value x = operand_put (s.operand (env_of p.program f) 6 r) x (operand_named p.program f 6 r x a.1) in
      λ i. here i ∷ arguments_put rs xs a.2 i

  place_put : (check : Place → Verdict (Unit {0})) (scalar : Scalar) (place : Place) → s.place (env_of p.program f) scalar place ≡ Ok tt → place_value p.program.globals scope d.registers (folded_place S row check place) ≡ place_value p.program.globals scope d.registers place
  unfolding folded_place
  place_put check scalar place e =
      put_has (λ q. place_value p.program.globals scope d.registers q ≡ place_value p.program.globals scope d.registers place) check place (place_on B row place.base place.offset) refl
      (λ q g c. place_same p n f facts most ts law serial d.registers row t fits h loads mean place.base place.offset (base_named p.program f scalar place.base place.offset e) q g)

  -- ---- statements that are no calls

  abbrev Acts : Stmt → Stmt → Type 0
  Acts y x = (call_of y ≡ None) × (act (setting_of p) scope y d ≡ act (setting_of p) scope x d)

  with_acts : (names : Names Function) (scalar : Scalar) (x : Stmt) → s.statement (env_of p.program f) names x ≡ Ok tt → call_of x ≡ None → Acts (with_operands S row scalar x) x
  unfolding act s.statement with_operands
  with_acts names scalar (Copy to from) e c =
      let a = first_passed (scalar_of (env_of p.program f) to) _ tt e in
      (refl, ap (λ v. fine (assign scope d to v)) (operand_put _ from (operand_named p.program f 4 a.0 from a.2)))
  with_acts names scalar (Arith to left op right) e c =
      let a = first_passed (scalar_of (env_of p.program f) to) _ tt e in
      let b = arith_sides p n f facts most ts law serial d.registers row t fits h loads mean a.0 left op right a.2 in
      let l : value (folded_operand S row (s.operand (env_of p.program f) 4 scalar) left) ≡ value left = operand_put _ left b.left_named in
      let r : value (folded_operand S row (right_check (env_of p.program f) scalar op) right) ≡ value right = operand_put _ right b.right_named in
      (refl, λ i. assign_result scope d to (arith_of p.mode (scalar_in scope to) (l i) op (r i)))
  with_acts names scalar (Compare to left cmp right) e c =
      let a = first_passed (scalar_of (env_of p.program f) to) _ tt e in
      let b = first_passed (demand (not (s.is_pointer a.0)) 4) _ tt a.2 in
      let q = sides_named p.program f left cmp right b.2 in
      let l : value (folded_left S row left cmp right) ≡ value left = left_put left cmp right q.0 in
      let r : value (folded_right S row left cmp right) ≡ value right = right_put left cmp right q.1 in
      (refl, λ i. fine (assign scope d to (one_if (compares (l i) cmp (r i)))))
  with_acts names scalar (Convert to target from) e c = (refl, refl)
  with_acts names scalar (Load to from place) e c =
      let a = first_passed (scalar_of (env_of p.program f) to) _ tt e in
      let b = first_passed (demand (same_scalar from a.0) 4) _ tt a.2 in
      (refl, ap (λ v. loaded scope d to (found_at d.memory v from)) (place_put _ from place b.2))
  with_acts names scalar (Store at place from) e c =
      let a = first_passed (s.place (env_of p.program f) at place) _ tt e in
      let b = first_passed (demand (not (s.is_read_only (env_of p.program f) place.base)) 14) _ tt a.2 in
      let l : place_value p.program.globals scope d.registers (folded_place S row (stored_place (env_of p.program f) at) place) ≡ place_value p.program.globals scope d.registers place = place_put _ at place a.1 in
      let r : value (folded_operand S row (s.operand (env_of p.program f) 4 at) from) ≡ value from = operand_put _ from (operand_named p.program f 4 at from b.2) in
      (refl, λ i. stored d at (r i) (found_at d.memory (l i) at))
  with_acts names scalar (Call to callee xs) e c = cc
  with_acts names scalar (Indirect to signature callee xs) e c = cc
  with_acts names scalar (Get to) e c = (refl, refl)
  with_acts names scalar (Put from) e c = (refl, ap (λ v. fine (put d v)) (operand_put _ from (printed_named p.program f from e)))
  with_acts names scalar Abort e c = (refl, refl)

  -- a known result
  record Gives (to : List ℕ) (x : Stmt) (c : Constant) : Type 0 where
    pub gives : act (setting_of p) scope x d ≡ fine (assign scope d to (value_of_constant c))
    pub offset : OffsetFits c

  copy_acts : (check : Operand → Verdict (Unit {0})) (to : List ℕ) (x y : Stmt) → Acts y x → (o : Option Constant) → ((c : Constant) → o ≡ Some c → Gives to x c) → (q : Option Operand) → constant_operand p.program.globals o ≡ q → Acts (copy_or check to y q) x
  unfolding act constant_operand
  copy_acts check to x y a o g None e = a
  copy_acts check to x y a None g (Some z) e = cc
  copy_acts check to x y a (Some c) g (Some z) e = by (passes (check z))
    where
      by : (b : Bool) → Acts (if b then Copy to z else y) x
      by true =
          let r = g c refl in
          (refl, ap (λ v. fine (assign scope d to v)) (constant_value p.program.globals scope d.registers mean c z r.offset e) ∙ sym r.gives)
      by false = a

  result_acts : (j i : ℕ) (names : Names Function) (scalar : Scalar) (to : List ℕ) (x : Stmt) → s.statement (env_of p.program f) names x ≡ Ok tt → call_of x ≡ None → ((c : Constant) → known_result B j i row scalar x ≡ Some c → Gives to x c) → Acts (with_result S j i row x (Some to) scalar) x
  result_acts j i names scalar to x e c g = copy_acts (s.operand (env_of p.program f) 4 scalar) to x (with_operands S row scalar x) (with_acts names scalar x e c) (known_result B j i row scalar x) g _ refl

  no_result : (j i : ℕ) (scalar : Scalar) (to : List ℕ) (x : Stmt) → known_result B j i row scalar x ≡ None → (c : Constant) → known_result B j i row scalar x ≡ Some c → Gives to x c
  no_result j i scalar to x q c g = cc

  load_unknown : (j i : ℕ) (scalar : Scalar) (to : List ℕ) (from : Scalar) (place : Place) → known_result B j i row scalar (Load to from place) ≡ None
  unfolding known_result evaluated never_traps
  load_unknown j i scalar to from place = refl

  get_unknown : (j i : ℕ) (scalar : Scalar) (to : List ℕ) → known_result B j i row scalar (Get to) ≡ None
  unfolding known_result evaluated never_traps
  get_unknown j i scalar to = refl

  target_is : (to : List ℕ) (scalar : Scalar) → scalar_of (env_of p.program f) to ≡ Ok scalar → register_scalar (f.params ++ f.registers) to ≡ scalar
  target_is to scalar e = (register p n f facts most ts law serial d.registers row t fits h loads to scalar e).scalar_same

  pub stmt_acts : (j i : ℕ) (names : Names Function) (x : Stmt) → s.statement (env_of p.program f) names x ≡ Ok tt → call_of x ≡ None → Acts (folded_stmt S j i row x) x
  unfolding act s.statement s.converted folded_stmt
  stmt_acts j i names (Copy to from) e c =
      let a = first_passed (scalar_of (env_of p.program f) to) _ tt e in
      let own : register_scalar (f.params ++ f.registers) to ≡ a.0 = target_is to a.0 a.1 in
      result_acts j i names (register_scalar (f.params ++ f.registers) to) to (Copy to from) e c
      (λ z g.
      let r = copy_known p n f facts most ts law serial d.registers row t fits h loads mean j i (register_scalar (f.params ++ f.registers) to) to from (subst (λ y. s.operand (env_of p.program f) 4 y from ≡ Ok tt) (sym own) a.2) z g in
      record { gives = ap (λ v. fine (assign scope d to v)) r.same; offset = r.offset })
  stmt_acts j i names (Arith to left op right) e c =
      let a = first_passed (scalar_of (env_of p.program f) to) _ tt e in
      let own : register_scalar (f.params ++ f.registers) to ≡ a.0 = target_is to a.0 a.1 in
      let there : scalar_in scope to ≡ register_scalar (f.params ++ f.registers) to = scalar_there p.program f scope to a.0 refl a.1 ∙ sym own in
      result_acts j i names (register_scalar (f.params ++ f.registers) to) to (Arith to left op right) e c
      (λ z g.
      let r = arith_known p n f facts most ts law serial d.registers row t fits h loads mean j i (register_scalar (f.params ++ f.registers) to) to left op right (subst (λ y. s.arith (env_of p.program f) y left op right ≡ Ok tt) (sym own) a.2) z g in
      record { gives = ap (λ y. assign_result scope d to (arith_of p.mode y (value left) op (value right))) there ∙ ap (assign_result scope d to) r.same; offset = r.offset })
  stmt_acts j i names (Compare to left cmp right) e c =
      let a = first_passed (scalar_of (env_of p.program f) to) _ tt e in
      let b = first_passed (demand (not (s.is_pointer a.0)) 4) _ tt a.2 in
      let own : register_scalar (f.params ++ f.registers) to ≡ a.0 = target_is to a.0 a.1 in
      result_acts j i names (register_scalar (f.params ++ f.registers) to) to (Compare to left cmp right) e c
      (λ z g.
      let r = compare_result_known p n f facts most ts law serial d.registers row t fits h loads mean j i (register_scalar (f.params ++ f.registers) to) to left cmp right (subst (λ y. not (s.is_pointer y) ≡ true) (sym own) (demanded _ 4 b.1)) b.2 z g in
      record { gives = ap (λ v. fine (assign scope d to v)) r.same; offset = r.offset })
  stmt_acts j i names (Convert to target from) e c =
      let a = first_passed (scalar_of (env_of p.program f) to) _ tt e in
      let b = first_passed (s.integer (env_of p.program f) from) _ tt a.2 in
      let u = first_passed (demand (not (s.is_pointer target)) 4) _ tt b.2 in
      let own : register_scalar (f.params ++ f.registers) to ≡ target = target_is to a.0 a.1 ∙ sym (same_scalar_true target a.0 (demanded _ 4 u.2)) in
      result_acts j i names (register_scalar (f.params ++ f.registers) to) to (Convert to target from) e c
      (λ z g.
      let r = convert_known p n f facts most ts law serial d.registers row t fits h loads mean j i target b.0 to from (demanded _ 4 u.1) b.1 z (subst (λ y. known_result B j i row y (Convert to target from) ≡ Some z) own g) in
      record { gives = ap (λ v. fine (assign scope d to v)) r.same; offset = r.offset })
  stmt_acts j i names (Load to from place) e c = result_acts j i names (register_scalar (f.params ++ f.registers) to) to (Load to from place) e c (no_result j i _ to (Load to from place) (load_unknown j i _ to from place))
  stmt_acts j i names (Store at place from) e c = with_acts names _ (Store at place from) e c
  stmt_acts j i names (Call to callee xs) e c = cc
  stmt_acts j i names (Indirect to signature callee xs) e c = cc
  stmt_acts j i names (Get to) e c = result_acts j i names (register_scalar (f.params ++ f.registers) to) to (Get to) e c (no_result j i _ to (Get to) (get_unknown j i _ to))
  stmt_acts j i names (Put from) e c = with_acts names _ (Put from) e c
  stmt_acts j i names Abort e c = with_acts names _ Abort e c

  -- ---- ends

  abbrev leads : End → Exit
  leads e = exit_at p.program.globals scope d.registers e

  if_leads : (left : Operand) (cmp : Cmp) (right : Operand) (hit miss : ℕ) (x : End) → (o : Option Constant) → ((c : Constant) → o ≡ Some c → one_if (compares (value left) cmp (value right)) ≡ value_of_constant c) → leads x ≡ leads (If left cmp right hit miss) →
      leads (goto_or o hit miss x) ≡ leads (If left cmp right hit miss)
  if_leads left cmp right hit miss x None g e = e
  if_leads left cmp right hit miss x (Some c) g e = ap ToLabel (truth_number (compares (value left) cmp (value right)) hit miss c (g c refl))

  switch_leads : (on : Operand) (cases : List Case) (other : ℕ) → (o : Option Constant) → ((c : Constant) → o ≡ Some c → value on ≡ value_of_constant c) → leads (case_or o cases other (Switch on cases other)) ≡ leads (Switch on cases other)
  switch_leads on cases other None g = refl
  switch_leads on cases other (Some c) g = ap (λ v. ToLabel (case_for (any_number v) cases other)) (sym (g c refl))

  return_named : (o : Option Scalar) (x : Operand) → s.returned (env_of p.program f) (Some x) o ≡ Ok tt → IsNamed p.program f x
  unfolding s.returned
  return_named None x e = cc
  return_named (Some scalar) x e = operand_named p.program f 16 scalar x e

  pub end_leads : (e : End) → s.ending (env_of p.program f) e ≡ Ok tt → leads (folded_end S row e) ≡ leads e
  unfolding s.ending folded_end
  end_leads (Goto to) e = refl
  end_leads (If left cmp right hit miss) e =
      let a = first_passed (s.compared (env_of p.program f) left cmp right) _ tt e in
      let q = sides_named p.program f left cmp right a.1 in
      let l : value (folded_left S row left cmp right) ≡ value left = left_put left cmp right q.0 in
      let r : value (folded_right S row left cmp right) ≡ value right = right_put left cmp right q.1 in
      if_leads left cmp right hit miss (If (folded_left S row left cmp right) cmp (folded_right S row left cmp right) hit miss) (known_comparison B row left cmp right)
      (λ c g. comparison_known p n f facts most ts law serial d.registers row t fits h loads mean left cmp right a.1 c g)
      (λ i. ToLabel (if compares (l i) cmp (r i) then hit else miss))
  end_leads (Switch on cases other) e =
      let a = first_passed (s.integer (env_of p.program f) on) _ tt e in
      switch_leads on cases other (known_operand B row on) (λ c g. operand_known p n f facts most ts law serial d.registers row t fits h loads mean on (integer_named p.program f on a.0 a.1) c g)
  end_leads (Return None) e = refl
  end_leads (Return (Some x)) e = ap (λ v. Returns (Some v)) (operand_put _ x (return_named f.result x e))
