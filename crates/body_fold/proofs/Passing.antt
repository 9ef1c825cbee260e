-- A folded statement passes its checks, and a folded end too.
use Rattle.std.proofs.Common.{◌≡◌, ℕ, zero, suc, ◌==◌, Bool, true, false, not, if◌then◌else◌, List, [], ◌∷◌, ◌++◌, map, length, refl, sym, ◌∙◌, ap, subst, Option, Some, None, Ok, Err, slice_get}
use Rattle.std.specs.List.{find, position_or_len}
use Rattle.std.proofs.lemmas.List.{map-append}
use Rattle.std.proofs.lemmas.List.Folds.{find_at}
use Rattle.gimple_ir.specs.declared.scalar.Scalar.{Scalar}
use Rattle.gimple_ir.specs.declared.scalar.Scalar.TheVariants.{I8, I16, I32, I64, U8, U16, U32, U64, Ptr}
use Rattle.gimple_ir.specs.declared.scalar.Op.{Op}
use Rattle.gimple_ir.specs.declared.scalar.Cmp.{Cmp}
use Rattle.gimple_ir.specs.declared.value.Constant.{Constant}
use Rattle.gimple_ir.specs.declared.operand.Operand.{Operand}
use Rattle.gimple_ir.specs.declared.operand.Place.{Place}
use Rattle.gimple_ir.specs.declared.declarations.Register.{Register}
use Rattle.gimple_ir.specs.declared.statement.Stmt.{Stmt}
use Rattle.gimple_ir.specs.declared.statement.Signature.{Signature}
use Rattle.gimple_ir.specs.declared.statement.Stmt.TheVariants.{Copy, Arith, Compare, Convert, Load, Store, Call, Indirect, Get, Put, Abort}
use Rattle.gimple_ir.specs.declared.block.Case.{Case}
use Rattle.gimple_ir.specs.declared.block.End.{End}
use Rattle.gimple_ir.specs.declared.block.End.TheVariants.{Goto, If, Switch, Return}
use Rattle.gimple_ir.specs.declared.program.Function.{Function}
use Rattle.gimple_ir.specs.declared.program.Program.{Program}
use Rattle.gimple_core.specs.Memory.{same_scalar}
use Rattle.std.specs.Str.{bytes_eq}
use Rattle.gimple_core.specs.Run.{case_target, any_number}
use Rattle.gimple_core.specs.Verdict.{Verdict, ◌>>◌, demand, found}
use Rattle.gimple_core.specs.Env.{Env, Targets, named, registers_by_name, scalar_of}
use Rattle.gimple_core.specs.Statements as s
use Rattle.gimple_core.proofs.Passed.{first_passed, both_pass, found_so}
use Rattle.gimple_core.proofs.EnvLemmas.{named_find}
use Rattle.gimple_core.specs.Operators.{cmp_of}
use Rattle.gimple_ir.specs.declared.scalar.Cmp.TheVariants.{Eq}
use Rattle.gimple_claims.specs.Checks.{env_of}
use Rattle.gimple_claims.proofs.Checked.{ok_same}
use Rattle.value_domain.specs.declared.abs_val.AbsVal.{AbsVal}
use Rattle.body_values.specs.Bodies.{register_scalar, scalar_or, target_of}
use Rattle.block_flow.specs.Branches.{labels_of}
use Rattle.body_fold.specs.Fold.{Folding, value_of_constant, known_comparison, known_operand, constant_for, passes, is_put, put_or, folded_operand, folded_left, folded_right, right_check, formals_of, folded_arguments, place_on, folded_place, stored_place, with_operands, copy_or, with_result, folded_stmt, is_zero, goto_or, case_or, folded_end}
use Rattle.body_fold.proofs.ConstantValues.{put_has}
use Rattle.body_fold.proofs.Relabelled.{SameTargets, compared_seen, integer_seen, returned_seen}

-- ---- what is put passes

put_passes : {X : Type 0} (check : X → Verdict (Unit {0})) (x : X) (o : Option X) → check x ≡ Ok tt → check (put_or check x o) ≡ Ok tt
put_passes check x o e = put_has (λ y. check y ≡ Ok tt) check x o e (λ y g c. c)

not_put : {X : Type 0} (check : X → Verdict (Unit {0})) (x : X) (o : Option X) → is_put check o ≡ false → put_or check x o ≡ x
not_put check x None e = refl
not_put check x (Some y) e = ap (λ b. if b then y else x) e

both_put : (first second : Operand → Verdict (Unit {0})) (x y : Operand) (o q : Option Operand) → (first x >> second y) ≡ Ok tt → (first (put_or first x o) >> second (put_or second y q)) ≡ Ok tt
both_put first second x y o q e =
    let a = first_passed (first x) _ tt e in
    both_pass (first (put_or first x o)) _ tt tt (put_passes first x o a.1) (put_passes second y q a.2)

-- the register that is assigned
pub own_scalar : (p : Program) (f : Function) (name : List ℕ) (scalar : Scalar) → scalar_of (env_of p f) name ≡ Ok scalar → register_scalar (f.params ++ f.registers) name ≡ scalar
unfolding scalar_of
own_scalar p f name scalar h =
    let r = first_passed (found (named name (env_of p f).registers) 1) _ scalar h in
    let there : named name (registers_by_name (f.params ++ f.registers)) ≡ Some r.0 = ap (named name) (map-append (λ (x : Register). (x.name, x)) f.params f.registers) ∙ found_so _ 1 r.0 r.1 in
    let at : slice_get (f.params ++ f.registers) (position_or_len (λ (x : Register). bytes_eq x.name name) (f.params ++ f.registers)) ≡ Some r.0 =
    sym (find_at (λ (x : Register). bytes_eq x.name name) (f.params ++ f.registers)) ∙ (sym (named_find (λ (x : Register). x.name) name (f.params ++ f.registers)) ∙ there) in
    ap scalar_or at ∙ ok_same r.2

module _ (p : Program) (f : Function) (S : Folding) (row : List AbsVal) (seen : S.env ≡ env_of p f) (registers : S.body.registers ≡ f.params ++ f.registers) where
  abbrev env : Env
  env = S.env

  target_is : (to : List ℕ) (scalar : Scalar) → scalar_of env to ≡ Ok scalar → register_scalar S.body.registers to ≡ scalar
  target_is to scalar e = ap (λ rs. register_scalar rs to) registers ∙ own_scalar p f to scalar (ap (λ z. scalar_of z to) (sym seen) ∙ e)

  -- ---- operators and comparisons

  arith_passes : (scalar : Scalar) (left : Operand) (op : Op) (right : Operand) (o q : Option Operand) → s.arith env scalar left op right ≡ Ok tt → s.arith env scalar (put_or (s.operand env 4 scalar) left o) op (put_or (right_check env scalar op) right q) ≡ Ok tt
  unfolding s.arith
  arith_passes I8 left op right o q e = both_put (s.operand env 4 I8) (s.right_side env I8 op) left right o q e
  arith_passes I16 left op right o q e = both_put (s.operand env 4 I16) (s.right_side env I16 op) left right o q e
  arith_passes I32 left op right o q e = both_put (s.operand env 4 I32) (s.right_side env I32 op) left right o q e
  arith_passes I64 left op right o q e = both_put (s.operand env 4 I64) (s.right_side env I64 op) left right o q e
  arith_passes U8 left op right o q e = both_put (s.operand env 4 U8) (s.right_side env U8 op) left right o q e
  arith_passes U16 left op right o q e = both_put (s.operand env 4 U16) (s.right_side env U16 op) left right o q e
  arith_passes U32 left op right o q e = both_put (s.operand env 4 U32) (s.right_side env U32 op) left right o q e
  arith_passes U64 left op right o q e = both_put (s.operand env 4 U64) (s.right_side env U64 op) left right o q e
  arith_passes Ptr left op right o q e =
      let a = first_passed (demand (s.is_add op) 4) _ tt e in
      both_pass (demand (s.is_add op) 4) _ tt tt a.1 (both_put (s.operand env 4 Ptr) (s.operand env 4 I64) left right o q a.2)

  compared_by : (left : Operand) (cmp : Cmp) (right : Operand) → s.compared env left cmp right ≡ Ok tt → (b : Bool) → is_put (λ y. s.compared env left cmp y) (constant_for S.body row right) ≡ b →
      s.compared env (if b then left else folded_operand S row (λ y. s.compared env y cmp right) left) cmp (folded_operand S row (λ y. s.compared env left cmp y) right) ≡ Ok tt
  compared_by left cmp right e true t = put_passes (λ y. s.compared env left cmp y) right (constant_for S.body row right) e
  compared_by left cmp right e false t =
      subst (λ y. s.compared env (folded_operand S row (λ z. s.compared env z cmp right) left) cmp y ≡ Ok tt) (sym (not_put (λ y. s.compared env left cmp y) right (constant_for S.body row right) t))
      (put_passes (λ y. s.compared env y cmp right) left (constant_for S.body row left) e)

  pub compared_passes : (left : Operand) (cmp : Cmp) (right : Operand) → s.compared env left cmp right ≡ Ok tt → s.compared env (folded_left S row left cmp right) cmp (folded_right S row left cmp right) ≡ Ok tt
  unfolding folded_left folded_right
  compared_passes left cmp right e = compared_by left cmp right e (is_put (λ y. s.compared env left cmp y) (constant_for S.body row right)) refl

  -- ---- calls

  arguments_pass : (formals : List Scalar) (xs : List Operand) → s.arguments env formals xs ≡ Ok tt → s.arguments env formals (folded_arguments S row formals xs) ≡ Ok tt
  unfolding s.arguments
  arguments_pass [] [] e = e
  arguments_pass (r ∷ rs) [] e = e
  arguments_pass [] (x ∷ xs) e = e
  arguments_pass (r ∷ rs) (x ∷ xs) e =
      let a = first_passed (s.operand env 6 r x) _ tt e in
      both_pass (s.operand env 6 r (folded_operand S row (s.operand env 6 r) x)) _ tt tt (put_passes (s.operand env 6 r) x (constant_for S.body row x) a.1) (arguments_pass rs xs a.2)

  as_many : (formals : List Scalar) (xs : List Operand) → length (folded_arguments S row formals xs) ≡ length xs
  as_many formals [] = refl
  as_many [] (x ∷ xs) = refl
  as_many (r ∷ rs) (x ∷ xs) = ap suc (as_many rs xs)

  called_passes : (to : Option (List ℕ)) (callee : List ℕ) (xs : List Operand) → s.called env S.names to callee xs ≡ Ok tt → s.called env S.names to callee (folded_arguments S row (formals_of (named callee S.names)) xs) ≡ Ok tt
  unfolding s.called
  called_passes to callee xs e =
      let a = first_passed (s.target env to) _ tt e in
      let b = first_passed (found (named callee S.names) 1) _ tt a.2 in
      let c = first_passed (demand (length xs == length b.0.params) 5) _ tt b.2 in
      let scalars : List Scalar = s.scalars_of b.0.params in
      let q = first_passed (s.arguments env scalars xs) _ tt c.2 in
      let there : formals_of (named callee S.names) ≡ scalars = ap formals_of (found_so (named callee S.names) 1 b.0 b.1) in
      let ys : List Operand = folded_arguments S row (formals_of (named callee S.names)) xs in
      both_pass (s.target env to) _ a.0 tt a.1
      (both_pass (found (named callee S.names) 1) _ b.0 tt b.1
      (both_pass (demand (length ys == length b.0.params) 5) _ tt tt (ap (λ m. demand (m == length b.0.params) 5) (as_many (formals_of (named callee S.names)) xs) ∙ c.1)
      (both_pass (s.arguments env scalars ys) _ tt tt (subst (λ formals. s.arguments env scalars (folded_arguments S row formals xs) ≡ Ok tt) (sym there) (arguments_pass scalars xs q.1)) q.2)))

  through_passes : (to : Option (List ℕ)) (signature : Signature) (callee : List ℕ) (xs : List Operand) → s.called_through env to signature callee xs ≡ Ok tt → s.called_through env to signature callee (folded_arguments S row signature.params xs) ≡ Ok tt
  unfolding s.called_through
  through_passes to signature callee xs e =
      let a = first_passed (s.target env to) _ tt e in
      let b = first_passed (found env.targets 1) _ tt a.2 in
      let c = first_passed (scalar_of env callee) _ tt b.2 in
      let d = first_passed (demand (s.is_pointer c.0) 4) _ tt c.2 in
      let n = first_passed (demand (length xs == length signature.params) 5) _ tt d.2 in
      let q = first_passed (s.arguments env signature.params xs) _ tt n.2 in
      let ys : List Operand = folded_arguments S row signature.params xs in
      both_pass (s.target env to) _ a.0 tt a.1
      (both_pass (found env.targets 1) _ b.0 tt b.1
      (both_pass (scalar_of env callee) _ c.0 tt c.1
      (both_pass (demand (s.is_pointer c.0) 4) _ tt tt d.1
      (both_pass (demand (length ys == length signature.params) 5) _ tt tt (ap (λ m. demand (m == length signature.params) 5) (as_many signature.params xs) ∙ n.1)
      (both_pass (s.arguments env signature.params ys) _ tt tt (arguments_pass signature.params xs q.1) q.2)))))

  -- ---- statements

  with_passes : (scalar : Scalar) (x : Stmt) → ((to : List ℕ) (own : Scalar) → target_of x ≡ Some to → scalar_of env to ≡ Ok own → scalar ≡ own) → s.statement env S.names x ≡ Ok tt → s.statement env S.names (with_operands S row scalar x) ≡ Ok tt
  unfolding s.statement with_operands folded_place
  with_passes scalar (Copy to from) t e =
      let a = first_passed (scalar_of env to) _ tt e in
      both_pass (scalar_of env to) _ a.0 tt a.1 (subst (λ z. s.operand env 4 a.0 (folded_operand S row (s.operand env 4 z) from) ≡ Ok tt) (sym (t to a.0 refl a.1)) (put_passes (s.operand env 4 a.0) from (constant_for S.body row from) a.2))
  with_passes scalar (Arith to left op right) t e =
      let a = first_passed (scalar_of env to) _ tt e in
      both_pass (scalar_of env to) _ a.0 tt a.1
      (subst (λ z. s.arith env a.0 (folded_operand S row (s.operand env 4 z) left) op (folded_operand S row (right_check env z op) right) ≡ Ok tt) (sym (t to a.0 refl a.1))
      (arith_passes a.0 left op right (constant_for S.body row left) (constant_for S.body row right) a.2))
  with_passes scalar (Compare to left cmp right) t e =
      let a = first_passed (scalar_of env to) _ tt e in
      let b = first_passed (demand (not (s.is_pointer a.0)) 4) _ tt a.2 in
      both_pass (scalar_of env to) _ a.0 tt a.1 (both_pass (demand (not (s.is_pointer a.0)) 4) _ tt tt b.1 (compared_passes left cmp right b.2))
  with_passes scalar (Convert to target from) t e = e
  with_passes scalar (Load to from place) t e =
      let a = first_passed (scalar_of env to) _ tt e in
      let b = first_passed (demand (same_scalar from a.0) 4) _ tt a.2 in
      both_pass (scalar_of env to) _ a.0 tt a.1 (both_pass (demand (same_scalar from a.0) 4) _ tt tt b.1 (put_passes (s.place env from) place (place_on S.body row place.base place.offset) b.2))
  with_passes scalar (Store at place from) t e =
      let a = first_passed (s.place env at place) _ tt e in
      let b = first_passed (demand (not (s.is_read_only env place.base)) 14) _ tt a.2 in
      let q : Place = put_or (stored_place env at) place (place_on S.body row place.base place.offset) in
      let stored : stored_place env at q ≡ Ok tt = put_passes (stored_place env at) place (place_on S.body row place.base place.offset) (both_pass (s.place env at place) _ tt tt a.1 b.1) in
      let c = first_passed (s.place env at q) _ tt stored in
      both_pass (s.place env at q) _ tt tt c.1 (both_pass (demand (not (s.is_read_only env q.base)) 14) _ tt tt c.2 (put_passes (s.operand env 4 at) from (constant_for S.body row from) b.2))
  with_passes scalar (Call to callee xs) t e = called_passes to callee xs e
  with_passes scalar (Indirect to signature callee xs) t e = through_passes to signature callee xs e
  with_passes scalar (Get to) t e = e
  with_passes scalar (Put from) t e = put_passes (s.printed env) from (constant_for S.body row from) e
  with_passes scalar Abort t e = e

  passed : (v : Verdict (Unit {0})) → passes v ≡ true → v ≡ Ok tt
  passed (Ok x) h = refl
  passed (Err code) h = cc

  copy_passes : (scalar own : Scalar) (to : List ℕ) (y : Stmt) (o : Option Operand) → scalar_of env to ≡ Ok own → scalar ≡ own → s.statement env S.names y ≡ Ok tt → s.statement env S.names (copy_or (s.operand env 4 scalar) to y o) ≡ Ok tt
  unfolding s.statement
  copy_passes scalar own to y None e same h = h
  copy_passes scalar own to y (Some c) e same h = by (passes (s.operand env 4 scalar c)) refl
    where
      by : (b : Bool) → passes (s.operand env 4 scalar c) ≡ b → s.statement env S.names (if b then Copy to c else y) ≡ Ok tt
      by true g = both_pass (scalar_of env to) _ own tt e (subst (λ z. s.operand env 4 z c ≡ Ok tt) same (passed (s.operand env 4 scalar c) g))
      by false g = h

  result_passes : (j i : ℕ) (x : Stmt) (to : List ℕ) (own : Scalar) → target_of x ≡ Some to → scalar_of env to ≡ Ok own → s.statement env S.names x ≡ Ok tt → s.statement env S.names (with_result S j i row x (Some to) (register_scalar S.body.registers to)) ≡ Ok tt
  result_passes j i x to own t e h =
      copy_passes (register_scalar S.body.registers to) own to (with_operands S row (register_scalar S.body.registers to) x) _ e (target_is to own e)
      (with_passes (register_scalar S.body.registers to) x (λ other scalar u g. let same : to ≡ other = some_name (sym t ∙ u) in ap (register_scalar S.body.registers) same ∙ target_is other scalar g) h)
    where
      some_name : {a b : List ℕ} → Some a ≡ Some b → a ≡ b
      some_name e = cc

  plain_passes : (j i : ℕ) (x : Stmt) → target_of x ≡ None → s.statement env S.names x ≡ Ok tt → s.statement env S.names (with_result S j i row x None I64) ≡ Ok tt
  plain_passes j i x t h = with_passes I64 x (λ to own u g. cc) h

  call_passes : (j i : ℕ) (to : Option (List ℕ)) (callee : List ℕ) (xs : List Operand) → s.statement env S.names (Call to callee xs) ≡ Ok tt → s.statement env S.names (folded_stmt S j i row (Call to callee xs)) ≡ Ok tt
  unfolding s.statement s.called folded_stmt
  call_passes j i None callee xs e = plain_passes j i (Call None callee xs) refl e
  call_passes j i (Some to) callee xs e =
      let a = first_passed (s.target env (Some to)) _ tt e in
      let b = first_passed (scalar_of env to) _ a.0 a.1 in
      result_passes j i (Call (Some to) callee xs) to b.0 refl b.1 e

  indirect_passes : (j i : ℕ) (to : Option (List ℕ)) (signature : Signature) (callee : List ℕ) (xs : List Operand) → s.statement env S.names (Indirect to signature callee xs) ≡ Ok tt → s.statement env S.names (folded_stmt S j i row (Indirect to signature callee xs)) ≡ Ok tt
  unfolding s.statement s.called_through folded_stmt
  indirect_passes j i None signature callee xs e = plain_passes j i (Indirect None signature callee xs) refl e
  indirect_passes j i (Some to) signature callee xs e =
      let a = first_passed (s.target env (Some to)) _ tt e in
      let b = first_passed (scalar_of env to) _ a.0 a.1 in
      result_passes j i (Indirect (Some to) signature callee xs) to b.0 refl b.1 e

  pub stmt_passes : (j i : ℕ) (x : Stmt) → s.statement env S.names x ≡ Ok tt → s.statement env S.names (folded_stmt S j i row x) ≡ Ok tt
  unfolding s.statement folded_stmt
  stmt_passes j i (Copy to from) e = let a = first_passed (scalar_of env to) _ tt e in result_passes j i (Copy to from) to a.0 refl a.1 e
  stmt_passes j i (Arith to left op right) e = let a = first_passed (scalar_of env to) _ tt e in result_passes j i (Arith to left op right) to a.0 refl a.1 e
  stmt_passes j i (Compare to left cmp right) e = let a = first_passed (scalar_of env to) _ tt e in result_passes j i (Compare to left cmp right) to a.0 refl a.1 e
  stmt_passes j i (Convert to target from) e = let a = first_passed (scalar_of env to) _ tt e in result_passes j i (Convert to target from) to a.0 refl a.1 e
  stmt_passes j i (Load to from place) e = let a = first_passed (scalar_of env to) _ tt e in result_passes j i (Load to from place) to a.0 refl a.1 e
  stmt_passes j i (Store at place from) e = plain_passes j i (Store at place from) refl e
  stmt_passes j i (Call to callee xs) e = call_passes j i to callee xs e
  stmt_passes j i (Indirect to signature callee xs) e = indirect_passes j i to signature callee xs e
  stmt_passes j i (Get to) e = let a = first_passed (scalar_of env to) _ tt e in result_passes j i (Get to) to a.0 refl a.1 e
  stmt_passes j i (Put from) e = plain_passes j i (Put from) refl e
  stmt_passes j i Abort e = plain_passes j i Abort refl e

  -- ---- ends

  goto_passes : (o : Option Constant) (hit miss : ℕ) (x : End) → s.label env hit ≡ Ok tt → s.label env miss ≡ Ok tt → s.ending env x ≡ Ok tt → s.ending env (goto_or o hit miss x) ≡ Ok tt
  unfolding s.ending
  goto_passes None hit miss x a b e = e
  goto_passes (Some c) hit miss x a b e = by (is_zero c)
    where
      by : (t : Bool) → s.label env (if t then miss else hit) ≡ Ok tt
      by true = b
      by false = a

  case_by : (c : Case) (o : Option Case) (other : ℕ) (b : Bool) → s.label env c.target ≡ Ok tt → s.label env (case_target o other) ≡ Ok tt → s.label env (case_target (if b then Some c else o) other) ≡ Ok tt
  case_by c o other true h more = h
  case_by c o other false h more = more

  case_checked : (test : Case → Bool) (cases : List Case) (other : ℕ) → s.case_labels env cases ≡ Ok tt → s.label env other ≡ Ok tt → s.label env (case_target (find test cases) other) ≡ Ok tt
  unfolding s.case_labels
  case_checked test [] other h k = k
  case_checked test (c ∷ cs) other h k = let a = first_passed (s.label env c.target) _ tt h in case_by c (find test cs) other (test c) a.1 (case_checked test cs other a.2 k)

  switch_passes : (on : Operand) (cases : List Case) (other : ℕ) (o : Option Constant) → s.ending env (Switch on cases other) ≡ Ok tt → s.ending env (case_or o cases other (Switch on cases other)) ≡ Ok tt
  unfolding s.ending
  switch_passes on cases other None e = e
  switch_passes on cases other (Some c) e =
      let a = first_passed (s.integer env on) _ tt e in
      let b = first_passed (s.case_values a.0 [] cases) _ tt a.2 in
      let q = first_passed (s.case_labels env cases) _ tt b.2 in
      case_checked (λ (x : Case). cmp_of Eq (any_number (value_of_constant c)) x.value) cases other q.1 q.2

  pub end_passes : (e : End) → s.ending env e ≡ Ok tt → s.ending env (folded_end S row e) ≡ Ok tt
  unfolding s.ending folded_end
  end_passes (Goto to) e = e
  end_passes (If left cmp right hit miss) e =
      let a = first_passed (s.compared env left cmp right) _ tt e in
      let b = first_passed (s.label env hit) _ tt a.2 in
      goto_passes (known_comparison S.body row left cmp right) hit miss (If (folded_left S row left cmp right) cmp (folded_right S row left cmp right) hit miss) b.1 b.2
      (both_pass (s.compared env (folded_left S row left cmp right) cmp (folded_right S row left cmp right)) _ tt tt (compared_passes left cmp right a.1) (both_pass (s.label env hit) _ tt tt b.1 b.2))
  end_passes (Switch on cases other) e = switch_passes on cases other (known_operand S.body row on) e
  end_passes (Return None) e = e
  end_passes (Return (Some x)) e = put_passes (λ y. s.returned env (Some y) env.result) x (constant_for S.body row x) e

-- ---- labels

abbrev pub LabelsPass : Env → End → Type 0
LabelsPass known e = (slot label : ℕ) → slice_get (labels_of e) slot ≡ Some label → s.label known label ≡ Ok tt

same_label : (known : Env) (a b : ℕ) → Some a ≡ Some b → s.label known a ≡ Ok tt → s.label known b ≡ Ok tt
same_label known a b e h = let same : a ≡ b = cc in subst (λ l. s.label known l ≡ Ok tt) same h

cases_listed : (known : Env) (cases : List Case) (other : ℕ) → s.case_labels known cases ≡ Ok tt → s.label known other ≡ Ok tt → (slot label : ℕ) → slice_get (map (λ (c : Case). c.target) cases ++ other ∷ []) slot ≡ Some label → s.label known label ≡ Ok tt
unfolding s.case_labels
cases_listed known [] other h k zero label e = same_label known other label e k
cases_listed known [] other h k (suc slot) label e = cc
cases_listed known (c ∷ cs) other h k zero label e = let a = first_passed (s.label known c.target) _ tt h in same_label known c.target label e a.1
cases_listed known (c ∷ cs) other h k (suc slot) label e = let a = first_passed (s.label known c.target) _ tt h in cases_listed known cs other a.2 k slot label e

-- the labels of an end that passes
pub ending_listed : (known : Env) (e : End) → s.ending known e ≡ Ok tt → LabelsPass known e
unfolding s.ending
ending_listed known (Goto to) h zero label e = same_label known to label e h
ending_listed known (Goto to) h (suc slot) label e = cc
ending_listed known (If left cmp right hit miss) h slot label e =
    let a = first_passed (s.compared known left cmp right) _ tt h in
    let b = first_passed (s.label known hit) _ tt a.2 in
    by slot e b.1 b.2
  where
    by : (slot : ℕ) → slice_get (hit ∷ miss ∷ []) slot ≡ Some label → s.label known hit ≡ Ok tt → s.label known miss ≡ Ok tt → s.label known label ≡ Ok tt
    by zero e x y = same_label known hit label e x
    by (suc zero) e x y = same_label known miss label e y
    by (suc (suc slot)) e x y = cc
ending_listed known (Switch on cases other) h slot label e =
    let a = first_passed (s.integer known on) _ tt h in
    let b = first_passed (s.case_values a.0 [] cases) _ tt a.2 in
    let c = first_passed (s.case_labels known cases) _ tt b.2 in
    cases_listed known cases other c.1 c.2 slot label e
ending_listed known (Return x) h slot label e = cc

cases_pass : (known : Env) (cases : List Case) (other : ℕ) → ((slot label : ℕ) → slice_get (map (λ (c : Case). c.target) cases ++ other ∷ []) slot ≡ Some label → s.label known label ≡ Ok tt) → (s.case_labels known cases ≡ Ok tt) × (s.label known other ≡ Ok tt)
unfolding s.case_labels
cases_pass known [] other h = (refl, h 0 other refl)
cases_pass known (c ∷ cs) other h =
    let more = cases_pass known cs other (λ slot label e. h (suc slot) label e) in
    (both_pass (s.label known c.target) _ tt tt (h 0 c.target refl) more.0, more.1)

-- with other labels, and other functions of the same names that may be addressed, an end passes where its labels do
module _ (known : Env) (ts : Targets) (ls : List ℕ) (h : SameTargets ts known.targets) where
  pub ending_seen : (e : End) → s.ending known e ≡ Ok tt → LabelsPass (record known { targets = ts; labels = ls }) e → s.ending (record known { targets = ts; labels = ls }) e ≡ Ok tt
  unfolding s.ending
  ending_seen (Goto to) p l = l 0 to refl
  ending_seen (If left cmp right hit miss) p l =
      let a = first_passed (s.compared known left cmp right) _ tt p in
      both_pass (s.compared (record known { targets = ts; labels = ls }) left cmp right) _ tt tt (compared_seen known ts ls h left cmp right ∙ a.1)
      (both_pass (s.label (record known { targets = ts; labels = ls }) hit) _ tt tt (l 0 hit refl) (l 1 miss refl))
  ending_seen (Switch on cases other) p l =
      let a = first_passed (s.integer known on) _ tt p in
      let b = first_passed (s.case_values a.0 [] cases) _ tt a.2 in
      let c = cases_pass (record known { targets = ts; labels = ls }) cases other l in
      both_pass (s.integer (record known { targets = ts; labels = ls }) on) _ a.0 tt (integer_seen known ts ls h on ∙ a.1)
      (both_pass (s.case_values a.0 [] cases) _ tt tt b.1 (both_pass (s.case_labels (record known { targets = ts; labels = ls }) cases) _ tt tt c.0 c.1))
  ending_seen (Return x) p l = returned_seen known ts ls h x known.result ∙ p
