-- What the code asks of values: they are of their scalars, and operators that pass their checks are allowed.
use Rattle.std.proofs.Common.{◌≡◌, ℕ, Bool, true, false, not, cond, ◌&&◌, List, refl, sym, ◌∙◌, ap, subst, Ok}
use Rattle.gimple_ir.specs.declared.scalar.Scalar.{Scalar}
use Rattle.gimple_ir.specs.declared.scalar.Scalar.TheVariants.{I64, Ptr}
use Rattle.gimple_ir.specs.declared.scalar.Op.{Op}
use Rattle.gimple_ir.specs.declared.scalar.Cmp.{Cmp}
use Rattle.gimple_ir.specs.declared.operand.Operand.{Operand}
use Rattle.gimple_ir.specs.declared.operand.Operand.TheVariants.{Reg, Number, Null as NullOperand, Address}
use Rattle.gimple_ir.specs.declared.statement.Stmt.{Stmt}
use Rattle.gimple_ir.specs.declared.statement.Stmt.TheVariants.{Copy, Arith, Compare, Convert, Load, Store, Call, Indirect, Get, Put, Abort}
use Rattle.gimple_core.specs.Verdict.{◌>>◌, demand}
use Rattle.gimple_core.specs.Env.{Env, scalar_of}
use Rattle.gimple_core.specs.Statements as check
use Rattle.gimple_core.proofs.Passed.{first_passed, demanded}
use Rattle.gimple_core.proofs.ScalarLemmas.{same_scalar_true, pointer_is}
use Rattle.fix_engine.specs.Lattice.{AreAlike}
use Rattle.value_domain.specs.declared.abs_val.AbsVal.{AbsVal}
use Rattle.value_domain.specs.Thresholds.{IsLawful}
use Rattle.value_domain.specs.Holding.{IsOf, IsAllowed}
use Rattle.value_domain.specs.Values.{FitsWith, FitsAbsVal, kind_of}
use Rattle.value_domain.proofs.WholeLemmas.{IsGood}
use Rattle.value_domain.proofs.TopLaws.{top_fits}
use Rattle.value_domain.proofs.AbsLaws.{op_fits, cmp_fits, convert_fits}
use Rattle.body_values.specs.declared.scene.Scene.{Scene}
use Rattle.body_values.specs.Bodies.{Body, register_scalar, count_scalar, operand_value, right_scalar, is_lawful, arith_value, sides_scalar, may_compare, compare_value, source_scalar, convert_value, result_value, target_of}
use Rattle.body_values.specs.Rising.{two, allowed_is}
use Rattle.body_values.specs.Scenes.{body_in, Fit, IsGoodIn}
use Rattle.body_values.specs.System.{kind_is}
use Rattle.body_values.proofs.Written.{good_value}
use Rattle.body_fold.specs.declared.folder.Folder.{Folder}
use Rattle.body_fold.specs.Fold.{never_traps, target_scalar}
use Rattle.body_fold.specs.Folders.{folding_in, IsFolder}
use Rattle.body_fold.proofs.Passing.{own_scalar}

not_so : (b : Bool) → not b ≡ true → b ≡ false
not_so true h = cc
not_so false h = refl

pub certainly : (a b : Bool) → a ≡ b → a ≡ true → b ≡ true
certainly true b e h = sym e
certainly false b e h = cc

-- ---- values

pub alike : (s : Scene) (scalar other : Scalar) (a b : AbsVal) → IsLawful s.limits.now.ends → IsGoodIn s scalar a → IsGoodIn s other b → AreAlike FitsAbsVal a b
alike s scalar other a b law x y =
    let back = sym (kind_is s.limits.now.size s.limits.now.ends law) in
    (kind_of s.limits.now.size s.limits.now.ends, subst (λ ts. FitsWith s.limits.now.size ts a) back x.fits, subst (λ ts. FitsWith s.limits.now.size ts b) back y.fits)

module _ (s : Scene) (row : List AbsVal) (law : IsLawful s.limits.now.ends) (fit : Fit s row) where
  abbrev B : Body
  B = body_in s

  abbrev Good : Scalar → AbsVal → Type 0
  Good scalar a = IsGood B.most B.ends scalar a

  choose : (b : Bool) (scalar : Scalar) (x y : AbsVal) → (b ≡ true → Good scalar x) → Good scalar y → Good scalar (cond b x y)
  choose true scalar x y h g = h refl
  choose false scalar x y h g = g

  operand_good : (scalar : Scalar) (x : Operand) → Good scalar (operand_value B row scalar x)
  operand_good scalar x = let g = good_value s row scalar x (operand_value B row scalar x) law fit refl in (g.fits, g.of)

  arith_good : (scalar : Scalar) (left : Operand) (op : Op) (right : Operand) → Good scalar (arith_value B row scalar (right_scalar B scalar op right) left op right)
  unfolding arith_value
  arith_good scalar left op right =
      let x = operand_good scalar left in
      let y = operand_good (right_scalar B scalar op right) right in
      choose (is_lawful op scalar (right_scalar B scalar op right)) scalar _ _ (λ l. op_fits B.most B.ends law B.mode op scalar (right_scalar B scalar op right) (allowed_is B scalar op right l) _ _ x.0 x.1 y.0 y.1) (top_fits B.most B.ends law scalar)

  compare_good : (target scalar : Scalar) (left : Operand) (cmp : Cmp) (right : Operand) → Good target (compare_value B row target scalar left cmp right)
  unfolding compare_value
  compare_good target scalar left cmp right =
      choose (not (check.is_pointer target) && may_compare cmp scalar) target _ _ (λ l. cmp_fits B.most B.ends law target cmp scalar (not_so _ (two _ _ l).0) _ _) (top_fits B.most B.ends law target)

  convert_good : (target source : Scalar) (from : Operand) → Good target (convert_value B row target source from)
  unfolding convert_value
  convert_good target source from =
      let x = operand_good source from in
      choose (not (check.is_pointer target) && not (check.is_pointer source)) target _ _ (λ l. let q = two _ _ l in convert_fits B.most B.ends law target source (not_so _ q.0) (not_so _ q.1) _ x.0 x.1) (top_fits B.most B.ends law target)

  -- what a comparison gives is of the scalar of the target
  pub compared_of : (target : Scalar) (left : Operand) (cmp : Cmp) (right : Operand) (v : AbsVal) → v ≡ compare_value B row target (sides_scalar B left right) left cmp right → IsOf target v
  compared_of target left cmp right v e = subst (IsOf target) (sym e) (compare_good target (sides_scalar B left right) left cmp right).1

  pub register_of : (scalar : Scalar) (name : List ℕ) (v : AbsVal) → v ≡ operand_value B row scalar (Reg name) → IsOf scalar v
  register_of scalar name v e = subst (IsOf scalar) (sym e) (operand_good scalar (Reg name)).1

-- ---- checks

module _ (s : Folder) (h : IsFolder s) where
  abbrev S : Body
  S = body_in s.scene

  abbrev env : Env
  env = (folding_in s).env

  own : (name : List ℕ) (scalar : Scalar) → scalar_of env name ≡ Ok scalar → register_scalar S.registers name ≡ scalar
  own name scalar e = ap (λ rs. register_scalar rs name) h.registers ∙ own_scalar s.scene.program.now.program s.function.now name scalar e

  count_plain : (scalar : Scalar) (x : Operand) → not (check.is_pointer scalar) ≡ true → check.count env scalar x ≡ Ok tt → not (check.is_pointer (count_scalar S scalar x)) ≡ true
  unfolding check.count
  count_plain scalar (Reg name) q e =
      let a = first_passed (scalar_of env name) _ tt e in
      ap (λ z. not (check.is_pointer z)) (own name a.0 a.1) ∙ demanded _ 4 a.2
  count_plain scalar (Number z) q e = q
  count_plain scalar NullOperand q e = q
  count_plain scalar (Address name offset) q e = q

  right_plain : (scalar : Scalar) (op : Op) (x : Operand) → not (check.is_pointer scalar) ≡ true → check.right_side env scalar op x ≡ Ok tt → not (check.is_pointer (cond (check.is_shift op) (count_scalar S scalar x) scalar)) ≡ true
  unfolding check.right_side
  right_plain scalar op x q e = by (check.is_shift op) e
    where
      by : (b : Bool) → cond b (check.count env scalar x) (check.operand env 4 scalar x) ≡ Ok tt → not (check.is_pointer (cond b (count_scalar S scalar x) scalar)) ≡ true
      by true g = count_plain scalar x q g
      by false g = q

  lawful_by : (b : Bool) (op : Op) (other : Scalar) → b ≡ false → not (check.is_pointer other) ≡ true → cond b (check.is_add op) (not (check.is_pointer (cond b I64 other))) ≡ true
  lawful_by true op other e g = cc
  lawful_by false op other e g = g

  arith_lawful : (scalar : Scalar) (left : Operand) (op : Op) (right : Operand) → check.arith env scalar left op right ≡ Ok tt → is_lawful op scalar (right_scalar S scalar op right) ≡ true
  unfolding check.arith
  arith_lawful scalar left op right e = by (check.is_pointer scalar) refl e
    where
      by : (b : Bool) → check.is_pointer scalar ≡ b → cond b (demand (check.is_add op) 4 >> (check.operand env 4 Ptr left >> check.operand env 4 I64 right)) (check.operand env 4 scalar left >> check.right_side env scalar op right) ≡ Ok tt → is_lawful op scalar (right_scalar S scalar op right) ≡ true
      by true q g =
          let a = first_passed (demand (check.is_add op) 4) _ tt g in
          subst (λ z. is_lawful op z (right_scalar S z op right) ≡ true) (sym (pointer_is scalar q)) (demanded _ 4 a.1)
      by false q g =
          let a = first_passed (check.operand env 4 scalar left) _ tt g in
          lawful_by (check.is_pointer scalar) op (cond (check.is_shift op) (count_scalar S scalar right) scalar) q (right_plain scalar op right (ap not q) a.2)

  target_own : (to : List ℕ) (scalar found : Scalar) → scalar ≡ register_scalar S.registers to → scalar_of env to ≡ Ok found → found ≡ scalar
  target_own to scalar found e g = sym (own to found g) ∙ sym e

  -- an operator that passes its checks is allowed
  arith_allowed : (scalar : Scalar) (to : List ℕ) (left : Operand) (op : Op) (right : Operand) → check.statement env (folding_in s).names (Arith to left op right) ≡ Ok tt → scalar ≡ register_scalar S.registers to → IsAllowed op scalar (right_scalar S scalar op right)
  unfolding check.statement
  arith_allowed scalar to left op right e g =
      let a = first_passed (scalar_of env to) _ tt e in
      let passed : check.arith env scalar left op right ≡ Ok tt = subst (λ z. check.arith env z left op right ≡ Ok tt) (target_own to scalar a.0 g a.1) a.2 in
      allowed_is S scalar op right (arith_lawful scalar left op right passed)

  pub allowed_at : (scalar : Scalar) (x : Stmt) (to : List ℕ) (left : Operand) (op : Op) (right : Operand) → x ≡ Arith to left op right → check.statement env (folding_in s).names x ≡ Ok tt → scalar ≡ target_scalar S (target_of x) → IsAllowed op scalar (right_scalar S scalar op right)
  allowed_at scalar x to left op right is e g = arith_allowed scalar to left op right (subst (λ y. check.statement env (folding_in s).names y ≡ Ok tt) is e) (g ∙ ap (λ y. target_scalar S (target_of y)) is)

  convert_own : (scalar target : Scalar) (to : List ℕ) (from : Operand) → check.statement env (folding_in s).names (Convert to target from) ≡ Ok tt → scalar ≡ register_scalar S.registers to → target ≡ scalar
  unfolding check.statement check.converted
  convert_own scalar target to from e g =
      let a = first_passed (scalar_of env to) _ tt e in
      let b = first_passed (check.integer env from) _ tt a.2 in
      let c = first_passed (demand (not (check.is_pointer target)) 4) _ tt b.2 in
      same_scalar_true target a.0 (demanded _ 4 c.2) ∙ target_own to scalar a.0 g a.1

  module _ (row : List AbsVal) (law : IsLawful s.scene.limits.now.ends) (fit : Fit s.scene row) where
    -- the result of a statement that passes its checks and cannot trap is of the scalar of its target
    result_is : (k i : ℕ) (scalar : Scalar) (x : Stmt) → check.statement env (folding_in s).names x ≡ Ok tt → scalar ≡ target_scalar S (target_of x) → never_traps S row scalar x ≡ true → IsOf scalar (result_value S k i row scalar x)
    unfolding never_traps result_value
    result_is k i scalar (Copy to from) e g c = (operand_good s.scene row law fit scalar from).1
    result_is k i scalar (Arith to left op right) e g c = (arith_good s.scene row law fit scalar left op right).1
    result_is k i scalar (Compare to left cmp right) e g c = (compare_good s.scene row law fit scalar (sides_scalar S left right) left cmp right).1
    result_is k i scalar (Convert to target from) e g c =
        subst (λ z. IsOf z (convert_value S row target (source_scalar S from) from)) (convert_own scalar target to from e g) (convert_good s.scene row law fit target (source_scalar S from) from).1
    result_is k i scalar (Load to from place) e g c = cc
    result_is k i scalar (Store at place from) e g c = cc
    result_is k i scalar (Call to callee xs) e g c = cc
    result_is k i scalar (Indirect to signature callee xs) e g c = cc
    result_is k i scalar (Get to) e g c = cc
    result_is k i scalar (Put from) e g c = cc
    result_is k i scalar Abort e g c = cc

    pub result_of : (k i : ℕ) (scalar : Scalar) (x : Stmt) (v : AbsVal) → check.statement env (folding_in s).names x ≡ Ok tt → scalar ≡ target_scalar S (target_of x) → never_traps S row scalar x ≡ true → v ≡ result_value S k i row scalar x → IsOf scalar v
    result_of k i scalar x v e g c w = subst (IsOf scalar) (sym w) (result_is k i scalar x e g c)
