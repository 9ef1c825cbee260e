-- What is known of operands and results is so.
use Rattle.std.proofs.Common.{◌≡◌, ℕ, ℤ, Bool, true, false, not, cond, ◌&&◌, if◌then◌else◌, List, ◌++◌, length, refl, sym, ◌∙◌, ap, subst, Option, Some, None, Result, Ok, Err}
use Rattle.gimple_ir.specs.declared.scalar.Scalar.{Scalar}
use Rattle.gimple_ir.specs.declared.scalar.Scalar.TheVariants.{I32, I64, Ptr}
use Rattle.gimple_ir.specs.declared.scalar.Op.{Op}
use Rattle.gimple_ir.specs.declared.scalar.Cmp.{Cmp}
use Rattle.gimple_ir.specs.declared.value.Object.TheVariants.{Global as GlobalObject}
use Rattle.gimple_ir.specs.declared.value.Value.{Value}
use Rattle.gimple_ir.specs.declared.value.Value.TheVariants.{At}
use Rattle.gimple_ir.specs.declared.value.TrapKind.{TrapKind}
use Rattle.gimple_ir.specs.declared.value.Constant.{Constant}
use Rattle.gimple_ir.specs.declared.value.Constant.TheVariants.{Int, Null, Global}
use Rattle.gimple_ir.specs.declared.operand.Operand.{Operand}
use Rattle.gimple_ir.specs.declared.operand.Operand.TheVariants.{Reg, Number, Null as NullOperand, Address}
use Rattle.gimple_ir.specs.declared.operand.Base.{Base}
use Rattle.gimple_ir.specs.declared.operand.Base.TheVariants.{Reg as RegBase, Variable}
use Rattle.gimple_ir.specs.declared.operand.Place.{Place}
use Rattle.gimple_ir.specs.declared.declarations.Register.{Register}
use Rattle.gimple_ir.specs.declared.statement.Stmt.TheVariants.{Copy, Arith, Compare, Convert}
use Rattle.gimple_ir.specs.declared.program.Function.{Function}
use Rattle.gimple_ir.specs.declared.program.Program.{Program}
use Rattle.gimple_core.specs.Sealed.{Sealed}
use Rattle.gimple_core.specs.Memory.{moved_by}
use Rattle.gimple_core.specs.State.{Scope, registers_of, value_in, offset_in, is_of}
use Rattle.gimple_core.specs.Run.{value_of, place_value, address_of_global, global_address, arith_of, compares, one_if, any_number, converted}
use Rattle.gimple_core.specs.Verdict.{◌>>◌, demand}
use Rattle.gimple_core.specs.Env.{scalar_of}
use Rattle.gimple_core.specs.Statements as s
use Rattle.gimple_core.proofs.Passed.{err_no, first_passed, demanded}
use Rattle.gimple_core.proofs.RangeLemmas.{wrapped_in}
use Rattle.gimple_core.proofs.ScalarLemmas.{pointer_is}
use Rattle.gimple_claims.specs.Checks.{env_of}
use Rattle.gimple_claims.specs.Typed.{registers_typed}
use Rattle.gimple_claims.proofs.TypedValues.{ValueIs, arith_is, bit_in, int_is, operand_is}
use Rattle.value_domain.specs.declared.abs_val.AbsVal.{AbsVal}
use Rattle.value_domain.specs.AbsOperators.{known_of, may_trap_of}
use Rattle.value_domain.specs.Thresholds.{IsLawful}
use Rattle.value_domain.specs.Holding.{Holds, constant_of}
use Rattle.value_domain.proofs.WholeLemmas.{IsGood}
use Rattle.value_domain.proofs.KnownLaws.{known_holds}
use Rattle.value_domain.proofs.TrapLaws.{no_trap}
use Rattle.value_domain.proofs.TopLaws.{top_holds, top_fits}
use Rattle.value_domain.proofs.AbsLaws.{op_fits, cmp_fits, cmp_holds, convert_fits, convert_holds_all}
use Rattle.body_values.specs.declared.facts.Facts.{Facts}
use Rattle.body_values.specs.Bodies.{Body, register_scalar, count_scalar, is_local, global_place, operand_value, right_scalar, is_lawful, arith_value, sides_scalar, may_compare, compare_value, source_scalar, convert_value, result_value}
use Rattle.body_values.specs.Flow.{body_of}
use Rattle.body_values.specs.Rows.{RowFits}
use Rattle.body_values.specs.Rising.{LoadsFit, two, allowed_is}
use Rattle.body_values.proofs.Held.{RowHolds}
use Rattle.body_values.proofs.Operands.{from_begin, local_free}
use Rattle.body_values.proofs.Stmts.{register, operand, good, arith_holds, sides_hold}
use Rattle.body_fold.specs.Fold.{value_of_constant, constant_operand, global_constant, known_register, known_operand, result_constant, one_known, both_known, compared_constant, evaluated, never_traps, known_result, known_comparison, constant_for, place_from, place_on}
use Rattle.body_fold.specs.Folders.{NamesMean}
use Rattle.body_fold.proofs.ConstantValues.{constant_is, OffsetFits, offset_fits, constant_value, from_value, first_by}

not_true : (b : Bool) → not b ≡ true → b ≡ false
not_true true h = cc
not_true false h = refl

choose : (b : Bool) (P : AbsVal → Type 0) (x y : AbsVal) → (b ≡ true → P x) → P y → P (cond b x y)
choose true P x y h g = h refl
choose false P x y h g = g

where_so : (b : Bool) (o : Option Constant) (c : Constant) → (if b then o else None) ≡ Some c → (b ≡ true) × (o ≡ Some c)
where_so true o c e = (refl, e)
where_so false o c e = cc

one_is : (o : Option Constant) (g : Value → Option Constant) (c : Constant) → one_known o g ≡ Some c → (a : Constant) × (o ≡ Some a) × (g (value_of_constant a) ≡ Some c)
one_is None g c e = cc
one_is (Some a) g c e = (a, refl, e)

both_is : (o q : Option Constant) (g : Value → Value → Option Constant) (c : Constant) → both_known o q g ≡ Some c → (a : Constant) × (b : Constant) × (o ≡ Some a) × (q ≡ Some b) × (g (value_of_constant a) (value_of_constant b) ≡ Some c)
both_is None q g c e = cc
both_is (Some a) q g c e = let m = one_is q (g (value_of_constant a)) c e in (a, m.0, refl, m.1, m.2)

abbrev right : Value → Result Value TrapKind
right v = Ok v

result_is : (r : Result Value TrapKind) (c : Constant) → result_constant r ≡ Some c → r ≡ right (value_of_constant c)
result_is (Ok v) c e = ap (λ u. right u) (constant_is v c e)
result_is (Err kind) c e = cc

value_is_of : (scalar : Scalar) (r : Result Value TrapKind) (v : Value) → ValueIs scalar r → r ≡ right v → is_of scalar v ≡ true
value_is_of scalar r v h e = subst (ValueIs scalar) e h

-- the operand is a register that the function has, or no register
abbrev pub IsNamed : Program → Function → Operand → Type 0
IsNamed p f (Reg name) = (scalar : Scalar) × (scalar_of (env_of p f) name ≡ Ok scalar)
IsNamed p f (Number z) = Unit {0}
IsNamed p f NullOperand = Unit {0}
IsNamed p f (Address name offset) = Unit {0}

pub operand_named : (p : Program) (f : Function) (wrong : ℕ) (scalar : Scalar) (x : Operand) → s.operand (env_of p f) wrong scalar x ≡ Ok tt → IsNamed p f x
unfolding s.operand
operand_named p f wrong scalar (Reg name) e = let a = first_passed (scalar_of (env_of p f) name) _ tt e in (a.0, a.1)
operand_named p f wrong scalar (Number z) e = tt
operand_named p f wrong scalar NullOperand e = tt
operand_named p f wrong scalar (Address name offset) e = tt

pub count_named : (p : Program) (f : Function) (scalar : Scalar) (x : Operand) → s.count (env_of p f) scalar x ≡ Ok tt → IsNamed p f x
unfolding s.count
count_named p f scalar (Reg name) e = let a = first_passed (scalar_of (env_of p f) name) _ tt e in (a.0, a.1)
count_named p f scalar (Number z) e = tt
count_named p f scalar NullOperand e = tt
count_named p f scalar (Address name offset) e = tt

pub printed_named : (p : Program) (f : Function) (x : Operand) → s.printed (env_of p f) x ≡ Ok tt → IsNamed p f x
unfolding s.printed
printed_named p f (Reg name) e = let a = first_passed (scalar_of (env_of p f) name) _ tt e in (a.0, a.1)
printed_named p f (Number z) e = tt
printed_named p f NullOperand e = tt
printed_named p f (Address name offset) e = tt

pub integer_named : (p : Program) (f : Function) (x : Operand) (scalar : Scalar) → s.integer (env_of p f) x ≡ Ok scalar → IsNamed p f x
unfolding s.integer
integer_named p f (Reg name) scalar e = let a = first_passed (scalar_of (env_of p f) name) _ scalar e in (a.0, a.1)
integer_named p f (Number z) scalar e = tt
integer_named p f NullOperand scalar e = tt
integer_named p f (Address name offset) scalar e = tt

pub right_named : (p : Program) (f : Function) (scalar : Scalar) (op : Op) (x : Operand) → s.right_side (env_of p f) scalar op x ≡ Ok tt → IsNamed p f x
unfolding s.right_side
right_named p f scalar op x e = by (s.is_shift op) e
  where
    by : (b : Bool) → (if b then s.count (env_of p f) scalar x else s.operand (env_of p f) 4 scalar x) ≡ Ok tt → IsNamed p f x
    by true g = count_named p f scalar x g
    by false g = operand_named p f 4 scalar x g

pub sides_named : (p : Program) (f : Function) (left : Operand) (cmp : Cmp) (other : Operand) → s.compared (env_of p f) left cmp other ≡ Ok tt → IsNamed p f left × IsNamed p f other
unfolding s.compared
sides_named p f left cmp other e =
    let a = first_passed (s.common_scalar (env_of p f) left other) _ tt e in
    let b = first_passed (s.operand (env_of p f) 4 a.0 left) _ tt a.2 in
    let c = first_passed (s.operand (env_of p f) 4 a.0 other) _ tt b.2 in
    (operand_named p f 4 a.0 left b.1, operand_named p f 4 a.0 other c.1)

module _ (p : Sealed) (n : ℕ) (f : Function) (facts : Facts) (most : ℕ) (ts : List ℤ) (law : IsLawful ts) (serial : ℕ) (values : List Value) (row : List AbsVal)
    (t : registers_typed (registers_of f) values ≡ true) (fits : RowFits most ts (length (f.params ++ f.registers)) row) (h : RowHolds row values)
    (loads : LoadsFit (body_of p n f facts most ts)) (mean : NamesMean p.program.globals f.locals) where
  abbrev pub B : Body
  B = body_of p n f facts most ts

  abbrev pub scope : Scope
  scope = record { declared = registers_of f; locals = f.locals; serial = serial }

  abbrev rs : List Register
  rs = f.params ++ f.registers

  abbrev pub value : Operand → Value
  value x = value_of p.program.globals scope values x

  -- ---- operands

  -- a register that is known holds the constant
  pub record Known (v : Value) (c : Constant) : Type 0 where
    pub same : v ≡ value_of_constant c
    pub offset : OffsetFits c

  pub register_known : (name : List ℕ) (scalar : Scalar) → scalar_of (env_of p.program f) name ≡ Ok scalar → (c : Constant) → known_register B row name ≡ Some c → Known (value_in scope values name) c
  unfolding known_register
  register_known name scalar e c g =
      let r = register p n f facts most ts law serial values row t fits h loads name scalar e in
      let x = good p n f facts most ts law serial values row t fits h loads (register_scalar rs name) (Reg name) in
      let typed : is_of (register_scalar rs name) (value_in scope values name) ≡ true = subst (λ z. is_of z (value_in scope values name) ≡ true) (sym r.scalar_same) r.typed in
      let holds : Holds (value_in scope values name) (operand_value B row (register_scalar rs name) (Reg name)) = subst (λ z. Holds (value_in scope values name) (operand_value B row z (Reg name))) (sym r.scalar_same) r.holds in
      let same : value_in scope values name ≡ value_of_constant c = constant_is _ c (known_holds most ts (register_scalar rs name) _ x.0 x.1 (value_in scope values name) c typed holds g) in
      record { same = same; offset = offset_fits scalar (value_in scope values name) c r.typed same }

  global_known : (name : List ℕ) (offset : ℤ) (c : Constant) (o : Option ℕ) → global_constant o offset ≡ Some c → moved_by (global_address name o) (offset_in offset) ≡ value_of_constant c
  unfolding moved_by
  global_known name offset c None e = cc
  global_known name offset c (Some j) e = let same : Global j (offset_in offset) ≡ c = cc in ap (λ z. At (GlobalObject j) z) (from_begin offset) ∙ ap value_of_constant same

  address_known : (name : List ℕ) (offset : ℤ) (c : Constant) → (b : Bool) → is_local f.locals name ≡ b → (if b then None else global_constant (global_place p.program.globals name) offset) ≡ Some c → value (Address name offset) ≡ value_of_constant c
  unfolding address_of_global
  address_known name offset c true e g = cc
  address_known name offset c false e g = ap (λ v. moved_by v (offset_in offset)) (local_free p.program.globals scope name e) ∙ global_known name offset c (global_place p.program.globals name) g

  pub operand_known : (x : Operand) → IsNamed p.program f x → (c : Constant) → known_operand B row x ≡ Some c → value x ≡ value_of_constant c
  unfolding known_operand
  operand_known (Reg name) e c g = (register_known name e.0 e.1 c g).same
  operand_known (Number z) e c g = let same : Int z ≡ c = cc in ap value_of_constant same
  operand_known NullOperand e c g = let same : Null ≡ c = cc in ap value_of_constant same
  operand_known (Address name offset) e c g = address_known name offset c (is_local f.locals name) refl g

  -- the operand that may be put has the value of the one that stands there
  pub for_same : (x : Operand) → IsNamed p.program f x → (y : Operand) → constant_for B row x ≡ Some y → value y ≡ value x
  unfolding constant_for constant_operand
  for_same (Reg name) e y g = by (known_register B row name) refl g
    where
      by : (o : Option Constant) → known_register B row name ≡ o → constant_operand p.program.globals o ≡ Some y → value y ≡ value_in scope values name
      by None q w = cc
      by (Some c) q w = let r = register_known name e.0 e.1 c q in constant_value p.program.globals scope values mean c y r.offset w ∙ sym r.same
  for_same (Number z) e y g = cc
  for_same NullOperand e y g = cc
  for_same (Address name offset) e y g = cc

  -- ---- results

  compare_good : (target scalar : Scalar) (left : Operand) (cmp : Cmp) (other : Operand) → IsGood most ts target (compare_value B row target scalar left cmp other)
  unfolding compare_value
  compare_good target scalar left cmp other =
      choose (not (s.is_pointer target) && may_compare cmp scalar) (IsGood most ts target) _ _ (λ l. cmp_fits most ts law target cmp scalar (not_true _ (two _ _ l).0) _ _) (top_fits most ts law target)

  convert_good : (target source : Scalar) (from : Operand) → IsGood most ts target (convert_value B row target source from)
  unfolding convert_value
  convert_good target source from =
      let x = good p n f facts most ts law serial values row t fits h loads source from in
      choose (not (s.is_pointer target) && not (s.is_pointer source)) (IsGood most ts target) _ _ (λ l. let q = two _ _ l in convert_fits most ts law target source (not_true _ q.0) (not_true _ q.1) _ x.0 x.1) (top_fits most ts law target)

  arith_good : (scalar : Scalar) (left : Operand) (op : Op) (other : Operand) → IsGood most ts scalar (arith_value B row scalar (right_scalar B scalar op other) left op other)
  unfolding arith_value
  arith_good scalar left op other =
      let x = good p n f facts most ts law serial values row t fits h loads scalar left in
      let y = good p n f facts most ts law serial values row t fits h loads (right_scalar B scalar op other) other in
      choose (is_lawful op scalar (right_scalar B scalar op other)) (IsGood most ts scalar) _ _ (λ l. op_fits most ts law p.mode op scalar (right_scalar B scalar op other) (allowed_is B scalar op other l) _ _ x.0 x.1 y.0 y.1) (top_fits most ts law scalar)

  -- a value whose abstract value is known
  by_value : (scalar : Scalar) (a : AbsVal) → IsGood most ts scalar a → (v : Value) (c : Constant) → is_of scalar v ≡ true → Holds v a → known_of scalar a ≡ Some c → v ≡ value_of_constant c
  by_value scalar a g v c w holds e = constant_is v c (known_holds most ts scalar a g.0 g.1 v c w holds e)

  -- ---- comparisons

  compared_known : (left : Operand) (cmp : Cmp) (other : Operand) → s.compared (env_of p.program f) left cmp other ≡ Ok tt → (c : Constant) → compared_constant B row left cmp other ≡ Some c → one_if (compares (value left) cmp (value other)) ≡ value_of_constant c
  unfolding compared_constant
  compared_known left cmp other e c g =
      let named = sides_named p.program f left cmp other e in
      let b = both_is (known_operand B row left) (known_operand B row other) _ c g in
      let l : value left ≡ value_of_constant b.0 = operand_known left named.0 b.0 b.2 in
      let r : value other ≡ value_of_constant b.1 = operand_known other named.1 b.1 b.3 in
      (λ i. one_if (compares (l i) cmp (r i))) ∙ constant_is _ c b.4

  compare_holds : (target : Scalar) (left : Operand) (cmp : Cmp) (other : Operand) → s.compared (env_of p.program f) left cmp other ≡ Ok tt → is_of target (one_if (compares (value left) cmp (value other))) ≡ true →
      Holds (one_if (compares (value left) cmp (value other))) (compare_value B row target (sides_scalar B left other) left cmp other)
  unfolding compare_value
  compare_holds target left cmp other e w =
      let a = sides_hold p n f facts most ts law serial values row t fits h loads left cmp other e in
      let scalar : Scalar = sides_scalar B left other in
      let x = good p n f facts most ts law serial values row t fits h loads scalar left in
      let y = good p n f facts most ts law serial values row t fits h loads scalar other in
      choose (not (s.is_pointer target) && may_compare cmp scalar) (Holds (one_if (compares (value left) cmp (value other)))) _ _
      (λ l. cmp_holds most ts law target cmp scalar (not_true _ (two _ _ l).0) _ _ x.0 x.1 y.0 y.1 (value left) (value other) a.left_holds.typed a.right_side.typed a.left_holds.holds a.right_side.holds)
      (top_holds target _ w)

  compare_known : (target : Scalar) (left : Operand) (cmp : Cmp) (other : Operand) → s.compared (env_of p.program f) left cmp other ≡ Ok tt → not (s.is_pointer target) ≡ true → IsGood most ts target (compare_value B row target (sides_scalar B left other) left cmp other) →
      (c : Constant) → known_of target (compare_value B row target (sides_scalar B left other) left cmp other) ≡ Some c → one_if (compares (value left) cmp (value other)) ≡ value_of_constant c
  compare_known target left cmp other e q g c o =
      let w : is_of target (one_if (compares (value left) cmp (value other))) ≡ true = bit_in target (compares (value left) cmp (value other)) q in
      by_value target _ g _ c w (compare_holds target left cmp other e w) o

  -- what a comparison is known to give, it gives
  pub comparison_known : (left : Operand) (cmp : Cmp) (other : Operand) → s.compared (env_of p.program f) left cmp other ≡ Ok tt → (c : Constant) → known_comparison B row left cmp other ≡ Some c → one_if (compares (value left) cmp (value other)) ≡ value_of_constant c
  unfolding known_comparison
  comparison_known left cmp other e c g =
      first_by (compared_constant B row left cmp other) _ c _ (compared_known left cmp other e c)
      (compare_known I32 left cmp other e refl (compare_good I32 (sides_scalar B left other) left cmp other) c) g

  -- ---- conversions

  convert_holds : (target scalar : Scalar) (from : Operand) → s.integer (env_of p.program f) from ≡ Ok scalar → is_of target (converted target (value from)) ≡ true → Holds (converted target (value from)) (convert_value B row target (source_scalar B from) from)
  unfolding convert_value s.integer
  convert_holds target scalar (Reg name) e w =
      let own = first_passed (scalar_of (env_of p.program f) name) _ scalar e in
      let r = register p n f facts most ts law serial values row t fits h loads name own.0 own.1 in
      let source : Scalar = register_scalar rs name in
      let typed : is_of source (value_in scope values name) ≡ true = subst (λ z. is_of z (value_in scope values name) ≡ true) (sym r.scalar_same) r.typed in
      let holds : Holds (value_in scope values name) (operand_value B row source (Reg name)) = subst (λ z. Holds (value_in scope values name) (operand_value B row z (Reg name))) (sym r.scalar_same) r.holds in
      let x = good p n f facts most ts law serial values row t fits h loads source (Reg name) in
      choose (not (s.is_pointer target) && not (s.is_pointer source)) (Holds (converted target (value (Reg name)))) _ _
      (λ l. let q = two _ _ l in convert_holds_all most ts law target source (not_true _ q.0) (not_true _ q.1) _ x.0 x.1 (value (Reg name)) typed holds)
      (top_holds target (converted target (value (Reg name))) w)
  convert_holds target scalar (Number z) e w = absurd (err_no e)
  convert_holds target scalar NullOperand e w = absurd (err_no e)
  convert_holds target scalar (Address name offset) e w = absurd (err_no e)

  -- ---- arithmetic

  -- the value of an operand, and its abstract value
  pub record Sided (scalar : Scalar) (x : Operand) : Type 0 where
    pub typed : is_of scalar (value x) ≡ true
    pub holds : Holds (value x) (operand_value B row scalar x)

  operand_sided : (scalar : Scalar) (x : Operand) → s.operand (env_of p.program f) 4 scalar x ≡ Ok tt → Sided scalar x
  operand_sided scalar x e =
      let a = operand p n f facts most ts law serial values row t fits h loads scalar x e in
      record { typed = a.typed; holds = a.holds }

  operand_typed : (scalar : Scalar) (x : Operand) → s.operand (env_of p.program f) 4 scalar x ≡ Ok tt → is_of scalar (value x) ≡ true
  operand_typed scalar x e = operand_is p.program f p.program.globals scope values refl t 4 scalar x e

  -- the right side of an operator, whose scalar is no pointer
  pub record RightSide (scalar : Scalar) (x : Operand) : Type 0 where
    pub sided : Sided scalar x
    pub plain : not (s.is_pointer scalar) ≡ true

  count_side : (scalar : Scalar) (x : Operand) → not (s.is_pointer scalar) ≡ true → s.count (env_of p.program f) scalar x ≡ Ok tt → RightSide (count_scalar B scalar x) x
  unfolding s.count
  count_side scalar (Reg name) q e =
      let own = first_passed (scalar_of (env_of p.program f) name) _ tt e in
      let r = register p n f facts most ts law serial values row t fits h loads name own.0 own.1 in
      subst (λ z. RightSide z (Reg name)) (sym r.scalar_same) (record { sided = record { typed = r.typed; holds = r.holds }; plain = demanded _ 4 own.2 })
  count_side scalar (Number z) q e = record { sided = operand_sided scalar (Number z) e; plain = q }
  count_side scalar NullOperand q e = record { sided = operand_sided scalar NullOperand e; plain = q }
  count_side scalar (Address name offset) q e = record { sided = operand_sided scalar (Address name offset) e; plain = q }

  other_side : (scalar : Scalar) (op : Op) (x : Operand) → not (s.is_pointer scalar) ≡ true → s.right_side (env_of p.program f) scalar op x ≡ Ok tt → RightSide (cond (s.is_shift op) (count_scalar B scalar x) scalar) x
  unfolding s.right_side
  other_side scalar op x q e = by (s.is_shift op) e
    where
      by : (b : Bool) → (cond b (s.count (env_of p.program f) scalar x) (s.operand (env_of p.program f) 4 scalar x)) ≡ Ok tt → RightSide (cond b (count_scalar B scalar x) scalar) x
      by true g = count_side scalar x q g
      by false g = record { sided = operand_sided scalar x g; plain = q }

  -- both sides of an operator that passes its check
  pub record ArithSides (scalar : Scalar) (left : Operand) (op : Op) (other : Operand) : Type 0 where
    pub left_side : Sided scalar left
    pub right_side : Sided (right_scalar B scalar op other) other
    pub lawful : is_lawful op scalar (right_scalar B scalar op other) ≡ true
    pub left_named : IsNamed p.program f left
    pub right_named : IsNamed p.program f other
    pub left_typed : is_of scalar (value left) ≡ true

  pointer_sides : (left : Operand) (op : Op) (other : Operand) → s.is_add op ≡ true → s.operand (env_of p.program f) 4 Ptr left ≡ Ok tt → s.operand (env_of p.program f) 4 I64 other ≡ Ok tt → ArithSides Ptr left op other
  pointer_sides left op other a l r = record {
    left_side = operand_sided Ptr left l;
    right_side = operand_sided I64 other r;
    lawful = a;
    left_named = operand_named p.program f 4 Ptr left l;
    right_named = operand_named p.program f 4 I64 other r;
    left_typed = operand_typed Ptr left l;
  }

  lawful_by : (b : Bool) (op : Op) (scalar : Scalar) → b ≡ false → not (s.is_pointer (cond b I64 scalar)) ≡ true → cond b (s.is_add op) (not (s.is_pointer (cond b I64 scalar))) ≡ true
  lawful_by true op scalar e g = cc
  lawful_by false op scalar e g = g

  integer_sides : (scalar : Scalar) (left : Operand) (op : Op) (other : Operand) → s.is_pointer scalar ≡ false → s.operand (env_of p.program f) 4 scalar left ≡ Ok tt → s.right_side (env_of p.program f) scalar op other ≡ Ok tt → ArithSides scalar left op other
  integer_sides scalar left op other q l r =
      let side : RightSide (cond (s.is_shift op) (count_scalar B scalar other) scalar) other = other_side scalar op other (ap not q) r in
      record {
        left_side = operand_sided scalar left l;
        right_side = subst (λ b. Sided (cond b I64 (cond (s.is_shift op) (count_scalar B scalar other) scalar)) other) (sym q) side.sided;
        lawful = lawful_by (s.is_pointer scalar) op (cond (s.is_shift op) (count_scalar B scalar other) scalar) q (subst (λ b. not (s.is_pointer (cond b I64 (cond (s.is_shift op) (count_scalar B scalar other) scalar))) ≡ true) (sym q) side.plain);
        left_named = operand_named p.program f 4 scalar left l;
        right_named = right_named p.program f scalar op other r;
        left_typed = operand_typed scalar left l;
      }

  pub arith_sides : (scalar : Scalar) (left : Operand) (op : Op) (other : Operand) → s.arith (env_of p.program f) scalar left op other ≡ Ok tt → ArithSides scalar left op other
  unfolding s.arith
  arith_sides scalar left op other e = by (s.is_pointer scalar) refl e
    where
      by : (b : Bool) → s.is_pointer scalar ≡ b → (if b then (demand (s.is_add op) 4 >> (s.operand (env_of p.program f) 4 Ptr left >> s.operand (env_of p.program f) 4 I64 other)) else (s.operand (env_of p.program f) 4 scalar left >> s.right_side (env_of p.program f) scalar op other)) ≡ Ok tt → ArithSides scalar left op other
      by true q g =
          let a = first_passed (demand (s.is_add op) 4) _ tt g in
          let b = first_passed (s.operand (env_of p.program f) 4 Ptr left) _ tt a.2 in
          subst (λ z. ArithSides z left op other) (sym (pointer_is scalar q)) (pointer_sides left op other (demanded _ 4 a.1) b.1 b.2)
      by false q g = let a = first_passed (s.operand (env_of p.program f) 4 scalar left) _ tt g in integer_sides scalar left op other q a.1 a.2

  -- a result that is this constant
  pub record Computes (r : Result Value TrapKind) (c : Constant) : Type 0 where
    pub same : r ≡ right (value_of_constant c)
    pub offset : OffsetFits c

  computed : (scalar : Scalar) (r : Result Value TrapKind) (c : Constant) → ValueIs scalar r → r ≡ right (value_of_constant c) → Computes r c
  computed scalar r c w e = record { same = e; offset = offset_fits scalar (value_of_constant c) c (value_is_of scalar r (value_of_constant c) w e) refl }

  arith_typed : (scalar : Scalar) (left : Operand) (op : Op) (other : Operand) → ArithSides scalar left op other → ValueIs scalar (arith_of p.mode scalar (value left) op (value other))
  arith_typed scalar left op other a = arith_is p.mode scalar (value left) op (value other) (λ e. subst (λ z. is_of z (value left) ≡ true) e a.left_typed)

  arith_evaluated : (scalar : Scalar) (left : Operand) (op : Op) (other : Operand) → ArithSides scalar left op other → (c : Constant) →
      both_known (known_operand B row left) (known_operand B row other) (λ v w. result_constant (arith_of p.mode scalar v op w)) ≡ Some c → arith_of p.mode scalar (value left) op (value other) ≡ right (value_of_constant c)
  arith_evaluated scalar left op other a c g =
      let b = both_is (known_operand B row left) (known_operand B row other) _ c g in
      let l : value left ≡ value_of_constant b.0 = operand_known left a.left_named b.0 b.2 in
      let r : value other ≡ value_of_constant b.1 = operand_known other a.right_named b.1 b.3 in
      (λ i. arith_of p.mode scalar (l i) op (r i)) ∙ result_is _ c b.4

  arith_inferred : (scalar : Scalar) (left : Operand) (op : Op) (other : Operand) → s.arith (env_of p.program f) scalar left op other ≡ Ok tt → ArithSides scalar left op other → (c : Constant) →
      (if not (may_trap_of p.mode op scalar (operand_value B row scalar left) (operand_value B row (right_scalar B scalar op other) other)) then known_of scalar (arith_value B row scalar (right_scalar B scalar op other) left op other) else None) ≡ Some c → arith_of p.mode scalar (value left) op (value other) ≡ right (value_of_constant c)
  arith_inferred scalar left op other e a c g =
      let w = where_so _ _ c g in
      let x = good p n f facts most ts law serial values row t fits h loads scalar left in
      let y = good p n f facts most ts law serial values row t fits h loads (right_scalar B scalar op other) other in
      let d = no_trap most ts p.mode op scalar (right_scalar B scalar op other) (allowed_is B scalar op other a.lawful) _ _ x.0 x.1 y.0 y.1 (value left) (value other) a.left_side.typed a.right_side.typed a.left_side.holds a.right_side.holds (not_true _ w.0) in
      let typed : is_of scalar d.0 ≡ true = value_is_of scalar _ d.0 (arith_typed scalar left op other a) d.1 in
      let holds = arith_holds p n f facts most ts law serial values row t fits h loads scalar left op other d.0 e typed d.1 in
      d.1 ∙ ap (λ v. right v) (by_value scalar _ (arith_good scalar left op other) d.0 c typed holds w.1)

  -- what an operator is known to give, it gives
  pub arith_known : (j i : ℕ) (scalar : Scalar) (to : List ℕ) (left : Operand) (op : Op) (other : Operand) → s.arith (env_of p.program f) scalar left op other ≡ Ok tt → (c : Constant) → known_result B j i row scalar (Arith to left op other) ≡ Some c → Computes (arith_of p.mode scalar (value left) op (value other)) c
  unfolding known_result evaluated never_traps result_value
  arith_known j i scalar to left op other e c g =
      let a = arith_sides scalar left op other e in
      computed scalar _ c (arith_typed scalar left op other a)
      (first_by _ _ c _ (arith_evaluated scalar left op other a c) (arith_inferred scalar left op other e a c) g)

  -- ---- other results

  pub copy_known : (j i : ℕ) (scalar : Scalar) (to : List ℕ) (from : Operand) → s.operand (env_of p.program f) 4 scalar from ≡ Ok tt → (c : Constant) → known_result B j i row scalar (Copy to from) ≡ Some c → Known (value from) c
  unfolding known_result evaluated never_traps result_value
  copy_known j i scalar to from e c g =
      let typed : is_of scalar (value from) ≡ true = operand_typed scalar from e in
      let same : value from ≡ value_of_constant c = first_by (known_operand B row from) _ c _ (operand_known from (operand_named p.program f 4 scalar from e) c)
      (by_value scalar _ (good p n f facts most ts law serial values row t fits h loads scalar from) (value from) c typed (operand_sided scalar from e).holds) g in
      record { same = same; offset = offset_fits scalar (value from) c typed same }

  pub compare_result_known : (j i : ℕ) (scalar : Scalar) (to : List ℕ) (left : Operand) (cmp : Cmp) (other : Operand) → not (s.is_pointer scalar) ≡ true → s.compared (env_of p.program f) left cmp other ≡ Ok tt → (c : Constant) → known_result B j i row scalar (Compare to left cmp other) ≡ Some c →
      Known (one_if (compares (value left) cmp (value other))) c
  unfolding known_result evaluated never_traps result_value
  compare_result_known j i scalar to left cmp other q e c g =
      let same : one_if (compares (value left) cmp (value other)) ≡ value_of_constant c =
      first_by (compared_constant B row left cmp other) _ c _ (compared_known left cmp other e c)
      (compare_known scalar left cmp other e q (compare_good scalar (sides_scalar B left other) left cmp other) c) g in
      record { same = same; offset = offset_fits scalar _ c (bit_in scalar (compares (value left) cmp (value other)) q) same }

  convert_evaluated : (target scalar : Scalar) (from : Operand) → s.integer (env_of p.program f) from ≡ Ok scalar → (c : Constant) → one_known (known_operand B row from) (λ v. constant_of (converted target v)) ≡ Some c → converted target (value from) ≡ value_of_constant c
  convert_evaluated target scalar from e c g =
      let b = one_is (known_operand B row from) _ c g in
      let same : value from ≡ value_of_constant b.0 = operand_known from (integer_named p.program f from scalar e) b.0 b.1 in
      ap (converted target) same ∙ constant_is _ c b.2

  pub convert_known : (j i : ℕ) (target scalar : Scalar) (to : List ℕ) (from : Operand) → not (s.is_pointer target) ≡ true → s.integer (env_of p.program f) from ≡ Ok scalar → (c : Constant) → known_result B j i row target (Convert to target from) ≡ Some c → Known (converted target (value from)) c
  unfolding known_result evaluated never_traps result_value
  convert_known j i target scalar to from q e c g =
      let typed : is_of target (converted target (value from)) ≡ true = int_is target _ q (wrapped_in target (any_number (value from))) in
      let same : converted target (value from) ≡ value_of_constant c =
      first_by _ _ c _ (convert_evaluated target scalar from e c)
      (by_value target _ (convert_good target (source_scalar B from) from) (converted target (value from)) c typed (convert_holds target scalar from e typed)) g in
      record { same = same; offset = offset_fits target _ c typed same }

  -- ---- places

  pub place_same : (base : Base) (offset : ℤ) → ((name : List ℕ) → base ≡ RegBase name → (scalar : Scalar) × (scalar_of (env_of p.program f) name ≡ Ok scalar)) → (q : Place) → place_on B row base offset ≡ Some q → place_value p.program.globals scope values q ≡ place_value p.program.globals scope values (record { base = base; offset = offset })
  place_same (Variable name) offset e q g = cc
  place_same (RegBase name) offset e q g = by (known_register B row name) refl g
    where
      by : (o : Option Constant) → known_register B row name ≡ o → place_from p.program.globals o offset ≡ Some q → place_value p.program.globals scope values q ≡ moved_by (value_in scope values name) (offset_in offset)
      by None u w = cc
      by (Some c) u w =
          let own = e name refl in
          from_value p.program.globals scope values mean c offset q w ∙ ap (λ v. moved_by v (offset_in offset)) (sym (register_known name own.0 own.1 c u).same)
