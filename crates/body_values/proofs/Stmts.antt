-- What a statement does to registers is in the values after it.
use Rattle.std.proofs.Common.{◌≡◌, ℕ, ℤ, pos, Bool, true, false, cond, not, ◌&&◌, ◌||◌, if◌then◌else◌, List, ◌++◌, length, refl, sym, ◌∙◌, ap, subst, Option, Some, None, IfSome, Result, Ok, Err, slice_set}
use Rattle.gimple_ir.specs.declared.scalar.Scalar.{Scalar}
use Rattle.gimple_ir.specs.declared.scalar.Scalar.TheVariants.{I8, I16, I32, I64, U8, U16, U32, U64, Ptr}
use Rattle.gimple_ir.specs.declared.scalar.Op.{Op}
use Rattle.gimple_ir.specs.declared.scalar.Cmp.{Cmp}
use Rattle.gimple_ir.specs.declared.value.TrapKind.{TrapKind}
use Rattle.gimple_ir.specs.declared.value.TrapKind.TheVariants.{ReadOnly}
use Rattle.gimple_ir.specs.declared.value.Value.{Value}
use Rattle.gimple_ir.specs.declared.value.Value.TheVariants.{Int as Number}
use Rattle.gimple_ir.specs.declared.operand.Operand.{Operand}
use Rattle.gimple_ir.specs.declared.operand.Operand.TheVariants.{Reg, Number as NumberOperand, Null, Address}
use Rattle.gimple_ir.specs.declared.operand.Place.{Place}
use Rattle.gimple_ir.specs.declared.declarations.Register.{Register}
use Rattle.gimple_ir.specs.declared.statement.Stmt.{Stmt}
use Rattle.gimple_ir.specs.declared.statement.Stmt.TheVariants.{Copy, Arith, Compare, Convert, Load, Store, Call, Indirect, Get, Put, Abort}
use Rattle.gimple_ir.specs.declared.program.Function.{Function}
use Rattle.gimple_core.specs.Sealed.{Sealed}
use Rattle.gimple_core.specs.declared.machine.FoundSlot.{FoundSlot}
use Rattle.gimple_core.specs.Memory.{same_scalar, found_at, put_slot}
use Rattle.gimple_core.specs.State.{World, Scope, setting_of, registers_of, value_in, scalar_in, put_at, assigned, is_of}
use Rattle.gimple_core.specs.Run.{Callee, Named, Through, Calling, call_of, taking, act, assign, assign_result, loaded, stored, got, put, given, value_of, place_value, arith_of, compares, one_if, converted}
use Rattle.gimple_core.specs.Verdict.{◌>>◌, demand, pure}
use Rattle.gimple_core.specs.Env.{Names, scalar_of}
use Rattle.gimple_core.specs.Statements as s
use Rattle.gimple_core.proofs.Passed.{err_no, first_passed, demanded}
use Rattle.gimple_core.proofs.ScalarLemmas.{same_scalar_true}
use Rattle.gimple_claims.specs.Checks.{env_of}
use Rattle.gimple_claims.specs.Typed.{registers_typed}
use Rattle.gimple_core.proofs.StepLemmas.{calling_stmt}
use Rattle.gimple_claims.proofs.Callees.{call_check}
use Rattle.gimple_claims.proofs.Checked.{ok_same}
use Rattle.gimple_claims.proofs.TypedValues.{scalar_there}
use Rattle.fix_engine.specs.declared.lifted.Lifted.{Lifted}
use Rattle.fix_engine.specs.declared.lifted.Lifted.TheVariants.{Reached}
use Rattle.value_domain.specs.declared.abs_val.AbsVal.{AbsVal}
use Rattle.gimple_core.specs.Statements.{is_pointer}
use Rattle.value_domain.specs.AbsOperators.{top_of}
use Rattle.value_domain.specs.Values.{FitsWith}
use Rattle.value_domain.specs.Thresholds.{IsLawful}
use Rattle.value_domain.specs.Holding.{Holds}
use Rattle.value_domain.specs.Laws.{done}
use Rattle.value_domain.proofs.WholeLemmas.{IsGood}
use Rattle.value_domain.proofs.TopLaws.{top_holds, top_fits}
use Rattle.value_domain.proofs.BringLaws.{brought_holds}
use Rattle.value_domain.proofs.AbsLaws.{op_holds, cmp_holds, convert_holds_all}
use Rattle.body_values.specs.declared.facts.Facts.{Facts}
use Rattle.body_values.specs.Bodies.{Body, register_scalar, put_value, brought_or, operand_value, count_scalar, right_scalar, is_lawful, arith_value, sides_scalar, may_compare, compare_value, source_scalar, convert_value, item_value, first_value, load_value, result_value, after_stmt}
use Rattle.body_values.specs.Flow.{given_load, body_of}
use Rattle.body_values.specs.Rows.{RowFits}
use Rattle.body_values.specs.Rising.{RowsRise, LoadsFit, allowed_is, two, self, operand_rises, result_rises}
use Rattle.body_values.proofs.Held.{RowHolds, FileHolds, set_holds, put_typed, refined_holds, put_holds}
use Rattle.body_values.proofs.Operands.{Stays, RegisterHolds, register_holds, operand_holds}

-- ---- tests

not_true : (b : Bool) → not b ≡ true → b ≡ false
not_true true h = cc
not_true false h = refl

choose : (b : Bool) (P : AbsVal → Type 0) (x y : AbsVal) → (b ≡ true → P x) → P y → P (cond b x y)
choose true P x y h g = h refl
choose false P x y h g = g

abbrev fine : World → Result World TrapKind
fine w = Ok w

-- the values after a call, whose register can have any value of its scalar
abbrev pub after_call : Body → List AbsVal → Option (List ℕ) → Lifted (List AbsVal)
after_call B row None = Reached row
after_call B row (Some to) = put_value B.registers row to (top_of (register_scalar B.registers to))

call_file : (B : Body) (j i : ℕ) (row : List AbsVal) (to : Option (List ℕ)) (arguments : List Operand) (callee : Callee) → after_stmt B j i (calling_stmt to arguments callee) row ≡ after_call B row to
unfolding after_stmt result_value
call_file B j i row None arguments (Named name) = refl
call_file B j i row None arguments (Through name signature) = refl
call_file B j i row (Some to) arguments (Named name) = refl
call_file B j i row (Some to) arguments (Through name signature) = refl

module _ (p : Sealed) (n : ℕ) (f : Function) (facts : Facts) (most : ℕ) (ts : List ℤ) (law : IsLawful ts) (serial : ℕ) (values : List Value) (row : List AbsVal)
    (t : registers_typed (registers_of f) values ≡ true) (fits : RowFits most ts (length (f.params ++ f.registers)) row) (h : RowHolds row values)
    (loads : LoadsFit (body_of p n f facts most ts)) where
  abbrev B : Body
  B = body_of p n f facts most ts

  abbrev scope : Scope
  scope = record { declared = registers_of f; locals = f.locals; serial = serial }

  abbrev rs : List Register
  rs = f.params ++ f.registers

  abbrev value : Operand → Value
  value x = value_of p.program.globals scope values x

  abbrev HoldsAt : Scalar → Value → AbsVal → Type 0
  HoldsAt scalar v a = Stays p n f facts most ts law serial values row t fits h scalar v a

  pub register : (name : List ℕ) (scalar : Scalar) → scalar_of (env_of p.program f) name ≡ Ok scalar → RegisterHolds p n f facts most ts law serial values row t fits h name scalar
  register name scalar e = register_holds p n f facts most ts law serial values row t fits h name scalar e

  pub operand : (scalar : Scalar) (x : Operand) → s.operand (env_of p.program f) 4 scalar x ≡ Ok tt → HoldsAt scalar (value x) (operand_value B row scalar x)
  operand scalar x e = operand_holds p n f facts most ts law serial values row t fits h 4 scalar x e

  rising : RowsRise B row row
  rising = self B law loads row fits

  pub good : (scalar : Scalar) (x : Operand) → IsGood most ts scalar (operand_value B row scalar x)
  good scalar x = (operand_rises B law row row rising scalar x).lower

  -- ---- arithmetic

  register_stays : (name : List ℕ) (scalar : Scalar) → scalar_of (env_of p.program f) name ≡ Ok scalar → HoldsAt (register_scalar rs name) (value (Reg name)) (operand_value B row (register_scalar rs name) (Reg name))
  register_stays name scalar e =
      let r = register name scalar e in
      subst (λ c. HoldsAt c (value_in scope values name) (operand_value B row c (Reg name))) (sym r.scalar_same) (record { typed = r.typed; holds = r.holds })

  count_holds : (scalar : Scalar) (x : Operand) → s.count (env_of p.program f) scalar x ≡ Ok tt → HoldsAt (count_scalar B scalar x) (value x) (operand_value B row (count_scalar B scalar x) x)
  unfolding s.count
  count_holds scalar (Reg name) e = let own = first_passed (scalar_of (env_of p.program f) name) _ tt e in register_stays name own.0 own.1
  count_holds scalar (NumberOperand z) e = operand scalar (NumberOperand z) e
  count_holds scalar Null e = operand scalar Null e
  count_holds scalar (Address name offset) e = operand scalar (Address name offset) e

  right_holds : (scalar : Scalar) (op : Op) (x : Operand) → s.right_side (env_of p.program f) scalar op x ≡ Ok tt →
      HoldsAt (cond (s.is_shift op) (count_scalar B scalar x) scalar) (value x) (operand_value B row (cond (s.is_shift op) (count_scalar B scalar x) scalar) x)
  unfolding s.right_side
  right_holds scalar op x e = by (s.is_shift op) e
    where
      by : (b : Bool) → (cond b (s.count (env_of p.program f) scalar x) (s.operand (env_of p.program f) 4 scalar x)) ≡ Ok tt → HoldsAt (cond b (count_scalar B scalar x) scalar) (value x) (operand_value B row (cond b (count_scalar B scalar x) scalar) x)
      by true g = count_holds scalar x g
      by false g = operand scalar x g

  arith_sides : (scalar : Scalar) (left : Operand) (op : Op) (right : Operand) → s.arith (env_of p.program f) scalar left op right ≡ Ok tt →
      HoldsAt scalar (value left) (operand_value B row scalar left) × HoldsAt (right_scalar B scalar op right) (value right) (operand_value B row (right_scalar B scalar op right) right)
  unfolding s.arith
  arith_sides I8 left op right h = let a = first_passed (s.operand (env_of p.program f) 4 I8 left) _ tt h in (operand I8 left a.1, right_holds I8 op right a.2)
  arith_sides I16 left op right h = let a = first_passed (s.operand (env_of p.program f) 4 I16 left) _ tt h in (operand I16 left a.1, right_holds I16 op right a.2)
  arith_sides I32 left op right h = let a = first_passed (s.operand (env_of p.program f) 4 I32 left) _ tt h in (operand I32 left a.1, right_holds I32 op right a.2)
  arith_sides I64 left op right h = let a = first_passed (s.operand (env_of p.program f) 4 I64 left) _ tt h in (operand I64 left a.1, right_holds I64 op right a.2)
  arith_sides U8 left op right h = let a = first_passed (s.operand (env_of p.program f) 4 U8 left) _ tt h in (operand U8 left a.1, right_holds U8 op right a.2)
  arith_sides U16 left op right h = let a = first_passed (s.operand (env_of p.program f) 4 U16 left) _ tt h in (operand U16 left a.1, right_holds U16 op right a.2)
  arith_sides U32 left op right h = let a = first_passed (s.operand (env_of p.program f) 4 U32 left) _ tt h in (operand U32 left a.1, right_holds U32 op right a.2)
  arith_sides U64 left op right h = let a = first_passed (s.operand (env_of p.program f) 4 U64 left) _ tt h in (operand U64 left a.1, right_holds U64 op right a.2)
  arith_sides Ptr left op right h =
      let a = first_passed (demand (s.is_add op) 4) _ tt h in
      let b = first_passed (s.operand (env_of p.program f) 4 Ptr left) _ tt a.2 in
      (operand Ptr left b.1, operand I64 right b.2)

  pub arith_holds : (scalar : Scalar) (left : Operand) (op : Op) (right : Operand) (v : Value) → s.arith (env_of p.program f) scalar left op right ≡ Ok tt → is_of scalar v ≡ true → arith_of p.mode scalar (value left) op (value right) ≡ done v →
      Holds v (arith_value B row scalar (right_scalar B scalar op right) left op right)
  unfolding arith_value
  arith_holds scalar left op right v e w g =
      let a = arith_sides scalar left op right e in
      let x = good scalar left in
      let y = good (right_scalar B scalar op right) right in
      choose (is_lawful op scalar (right_scalar B scalar op right)) (Holds v) _ _
      (λ l. op_holds most ts law p.mode op scalar (right_scalar B scalar op right) (allowed_is B scalar op right l) _ _ x.0 x.1 y.0 y.1 (value left) (value right) v a.0.typed a.1.typed a.0.holds a.1.holds g)
      (top_holds scalar v w)

  -- ---- comparisons and conversions

  both_plain : (left right : Operand) (scalar : Scalar) → (demand (not (s.is_number left || s.is_number right)) 4 >> pure Ptr) ≡ Ok scalar → Ptr ≡ scalar
  both_plain left right scalar e = let a = first_passed (demand (not (s.is_number left || s.is_number right)) 4) _ scalar e in ok_same a.2

  pub sides_is : (left right : Operand) (scalar : Scalar) → s.common_scalar (env_of p.program f) left right ≡ Ok scalar → sides_scalar B left right ≡ scalar
  unfolding s.common_scalar
  sides_is (Reg m) right scalar h = (register m scalar h).scalar_same
  sides_is (NumberOperand z) (Reg m) scalar h = (register m scalar h).scalar_same
  sides_is (Null) (Reg m) scalar h = (register m scalar h).scalar_same
  sides_is (Address name offset) (Reg m) scalar h = (register m scalar h).scalar_same
  sides_is (NumberOperand z) (NumberOperand y) scalar h = both_plain (NumberOperand z) (NumberOperand y) scalar h
  sides_is (NumberOperand z) (Null) scalar h = both_plain (NumberOperand z) (Null) scalar h
  sides_is (NumberOperand z) (Address other by) scalar h = both_plain (NumberOperand z) (Address other by) scalar h
  sides_is (Null) (NumberOperand y) scalar h = both_plain (Null) (NumberOperand y) scalar h
  sides_is (Null) (Null) scalar h = both_plain (Null) (Null) scalar h
  sides_is (Null) (Address other by) scalar h = both_plain (Null) (Address other by) scalar h
  sides_is (Address name offset) (NumberOperand y) scalar h = both_plain (Address name offset) (NumberOperand y) scalar h
  sides_is (Address name offset) (Null) scalar h = both_plain (Address name offset) (Null) scalar h
  sides_is (Address name offset) (Address other by) scalar h = both_plain (Address name offset) (Address other by) scalar h

  -- both sides of a comparison that passes its check
  pub record SidesHold (left : Operand) (cmp : Cmp) (right : Operand) : Type 0 where
    pub left_holds : HoldsAt (sides_scalar B left right) (value left) (operand_value B row (sides_scalar B left right) left)
    pub right_side : HoldsAt (sides_scalar B left right) (value right) (operand_value B row (sides_scalar B left right) right)

  pub sides_hold : (left : Operand) (cmp : Cmp) (right : Operand) → s.compared (env_of p.program f) left cmp right ≡ Ok tt → SidesHold left cmp right
  unfolding s.compared
  sides_hold left cmp right e =
      let a = first_passed (s.common_scalar (env_of p.program f) left right) _ tt e in
      let b = first_passed (s.operand (env_of p.program f) 4 a.0 left) _ tt a.2 in
      let c = first_passed (s.operand (env_of p.program f) 4 a.0 right) _ tt b.2 in
      let same : sides_scalar B left right ≡ a.0 = sides_is left right a.0 a.1 in
      record {
        left_holds = subst (λ z. HoldsAt z (value left) (operand_value B row z left)) (sym same) (operand a.0 left b.1);
        right_side = subst (λ z. HoldsAt z (value right) (operand_value B row z right)) (sym same) (operand a.0 right c.1);
      }

  compare_holds : (target : Scalar) (left : Operand) (cmp : Cmp) (right : Operand) → s.compared (env_of p.program f) left cmp right ≡ Ok tt → is_of target (one_if (compares (value left) cmp (value right))) ≡ true →
      Holds (one_if (compares (value left) cmp (value right))) (compare_value B row target (sides_scalar B left right) left cmp right)
  unfolding compare_value
  compare_holds target left cmp right e w =
      let a = sides_hold left cmp right e in
      let scalar : Scalar = sides_scalar B left right in
      let x = good scalar left in
      let y = good scalar right in
      choose (not (is_pointer target) && may_compare cmp scalar) (Holds (one_if (compares (value left) cmp (value right)))) _ _
      (λ l. cmp_holds most ts law target cmp scalar (not_true _ (two _ _ l).0) _ _ x.0 x.1 y.0 y.1 (value left) (value right) a.left_holds.typed a.right_side.typed a.left_holds.holds a.right_side.holds)
      (top_holds target _ w)

  convert_holds : (target scalar : Scalar) (from : Operand) → s.integer (env_of p.program f) from ≡ Ok scalar → is_of target (converted target (value from)) ≡ true → Holds (converted target (value from)) (convert_value B row target (source_scalar B from) from)
  unfolding convert_value s.integer
  convert_holds target scalar (Reg name) e w =
      let own = first_passed (scalar_of (env_of p.program f) name) _ scalar e in
      let a = register_stays name own.0 own.1 in
      let source : Scalar = register_scalar rs name in
      let x = good source (Reg name) in
      choose (not (is_pointer target) && not (is_pointer source)) (Holds (converted target (value (Reg name)))) _ _
      (λ l. let q = two _ _ l in convert_holds_all most ts law target source (not_true _ q.0) (not_true _ q.1) _ x.0 x.1 (value (Reg name)) a.typed a.holds)
      (top_holds target _ w)
  convert_holds target scalar (NumberOperand z) e w = absurd (err_no e)
  convert_holds target scalar Null e w = absurd (err_no e)
  convert_holds target scalar (Address name offset) e w = absurd (err_no e)

  -- ---- loads

  given_holds : (scalar : Scalar) (v : Value) (o : Option AbsVal) → is_of scalar v ≡ true → IfSome o (FitsWith most ts) → IfSome o (Holds v) → Holds v (brought_or scalar o)
  given_holds scalar v None w g e = top_holds scalar v w
  given_holds scalar v (Some a) w g e = brought_holds most ts scalar a g v w e

  first_holds : (v : Value) (o : Option AbsVal) (b : AbsVal) → IfSome o (Holds v) → Holds v b → Holds v (first_value o b)
  first_holds v None b x y = y
  first_holds v (Some a) b x y = x

  load_holds : (j i : ℕ) (scalar : Scalar) (place : Place) (v : Value) → is_of scalar v ≡ true → IfSome (item_value B scalar place) (Holds v) → IfSome (given_load facts.loads n j i) (Holds v) → Holds v (load_value B j i scalar place)
  load_holds j i scalar place v w item fact = first_holds v (item_value B scalar place) _ item (given_holds scalar v (given_load facts.loads n j i) w (loads j i) fact)

  -- ---- registers that get values

  module _ (after : List Value) (typed_after : registers_typed (registers_of f) after ≡ true) where
    put_known : (to : List ℕ) (scalar : Scalar) (v : Value) (b : AbsVal) → scalar_of (env_of p.program f) to ≡ Ok scalar → after ≡ assigned scope values to v → FitsWith most ts b → (is_of scalar v ≡ true → Holds v b) → FileHolds (put_value rs row to b) after
    put_known to scalar v b e g fit holds =
        let r = register to scalar e in
        let set : after ≡ slice_set values r.has.place v = g ∙ ap (λ o. put_at values o v) r.has.place_is in
        let own : is_of r.has.register.scalar v ≡ true = put_typed rs values r.has.place r.has.register v (subst (λ vs. registers_typed rs vs ≡ true) set typed_after) r.has.at in
        let held : Holds v b = holds (subst (λ c. is_of c v ≡ true) r.has.scalar_is own) in
        subst (λ vs. FileHolds (put_value rs row to b) vs) (sym set)
        (put_holds most ts rs row (slice_set values r.has.place v) to v b fit held (set_holds rs row values to r.has.place v b r.has.place_is h held))

    -- a register that gets the result of a statement
    pub put_result : (j i : ℕ) (to : List ℕ) (scalar : Scalar) (x : Stmt) (v : Value) → scalar_of (env_of p.program f) to ≡ Ok scalar → after ≡ assigned scope values to v → (is_of scalar v ≡ true → Holds v (result_value B j i row scalar x)) →
        FileHolds (put_value rs row to (result_value B j i row (register_scalar rs to) x)) after
    put_result j i to scalar x v e g holds =
        let r = register to scalar e in
        put_known to scalar v (result_value B j i row (register_scalar rs to) x) e g (result_rises B law loads j i row row rising (register_scalar rs to) x).lower
        (λ typed. subst (λ c. Holds v (result_value B j i row c x)) (sym r.scalar_same) (holds typed))

    -- any value of its scalar
    put_any : (to : List ℕ) (scalar : Scalar) (v : Value) → scalar_of (env_of p.program f) to ≡ Ok scalar → after ≡ assigned scope values to v → FileHolds (put_value rs row to (top_of (register_scalar rs to))) after
    put_any to scalar v e g =
        let r = register to scalar e in
        put_known to scalar v (top_of (register_scalar rs to)) e g (top_fits most ts law (register_scalar rs to)).0 (λ typed. top_holds (register_scalar rs to) v (subst (λ c. is_of c v ≡ true) (sym r.scalar_same) typed))

  -- ---- calls

  call_target : (names : Names Function) (to : Option (List ℕ)) (arguments : List Operand) (callee : Callee) → call_check (env_of p.program f) names to arguments callee ≡ Ok tt → (z : Option Scalar) × (s.target (env_of p.program f) to ≡ Ok z)
  unfolding s.called s.called_through
  call_target names to arguments (Named name) e = let a = first_passed (s.target (env_of p.program f) to) _ tt e in (a.0, a.1)
  call_target names to arguments (Through name signature) e = let a = first_passed (s.target (env_of p.program f) to) _ tt e in (a.0, a.1)

  called_by : (to : Option (List ℕ)) (z : Option Scalar) → s.target (env_of p.program f) to ≡ Ok z → (v : Option Value) → registers_typed (registers_of f) (given values (taking scope to) v) ≡ true → FileHolds (after_call B row to) (given values (taking scope to) v)
  called_by None z e None after = h
  called_by None z e (Some u) after = h
  called_by (Some to) z e None after =
      let b = first_passed (scalar_of (env_of p.program f) to) _ z e in
      let r = register to b.0 b.1 in
      let held : Holds (value_in scope values to) (top_of (register_scalar rs to)) = top_holds (register_scalar rs to) (value_in scope values to) (subst (λ c. is_of c (value_in scope values to) ≡ true) (sym r.scalar_same) r.typed) in
      put_holds most ts rs row values to (value_in scope values to) _ (top_fits most ts law (register_scalar rs to)).0 held (refined_holds scope row values to _ t h held)
  called_by (Some to) z e (Some u) after =
      let b = first_passed (scalar_of (env_of p.program f) to) _ z e in
      put_any (assigned scope values to u) after to b.0 u b.1 refl

  pub call_holds : (j i : ℕ) (names : Names Function) (c : Calling) (v : Option Value) → call_check (env_of p.program f) names c.to c.arguments c.callee ≡ Ok tt → registers_typed (registers_of f) (given values (taking scope c.to) v) ≡ true →
      FileHolds (after_stmt B j i (calling_stmt c.to c.arguments c.callee) row) (given values (taking scope c.to) v)
  call_holds j i names c v e after =
      let z = call_target names c.to c.arguments c.callee e in
      subst (λ x. FileHolds x (given values (taking scope c.to) v)) (sym (call_file B j i row c.to c.arguments c.callee)) (called_by c.to z.0 z.1 v after)

-- ---- what a statement leaves of registers

store_registers_if : (d w : World) (scalar : Scalar) (v : Value) (g : FoundSlot) (b : Bool) → (if b then Err ReadOnly else Ok (record d { memory = record d.memory { slots = put_slot d.memory.slots g.object g.offset scalar v } })) ≡ Ok w → w.registers ≡ d.registers
store_registers_if d w scalar v g true e = cc
store_registers_if d w scalar v g false e = let same : record d { memory = record d.memory { slots = put_slot d.memory.slots g.object g.offset scalar v } } ≡ w = cc in ap (λ (z : World). z.registers) (sym same)

store_registers : (d w : World) (scalar : Scalar) (v : Value) (r : Result FoundSlot TrapKind) → stored d scalar v r ≡ Ok w → w.registers ≡ d.registers
store_registers d w scalar v (Ok g) e = store_registers_if d w scalar v g g.constant e
store_registers d w scalar v (Err z) e = cc

assign_registers : (scope : Scope) (d w : World) (to : List ℕ) (v : Value) → fine (assign scope d to v) ≡ fine w → w.registers ≡ assigned scope d.registers to v
assign_registers scope d w to v e = let same : assign scope d to v ≡ w = cc in ap (λ (z : World). z.registers) (sym same)

-- ---- each statement that is no call

module _ (p : Sealed) (n : ℕ) (f : Function) (facts : Facts) (most : ℕ) (ts : List ℤ) (law : IsLawful ts) (serial : ℕ) (d w : World) (row : List AbsVal)
    (t : registers_typed (registers_of f) d.registers ≡ true) (fits : RowFits most ts (length (f.params ++ f.registers)) row) (h : RowHolds row d.registers)
    (loads : LoadsFit (body_of p n f facts most ts)) (j i : ℕ) (after : registers_typed (registers_of f) w.registers ≡ true) where
  abbrev B2 : Body
  B2 = body_of p n f facts most ts

  abbrev scope2 : Scope
  scope2 = record { declared = registers_of f; locals = f.locals; serial = serial }

  abbrev put2 : (to : List ℕ) (scalar : Scalar) (x : Stmt) (v : Value) → scalar_of (env_of p.program f) to ≡ Ok scalar → w.registers ≡ assigned scope2 d.registers to v → (is_of scalar v ≡ true → Holds v (result_value B2 j i row scalar x)) →
      FileHolds (put_value (f.params ++ f.registers) row to (result_value B2 j i row (register_scalar (f.params ++ f.registers) to) x)) w.registers
  put2 to scalar x v e g holds = put_result p n f facts most ts law serial d.registers row t fits h loads w.registers after j i to scalar x v e g holds

  same_file : (x y : List Value) → y ≡ x → RowHolds row x → RowHolds row y
  same_file x y e g = subst (RowHolds row) (sym e) g

  arith_by : (to : List ℕ) (scalar : Scalar) (left : Operand) (op : Op) (right : Operand) → scalar_of (env_of p.program f) to ≡ Ok scalar → s.arith (env_of p.program f) scalar left op right ≡ Ok tt →
      (r : Result Value TrapKind) → arith_of p.mode scalar (value_of p.program.globals scope2 d.registers left) op (value_of p.program.globals scope2 d.registers right) ≡ r → assign_result scope2 d to r ≡ Ok w →
      FileHolds (put_value (f.params ++ f.registers) row to (result_value B2 j i row (register_scalar (f.params ++ f.registers) to) (Arith to left op right))) w.registers
  unfolding result_value
  arith_by to scalar left op right e c (Ok v) g q = put2 to scalar (Arith to left op right) v e (assign_registers scope2 d w to v q) (λ typed. arith_holds p n f facts most ts law serial d.registers row t fits h loads scalar left op right v c typed g)
  arith_by to scalar left op right e c (Err z) g q = cc

  load_by : (to : List ℕ) (scalar : Scalar) (place : Place) → scalar_of (env_of p.program f) to ≡ Ok scalar → (r : Result FoundSlot TrapKind) → loaded scope2 d to r ≡ Ok w →
      ((g : FoundSlot) → r ≡ Ok g → is_of scalar g.value ≡ true → Holds g.value (load_value B2 j i scalar place)) →
      FileHolds (put_value (f.params ++ f.registers) row to (result_value B2 j i row (register_scalar (f.params ++ f.registers) to) (Load to scalar place))) w.registers
  unfolding result_value
  load_by to scalar place e (Ok g) q holds = put2 to scalar (Load to scalar place) g.value e (assign_registers scope2 d w to g.value q) (λ typed. holds g refl typed)
  load_by to scalar place e (Err z) q holds = cc

  got_by : (to : List ℕ) → scalar_of (env_of p.program f) to ≡ Ok I64 → (o : Option ℤ) → fine (got scope2 d to o) ≡ fine w →
      FileHolds (put_value (f.params ++ f.registers) row to (result_value B2 j i row (register_scalar (f.params ++ f.registers) to) (Get to))) w.registers
  unfolding result_value
  got_by to e None q = put2 to I64 (Get to) (Number (pos 0)) e (assign_registers scope2 d w to (Number (pos 0)) q) (λ typed. top_holds I64 _ typed)
  got_by to e (Some z) q =
      let same : got scope2 d to (Some z) ≡ w = cc in
      put2 to I64 (Get to) (Number z) e (ap (λ (x : World). x.registers) (sym same)) (λ typed. top_holds I64 _ typed)

  pub stmt_holds : (names : Names Function) (x : Stmt) → s.statement (env_of p.program f) names x ≡ Ok tt → call_of x ≡ None → act (setting_of p) scope2 x d ≡ Ok w →
      ((to : List ℕ) (scalar : Scalar) (place : Place) (g : FoundSlot) → x ≡ Load to scalar place → found_at d.memory (place_value p.program.globals scope2 d.registers place) scalar ≡ Ok g → s.place (env_of p.program f) scalar place ≡ Ok tt → is_of scalar g.value ≡ true → IfSome (item_value B2 scalar place) (Holds g.value)) →
      ((to : List ℕ) (scalar : Scalar) (place : Place) (g : FoundSlot) → x ≡ Load to scalar place → found_at d.memory (place_value p.program.globals scope2 d.registers place) scalar ≡ Ok g → IfSome (given_load facts.loads n j i) (Holds g.value)) →
      FileHolds (after_stmt B2 j i x row) w.registers
  unfolding act s.statement s.converted after_stmt result_value
  stmt_holds names (Copy to from) e c q items given =
      let a = first_passed (scalar_of (env_of p.program f) to) _ tt e in
      let x = operand p n f facts most ts law serial d.registers row t fits h loads a.0 from a.2 in
      put2 to a.0 (Copy to from) _ a.1 (assign_registers scope2 d w to _ q) (λ typed. x.holds)
  stmt_holds names (Arith to left op right) e c q items given =
      let a = first_passed (scalar_of (env_of p.program f) to) _ tt e in
      let there : scalar_in scope2 to ≡ a.0 = scalar_there p.program f scope2 to a.0 refl a.1 in
      arith_by to a.0 left op right a.1 a.2 _ refl (subst (λ z. assign_result scope2 d to (arith_of p.mode z (value_of p.program.globals scope2 d.registers left) op (value_of p.program.globals scope2 d.registers right)) ≡ Ok w) there q)
  stmt_holds names (Compare to left cmp right) e c q items given =
      let a = first_passed (scalar_of (env_of p.program f) to) _ tt e in
      let b = first_passed (demand (not (s.is_pointer a.0)) 4) _ tt a.2 in
      put2 to a.0 (Compare to left cmp right) _ a.1 (assign_registers scope2 d w to _ q) (λ typed. compare_holds p n f facts most ts law serial d.registers row t fits h loads a.0 left cmp right b.2 typed)
  stmt_holds names (Convert to scalar from) e c q items given =
      let a = first_passed (scalar_of (env_of p.program f) to) _ tt e in
      let b = first_passed (s.integer (env_of p.program f) from) _ tt a.2 in
      let u = first_passed (demand (not (s.is_pointer scalar)) 4) _ tt b.2 in
      let same : scalar ≡ a.0 = same_scalar_true scalar a.0 (demanded _ 4 u.2) in
      put2 to a.0 (Convert to scalar from) _ a.1 (assign_registers scope2 d w to _ q)
      (λ typed. convert_holds p n f facts most ts law serial d.registers row t fits h loads scalar b.0 from b.1 (subst (λ z. is_of z (converted scalar (value_of p.program.globals scope2 d.registers from)) ≡ true) (sym same) typed))
  stmt_holds names (Load to scalar place) e c q items given =
      let a = first_passed (scalar_of (env_of p.program f) to) _ tt e in
      let b = first_passed (demand (same_scalar scalar a.0) 4) _ tt a.2 in
      let same : scalar ≡ a.0 = same_scalar_true scalar a.0 (demanded _ 4 b.1) in
      load_by to scalar place (subst (λ z. scalar_of (env_of p.program f) to ≡ Ok z) (sym same) a.1) (found_at d.memory (place_value p.program.globals scope2 d.registers place) scalar) q
      (λ g found typed. load_holds p n f facts most ts law serial d.registers row t fits h loads j i scalar place g.value typed (items to scalar place g refl found b.2 typed) (given to scalar place g refl found))
  stmt_holds names (Store scalar place from) e c q items given = same_file d.registers w.registers (store_registers d w scalar _ _ q) h
  stmt_holds names (Call to callee arguments) e c q items given = cc
  stmt_holds names (Indirect to signature callee arguments) e c q items given = cc
  stmt_holds names (Get to) e c q items given =
      let a = first_passed (scalar_of (env_of p.program f) to) _ tt e in
      let same : a.0 ≡ I64 = same_scalar_true a.0 I64 (demanded _ 4 a.2) in
      got_by to (subst (λ z. scalar_of (env_of p.program f) to ≡ Ok z) same a.1) _ q
  stmt_holds names (Put from) e c q items given = let gone : put d (value_of p.program.globals scope2 d.registers from) ≡ w = cc in same_file d.registers w.registers (ap (λ (z : World). z.registers) (sym gone)) h
  stmt_holds names Abort e c q items given = cc
