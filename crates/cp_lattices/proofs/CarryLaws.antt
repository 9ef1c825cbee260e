-- What a call gives to a formal fits, is of the formal's scalar, and rises with the value of the caller's formal.
use Rattle.std.proofs.Common.{◌≡◌, inl, inr, ℤ, pos, int_lt, Bool, true, false, if◌then◌else◌, Option, Some, None, Result, Ok, Err, IfOk, refl, sym, subst}
use Rattle.gimple_ir.specs.declared.options.Passes.{Passes}
use Rattle.gimple_ir.specs.declared.scalar.Scalar.{Scalar}
use Rattle.gimple_ir.specs.declared.scalar.Scalar.TheVariants.{I8, I16, I32, I64, U8, U16, U32, U64, Ptr}
use Rattle.gimple_ir.specs.declared.scalar.Op.{Op}
use Rattle.gimple_ir.specs.declared.scalar.Op.TheVariants.{Add, Sub, Mul, Div, Rem, And, Or, Xor, Shl, Shr}
use Rattle.gimple_ir.specs.declared.value.Constant.TheVariants.{Int, Global as GlobalAddress}
use Rattle.gimple_core.specs.Operators.{in_scalar}
use Rattle.gimple_core.specs.Statements.{is_pointer}
use Rattle.value_domain.specs.declared.abs_val.AbsVal.{AbsVal}
use Rattle.value_domain.specs.AbsOperators.{top_of, abs_op_of, abs_met, brought_into, exactly_of}
use Rattle.value_domain.specs.Holding.{IsOf, IsAllowed, IsRight}
use Rattle.value_domain.specs.Thresholds.{Limits, IsLawful}
use Rattle.value_domain.specs.Values.{FitsWith, FitsAbsVal, kind_of, abs_val_below}
use Rattle.value_domain.specs.ValueLemmas.{laws_with}
use Rattle.value_domain.proofs.AbsLaws.{op_fits, op_rises}
use Rattle.value_domain.proofs.AloneLaws.{alone_fits}
use Rattle.value_domain.proofs.BringLaws.{brought_fits, brought_rises}
use Rattle.value_domain.proofs.KindLaws.{kind_thresholds}
use Rattle.value_domain.proofs.MeetLaws.{meet_fits_all}
use Rattle.value_domain.proofs.RiseLaws.{meet_rises}
use Rattle.value_domain.proofs.TopLaws.{top_fits}
use Rattle.body_symbols.specs.declared.jumps.JumpFn.{JumpFn}
use Rattle.body_symbols.specs.declared.jumps.JumpFn.TheVariants.{Unknown, Const, Pass, Ancestor, Address}
use Rattle.body_symbols.specs.declared.symbol.Variable.TheVariants.{Global, Local}
use Rattle.cp_lattices.specs.Carried.{Making, alone, right_scalar, under, operated, moved, passed, carried, given}
use Rattle.cp_lattices.proofs.TrimLaws.{trim_fits, trim_is_of, trim_rises}

-- ---- what is done has what its value has

pub if_done : {E : Type 0} (r : Result AbsVal E) (x : AbsVal) (P : AbsVal → Type 0) → IfOk r (λ v. v ≡ x) → P x → IfOk r P
if_done (Ok v) x P e h = subst P (sym e) h
if_done (Err want) x P e h = tt

-- ---- of one kind

pub of_kind : (l : Limits) → IsLawful l.ends → (a : AbsVal) → FitsWith l.size l.ends a → FitsAbsVal (kind_of l.size l.ends) a
of_kind l law a h = subst (λ ts. FitsWith l.size ts a) (sym (kind_thresholds l.size l.ends law)) h

-- ---- operators that there are

count_right : (b : Bool) → is_pointer (if b then I64 else U64) ≡ false
count_right true = refl
count_right false = refl

right_is : (op : Op) (scalar : Scalar) (z : ℤ) → IsRight op scalar (right_scalar op scalar z)
right_is Add scalar z = refl
right_is Sub scalar z = refl
right_is Mul scalar z = refl
right_is Div scalar z = refl
right_is Rem scalar z = refl
right_is And scalar z = refl
right_is Or scalar z = refl
right_is Xor scalar z = refl
right_is Shl scalar z = count_right (int_lt z (pos 0))
right_is Shr scalar z = count_right (int_lt z (pos 0))

pub allowed : (op : Op) (scalar : Scalar) (z : ℤ) → is_pointer scalar ≡ false → IsAllowed op scalar (right_scalar op scalar z)
allowed op scalar z e = inr (e, right_is op scalar z)

moves : IsAllowed Add Ptr I64
moves = inl (refl, refl, refl)

module _ (m : Making) (law : IsLawful m.limits.ends) where
  abbrev Fits : AbsVal → Type 0
  Fits a = FitsWith m.limits.size m.limits.ends a

  abbrev Good : Scalar → AbsVal → Type 0
  Good scalar a = FitsWith m.limits.size m.limits.ends a × IsOf scalar a

  self : (a : AbsVal) → Fits a → abs_val_below a a ≡ true
  self a h = (laws_with m.limits.size m.limits.ends).reflexive a h

  -- ---- fits, and is of the scalar

  pub brought : (scalar : Scalar) (a : AbsVal) → Fits a → Good scalar (brought_into scalar a)
  brought scalar a h = brought_fits m.limits.size m.limits.ends law scalar a h

  pub lone : (scalar : Scalar) (z : ℤ) → Good scalar (alone m scalar z)
  lone scalar z = alone_fits m.limits.size m.limits.ends law scalar (Int z)

  top_good : (scalar : Scalar) → Good scalar (top_of scalar)
  top_good scalar = top_fits m.limits.size m.limits.ends law scalar

  op_good : (op : Op) (scalar other : Scalar) (z : ℤ) (a : AbsVal) → IsAllowed op scalar other → Fits a
      → Good scalar (abs_op_of m.mode op scalar other m.limits.size m.limits.ends (brought_into scalar a) (alone m other z))
  op_good op scalar other z a is h =
      let b = brought scalar a h in
      let c = lone other z in
      op_fits m.limits.size m.limits.ends law m.mode op scalar other is (brought_into scalar a) (alone m other z) b.0 b.1 c.0 c.1

  under_good : (scalar : Scalar) (op : Op) (z : ℤ) (a : AbsVal) (b : Bool) → is_pointer scalar ≡ false → Fits a → Good scalar (if b then under m scalar op (right_scalar op scalar z) z a else top_of scalar)
  under_good scalar op z a true e h = op_good op scalar (right_scalar op scalar z) z a (allowed op scalar z e) h
  under_good scalar op z a false e h = top_good scalar

  operated_by : (scalar : Scalar) (op : Op) (z : ℤ) (a : AbsVal) (b : Bool) → is_pointer scalar ≡ b → Fits a → Good scalar (if b then top_of scalar else operated m scalar op z a)
  operated_by scalar op z a true e h = top_good scalar
  operated_by scalar op z a false e h = under_good scalar op z a (in_scalar (right_scalar op scalar z) z) e h

  passed_good : (scalar : Scalar) (op : Option Op) (z : ℤ) (a : AbsVal) → Fits a → Good scalar (passed m scalar op z a)
  passed_good scalar None z a h = brought scalar a h
  passed_good scalar (Some op) z a h = operated_by scalar op z a (is_pointer scalar) refl h

  moved_good : (scalar : Scalar) (z : ℤ) (a : AbsVal) → Fits a → Good scalar (if is_pointer scalar then moved m z a else top_of scalar)
  moved_good Ptr z a h = op_good Add Ptr I64 z a moves h
  moved_good I8 z a h = top_good I8
  moved_good I16 z a h = top_good I16
  moved_good I32 z a h = top_good I32
  moved_good I64 z a h = top_good I64
  moved_good U8 z a h = top_good U8
  moved_good U16 z a h = top_good U16
  moved_good U32 z a h = top_good U32
  moved_good U64 z a h = top_good U64

  pub carried_good : (scalar : Scalar) (jump : JumpFn) (a : AbsVal) → Fits a → Good scalar (carried m scalar jump a)
  unfolding carried
  carried_good scalar Unknown a h = top_good scalar
  carried_good scalar (Const c) a h = alone_fits m.limits.size m.limits.ends law scalar c
  carried_good scalar (Pass i op z) a h = passed_good scalar op z a h
  carried_good scalar (Ancestor i z) a h = moved_good scalar z a h
  carried_good scalar (Address (Global k) z) a h = alone_fits m.limits.size m.limits.ends law scalar (GlobalAddress k z)
  carried_good scalar (Address (Local k) z) a h = top_good scalar

  met : (scalar : Scalar) (jump : JumpFn) (local a : AbsVal) → Good scalar local → Fits a → Good scalar (abs_met (carried m scalar jump a) local)
  met scalar jump local a l h =
      let c = carried_good scalar jump a h in
      meet_fits_all m.limits.size m.limits.ends scalar (carried m scalar jump a) local c.0 c.1 l.0 l.1

  pub given_good : (passes : Passes) (scalar : Scalar) (jump : JumpFn) (local a : AbsVal) → Good scalar local → Fits a → Good scalar (given m passes scalar jump local a)
  unfolding given
  given_good passes scalar jump local a l h =
      let c = met scalar jump local a l h in
      (trim_fits m.limits.size m.limits.ends law passes scalar (abs_met (carried m scalar jump a) local) c.0, trim_is_of passes scalar (abs_met (carried m scalar jump a) local) c.1)

  -- ---- rises

  op_up : (op : Op) (scalar other : Scalar) (z : ℤ) (a b : AbsVal) → IsAllowed op scalar other → Fits a → Fits b → abs_val_below a b ≡ true
      → abs_val_below (abs_op_of m.mode op scalar other m.limits.size m.limits.ends (brought_into scalar a) (alone m other z)) (abs_op_of m.mode op scalar other m.limits.size m.limits.ends (brought_into scalar b) (alone m other z)) ≡ true
  op_up op scalar other z a b is f g h =
      let x = brought scalar a f in
      let y = brought scalar b g in
      let c = lone other z in
      op_rises m.limits.size m.limits.ends law m.mode op scalar other is (brought_into scalar a) (alone m other z) (brought_into scalar b) (alone m other z) x.0 x.1 c.0 c.1 y.0 y.1 c.0 c.1
      (brought_rises m.limits.size m.limits.ends law scalar a b f g h) (self (alone m other z) c.0)

  same : (scalar : Scalar) (x : AbsVal) → Good scalar x → abs_val_below x x ≡ true
  same scalar x h = self x h.0

  under_up : (scalar : Scalar) (op : Op) (z : ℤ) (a b : AbsVal) (within : Bool) → is_pointer scalar ≡ false → Fits a → Fits b → abs_val_below a b ≡ true
      → abs_val_below (if within then under m scalar op (right_scalar op scalar z) z a else top_of scalar) (if within then under m scalar op (right_scalar op scalar z) z b else top_of scalar) ≡ true
  under_up scalar op z a b true e f g h = op_up op scalar (right_scalar op scalar z) z a b (allowed op scalar z e) f g h
  under_up scalar op z a b false e f g h = same scalar (top_of scalar) (top_good scalar)

  operated_up : (scalar : Scalar) (op : Op) (z : ℤ) (a b : AbsVal) (pointer : Bool) → is_pointer scalar ≡ pointer → Fits a → Fits b → abs_val_below a b ≡ true
      → abs_val_below (if pointer then top_of scalar else operated m scalar op z a) (if pointer then top_of scalar else operated m scalar op z b) ≡ true
  operated_up scalar op z a b true e f g h = same scalar (top_of scalar) (top_good scalar)
  operated_up scalar op z a b false e f g h = under_up scalar op z a b (in_scalar (right_scalar op scalar z) z) e f g h

  passed_up : (scalar : Scalar) (op : Option Op) (z : ℤ) (a b : AbsVal) → Fits a → Fits b → abs_val_below a b ≡ true → abs_val_below (passed m scalar op z a) (passed m scalar op z b) ≡ true
  passed_up scalar None z a b f g h = brought_rises m.limits.size m.limits.ends law scalar a b f g h
  passed_up scalar (Some op) z a b f g h = operated_up scalar op z a b (is_pointer scalar) refl f g h

  moved_by_up : (scalar : Scalar) (z : ℤ) (a b : AbsVal) (pointer : Bool) → Fits a → Fits b → abs_val_below a b ≡ true
      → abs_val_below (if pointer then moved m z a else top_of scalar) (if pointer then moved m z b else top_of scalar) ≡ true
  moved_by_up scalar z a b true f g h = op_up Add Ptr I64 z a b moves f g h
  moved_by_up scalar z a b false f g h = same scalar (top_of scalar) (top_good scalar)

  pub carried_rises : (scalar : Scalar) (jump : JumpFn) (a b : AbsVal) → Fits a → Fits b → abs_val_below a b ≡ true → abs_val_below (carried m scalar jump a) (carried m scalar jump b) ≡ true
  unfolding carried
  carried_rises scalar Unknown a b f g h = same scalar (top_of scalar) (top_good scalar)
  carried_rises scalar (Const c) a b f g h = same scalar (exactly_of scalar m.limits.size m.limits.ends c) (alone_fits m.limits.size m.limits.ends law scalar c)
  carried_rises scalar (Pass i op z) a b f g h = passed_up scalar op z a b f g h
  carried_rises scalar (Ancestor i z) a b f g h = moved_by_up scalar z a b (is_pointer scalar) f g h
  carried_rises scalar (Address (Global k) z) a b f g h = same scalar (exactly_of scalar m.limits.size m.limits.ends (GlobalAddress k z)) (alone_fits m.limits.size m.limits.ends law scalar (GlobalAddress k z))
  carried_rises scalar (Address (Local k) z) a b f g h = same scalar (top_of scalar) (top_good scalar)

  pub given_rises : (passes : Passes) (scalar : Scalar) (jump : JumpFn) (local a b : AbsVal) → Good scalar local → Fits a → Fits b → abs_val_below a b ≡ true
      → abs_val_below (given m passes scalar jump local a) (given m passes scalar jump local b) ≡ true
  unfolding given
  given_rises passes scalar jump local a b l f g h =
      let x = carried_good scalar jump a f in
      let y = carried_good scalar jump b g in
      trim_rises passes scalar (abs_met (carried m scalar jump a) local) (abs_met (carried m scalar jump b) local)
      (meet_rises m.limits.size m.limits.ends (carried m scalar jump a) local (carried m scalar jump b) local x.0 l.0 y.0 l.0 (carried_rises scalar jump a b f g h) (self local l.0))
