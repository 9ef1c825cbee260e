-- What a call gives to a formal holds the argument.
use Rattle.std.proofs.Common.{◌≡◌, ℕ, ℤ, pos, negsuc, int_le, int_lt, ◌≤ℤ◌, ◌⊎◌, inl, inr, Bool, true, false, if◌then◌else◌, List, Some, None, Ok, refl, sym, ap, ◌∙◌, subst, arith}
use Rattle.std.proofs.lemmas.Int.{ints}
use Rattle.gimple_ir.specs.declared.program.Function.{Function}
use Rattle.gimple_ir.specs.declared.scalar.Scalar.{Scalar}
use Rattle.gimple_ir.specs.declared.scalar.Scalar.TheVariants.{I8, I16, I32, I64, U8, U16, U32, U64, Ptr}
use Rattle.gimple_ir.specs.declared.scalar.Op.{Op}
use Rattle.gimple_ir.specs.declared.scalar.Op.TheVariants.{Add, Sub, Mul, Div, Rem, And, Or, Xor, Shl, Shr}
use Rattle.gimple_ir.specs.declared.value.Constant.{Constant}
use Rattle.gimple_ir.specs.declared.value.Constant.TheVariants.{Int, Null as NullConstant, Global as GlobalAddress}
use Rattle.gimple_ir.specs.declared.value.Value.{Value}
use Rattle.gimple_ir.specs.declared.value.Value.TheVariants.{Int as Number}
use Rattle.gimple_core.specs.Memory.{moved_by}
use Rattle.gimple_core.specs.Operators.{in_scalar}
use Rattle.gimple_core.specs.Run.{arith_of, any_number}
use Rattle.gimple_core.specs.State.{is_of, number_in}
use Rattle.gimple_core.specs.Statements.{is_pointer}
use Rattle.value_domain.specs.declared.abs_val.AbsVal.{AbsVal}
use Rattle.value_domain.specs.AbsOperators.{top_of, abs_met, brought_into}
use Rattle.value_domain.specs.Holding.{Holds, IsAllowed, constant_of}
use Rattle.value_domain.specs.Thresholds.{IsLawful}
use Rattle.value_domain.specs.Values.{FitsWith}
use Rattle.value_domain.proofs.AbsLaws.{op_holds}
use Rattle.value_domain.proofs.AloneLaws.{alone_holds}
use Rattle.value_domain.proofs.BringLaws.{brought_holds}
use Rattle.value_domain.proofs.MeetLaws.{meet_holds_all}
use Rattle.value_domain.proofs.TopLaws.{top_holds}
use Rattle.body_symbols.specs.declared.jumps.JumpFn.{JumpFn}
use Rattle.body_symbols.specs.declared.jumps.JumpFn.TheVariants.{Unknown, Const, Pass, Ancestor, Address}
use Rattle.body_symbols.specs.declared.symbol.Variable.TheVariants.{Global, Local}
use Rattle.body_symbols.specs.Bodies.{value_of_constant}
use Rattle.body_symbols.specs.Claims.{argument_of}
use Rattle.body_symbols.specs.JumpClaims.{JumpStands}
use Rattle.cp_lattices.specs.Carried.{Making, alone, right_scalar, under, operated, moved, carried, given}
use Rattle.cp_lattices.specs.Claims.{SourceHolds, GivenIsGood, GivenRises, GivenHolds}
use Rattle.cp_lattices.proofs.CarryLaws.{allowed, brought, lone, carried_good, given_good, given_rises}
use Rattle.cp_lattices.proofs.TrimLaws.{trim_holds}

-- ---- constants and numbers as values

constant_back : (c : Constant) → constant_of (value_of_constant c) ≡ Some c
constant_back (Int z) = refl
constant_back NullConstant = refl
constant_back (GlobalAddress k z) = refl

of_number : (scalar : Scalar) (z : ℤ) → is_pointer scalar ≡ false → in_scalar scalar z ≡ true → is_of scalar (Number z) ≡ true
of_number I8 z e h = h
of_number I16 z e h = h
of_number I32 z e h = h
of_number I64 z e h = h
of_number U8 z e h = h
of_number U16 z e h = h
of_number U32 z e h = h
of_number U64 z e h = h
of_number Ptr z e h = cc

count_number : (b : Bool) → is_pointer (if b then I64 else U64) ≡ false
count_number true = refl
count_number false = refl

right_number : (op : Op) (scalar : Scalar) (z : ℤ) → is_pointer scalar ≡ false → is_pointer (right_scalar op scalar z) ≡ false
right_number Add scalar z e = e
right_number Sub scalar z e = e
right_number Mul scalar z e = e
right_number Div scalar z e = e
right_number Rem scalar z e = e
right_number And scalar z e = e
right_number Or scalar z e = e
right_number Xor scalar z e = e
right_number Shl scalar z e = count_number (int_lt z (pos 0))
right_number Shr scalar z e = count_number (int_lt z (pos 0))

wide : (n : ℕ) → in_scalar I64 (pos n) ≡ true → in_scalar U64 (pos n) ≡ true
wide n h = grind (arith, ints)

number_there : (scalar : Scalar) (z : ℤ) → in_scalar scalar z ≡ true → number_in scalar (Number z) ≡ z
unfolding number_in
number_there scalar z h = rw h refl

from_zero : (z : ℤ) → pos 0 ≤ℤ z → int_le (pos 0) z ≡ true
from_zero z h = grind (arith, ints)

any_by : (z : ℤ) (b : Bool) → int_le (pos 0) z ≡ b → in_scalar I64 z ≡ true → in_scalar U64 z ≡ true ⊎ (b ≡ false) → any_number (Number z) ≡ z
any_by z true e h (inl w) = ap (λ b. if b then number_in U64 (Number z) else number_in I64 (Number z)) e ∙ number_there U64 z w
any_by z true e h (inr w) = cc
any_by z false e h w = ap (λ b. if b then number_in U64 (Number z) else number_in I64 (Number z)) e ∙ number_there I64 z h

negative : (n : ℕ) → int_le (pos 0) (negsuc n) ≡ false
negative n = refl

any_there : (z : ℤ) → in_scalar I64 z ≡ true → any_number (Number z) ≡ z
any_there (pos n) h = any_by (pos n) true (from_zero (pos n) (omega (arith, ints))) h (inl (wide n h))
any_there (negsuc n) h = any_by (negsuc n) false (negative n) h (inr refl)

pointer_moves : (mode : _) (a : Value) (z : ℤ) → in_scalar I64 z ≡ true → arith_of mode Ptr a Add (Number z) ≡ Ok (moved_by a z)
unfolding arith_of
pointer_moves mode a z h = ap (λ n. Ok (moved_by a n)) (any_there z h)

module _ (m : Making) (law : IsLawful m.limits.ends) where
  abbrev Fits : AbsVal → Type 0
  Fits a = FitsWith m.limits.size m.limits.ends a

  lone_holds : (scalar : Scalar) (z : ℤ) → is_of scalar (Number z) ≡ true → Holds (Number z) (alone m scalar z)
  lone_holds scalar z h = alone_holds m.limits.size m.limits.ends law scalar (Number z) (Int z) h refl

  under_holds : (scalar : Scalar) (op : Op) (other : Scalar) (z : ℤ) (a : AbsVal) (w v : Value) → IsAllowed op scalar other → Fits a → is_of scalar w ≡ true → Holds w a → is_of other (Number z) ≡ true
      → arith_of m.mode scalar w op (Number z) ≡ Ok v → Holds v (under m scalar op other z a)
  under_holds scalar op other z a w v is f of h right e =
      let x = brought m law scalar a f in
      let y = lone m law other z in
      op_holds m.limits.size m.limits.ends law m.mode op scalar other is (brought_into scalar a) (alone m other z) x.0 x.1 y.0 y.1 w (Number z) v of right
      (brought_holds m.limits.size m.limits.ends scalar a f w of h) (lone_holds other z right) e

  operated_at : (scalar : Scalar) (op : Op) (z : ℤ) (a : AbsVal) (w v : Value) → is_pointer scalar ≡ false → Fits a → is_of scalar w ≡ true → Holds w a → is_of scalar v ≡ true → arith_of m.mode scalar w op (Number z) ≡ Ok v
      → (b : Bool) → in_scalar (right_scalar op scalar z) z ≡ b → Holds v (if b then under m scalar op (right_scalar op scalar z) z a else top_of scalar)
  operated_at scalar op z a w v e f of h is run true within =
      under_holds scalar op (right_scalar op scalar z) z a w v (allowed op scalar z e) f of h (of_number (right_scalar op scalar z) z (right_number op scalar z e) within) run
  operated_at scalar op z a w v e f of h is run false within = top_holds scalar v is

  operated_by : (scalar : Scalar) (op : Op) (z : ℤ) (a : AbsVal) (w v : Value) → Fits a → is_of scalar w ≡ true → Holds w a → is_of scalar v ≡ true → arith_of m.mode scalar w op (Number z) ≡ Ok v
      → (b : Bool) → is_pointer scalar ≡ b → Holds v (if b then top_of scalar else operated m scalar op z a)
  operated_by scalar op z a w v f of h is run true e = top_holds scalar v is
  operated_by scalar op z a w v f of h is run false e = operated_at scalar op z a w v e f of h is run (in_scalar (right_scalar op scalar z) z) refl

  moved_at : (scalar : Scalar) (z : ℤ) (a : AbsVal) (w v : Value) → Fits a → is_of scalar w ≡ true → Holds w a → is_of scalar v ≡ true → v ≡ moved_by w z → in_scalar I64 z ≡ true
      → Holds v (if is_pointer scalar then moved m z a else top_of scalar)
  moved_at Ptr z a w v f of h is e within = under_holds Ptr Add I64 z a w v (inl (refl, refl, refl)) f of h (of_number I64 z refl within) (pointer_moves m.mode w z within ∙ ap Ok (sym e))
  moved_at I8 z a w v f of h is e within = top_holds I8 v is
  moved_at I16 z a w v f of h is e within = top_holds I16 v is
  moved_at I32 z a w v f of h is e within = top_holds I32 v is
  moved_at I64 z a w v f of h is e within = top_holds I64 v is
  moved_at U8 z a w v f of h is e within = top_holds U8 v is
  moved_at U16 z a w v f of h is e within = top_holds U16 v is
  moved_at U32 z a w v f of h is e within = top_holds U32 v is
  moved_at U64 z a w v f of h is e within = top_holds U64 v is

  carried_holds : (scalar : Scalar) (f : Function) (arguments : List Value) (serial : ℕ) (jump : JumpFn) (a : AbsVal) (v : Value)
      → Fits a → SourceHolds scalar f arguments jump a → is_of scalar v ≡ true → JumpStands m.mode f arguments serial jump v → Holds v (carried m scalar jump a)
  unfolding carried
  carried_holds scalar f arguments serial Unknown a v fits source is stands = top_holds scalar v is
  carried_holds scalar f arguments serial (Const c) a v fits source is stands = alone_holds m.limits.size m.limits.ends law scalar v c is (ap constant_of stands ∙ constant_back c)
  carried_holds scalar f arguments serial (Pass i None z) a v fits source is stands = brought_holds m.limits.size m.limits.ends scalar a fits v is (subst (λ w. Holds w a) (sym stands) source.holds)
  carried_holds scalar f arguments serial (Pass i (Some op) z) a v fits source is stands =
      operated_by scalar op z a (argument_of f arguments i) v fits source.of source.holds is (ap (λ s. arith_of m.mode s (argument_of f arguments i) op (Number z)) (sym source.scalar_is) ∙ stands) (is_pointer scalar) refl
  carried_holds scalar f arguments serial (Ancestor i z) a v fits source is stands = moved_at scalar z a (argument_of f arguments i) v fits source.0.of source.0.holds is stands source.1
  carried_holds scalar f arguments serial (Address (Global k) z) a v fits source is stands = alone_holds m.limits.size m.limits.ends law scalar v (GlobalAddress k z) is (ap constant_of stands)
  carried_holds scalar f arguments serial (Address (Local k) z) a v fits source is stands = top_holds scalar v is

pub given_holds : GivenHolds
unfolding given
given_holds m law passes scalar f arguments serial jump local a v l fits source is stands held =
    let c = carried_good m law scalar jump a fits in
    trim_holds passes scalar (abs_met (carried m scalar jump a) local) v is
    (meet_holds_all m.limits.size m.limits.ends (carried m scalar jump a) local c.0 l.fits v (carried_holds m law scalar f arguments serial jump a v fits source is stands) held)

pub given_is_good : GivenIsGood
given_is_good m law passes scalar jump local a l fits = let g = given_good m law passes scalar jump local a (l.fits, l.of) fits in record { fits = g.0; of = g.1 }

pub given_rises_all : GivenRises
given_rises_all m law passes scalar jump local a b l f g h = given_rises m law passes scalar jump local a b (l.fits, l.of) f g h
