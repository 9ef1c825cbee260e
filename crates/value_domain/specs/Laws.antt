-- What is promised of the operators, with a limit of constants and lawful thresholds.
use Rattle.std.specs.Prelude.{◌≡◌, ◌⊎◌, ℕ, ℤ, true, false, List, Some, Result, Ok}
use Rattle.gimple_ir.specs.declared.scalar.Scalar.{Scalar}
use Rattle.gimple_ir.specs.declared.scalar.Mode.{Mode}
use Rattle.gimple_ir.specs.declared.scalar.Op.{Op}
use Rattle.gimple_ir.specs.declared.scalar.Cmp.{Cmp}
use Rattle.gimple_ir.specs.declared.value.TrapKind.{TrapKind}
use Rattle.gimple_ir.specs.declared.value.Value.{Value}
use Rattle.gimple_ir.specs.declared.value.Constant.{Constant}
use Rattle.gimple_core.specs.Run.{arith_of, compares, one_if, converted}
use Rattle.gimple_core.specs.Statements.{is_pointer}
use Rattle.gimple_core.specs.State.{is_of}
use Rattle.value_domain.specs.declared.abs_val.AbsVal.{AbsVal}
use Rattle.value_domain.specs.AbsOperators.{abs_op_of, abs_cmp_of, abs_convert_of, abs_met, refined_of, known_of, may_trap_of, brought_into, top_of, exactly_of}
use Rattle.value_domain.specs.Values.{FitsWith, abs_val_below, abs_val_joined, kind_of, limit_in, thresholds_in}
use Rattle.value_domain.specs.Thresholds.{IsLawful}
use Rattle.value_domain.specs.Holding.{Holds, constant_of, IsOf, IsAllowed, MayCompare}

abbrev pub done : Value → Result Value TrapKind
done x = Ok x

-- where the sides hold the values and the operator does not trap, the result is in the abstract result
abbrev pub OpHolds : Type 0
OpHolds = (most : ℕ) (ts : List ℤ) → IsLawful ts → (mode : Mode) (op : Op) (scalar other : Scalar) → IsAllowed op scalar other
    → (a b : AbsVal) → FitsWith most ts a → IsOf scalar a → FitsWith most ts b → IsOf other b
    → (v w x : Value) → is_of scalar v ≡ true → is_of other w ≡ true → Holds v a → Holds w b
    → arith_of mode scalar v op w ≡ done x → Holds x (abs_op_of mode op scalar other most ts a b)

-- the abstract result fits the kind and is of the scalar
abbrev pub OpFits : Type 0
OpFits = (most : ℕ) (ts : List ℤ) → IsLawful ts → (mode : Mode) (op : Op) (scalar other : Scalar) → IsAllowed op scalar other
    → (a b : AbsVal) → FitsWith most ts a → IsOf scalar a → FitsWith most ts b → IsOf other b
    → FitsWith most ts (abs_op_of mode op scalar other most ts a b) × IsOf scalar (abs_op_of mode op scalar other most ts a b)

-- it rises with each side
abbrev pub OpRises : Type 0
OpRises = (most : ℕ) (ts : List ℤ) → IsLawful ts → (mode : Mode) (op : Op) (scalar other : Scalar) → IsAllowed op scalar other
    → (a b c d : AbsVal) → FitsWith most ts a → IsOf scalar a → FitsWith most ts b → IsOf other b → FitsWith most ts c → IsOf scalar c → FitsWith most ts d → IsOf other d
    → abs_val_below a c ≡ true → abs_val_below b d ≡ true → abs_val_below (abs_op_of mode op scalar other most ts a b) (abs_op_of mode op scalar other most ts c d) ≡ true

abbrev pub CmpHolds : Type 0
CmpHolds = (most : ℕ) (ts : List ℤ) → IsLawful ts → (target : Scalar) (cmp : Cmp) (scalar : Scalar) → is_pointer target ≡ false
    → (a b : AbsVal) → FitsWith most ts a → IsOf scalar a → FitsWith most ts b → IsOf scalar b
    → (v w : Value) → is_of scalar v ≡ true → is_of scalar w ≡ true → Holds v a → Holds w b
    → Holds (one_if (compares v cmp w)) (abs_cmp_of target cmp scalar most a b)

abbrev pub CmpFits : Type 0
CmpFits = (most : ℕ) (ts : List ℤ) → IsLawful ts → (target : Scalar) (cmp : Cmp) (scalar : Scalar) → is_pointer target ≡ false
    → (a b : AbsVal) → FitsWith most ts (abs_cmp_of target cmp scalar most a b) × IsOf target (abs_cmp_of target cmp scalar most a b)

abbrev pub CmpRises : Type 0
CmpRises = (most : ℕ) (ts : List ℤ) → IsLawful ts → (target : Scalar) (cmp : Cmp) (scalar : Scalar) → is_pointer target ≡ false
    → (a b c d : AbsVal) → FitsWith most ts a → IsOf scalar a → FitsWith most ts b → IsOf scalar b → FitsWith most ts c → IsOf scalar c → FitsWith most ts d → IsOf scalar d
    → abs_val_below a c ≡ true → abs_val_below b d ≡ true → abs_val_below (abs_cmp_of target cmp scalar most a b) (abs_cmp_of target cmp scalar most c d) ≡ true

abbrev pub ConvertHolds : Type 0
ConvertHolds = (most : ℕ) (ts : List ℤ) → IsLawful ts → (target source : Scalar) → is_pointer target ≡ false → is_pointer source ≡ false
    → (a : AbsVal) → FitsWith most ts a → IsOf source a → (v : Value) → is_of source v ≡ true → Holds v a
    → Holds (converted target v) (abs_convert_of target source most ts a)

abbrev pub ConvertFits : Type 0
ConvertFits = (most : ℕ) (ts : List ℤ) → IsLawful ts → (target source : Scalar) → is_pointer target ≡ false → is_pointer source ≡ false
    → (a : AbsVal) → FitsWith most ts a → IsOf source a
    → FitsWith most ts (abs_convert_of target source most ts a) × IsOf target (abs_convert_of target source most ts a)

abbrev pub ConvertRises : Type 0
ConvertRises = (most : ℕ) (ts : List ℤ) → IsLawful ts → (target source : Scalar) → is_pointer target ≡ false → is_pointer source ≡ false
    → (a c : AbsVal) → FitsWith most ts a → IsOf source a → FitsWith most ts c → IsOf source c
    → abs_val_below a c ≡ true → abs_val_below (abs_convert_of target source most ts a) (abs_convert_of target source most ts c) ≡ true

-- what holds below holds above
abbrev pub AboveHolds : Type 0
AboveHolds = (most : ℕ) (ts : List ℤ) (a b : AbsVal) → FitsWith most ts a → abs_val_below a b ≡ true → (v : Value) → Holds v a → Holds v b

-- a join holds what either side holds
abbrev pub JoinHolds : Type 0
JoinHolds = (most : ℕ) (ts : List ℤ) (a b : AbsVal) → FitsWith most ts a → FitsWith most ts b → (v : Value) → Holds v a ⊎ Holds v b → Holds v (abs_val_joined a b)

-- a meet holds each value that both hold
abbrev pub MeetHolds : Type 0
MeetHolds = (most : ℕ) (ts : List ℤ) (a b : AbsVal) → FitsWith most ts a → FitsWith most ts b → (v : Value) → Holds v a → Holds v b → Holds v (abs_met a b)

abbrev pub MeetFits : Type 0
MeetFits = (most : ℕ) (ts : List ℤ) (scalar : Scalar) (a b : AbsVal) → FitsWith most ts a → IsOf scalar a → FitsWith most ts b → IsOf scalar b
    → FitsWith most ts (abs_met a b) × IsOf scalar (abs_met a b)

-- what is left of a side where a comparison is taken holds the side's value
abbrev pub RefineHolds : Type 0
RefineHolds = (most : ℕ) (ts : List ℤ) → IsLawful ts → (cmp : Cmp) (scalar : Scalar) → MayCompare cmp scalar
    → (a b : AbsVal) → FitsWith most ts a → IsOf scalar a → FitsWith most ts b → IsOf scalar b
    → (v w : Value) → is_of scalar v ≡ true → is_of scalar w ≡ true → Holds v a → Holds w b → compares v cmp w ≡ true
    → Holds v (refined_of cmp ts a b)

abbrev pub RefineFits : Type 0
RefineFits = (most : ℕ) (ts : List ℤ) → IsLawful ts → (cmp : Cmp) (scalar : Scalar) → MayCompare cmp scalar
    → (a b : AbsVal) → FitsWith most ts a → IsOf scalar a → FitsWith most ts b → IsOf scalar b
    → FitsWith most ts (refined_of cmp ts a b) × IsOf scalar (refined_of cmp ts a b)

-- a known constant is the value
abbrev pub KnownHolds : Type 0
KnownHolds = (most : ℕ) (ts : List ℤ) (scalar : Scalar) (a : AbsVal) → FitsWith most ts a → IsOf scalar a
    → (v : Value) (c : Constant) → is_of scalar v ≡ true → Holds v a → known_of scalar a ≡ Some c → constant_of v ≡ Some c

-- what is brought into a scalar is of it, rises with the value, and a value of the scalar stays as it is
abbrev pub BroughtFits : Type 0
BroughtFits = (most : ℕ) (ts : List ℤ) → IsLawful ts → (scalar : Scalar) (a : AbsVal) → FitsWith most ts a → FitsWith most ts (brought_into scalar a) × IsOf scalar (brought_into scalar a)

abbrev pub BroughtRises : Type 0
BroughtRises = (most : ℕ) (ts : List ℤ) → IsLawful ts → (scalar : Scalar) (a c : AbsVal) → FitsWith most ts a → FitsWith most ts c
    → abs_val_below a c ≡ true → abs_val_below (brought_into scalar a) (brought_into scalar c) ≡ true

abbrev pub BroughtSame : Type 0
BroughtSame = (most : ℕ) (ts : List ℤ) (scalar : Scalar) (a : AbsVal) → FitsWith most ts a → IsOf scalar a → brought_into scalar a ≡ a

-- what is brought into a scalar holds each value of the scalar that was held
abbrev pub BroughtHolds : Type 0
BroughtHolds = (most : ℕ) (ts : List ℤ) (scalar : Scalar) (a : AbsVal) → FitsWith most ts a → (v : Value) → is_of scalar v ≡ true → Holds v a → Holds v (brought_into scalar a)

abbrev pub MeetRises : Type 0
MeetRises = (most : ℕ) (ts : List ℤ) (a b c d : AbsVal) → FitsWith most ts a → FitsWith most ts b → FitsWith most ts c → FitsWith most ts d
    → abs_val_below a c ≡ true → abs_val_below b d ≡ true → abs_val_below (abs_met a b) (abs_met c d) ≡ true

abbrev pub RefineRises : Type 0
RefineRises = (most : ℕ) (ts : List ℤ) → IsLawful ts → (cmp : Cmp) (scalar : Scalar) → MayCompare cmp scalar
    → (a b c d : AbsVal) → FitsWith most ts a → IsOf scalar a → FitsWith most ts b → IsOf scalar b → FitsWith most ts c → IsOf scalar c → FitsWith most ts d → IsOf scalar d
    → abs_val_below a c ≡ true → abs_val_below b d ≡ true → abs_val_below (refined_of cmp ts a b) (refined_of cmp ts c d) ≡ true

-- where `may_trap` is false no pair of values traps
abbrev pub NoTrap : Type 0
NoTrap = (most : ℕ) (ts : List ℤ) (mode : Mode) (op : Op) (scalar other : Scalar) → IsAllowed op scalar other
    → (a b : AbsVal) → FitsWith most ts a → IsOf scalar a → FitsWith most ts b → IsOf other b
    → (v w : Value) → is_of scalar v ≡ true → is_of other w ≡ true → Holds v a → Holds w b
    → may_trap_of mode op scalar a b ≡ false → (x : Value) × (arith_of mode scalar v op w ≡ done x)

-- the top of a scalar holds each value of it
abbrev pub TopHolds : Type 0
TopHolds = (scalar : Scalar) (v : Value) → is_of scalar v ≡ true → Holds v (top_of scalar)

abbrev pub TopFits : Type 0
TopFits = (most : ℕ) (ts : List ℤ) → IsLawful ts → (scalar : Scalar) → FitsWith most ts (top_of scalar) × IsOf scalar (top_of scalar)

-- what holds a constant of the scalar holds the value that it stands for
abbrev pub AloneHolds : Type 0
AloneHolds = (most : ℕ) (ts : List ℤ) → IsLawful ts → (scalar : Scalar) (v : Value) (c : Constant) → is_of scalar v ≡ true → constant_of v ≡ Some c
    → Holds v (exactly_of scalar most ts c)

abbrev pub AloneFits : Type 0
AloneFits = (most : ℕ) (ts : List ℤ) → IsLawful ts → (scalar : Scalar) (c : Constant) → FitsWith most ts (exactly_of scalar most ts c) × IsOf scalar (exactly_of scalar most ts c)

-- a kind gives back what it was made of
abbrev pub KindLimit : Type 0
KindLimit = (most : ℕ) (ts : List ℤ) → limit_in (kind_of most ts) ≡ most

abbrev pub KindThresholds : Type 0
KindThresholds = (most : ℕ) (ts : List ℤ) → IsLawful ts → thresholds_in (kind_of most ts) ≡ ts
