-- What is promised of what a call gives to a formal.
use Rattle.std.specs.Prelude.{◌≡◌, ℕ, true, List}
use Rattle.gimple_ir.specs.declared.options.Passes.{Passes}
use Rattle.gimple_ir.specs.declared.program.Function.{Function}
use Rattle.gimple_ir.specs.declared.scalar.Scalar.{Scalar}
use Rattle.gimple_ir.specs.declared.scalar.Scalar.TheVariants.{I64}
use Rattle.gimple_ir.specs.declared.value.Value.{Value}
use Rattle.gimple_core.specs.Operators.{in_scalar}
use Rattle.gimple_core.specs.State.{is_of}
use Rattle.value_domain.specs.declared.abs_val.AbsVal.{AbsVal}
use Rattle.value_domain.specs.Holding.{Holds, IsOf}
use Rattle.value_domain.specs.Thresholds.{IsLawful}
use Rattle.value_domain.specs.Values.{FitsWith, abs_val_below}
use Rattle.body_symbols.specs.declared.jumps.JumpFn.{JumpFn}
use Rattle.body_symbols.specs.declared.jumps.JumpFn.TheVariants.{Unknown, Const, Pass, Ancestor, Address}
use Rattle.body_symbols.specs.Claims.{formal_scalar, argument_of}
use Rattle.body_symbols.specs.JumpClaims.{JumpStands}
use Rattle.cp_lattices.specs.Carried.{Making, given}

-- a value that fits, of the scalar
pub record IsGood (m : Making) (scalar : Scalar) (a : AbsVal) : Type 0 where
  pub fits : FitsWith m.limits.size m.limits.ends a
  pub of : IsOf scalar a

-- ---- it fits, is of the formal's scalar, and rises with the value of the caller's formal

abbrev pub GivenIsGood : Type 0
GivenIsGood = (m : Making) → IsLawful m.limits.ends → (passes : Passes) (scalar : Scalar) (jump : JumpFn) (local a : AbsVal) → IsGood m scalar local → FitsWith m.limits.size m.limits.ends a → IsGood m scalar (given m passes scalar jump local a)

abbrev pub GivenRises : Type 0
GivenRises = (m : Making) → IsLawful m.limits.ends → (passes : Passes) (scalar : Scalar) (jump : JumpFn) (local a b : AbsVal) → IsGood m scalar local → FitsWith m.limits.size m.limits.ends a → FitsWith m.limits.size m.limits.ends b
    → abs_val_below a b ≡ true → abs_val_below (given m passes scalar jump local a) (given m passes scalar jump local b) ≡ true

-- ---- it holds the argument

-- the caller's argument that a jump function speaks of is in this value, and of the scalar; it is moved by an i64
pub record IsSource (scalar : Scalar) (f : Function) (arguments : List Value) (i : ℕ) (a : AbsVal) : Type 0 where
  pub scalar_is : formal_scalar f i ≡ scalar
  pub of : is_of scalar (argument_of f arguments i) ≡ true
  pub holds : Holds (argument_of f arguments i) a

abbrev pub SourceHolds : Scalar → Function → List Value → JumpFn → AbsVal → Type 0
SourceHolds scalar f arguments Unknown a = Unit {0}
SourceHolds scalar f arguments (Const c) a = Unit {0}
SourceHolds scalar f arguments (Pass i op z) a = IsSource scalar f arguments i a
SourceHolds scalar f arguments (Ancestor i z) a = IsSource scalar f arguments i a × (in_scalar I64 z ≡ true)
SourceHolds scalar f arguments (Address x z) a = Unit {0}

-- an argument of the scalar that is what the jump function says, and in the value that is known there
abbrev pub GivenHolds : Type 0
GivenHolds = (m : Making) → IsLawful m.limits.ends → (passes : Passes) (scalar : Scalar) (f : Function) (arguments : List Value) (serial : ℕ) (jump : JumpFn) (local a : AbsVal) (v : Value)
    → IsGood m scalar local → FitsWith m.limits.size m.limits.ends a → SourceHolds scalar f arguments jump a → is_of scalar v ≡ true → JumpStands m.mode f arguments serial jump v → Holds v local
    → Holds v (given m passes scalar jump local a)
