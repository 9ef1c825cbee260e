-- Values where known bits or intervals are off: that part says nothing.
use Rattle.std.specs.Prelude.{◌≡◌, ℕ, ℤ, true, if◌then◌else◌, List}
use Rattle.gimple_ir.specs.declared.options.Passes.{Passes}
use Rattle.gimple_ir.specs.declared.scalar.Scalar.{Scalar}
use Rattle.gimple_ir.specs.declared.value.Value.{Value}
use Rattle.gimple_core.specs.State.{is_of}
use Rattle.value_domain.specs.declared.abs_val.AbsVal.{AbsVal}
use Rattle.value_domain.specs.AbsOperators.{span_of}
use Rattle.value_domain.specs.BitOperators.{unknown_bits}
use Rattle.value_domain.specs.Holding.{Holds, IsOf}
use Rattle.value_domain.specs.Thresholds.{IsLawful}
use Rattle.value_domain.specs.Values.{FitsWith, is_none_val, abs_val_below}

abbrev pub without_bits : AbsVal → AbsVal
without_bits a = if is_none_val a then a else record a { bits = unknown_bits }

abbrev pub without_range : Scalar → AbsVal → AbsVal
without_range scalar a = if is_none_val a then a else record a { range = span_of scalar }

abbrev pub bits_by : Passes → AbsVal → AbsVal
bits_by passes a = if passes.bit_cp then a else without_bits a

unfoldable pub trimmed : Passes → Scalar → AbsVal → AbsVal
trimmed passes scalar a = if passes.vrp then bits_by passes a else without_range scalar (bits_by passes a)

-- ---- what holds of it

abbrev pub TrimFits : Type 0
TrimFits = (most : ℕ) (ts : List ℤ) → IsLawful ts → (passes : Passes) (scalar : Scalar) (a : AbsVal) → FitsWith most ts a → FitsWith most ts (trimmed passes scalar a)

abbrev pub TrimIsOf : Type 0
TrimIsOf = (passes : Passes) (scalar : Scalar) (a : AbsVal) → IsOf scalar a → IsOf scalar (trimmed passes scalar a)

abbrev pub TrimRises : Type 0
TrimRises = (passes : Passes) (scalar : Scalar) (a c : AbsVal) → abs_val_below a c ≡ true → abs_val_below (trimmed passes scalar a) (trimmed passes scalar c) ≡ true

abbrev pub TrimHolds : Type 0
TrimHolds = (passes : Passes) (scalar : Scalar) (a : AbsVal) (v : Value) → is_of scalar v ≡ true → Holds v a → Holds v (trimmed passes scalar a)
