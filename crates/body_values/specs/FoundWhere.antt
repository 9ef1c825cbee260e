-- Where a value is found.
use Rattle.std.specs.Prelude.{◌≡◌, ℕ, true, List, is_some, ◌==◌, ◌&&◌, Bool, false}
use Rattle.std.specs.List.{list_any}
use Rattle.gimple_ir.specs.declared.point.Point.{Point}
use Rattle.gimple_ir.specs.declared.program.Function.{Function}
use Rattle.gimple_core.specs.Sealed.{Sealed}
use Rattle.std.specs.Str.{bytes_eq}
use Rattle.fix_engine.specs.declared.lifted.Lifted.{Lifted}
use Rattle.fix_engine.specs.declared.lifted.Lifted.TheVariants.{NotReached, Reached}
use Rattle.value_domain.specs.declared.abs_val.AbsVal.{AbsVal}
use Rattle.value_domain.specs.Thresholds.{Limits, IsLawful}
use Rattle.body_values.specs.declared.facts.Facts.{Facts}
use Rattle.body_values.specs.Found.{Found, AreFound, found_row, found_at}
use Rattle.body_values.specs.System.{FactsFit}

abbrev pub IsReached : Lifted (List AbsVal) → Type 0
IsReached NotReached = ⊥
IsReached (Reached row) = Unit {0}

-- whether the point is one of the function and is reached
abbrev pub is_reached : Lifted (List AbsVal) → Bool
is_reached NotReached = false
is_reached (Reached row) = true

abbrev pub reached_at : Found → Point → Bool
reached_at t at = (at.function == t.function) && is_reached (found_row t.rows at.block at.index)

-- the point is one of the function and is reached, and the name is one of its registers
pub record IsKnownAt (t : Found) (at : Point) (name : List ℕ) : Type 0 where
  pub function : at.function ≡ t.function
  pub reached : IsReached (found_row t.rows at.block at.index)
  pub register : list_any (λ r. bytes_eq r.name name) t.registers ≡ true

-- there a value is found
abbrev pub FoundThere : Type 0
FoundThere = (p : Sealed) (n : ℕ) (f : Function) (facts : Facts) (limits : Limits) (t : Found) → IsLawful limits.ends → FactsFit f facts limits.size limits.ends → AreFound p n f facts limits t → (at : Point) (name : List ℕ) →
    IsKnownAt t at name → is_some (found_at t at name) ≡ true

-- and nowhere else
abbrev pub FoundThereAlone : Type 0
FoundThereAlone = (p : Sealed) (n : ℕ) (f : Function) (facts : Facts) (limits : Limits) (t : Found) → IsLawful limits.ends → FactsFit f facts limits.size limits.ends → AreFound p n f facts limits t → (at : Point) (name : List ℕ) →
    is_some (found_at t at name) ≡ true → IsKnownAt t at name
