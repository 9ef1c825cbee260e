-- What the values of a body promise of its runs.
use Rattle.std.specs.Prelude.{◌≡◌, ℕ, ◌+◌, ℤ, List, [], ◌∷◌, None, IfSome, slice_get, unwrap_or}
use Rattle.gimple_ir.specs.declared.value.Value.{Value}
use Rattle.gimple_ir.specs.declared.declarations.Register.{Register}
use Rattle.gimple_ir.specs.declared.program.Function.{Function}
use Rattle.gimple_core.specs.Sealed.{Sealed}
use Rattle.gimple_core.specs.State.{zero_of}
use Rattle.gimple_core.specs.Trace.{Event, Entry, At, Load, Store, Leave, InEachRun}
use Rattle.gimple_core.specs.Accepted.{first_fault}
use Rattle.gimple_claims.specs.Bodies.{Facts as Given, Meets, FactsClaim}
use Rattle.fix_engine.specs.declared.lifted.Lifted.{Lifted}
use Rattle.block_flow.specs.Runs.{ReachedWith}
use Rattle.value_domain.specs.declared.abs_val.AbsVal.{AbsVal}
use Rattle.value_domain.specs.Holding.{Holds}
use Rattle.value_domain.specs.Thresholds.{Limits, IsLawful}
use Rattle.body_values.specs.declared.facts.Facts.{Facts}
use Rattle.body_values.specs.Flow.{given_load, body_of, Solves, values_at}
use Rattle.body_values.specs.Found.{Found, AreFound}
use Rattle.body_values.specs.System.{FactsFit}

-- each register holds a value of its abstract value
abbrev pub RowHolds : List AbsVal → List Value → Type 0
RowHolds [] [] = Unit {0}
RowHolds [] (v ∷ vs) = ⊥
RowHolds (a ∷ row) [] = ⊥
RowHolds (a ∷ row) (v ∷ vs) = Holds v a × RowHolds row vs

-- the point is reached, and so they do
abbrev pub FileHolds : Lifted (List AbsVal) → List Value → Type 0
FileHolds x values = ReachedWith (λ row. RowHolds row values) x

-- each argument is in its formal's fact; a formal without an argument is zero or null
abbrev pub FormalsMeet : List Register → List AbsVal → List Value → ℕ → Type 0
FormalsMeet [] formals arguments k = Unit {0}
FormalsMeet (r ∷ rs) [] arguments k = Unit {0}
FormalsMeet (r ∷ rs) (a ∷ formals) arguments k = Holds (unwrap_or (slice_get arguments k) (zero_of r.scalar)) a × FormalsMeet rs formals arguments (k + 1)

-- what the facts say of the arguments, and of the values that loads give
abbrev pub given_of : ℕ → Function → Facts → Given
given_of n f facts = record { entry = λ arguments m. FormalsMeet f.params facts.formals arguments 0; load = λ at v. IfSome (given_load facts.loads n at.block at.index) (Holds v) }

-- Of one activation of the function, whatever others do: where its arguments and its loads so far meet the facts, it is at
-- a reached point, and each register is in its value there.
abbrev pub ValuesClaim : Sealed → ℕ → Function → Facts → ℕ → List ℤ → List (Lifted (List AbsVal)) → List Event → Event → Type 0
ValuesClaim p n f facts most ts xs past (Entry serial g arguments m caller) = Unit {0}
ValuesClaim p n f facts most ts xs past (At c w) = c.function ≡ f → Meets f (given_of n f facts) c.serial past → FileHolds (values_at (body_of p n f facts most ts) f.blocks xs c.block c.index) w.registers
ValuesClaim p n f facts most ts xs past (Load c scalar object offset v) = Unit {0}
ValuesClaim p n f facts most ts xs past (Store c scalar object offset v) = Unit {0}
ValuesClaim p n f facts most ts xs past (Leave serial) = Unit {0}

-- each point at which the function is
abbrev pub PointsHold : Sealed → ℕ → Function → Facts → ℕ → List ℤ → List (Lifted (List AbsVal)) → List Event → Event → Type 0
PointsHold p n f facts most ts xs past (Entry serial g arguments m caller) = Unit {0}
PointsHold p n f facts most ts xs past (At c w) = c.function ≡ f → FileHolds (values_at (body_of p n f facts most ts) f.blocks xs c.block c.index) w.registers
PointsHold p n f facts most ts xs past (Load c scalar object offset v) = Unit {0}
PointsHold p n f facts most ts xs past (Store c scalar object offset v) = Unit {0}
PointsHold p n f facts most ts xs past (Leave serial) = Unit {0}

-- a solution of the equations of a function of a program without a type fault, for facts that fit
pub record Analysed (p : Sealed) (n : ℕ) (f : Function) (facts : Facts) (most : ℕ) (ts : List ℤ) (xs : List (Lifted (List AbsVal))) : Type 0 where
  pub accepted : first_fault p.program ≡ None
  pub lawful : IsLawful ts
  pub fit : FactsFit f facts most ts
  pub solves : Solves p n f facts most ts xs

-- of each activation that meets the facts
abbrev pub ValuesHold : Type 0
ValuesHold = (p : Sealed) (n : ℕ) (f : Function) (facts : Facts) (most : ℕ) (ts : List ℤ) (xs : List (Lifted (List AbsVal))) → Analysed p n f facts most ts xs → InEachRun p (ValuesClaim p n f facts most ts xs)

-- where the facts hold in each run, of each activation
abbrev pub ValuesHoldAlways : Type 0
ValuesHoldAlways = (p : Sealed) (n : ℕ) (f : Function) (facts : Facts) (most : ℕ) (ts : List ℤ) (xs : List (Lifted (List AbsVal))) → Analysed p n f facts most ts xs → InEachRun p (FactsClaim f (given_of n f facts)) → InEachRun p (PointsHold p n f facts most ts xs)

-- the values that are found of a function are such a solution
abbrev pub FoundAnalysed : Type 0
FoundAnalysed = (p : Sealed) (n : ℕ) (f : Function) (facts : Facts) (limits : Limits) (t : Found) → first_fault p.program ≡ None → IsLawful limits.ends → FactsFit f facts limits.size limits.ends
    → (found : AreFound p n f facts limits t) → Analysed p n f facts limits.size limits.ends found.begins
