-- What the values at a point promise of a run that is there: of a register that is looked up, and of an operand.
use Rattle.std.specs.Prelude.{◌≡◌, ℕ, ℤ, true, List, None, IsSomeAnd, Ok}
use Rattle.std.specs.List.{list_any}
use Rattle.std.specs.Str.{bytes_eq}
use Rattle.gimple_ir.specs.declared.operand.Operand.{Operand}
use Rattle.gimple_ir.specs.declared.program.Function.{Function}
use Rattle.gimple_ir.specs.declared.scalar.Scalar.{Scalar}
use Rattle.gimple_core.specs.Sealed.{Sealed}
use Rattle.gimple_core.specs.State.{scope_of, value_in}
use Rattle.gimple_core.specs.Run.{value_of}
use Rattle.gimple_core.specs.Statements as check
use Rattle.gimple_core.specs.Trace.{Event, Entry, At, Load, Store, Leave, InEachRun}
use Rattle.gimple_core.specs.Accepted.{first_fault}
use Rattle.gimple_claims.specs.Bodies.{Meets, FactsClaim}
use Rattle.gimple_claims.specs.Checks.{env_of}
use Rattle.fix_engine.specs.declared.lifted.Lifted.{Lifted}
use Rattle.block_flow.specs.Runs.{ReachedWith}
use Rattle.value_domain.specs.declared.abs_val.AbsVal.{AbsVal}
use Rattle.value_domain.specs.Holding.{Holds}
use Rattle.value_domain.specs.Thresholds.{Limits, IsLawful}
use Rattle.body_values.specs.declared.facts.Facts.{Facts}
use Rattle.body_values.specs.Bodies.{operand_value}
use Rattle.body_values.specs.Flow.{body_of, values_at}
use Rattle.body_values.specs.Found.{Found, AreFound, found_at}
use Rattle.body_values.specs.Claims.{given_of, Analysed}
use Rattle.body_values.specs.System.{FactsFit}

-- ---- a register

-- at this point of the function a value is found of each of its registers, and the register has a value of it
abbrev pub EachFound : ℕ → Found → Event → Type 0
EachFound n t (Entry serial g arguments m caller) = Unit {0}
EachFound n t (At c w) =
    (name : List ℕ) → list_any (λ r. bytes_eq r.name name) t.registers ≡ true → IsSomeAnd (found_at t (record { function = n; block = c.block; index = c.index }) name) (Holds (value_in (scope_of c) w.registers name))
EachFound n t (Load c scalar object offset v) = Unit {0}
EachFound n t (Store c scalar object offset v) = Unit {0}
EachFound n t (Leave serial) = Unit {0}

-- so at each point of each activation whose arguments and loads so far meet the facts
abbrev pub FoundClaim : ℕ → Function → Facts → Found → List Event → Event → Type 0
FoundClaim n f facts t past (Entry serial g arguments m caller) = Unit {0}
FoundClaim n f facts t past (At c w) = c.function ≡ f → Meets f (given_of n f facts) c.serial past → EachFound n t (At c w)
FoundClaim n f facts t past (Load c scalar object offset v) = Unit {0}
FoundClaim n f facts t past (Store c scalar object offset v) = Unit {0}
FoundClaim n f facts t past (Leave serial) = Unit {0}

-- or of each activation
abbrev pub FoundAlways : ℕ → Function → Found → List Event → Event → Type 0
FoundAlways n f t past (Entry serial g arguments m caller) = Unit {0}
FoundAlways n f t past (At c w) = c.function ≡ f → EachFound n t (At c w)
FoundAlways n f t past (Load c scalar object offset v) = Unit {0}
FoundAlways n f t past (Store c scalar object offset v) = Unit {0}
FoundAlways n f t past (Leave serial) = Unit {0}

-- what is found of a function of a program without a type fault, from facts that fit
pub record IsFoundOf (p : Sealed) (n : ℕ) (f : Function) (facts : Facts) (limits : Limits) (t : Found) : Type 0 where
  pub accepted : first_fault p.program ≡ None
  pub lawful : IsLawful limits.ends
  pub fit : FactsFit f facts limits.size limits.ends
  pub found : AreFound p n f facts limits t

abbrev pub FoundHold : Type 0
FoundHold = (p : Sealed) (n : ℕ) (f : Function) (facts : Facts) (limits : Limits) (t : Found) → IsFoundOf p n f facts limits t → InEachRun p (FoundClaim n f facts t)

-- where the facts hold in each run
abbrev pub FoundHoldAlways : Type 0
FoundHoldAlways = (p : Sealed) (n : ℕ) (f : Function) (facts : Facts) (limits : Limits) (t : Found) → IsFoundOf p n f facts limits t → InEachRun p (FactsClaim f (given_of n f facts)) → InEachRun p (FoundAlways n f t)

-- ---- an operand

-- at each point of each activation that meets the facts, of an operand that may stand there as a value of this scalar
abbrev pub OperandClaim : Sealed → ℕ → Function → Facts → ℕ → List ℤ → List (Lifted (List AbsVal)) → List Event → Event → Type 0
OperandClaim p n f facts most ts xs past (Entry serial g arguments m caller) = Unit {0}
OperandClaim p n f facts most ts xs past (At c w) = c.function ≡ f → Meets f (given_of n f facts) c.serial past → (scalar : Scalar) (x : Operand) → check.operand (env_of p.program f) 4 scalar x ≡ Ok tt →
    ReachedWith (λ row. Holds (value_of p.program.globals (scope_of c) w.registers x) (operand_value (body_of p n f facts most ts) row scalar x)) (values_at (body_of p n f facts most ts) f.blocks xs c.block c.index)
OperandClaim p n f facts most ts xs past (Load c scalar object offset v) = Unit {0}
OperandClaim p n f facts most ts xs past (Store c scalar object offset v) = Unit {0}
OperandClaim p n f facts most ts xs past (Leave serial) = Unit {0}

abbrev pub OperandsHold : Type 0
OperandsHold = (p : Sealed) (n : ℕ) (f : Function) (facts : Facts) (most : ℕ) (ts : List ℤ) (xs : List (Lifted (List AbsVal))) → Analysed p n f facts most ts xs → InEachRun p (OperandClaim p n f facts most ts xs)
