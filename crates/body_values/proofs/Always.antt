-- The values hold in each run.
use Rattle.std.proofs.Common.{◌≡◌, ℕ, ℤ, true, List, sym, subst}
use Rattle.std.specs.List.{list_all}
use Rattle.gimple_ir.specs.declared.scalar.Scalar.TheVariants.{I64}
use Rattle.gimple_ir.specs.declared.program.Function.{Function}
use Rattle.gimple_core.specs.Sealed.{Sealed}
use Rattle.gimple_core.specs.Operators.{in_scalar}
use Rattle.gimple_core.specs.State.{State}
use Rattle.gimple_core.specs.Trace.{Event, Entry, At, Load, Store, Leave}
use Rattle.gimple_claims.specs.Bodies.{Meets, FactsClaim}
use Rattle.gimple_claims.proofs.Comes.{Comes}
use Rattle.gimple_claims.proofs.Points.{IsQuiet, points_each, meets_of}
use Rattle.fix_engine.specs.declared.lifted.Lifted.{Lifted}
use Rattle.value_domain.specs.declared.abs_val.AbsVal.{AbsVal}
use Rattle.body_values.specs.declared.facts.Facts.{Facts}
use Rattle.body_values.specs.Flow.{body_of, values_at}
use Rattle.body_values.specs.Claims.{FileHolds, given_of, ValuesClaim, PointsHold, Analysed, ValuesHold, ValuesHoldAlways, FoundAnalysed}
use Rattle.gimple_claims.proofs.OneRun.{each_before, in_run}
use Rattle.body_values.proofs.Points.{is_at}

module _ (p : Sealed) (n : ℕ) (f : Function) (facts : Facts) (most : ℕ) (ts : List ℤ) (xs : List (Lifted (List AbsVal))) (h : Analysed p n f facts most ts xs) where
  pub values_at_state : (input : List ℤ) → list_all (in_scalar I64) input ≡ true → (past : List Event) (s : State) → Comes p input past s → s.top.function ≡ f → Meets f (given_of n f facts) s.top.serial past →
      FileHolds (values_at (body_of p n f facts most ts) f.blocks xs s.top.block s.top.index) s.world.registers
  values_at_state input numbers past s c same meets = let at = is_at p n f facts most ts xs h input numbers past s c same meets in subst (λ x. FileHolds x s.world.registers) (sym at.reached) at.holds

quiet_values : (p : Sealed) (n : ℕ) (f : Function) (facts : Facts) (most : ℕ) (ts : List ℤ) (xs : List (Lifted (List AbsVal))) → IsQuiet (ValuesClaim p n f facts most ts xs)
quiet_values p n f facts most ts xs past (Entry s g arguments m caller) q = tt
quiet_values p n f facts most ts xs past (At c w) q = absurd q
quiet_values p n f facts most ts xs past (Load c scalar object offset v) q = tt
quiet_values p n f facts most ts xs past (Store c scalar object offset v) q = tt
quiet_values p n f facts most ts xs past (Leave s) q = tt

quiet_points : (p : Sealed) (n : ℕ) (f : Function) (facts : Facts) (most : ℕ) (ts : List ℤ) (xs : List (Lifted (List AbsVal))) → IsQuiet (PointsHold p n f facts most ts xs)
quiet_points p n f facts most ts xs past (Entry s g arguments m caller) q = tt
quiet_points p n f facts most ts xs past (At c w) q = absurd q
quiet_points p n f facts most ts xs past (Load c scalar object offset v) q = tt
quiet_points p n f facts most ts xs past (Store c scalar object offset v) q = tt
quiet_points p n f facts most ts xs past (Leave s) q = tt

pub values_hold : ValuesHold
values_hold p n f facts most ts xs h input numbers turns =
    in_run p (ValuesClaim p n f facts most ts xs) input (λ s e. tt)
    (points_each p (ValuesClaim p n f facts most ts xs) input (quiet_values p n f facts most ts xs) (λ past s c same meets. values_at_state p n f facts most ts xs h input numbers past s c same meets)) turns

pub values_hold_always : ValuesHoldAlways
values_hold_always p n f facts most ts xs h all input numbers turns =
    in_run p (PointsHold p n f facts most ts xs) input (λ s e. tt)
    (points_each p (PointsHold p n f facts most ts xs) input (quiet_points p n f facts most ts xs)
    (λ past s c same. values_at_state p n f facts most ts xs h input numbers past s c same
    (meets_of f (given_of n f facts) s.top.serial past (each_before p (FactsClaim f (given_of n f facts)) input (all input numbers) past s c)))) turns

pub found_analysed : FoundAnalysed
found_analysed p n f facts limits t accepted lawful fit found = record { accepted = accepted; lawful = lawful; fit = fit; solves = found.values.solves }
