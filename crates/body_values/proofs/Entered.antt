-- The values at the entry of a function hold of its registers.
use Rattle.std.proofs.Common.{◌≡◌, ℕ, ◌+◌, ℤ, Bool, true, false, List, [], ◌∷◌, ◌++◌, map, length, refl, arith}
use Rattle.std.specs.List.{list_any}
use Rattle.gimple_ir.specs.declared.declarations.Register.{Register}
use Rattle.gimple_ir.specs.declared.value.Value.{Value}
use Rattle.gimple_ir.specs.declared.program.Function.{Function}
use Rattle.gimple_core.specs.State.{zero_of}
use Rattle.gimple_core.specs.Run.{values_made, registers_made}
use Rattle.gimple_claims.proofs.TypedValues.{zero_is}
use Rattle.fix_engine.specs.Rows.{Each}
use Rattle.value_domain.specs.declared.abs_val.AbsVal.{AbsVal}
use Rattle.value_domain.specs.Values.{FitsWith, is_none_val}
use Rattle.value_domain.specs.Thresholds.{IsLawful}
use Rattle.value_domain.proofs.AloneLaws.{alone_holds}
use Rattle.value_domain.proofs.AboveLaws.{not_none}
use Rattle.body_values.specs.declared.facts.Facts.{Facts}
use Rattle.body_values.specs.Flow.{zero_constant, zero_value, entry_row}
use Rattle.body_values.specs.System.{FactsFit}
use Rattle.body_values.specs.Claims.{RowHolds, FileHolds, FormalsMeet}
use Rattle.body_values.proofs.Items.{zero_is as zero_constant_is}

formals_hold : (most : ℕ) (ts : List ℤ) (ps : List Register) (formals : List AbsVal) (arguments : List Value) (k : ℕ) (row : List AbsVal) (values : List Value) → length formals ≡ length ps → FormalsMeet ps formals arguments k → RowHolds row values →
    RowHolds (formals ++ row) (values_made ps arguments k ++ values)
unfolding values_made
formals_hold most ts [] [] arguments k row values e m h = h
formals_hold most ts [] (a ∷ formals) arguments k row values e m h = absurd (omega (arith, e))
formals_hold most ts (r ∷ ps) [] arguments k row values e m h = absurd (omega (arith, e))
formals_hold most ts (r ∷ ps) (a ∷ formals) arguments k row values e m h = (m.0, formals_hold most ts ps formals arguments (k + 1) row values (omega (arith, e)) m.1 h)

formals_full : (most : ℕ) (ts : List ℤ) (ps : List Register) (formals : List AbsVal) (arguments : List Value) (k : ℕ) → length formals ≡ length ps → Each (FitsWith most ts) formals → FormalsMeet ps formals arguments k → list_any is_none_val formals ≡ false
formals_full most ts [] [] arguments k e f m = refl
formals_full most ts [] (a ∷ formals) arguments k e f m = absurd (omega (arith, e))
formals_full most ts (r ∷ ps) [] arguments k e f m = absurd (omega (arith, e))
formals_full most ts (r ∷ ps) (a ∷ formals) arguments k e f m = by (is_none_val a) refl (formals_full most ts ps formals arguments (k + 1) (omega (arith, e)) f.1 m.1)
  where
    by : (t : Bool) → is_none_val a ≡ t → list_any is_none_val formals ≡ false → list_any is_none_val (a ∷ formals) ≡ false
    by true n rest = absurd (not_none most ts a _ f.0 m.0 n)
    by false n rest = rw n rest

zeros_hold : (most : ℕ) (ts : List ℤ) → IsLawful ts → (rs : List Register) (k : ℕ) → RowHolds (map (zero_value most ts) rs) (values_made rs [] k)
unfolding values_made
zeros_hold most ts law [] k = tt
zeros_hold most ts law (r ∷ rs) k = (alone_holds most ts law r.scalar (zero_of r.scalar) (zero_constant r.scalar) (zero_is r.scalar) (zero_constant_is r.scalar), zeros_hold most ts law rs (k + 1))

pub entry_holds : (f : Function) (facts : Facts) (most : ℕ) (ts : List ℤ) → IsLawful ts → FactsFit f facts most ts → (arguments : List Value) → FormalsMeet f.params facts.formals arguments 0 →
    FileHolds (entry_row f facts.formals most ts) (registers_made f arguments)
entry_holds f facts most ts law fit arguments m =
    let full : list_any is_none_val facts.formals ≡ false = formals_full most ts f.params facts.formals arguments 0 fit.count fit.formals m in
    rw full (formals_hold most ts f.params facts.formals arguments 0 (map (zero_value most ts) f.registers) (values_made f.registers [] 0) fit.count m (zeros_hold most ts law f.registers 0))
