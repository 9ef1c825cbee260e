-- What the analysis of a body carries as facts, and what follows.
use Rattle.std.specs.Prelude.{◌≡◌, ℕ, ◌<◌, ◌^◌, ℤ, Bool, true, ◌&&◌, List, [], ◌∷◌, length}
use Rattle.std.proofs.Common.{sym, subst}
use Rattle.fix_engine.specs.Bools.{and_left, and_right}
use Rattle.fix_engine.specs.Rows.{Each, FitsRows, rows_below}
use Rattle.fix_engine.specs.declared.lifted.Lifted.{Lifted}
use Rattle.block_flow.specs.Steps.{StepsLaws}
use Rattle.value_domain.specs.declared.abs_val.AbsVal.{AbsVal}
use Rattle.value_domain.specs.Values.{FitsWith, FitsAbsVal, abs_val_below, kind_of}
use Rattle.value_domain.specs.Thresholds.{IsLawful, thresholds_list}
use Rattle.value_domain.proofs.LawfulLemmas.{list_lawful}
use Rattle.body_values.specs.declared.facts.LoadFact.{LoadFact}
use Rattle.body_values.specs.declared.scene.Scene.{Scene}
use Rattle.body_values.specs.Flow.{steps_of}
use Rattle.body_values.specs.System.{given_fits, row_from, steps_laws}
use Rattle.body_values.specs.Fitting.{fits_by, fits_is, file_by, file_is}
use Rattle.body_values.specs.Scenes.{body_in, Fit, HasSmallGlobals, IsReady}

-- whether what is given of loads fits
abbrev pub loads_by : ℕ → List ℤ → List LoadFact → Bool
loads_by most ts [] = true
loads_by most ts (x ∷ loads) = fits_by most ts x.value && loads_by most ts loads

loads_are : (most : ℕ) (ts : List ℤ) (loads : List LoadFact) → loads_by most ts loads ≡ true → Each (λ x. FitsWith most ts x.value) loads
loads_are most ts [] h = tt
loads_are most ts (x ∷ loads) h = (fits_is most ts x.value (and_left (fits_by most ts x.value) (loads_by most ts loads) h), loads_are most ts loads (and_right (fits_by most ts x.value) (loads_by most ts loads) h))

-- globals have numbers and are small, the thresholds are the program's, and the facts of loads fit
pub record Carried (s : Scene) : Type 0 where
  pub few : length s.globals.now < 2 ^ 32
  pub small : HasSmallGlobals s
  pub ends : s.limits.now.ends ≡ thresholds_list s.program.now.program
  pub loads : loads_by s.limits.now.size s.limits.now.ends s.loads.now.facts ≡ true

pub lawful_of : (s : Scene) → Carried s → IsLawful s.limits.now.ends
lawful_of s c = subst IsLawful (sym c.ends) (list_lawful s.program.now.program)

pub ready_of : (s : Scene) → Carried s → IsReady s
ready_of s c = record {
  few = c.few;
  small = c.small;
  loads = λ k i. given_fits (FitsWith s.limits.now.size s.limits.now.ends) s.loads.now.facts s.loads.now.function k i (loads_are s.limits.now.size s.limits.now.ends s.loads.now.facts c.loads);
}

pub carried_laws : (s : Scene) (entry : Lifted (List AbsVal)) → Carried s → file_by s.limits.now.size s.limits.now.ends (length s.registers.now) entry ≡ true →
    StepsLaws (FitsRows FitsAbsVal) (rows_below abs_val_below) (length s.registers.now ∷ kind_of s.limits.now.size s.limits.now.ends) (steps_of (body_in s) entry)
carried_laws s entry c h = steps_laws (body_in s) (lawful_of s c) (ready_of s c).loads entry (file_is s.limits.now.size s.limits.now.ends (length s.registers.now) entry h)

-- a value that fits the kind of the analysis
pub row_in : (s : Scene) (row : List AbsVal) → Carried s → FitsRows FitsAbsVal (length s.registers.now ∷ kind_of s.limits.now.size s.limits.now.ends) row → Fit s row
row_in s row c h = row_from s.limits.now.size s.limits.now.ends (length s.registers.now) row (lawful_of s c) h
