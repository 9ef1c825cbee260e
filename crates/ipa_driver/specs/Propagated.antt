-- What constant propagation makes of a program.
use Rattle.std.specs.Prelude.{◌≡◌, ℕ, Bool, List, map}
use Rattle.gimple_ir.specs.declared.options.Passes.{Passes}
use Rattle.gimple_core.specs.Sealed.{Sealed}
use Rattle.value_domain.specs.declared.abs_val.AbsVal.{AbsVal}
use Rattle.cp_lattices.specs.Lattices.{AreLattices}
use Rattle.cp_apply.specs.declared.plan.Plan.{Plan}
use Rattle.cp_apply.specs.Bases.{IsMade}
use Rattle.ipa_dumps.specs.CpTexts.{cp_text}
use Rattle.ipa_driver.specs.declared.legs.Leg.{Leg}
use Rattle.ipa_driver.specs.Legs.{asked_text}
use Rattle.ipa_driver.specs.Summary.{no_counts}

-- the plan that folds each function by what is known of its formals in every call
abbrev pub base_plan : List (List AbsVal) → Plan
base_plan rows = record { bases = map (λ row. record { formals = row }) rows }

-- Each function is folded by the least values of its formals, with lists of so many constants. The dump tells of these values.
pub record Propagates (passes : Passes) (most : ℕ) (p : Sealed) (asked : Bool) (leg : Leg) : Type 0 where
  pub rows : List (List AbsVal)
  pub lattices : AreLattices p passes most rows
  pub made : IsMade p (base_plan rows) leg.program
  pub text : leg.text ≡ asked_text asked (cp_text p.program rows)
  pub counts : leg.counts ≡ no_counts
