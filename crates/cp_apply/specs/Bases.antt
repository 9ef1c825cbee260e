-- A program in which each function is folded by what is known of its formals.
use Rattle.std.specs.Prelude.{◌≡◌, ℕ, List, [], length, Option, Some, option_map, slice_get}
use Rattle.gimple_ir.specs.declared.program.Function.{Function}
use Rattle.gimple_ir.specs.declared.program.Program.{Program}
use Rattle.gimple_core.specs.Reach.{IsWithoutUnreached}
use Rattle.gimple_core.specs.Sealed.{Sealed, with_functions}
use Rattle.value_domain.specs.Thresholds.{thresholds_list}
use Rattle.body_values.specs.declared.facts.Facts.{Facts}
use Rattle.body_values.specs.System.{FactsFit}
use Rattle.body_fold.specs.Claims.{FoldsTo, FoldsAll}
use Rattle.cp_apply.specs.declared.plan.Context.{Context}
use Rattle.cp_apply.specs.declared.plan.Plan.{Plan}

-- what is given of an instance in a context
abbrev pub context_facts : Context → Facts
context_facts c = record { formals = c.formals; loads = [] }

-- what is given of each function
abbrev pub base_facts : Plan → ℕ → Option Facts
base_facts plan n = option_map context_facts (slice_get plan.bases n)

-- a context for each function, with a value for each formal that lists of so many constants and the program's thresholds can have
pub record PlanFits (p : Program) (most : ℕ) (plan : Plan) : Type 0 where
  pub count : length plan.bases ≡ length p.functions
  pub each : (n : ℕ) (f : Function) (c : Context) → slice_get p.functions n ≡ Some f → slice_get plan.bases n ≡ Some c → FactsFit f (context_facts c) most (thresholds_list p)

-- the first functions folded
pub record FoldsFirst (p : Sealed) (facts : ℕ → Option Facts) (k : ℕ) (gs : List Function) : Type 0 where
  pub count : length gs ≡ k
  pub each : (n : ℕ) (f g : Function) → slice_get p.program.functions n ≡ Some f → slice_get gs n ≡ Some g → FoldsTo p n f g (facts n)

-- Each function is folded by the values of its registers from its context, and then those that main does not reach are left out.
pub record IsMade (p : Sealed) (plan : Plan) (q : Sealed) : Type 0 where
  pub folded : List Function
  pub folds : FoldsAll p (base_facts plan) folded
  pub rest : IsWithoutUnreached (with_functions p folded).program q.program
  pub mode : q.mode ≡ p.mode
