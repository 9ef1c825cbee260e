-- What is given where nothing is known holds in each run.
use Rattle.std.specs.Prelude.{◌≡◌, ℕ, ℤ, List, None}
use Rattle.gimple_ir.specs.declared.program.Function.{Function}
use Rattle.gimple_core.specs.Sealed.{Sealed}
use Rattle.gimple_core.specs.Trace.{InEachRun}
use Rattle.gimple_core.specs.Accepted.{first_fault}
use Rattle.gimple_claims.specs.Bodies.{FactsClaim}
use Rattle.fix_engine.specs.declared.lifted.Lifted.{Lifted}
use Rattle.value_domain.specs.declared.abs_val.AbsVal.{AbsVal}
use Rattle.body_values.specs.Claims.{given_of, PointsHold, Analysed}
use Rattle.body_values.specs.TopFacts.{top_facts}

-- each activation of each function of a program without a type fault meets them
abbrev pub TopFactsHold : Type 0
TopFactsHold = (p : Sealed) (n : ℕ) (f : Function) → first_fault p.program ≡ None → InEachRun p (FactsClaim f (given_of n f (top_facts f)))

-- so the values of a function that are found from them hold at each point of each activation
abbrev pub TopValuesHold : Type 0
TopValuesHold = (p : Sealed) (n : ℕ) (f : Function) (most : ℕ) (ts : List ℤ) (xs : List (Lifted (List AbsVal))) → Analysed p n f (top_facts f) most ts xs → InEachRun p (PointsHold p n f (top_facts f) most ts xs)
