-- What is promised of the values of formals in the runs of a program.
use Rattle.std.specs.Prelude.{◌≡◌, ℕ, List, [], Some, None, slice_get, slice_index_or}
use Rattle.gimple_ir.specs.declared.options.Passes.{Passes}
use Rattle.gimple_ir.specs.declared.program.Function.{Function}
use Rattle.gimple_core.specs.Accepted.{first_fault}
use Rattle.gimple_core.specs.Sealed.{Sealed}
use Rattle.gimple_core.specs.Trace.{InEachRun}
use Rattle.gimple_claims.specs.Bodies.{FactsClaim}
use Rattle.value_domain.specs.declared.abs_val.AbsVal.{AbsVal}
use Rattle.value_domain.specs.Thresholds.{thresholds_list}
use Rattle.body_values.specs.declared.facts.Facts.{Facts}
use Rattle.body_values.specs.Claims.{given_of}
use Rattle.body_values.specs.System.{FactsFit}
use Rattle.cp_lattices.specs.Lattices.{AreLattices}

-- what is given of the function of this number
abbrev pub row_facts : List (List AbsVal) → ℕ → Facts
row_facts rows n = record { formals = slice_index_or rows n []; loads = [] }

-- in each run of a program without a type fault, each argument of each activation is in its formal's value
abbrev pub LatticesHold : Type 0
LatticesHold = (p : Sealed) (passes : Passes) (most : ℕ) (rows : List (List AbsVal)) → first_fault p.program ≡ None → AreLattices p passes most rows → (n : ℕ) (f : Function) → slice_get p.program.functions n ≡ Some f → InEachRun p (FactsClaim f (given_of n f (row_facts rows n)))

-- they fit, so that values can be made from them
abbrev pub LatticesFit : Type 0
LatticesFit = (p : Sealed) (passes : Passes) (most : ℕ) (rows : List (List AbsVal)) → AreLattices p passes most rows → (n : ℕ) (f : Function) → slice_get p.program.functions n ≡ Some f → FactsFit f (row_facts rows n) most (thresholds_list p.program)
