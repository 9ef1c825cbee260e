-- What the passes make of a program, and what is promised of it.
use Rattle.std.specs.Prelude.{◌≡◌, ℕ, ℤ, ◌≤◌, true, List, codes}
use Rattle.std.specs.List.{list_all}
use Rattle.gimple_ir.specs.declared.options.Passes.{Passes}
use Rattle.gimple_ir.specs.declared.options.Params.{Params}
use Rattle.gimple_ir.specs.declared.scalar.Scalar.TheVariants.{I64}
use Rattle.gimple_ir.specs.Size.{size_of_program}
use Rattle.gimple_core.specs.Accepted.{IsAccepted}
use Rattle.gimple_core.specs.Growth.{bound}
use Rattle.gimple_core.specs.Sealed.{Sealed}
use Rattle.gimple_core.specs.Reach.{IsWithoutUnreached}
use Rattle.gimple_core.specs.Operators.{in_scalar}
use Rattle.gimple_core.specs.Run.{Run}
use Rattle.ipa_driver.specs.declared.legs.Leg.{Leg}
use Rattle.ipa_driver.specs.declared.passes.Asked.{Asked}
use Rattle.ipa_driver.specs.declared.passes.Legs.{Legs}
use Rattle.ipa_driver.specs.declared.passes.Product.{Product}
use Rattle.ipa_driver.specs.Graph.{IsGraphText}
use Rattle.ipa_driver.specs.Icf.{FoldsIdentical}
use Rattle.ipa_driver.specs.Propagated.{Propagates}
use Rattle.ipa_driver.specs.Legs.{IsLeg, NotBuilt, asked_text}
use Rattle.ipa_driver.specs.Summary.{all_counts, measure_of, summary_text}

-- the program without the functions that main does not reach, in the same mode
pub record DropsUnreached (p q : Sealed) : Type 0 where
  pub functions : IsWithoutUnreached p.program q.program
  pub mode : q.mode ≡ p.mode

-- The legs, one after another: identical code folding, constant propagation with clones, replacement of parameters, and the uses of mod/ref.
pub record AreLegs (p : Sealed) (asked : Asked) (passes : Passes) (params : Params) (legs : Legs) : Type 0 where
  pub folded : Leg
  pub propagated : Leg
  pub split : Leg
  pub cleared : Leg
  pub icf : IsLeg passes.icf (codes "icf") FoldsIdentical p asked.icf folded
  pub cp : IsLeg passes.cp (codes "cp") (Propagates passes params.ipa_cp_value_list_size) folded.program asked.cp propagated
  pub sra : IsLeg passes.sra (codes "sra") (NotBuilt (codes "sra")) propagated.program asked.sra split
  pub modref : IsLeg passes.modref (codes "modref") (NotBuilt (codes "modref")) split.program asked.modref cleared
  -- what is kept of them: the last program, the texts, and all counts
  pub kept : legs ≡ record {
    program = cleared.program;
    icf = folded.text;
    cp = propagated.text;
    sra = split.text;
    modref = cleared.text;
    counts = all_counts folded.counts propagated.counts split.counts cleared.counts;
  }

-- The pipeline: reach, the legs, and reach again. Each text is made where it is asked for.
pub record IsPipeline (p : Sealed) (asked : Asked) (passes : Passes) (params : Params) (product : Product) : Type 0 where
  pub reached : Sealed
  pub legs : Legs
  pub drops : DropsUnreached p reached
  pub passed : AreLegs reached asked passes params legs
  pub drops_again : DropsUnreached legs.program product.program
  pub cgraph : IsGraphText asked.cgraph reached.program product.cgraph
  pub icf : product.icf ≡ legs.icf
  pub cp : product.cp ≡ legs.cp
  pub sra : product.sra ≡ legs.sra
  pub modref : product.modref ≡ legs.modref
  pub summary : product.summary ≡ asked_text asked.summary (summary_text (measure_of p.program) (measure_of product.program.program) legs.counts)

-- The program q may stand for p: it is accepted, it has printed, ended or trapped as p has in the same mode, on every
-- input of numbers of 64 signed bits and after every number of jumps, calls and returns, and it has grown by no more than
-- is allowed. What enters the passes that may grow a program is no larger than p.
pub record IsSound (p entering q : Sealed) (passes : Passes) (params : Params) : Type 0 where
  pub accepted : IsAccepted q.program
  pub mode : q.mode ≡ p.mode
  pub runs : (input : List ℤ) → list_all (in_scalar I64) input ≡ true → (n : ℕ) → Run q input n ≡ Run p input n
  pub entering_size : size_of_program entering.program ≤ size_of_program p.program
  pub size : size_of_program q.program ≤ bound (size_of_program entering.program) passes params

-- all of this of what the passes made; what enters those that may grow a program is what identical code folding gives
pub record IsMade (p : Sealed) (asked : Asked) (passes : Passes) (params : Params) (product : Product) : Type 0 where
  pub pipeline : IsPipeline p asked passes params product
  pub sound : IsSound p pipeline.passed.folded.program product.program passes params
