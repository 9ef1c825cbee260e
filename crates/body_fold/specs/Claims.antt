-- What is promised of a function with its known constants put in.
use Rattle.std.specs.Prelude.{◌≡◌, ◌≤◌, ℕ, List, length, Option, Some, None, option_map, slice_get, slice_set}
use Rattle.gimple_ir.specs.declared.program.Function.{Function}
use Rattle.gimple_ir.specs.Size.{size_of_function, branches_of_function}
use Rattle.gimple_ir.specs.Spellable.{IsSpellable}
use Rattle.gimple_core.specs.Accepted.{first_fault}
use Rattle.gimple_core.specs.Sealed.{Sealed, with_functions}
use Rattle.gimple_core.specs.Replacing.{Replaces}
use Rattle.gimple_core.specs.Trace.{InEachRun}
use Rattle.gimple_claims.specs.Bodies.{FactsClaim}
use Rattle.value_domain.specs.Thresholds.{IsLawful}
use Rattle.body_values.specs.declared.facts.Facts.{Facts}
use Rattle.body_values.specs.Claims.{given_of}
use Rattle.body_values.specs.Found.{Found, AreFound}
use Rattle.body_values.specs.System.{FactsFit}
use Rattle.body_values.specs.TopFacts.{top_facts}
use Rattle.body_fold.specs.Folders.{IsFoldOf}

-- the function of this number replaced; the mode and the profile stay
abbrev pub replaced : Sealed → ℕ → Function → Sealed
replaced p n g = with_functions p (slice_set p.program.functions n g)

-- A function of a program without a type fault, with the constants put in that are known by its values from facts that fit.
pub record Folds (p : Sealed) (n : ℕ) (f : Function) (facts : Facts) (t : Found) (g : Function) : Type 0 where
  pub accepted : first_fault p.program ≡ None
  pub own : slice_get p.program.functions n ≡ Some f
  pub lawful : IsLawful t.limits.ends
  pub fit : FactsFit f facts t.limits.size t.limits.ends
  pub values : AreFound p n f facts t.limits t
  pub folded : IsFoldOf p n t g

-- where the facts hold in each run, the program with the folded function may replace the program: it runs as that one does, and has no more parts
abbrev pub FoldReplaces : Type 0
FoldReplaces = (p : Sealed) (n : ℕ) (f : Function) (facts : Facts) (t : Found) (g : Function) → Folds p n f facts t g → InEachRun p (FactsClaim f (given_of n f facts)) → Replaces 1 p (replaced p n g)

-- whatever the facts, it has no type fault
abbrev pub FoldIsAccepted : Type 0
FoldIsAccepted = (p : Sealed) (n : ℕ) (f : Function) (facts : Facts) (t : Found) (g : Function) → Folds p n f facts t g → first_fault (replaced p n g).program ≡ None

-- a text can spell it where one can spell the program
abbrev pub FoldIsSpellable : Type 0
FoldIsSpellable = (p : Sealed) (n : ℕ) (f : Function) (facts : Facts) (t : Found) (g : Function) → Folds p n f facts t g → IsSpellable p.program → IsSpellable (replaced p n g).program

-- ---- how large it is

-- no more statements, ends and branches, and the same name, formals, result, locals and registers
pub record IsNoLarger (f g : Function) : Type 0 where
  pub size : size_of_function g ≤ size_of_function f
  pub blocks : length g.blocks ≤ length f.blocks
  pub branches : branches_of_function g ≤ branches_of_function f
  pub head : g ≡ record f { blocks = g.blocks }

-- than the function of this number
abbrev pub FoldIsNoLarger : Sealed → ℕ → Function → Type 0
FoldIsNoLarger p n g = (f : Function) → slice_get p.program.functions n ≡ Some f → IsNoLarger f g

-- ---- all functions at once

-- what stands in the place of a function: the function itself, where it has no facts, else the function folded by values from its facts
abbrev pub FoldsTo : Sealed → ℕ → Function → Function → Option Facts → Type 0
FoldsTo p n f g None = g ≡ f
FoldsTo p n f g (Some facts) = (t : Found) × Folds p n f facts t g

-- Each function of a program without a type fault, by its number, with its facts or none: all are folded by values of the program as it is.
pub record FoldsAll (p : Sealed) (facts : ℕ → Option Facts) (gs : List Function) : Type 0 where
  pub accepted : first_fault p.program ≡ None
  pub count : length gs ≡ length p.program.functions
  pub each : (n : ℕ) (f g : Function) → slice_get p.program.functions n ≡ Some f → slice_get gs n ≡ Some g → FoldsTo p n f g (facts n)

-- all of them hold in each run of the program as it is
abbrev pub FactsHold : Sealed → (ℕ → Option Facts) → Type 0
FactsHold p facts = (n : ℕ) (f : Function) (x : Facts) → slice_get p.program.functions n ≡ Some f → facts n ≡ Some x → InEachRun p (FactsClaim f (given_of n f x))

-- the program with all of them folded may replace the program then
abbrev pub FoldsReplace : Type 0
FoldsReplace = (p : Sealed) (facts : ℕ → Option Facts) (gs : List Function) → FoldsAll p facts gs → FactsHold p facts → Replaces 1 p (with_functions p gs)

-- as it may where each function is folded by values from top facts
abbrev pub every_top : Sealed → ℕ → Option Facts
every_top p n = option_map top_facts (slice_get p.program.functions n)

abbrev pub TopFoldsReplace : Type 0
TopFoldsReplace = (p : Sealed) (gs : List Function) → FoldsAll p (every_top p) gs → Replaces 1 p (with_functions p gs)

-- whatever the facts, it has no type fault, and a text can spell it where one can spell the program
abbrev pub FoldsAreAccepted : Type 0
FoldsAreAccepted = (p : Sealed) (facts : ℕ → Option Facts) (gs : List Function) → FoldsAll p facts gs → first_fault (with_functions p gs).program ≡ None

abbrev pub FoldsAreSpellable : Type 0
FoldsAreSpellable = (p : Sealed) (facts : ℕ → Option Facts) (gs : List Function) → FoldsAll p facts gs → IsSpellable p.program → IsSpellable (with_functions p gs).program
