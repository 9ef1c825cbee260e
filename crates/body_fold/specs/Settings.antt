-- What a function of a program is folded by.
use Rattle.std.specs.Prelude.{◌≡◌, ℕ, ◌<◌, ◌^◌, [], length, Some, slice_get}
use Rattle.gimple_ir.specs.declared.program.Function.{Function}
use Rattle.gimple_core.specs.Sealed.{Sealed}
use Rattle.gimple_core.specs.Accepted.{IsAccepted}
use Rattle.gimple_ir.specs.Size.{size_of_function}
use Rattle.value_domain.specs.Thresholds.{thresholds_list}
use Rattle.body_values.specs.declared.facts.Facts.{Facts}
use Rattle.body_values.specs.Found.{Found, AreFound}
use Rattle.body_values.specs.System.{FactsFit}
use Rattle.body_fold.specs.declared.folder.Folder.{Folder}

-- the scene is that of the function and of its values, nothing is given of loads, and the tables are the program's
pub record IsFolderOf (s : Folder) (p : Sealed) (f : Function) (t : Found) : Type 0 where
  pub program : s.scene.program.now ≡ p
  pub tables : s.tables.now.program ≡ p
  pub structs : s.scene.structs.now ≡ p.program.structs
  pub globals : s.scene.globals.now ≡ p.program.globals
  pub function : s.function.now ≡ f
  pub locals : s.scene.locals.now ≡ f.locals
  pub registers : s.scene.registers.now ≡ t.registers
  pub loads : s.scene.loads.now.facts ≡ []
  pub limits : s.scene.limits.now ≡ t.limits

-- the function stands at this number of a program without a type fault, its parts have numbers, and the values are its own
pub record IsFoldable (p : Sealed) (n : ℕ) (f : Function) (t : Found) : Type 0 where
  pub own : slice_get p.program.functions n ≡ Some f
  pub accepted : IsAccepted p.program
  pub globals : length p.program.globals < 2 ^ 32
  pub size : size_of_function f < 2 ^ 32
  pub facts : Facts
  pub fit : FactsFit f facts t.limits.size t.limits.ends
  pub ends : t.limits.ends ≡ thresholds_list p.program
  pub found : AreFound p n f facts t.limits t
