-- What the code has of a function whose calls give.
use Rattle.std.specs.Prelude.{◌≡◌, ℕ, ◌<◌, ◌^◌, length, Some, slice_get}
use Rattle.gimple_ir.specs.declared.program.Function.{Function}
use Rattle.body_values.specs.Found.{Found, found_row}
use Rattle.body_values.specs.Scenes.{body_in, FitsIn}
use Rattle.body_values.specs.declared.scene.Scene.{Scene}
use Rattle.cp_lattices.specs.declared.caller.Caller.{Caller}
use Rattle.cp_lattices.specs.GiftLists.{Giver}

abbrev pub giver_in : Caller → Giver
giver_in c = record { program = c.scene.program.now.program; number = c.number; function = c.function.now; symbols = c.symbols.now; body = body_in c.scene }

-- the tables and the scene are of the program and of the function, whose parts have numbers
pub record IsCaller (c : Caller) : Type 0 where
  pub tables : c.tables.now.program ≡ c.scene.program.now
  pub globals : c.scene.globals.now ≡ c.scene.program.now.program.globals
  pub locals : c.scene.locals.now ≡ c.function.now.locals
  pub few_globals : length c.scene.globals.now < 2 ^ 32
  pub few_locals : length c.scene.locals.now < 2 ^ 32
  pub few_functions : length c.scene.program.now.program.functions < 2 ^ 32
  pub few_formals : (m : ℕ) (g : Function) → slice_get c.scene.program.now.program.functions m ≡ Some g → length g.params < 2 ^ 32

-- the values of registers fit at each point
abbrev pub PointsFit : Scene → Found → Type 0
PointsFit s t = (k i : ℕ) → FitsIn s (found_row t.rows k i)
