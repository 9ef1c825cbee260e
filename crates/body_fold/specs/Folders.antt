-- What the code has of a function that is folded.
use Rattle.std.specs.Prelude.{◌≡◌, ℕ, false, List, ◌++◌, None, Some, slice_get}
use Rattle.gimple_ir.specs.declared.declarations.Decl.{Decl}
use Rattle.gimple_ir.specs.declared.declarations.Global.{Global}
use Rattle.gimple_ir.specs.declared.program.Function.{Function}
use Rattle.gimple_core.specs.Sealed.{Sealed}
use Rattle.gimple_core.specs.Env.{functions_by_name}
use Rattle.gimple_claims.specs.Checks.{env_of}
use Rattle.value_domain.specs.Thresholds.{Limits}
use Rattle.body_values.specs.Bodies.{Body, is_local, global_place}
use Rattle.body_values.specs.Found.{Found, found_row}
use Rattle.body_values.specs.Scenes.{body_in, IsReady}
use Rattle.body_fold.specs.declared.folder.Folder.{Folder}
use Rattle.body_fold.specs.Fold.{Folding, IsFolded}

abbrev pub folding_in : Folder → Folding
folding_in s = record { env = env_of s.scene.program.now.program s.function.now; names = functions_by_name s.scene.program.now.program.functions; body = body_in s.scene }

-- the name of a global means it in a function
pub record Means (globals : List Global) (locals : List Decl) (k : ℕ) (g : Global) : Type 0 where
  pub free : is_local locals g.decl.name ≡ false
  pub place : global_place globals g.decl.name ≡ Some k

abbrev pub NamesMean : List Global → List Decl → Type 0
NamesMean globals locals = (k : ℕ) (g : Global) → slice_get globals k ≡ Some g → Means globals locals k g

-- the scene is that of the function, the tables are the program's, whose globals have numbers, and their names mean them
pub record IsFolder (s : Folder) : Type 0 where
  pub tables : s.tables.now.program ≡ s.scene.program.now
  pub structs : s.scene.structs.now ≡ s.scene.program.now.program.structs
  pub globals : s.scene.globals.now ≡ s.scene.program.now.program.globals
  pub locals : s.scene.locals.now ≡ s.function.now.locals
  pub registers : s.scene.registers.now ≡ s.function.now.params ++ s.function.now.registers
  pub ready : IsReady s.scene
  pub mean : NamesMean s.scene.program.now.program.globals s.function.now.locals

-- ---- a function and its values

-- the body of a function, of whose loads nothing is given: a load is never folded
abbrev pub body_by : Sealed → Function → Limits → Body
body_by p f limits = record {
  structs = p.program.structs;
  globals = p.program.globals;
  mode = p.mode;
  locals = f.locals;
  registers = f.params ++ f.registers;
  most = limits.size;
  ends = limits.ends;
  loads = λ k i. None;
}

abbrev pub folding_by : Sealed → Function → Limits → Folding
folding_by p f limits = record { env = env_of p.program f; names = functions_by_name p.program.functions; body = body_by p f limits }

-- This is the function of this number, with the constants put in that are known by these values of its registers.
pub record IsFoldOf (p : Sealed) (n : ℕ) (t : Found) (g : Function) : Type 0 where
  pub function : Function
  pub own : slice_get p.program.functions n ≡ Some function
  pub folded : IsFolded (folding_by p function t.limits) (λ k i. found_row t.rows k i) function g
