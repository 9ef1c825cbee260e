-- What the code has of a body.
use Rattle.std.specs.Prelude.{◌≡◌, ℕ, ◌<◌, ◌≤◌, ◌^◌, List, length, Some, find}
use Rattle.std.specs.Str.{bytes_eq}
use Rattle.gimple_ir.specs.declared.declarations.Global.{Global}
use Rattle.gimple_core.specs.Layout.{layout_of}
use Rattle.gimple_ir.specs.declared.scalar.Scalar.{Scalar}
use Rattle.value_domain.specs.Holding.{IsOf}
use Rattle.value_domain.specs.declared.abs_val.AbsVal.{AbsVal}
use Rattle.value_domain.specs.Values.{FitsWith}
use Rattle.body_values.specs.declared.scene.Scene.{Scene}
use Rattle.body_values.specs.Bodies.{Body}
use Rattle.body_values.specs.Flow.{given_load}
use Rattle.body_values.specs.Rows.{RowFits, LiftedFits}
use Rattle.fix_engine.specs.declared.lifted.Lifted.{Lifted}
use Rattle.body_values.specs.Rising.{LoadsFit}

abbrev pub body_in : Scene → Body
body_in s = record {
  structs = s.structs.now;
  globals = s.globals.now;
  mode = s.program.now.mode;
  locals = s.locals.now;
  registers = s.registers.now;
  most = s.limits.now.size;
  ends = s.limits.now.ends;
  loads = given_load s.loads.now.facts s.loads.now.function;
}

-- the values of the registers fit
abbrev pub Fit : Scene → List AbsVal → Type 0
Fit s row = RowFits s.limits.now.size s.limits.now.ends (length s.registers.now) row

-- a value fits, and is of the scalar
pub record IsGoodIn (s : Scene) (scalar : Scalar) (a : AbsVal) : Type 0 where
  pub fits : FitsWith s.limits.now.size s.limits.now.ends a
  pub of : IsOf scalar a

-- each global has at most 2^24 bytes
abbrev pub HasSmallGlobals : Scene → Type 0
HasSmallGlobals s = (name : List ℕ) (g : Global) → find (λ g. bytes_eq g.decl.name name) s.globals.now ≡ Some g → (layout_of s.structs.now g.decl).size ≤ 2 ^ 24

-- globals have numbers and are small, and the facts of loads fit
pub record IsReady (s : Scene) : Type 0 where
  pub few : length s.globals.now < 2 ^ 32
  pub small : HasSmallGlobals s
  pub loads : LoadsFit (body_in s)

abbrev pub FitsIn : Scene → Lifted (List AbsVal) → Type 0
FitsIn s x = LiftedFits s.limits.now.size s.limits.now.ends (length s.registers.now) x
