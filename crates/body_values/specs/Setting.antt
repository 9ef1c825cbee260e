-- What the values of a function are made from.
use Rattle.std.specs.Prelude.{◌≡◌, ℕ, ◌<◌, ◌^◌, List, ◌∷◌, ◌++◌, length, Some, slice_get}
use Rattle.gimple_ir.specs.declared.block.Block.{Block}
use Rattle.gimple_ir.specs.declared.declarations.Decl.{Decl}
use Rattle.gimple_ir.specs.declared.declarations.Global.{Global}
use Rattle.gimple_ir.specs.declared.declarations.Register.{Register}
use Rattle.gimple_ir.specs.declared.declarations.StructDef.{StructDef}
use Rattle.gimple_ir.specs.declared.program.Function.{Function}
use Rattle.gimple_ir.specs.declared.program.Program.{Program}
use Rattle.gimple_core.specs.Sealed.{Sealed}
use Rattle.gimple_core.specs.Accepted.{IsAccepted}
use Rattle.gimple_ir.specs.Size.{size_of_function}
use Rattle.fix_engine.specs.declared.lifted.Lifted.{Lifted}
use Rattle.fix_engine.specs.Rows.{FitsRows, rows_below}
use Rattle.block_flow.specs.Branches.{branches_of}
use Rattle.block_flow.specs.System.{AreBegins as AreLeast}
use Rattle.value_domain.specs.declared.abs_val.AbsVal.{AbsVal}
use Rattle.value_domain.specs.Values.{FitsAbsVal, abs_val_below, kind_of}
use Rattle.value_domain.specs.Thresholds.{Limits, thresholds_list}
use Rattle.body_values.specs.declared.facts.Facts.{Facts}
use Rattle.body_values.specs.declared.scene.Scene.{Scene}
use Rattle.body_values.specs.Bodies.{Body}
use Rattle.body_values.specs.Flow.{steps_of}
use Rattle.body_values.specs.Found.{Found, AreFound}
use Rattle.body_values.specs.GivenLoads.{GivenLoads}
use Rattle.body_values.specs.PointRows.{block_rows}
use Rattle.body_values.specs.System.{FactsFit}

-- the program has no type fault, its parts have numbers, the thresholds are its own, and the facts fit
pub record IsGiven (p : Program) (f : Function) (facts : Facts) (limits : Limits) : Type 0 where
  pub accepted : IsAccepted p
  pub globals : length p.globals < 2 ^ 32
  pub size : size_of_function f < 2 ^ 32
  pub branches : length (branches_of f.blocks) < 2 ^ 32
  pub ends : limits.ends ≡ thresholds_list p
  pub fit : FactsFit f facts limits.size limits.ends

-- a scene of these parts
pub record IsSceneBy (s : Scene) (p : Sealed) (structs : List StructDef) (globals : List Global) (locals : List Decl) (rs : List Register) (loads : GivenLoads) (limits : Limits) : Type 0 where
  pub program : s.program.now ≡ p
  pub known : s.structs.now ≡ structs
  pub named : s.globals.now ≡ globals
  pub own : s.locals.now ≡ locals
  pub registers : s.registers.now ≡ rs
  pub given : s.loads.now ≡ loads
  pub thresholds : s.limits.now ≡ limits

-- what the code has is that of the function
pub record IsSceneOf (s : Scene) (p : Sealed) (n : ℕ) (f : Function) (facts : Facts) (limits : Limits) : Type 0 where
  pub program : s.program.now ≡ p
  pub structs : s.structs.now ≡ p.program.structs
  pub globals : s.globals.now ≡ p.program.globals
  pub locals : s.locals.now ≡ f.locals
  pub registers : s.registers.now ≡ f.params ++ f.registers
  pub loads : s.loads.now ≡ record { facts = facts.loads; function = n }
  pub thresholds : s.limits.now ≡ limits

-- the least solution of the equations of a body
abbrev pub AreBegins : Body → List Block → Lifted (List AbsVal) → List (Lifted (List AbsVal)) → Type 0
AreBegins B blocks entry xs = AreLeast (FitsRows FitsAbsVal) (rows_below abs_val_below) (length B.registers ∷ kind_of B.most B.ends) (steps_of B entry) blocks xs

-- the values at each index of each block, by the least solution
pub record AreRows (B : Body) (blocks : List Block) (entry : Lifted (List AbsVal)) (rows : List (List (Lifted (List AbsVal)))) : Type 0 where
  pub begins : List (Lifted (List AbsVal))
  pub least : AreBegins B blocks entry begins
  pub are : rows ≡ block_rows B 0 blocks begins

-- these are the values of the function of this number, from some facts that fit
pub record WereFound (p : Sealed) (n : ℕ) (t : Found) : Type 0 where
  pub function : Function
  pub own : slice_get p.program.functions n ≡ Some function
  pub facts : Facts
  pub fit : FactsFit function facts t.limits.size t.limits.ends
  pub ends : t.limits.ends ≡ thresholds_list p.program
  pub are : AreFound p n function facts t.limits t
