-- Which objects live in each state of a run, and which slots memory has.
use Rattle.std.specs.Prelude.{◌≡◌, ℕ, ◌+◌, ℤ, Bool, false, List, [], ◌∷◌, ◌++◌, map, flat_map}
use Rattle.std.specs.List.{AllPairs}
use Rattle.gimple_ir.specs.declared.scalar.Scalar.{Scalar}
use Rattle.gimple_ir.specs.declared.value.Object.{Object}
use Rattle.gimple_ir.specs.declared.value.Object.TheVariants.{Global as GlobalObject, Local as LocalObject}
use Rattle.gimple_ir.specs.declared.declarations.Decl.{Decl}
use Rattle.gimple_ir.specs.declared.declarations.StructDef.{StructDef}
use Rattle.gimple_ir.specs.declared.declarations.Global.{Global}
use Rattle.gimple_ir.specs.declared.program.Program.{Program}
use Rattle.gimple_core.specs.declared.machine.MemorySlot.{MemorySlot}
use Rattle.gimple_core.specs.declared.machine.Extent.{Extent}
use Rattle.gimple_core.specs.Sealed.{Sealed}
use Rattle.gimple_core.specs.Layout.{layout_of}
use Rattle.gimple_core.specs.Memory.{Memory}
use Rattle.gimple_core.specs.State.{Control, Frame, State}
use Rattle.gimple_core.specs.Trace.{Event}
use Rattle.gimple_claims.specs.Runs.{Comes}

-- a variable in memory: the object that it is, how it is declared, and whether no store may go there
pub record Variable : Type 0 where
  pub object : Object
  pub decl : Decl
  pub constant : Bool

-- the globals, from this number on
abbrev pub global_variables : ℕ → List Global → List Variable
global_variables k [] = []
global_variables k (g ∷ gs) = record { object = GlobalObject k; decl = g.decl; constant = g.constant } ∷ global_variables (k + 1) gs

-- the locals of a frame, from this number on
abbrev pub local_variables : ℕ → ℕ → List Decl → List Variable
local_variables serial k [] = []
local_variables serial k (d ∷ ds) = record { object = LocalObject serial k; decl = d; constant = false } ∷ local_variables serial (k + 1) ds

-- the locals of frames, of which the latest comes first; those of earlier frames stand before those of later ones
abbrev pub frame_variables : List Control → List Variable
frame_variables [] = []
frame_variables (c ∷ cs) = frame_variables cs ++ local_variables c.serial 0 c.function.locals

-- the frames of a state, the running one first
abbrev pub controls : State → List Control
controls s = s.top ∷ map (λ (f : Frame). f.control) s.below

-- what lives in a state: the globals, then the locals of its frames
abbrev pub variables_of : Program → State → List Variable
variables_of p s = global_variables 0 p.globals ++ frame_variables (controls s)

-- a slot without its value
pub record SlotKey : Type 0 where
  pub object : Object
  pub offset : ℕ
  pub scalar : Scalar

abbrev pub key_of : MemorySlot → SlotKey
key_of s = record { object = s.object; offset = s.offset; scalar = s.scalar }

abbrev pub extent_of : List StructDef → Variable → Extent
extent_of structs v = record { object = v.object; size = (layout_of structs v.decl).size; constant = v.constant }

abbrev pub keys_of : List StructDef → Variable → List SlotKey
keys_of structs v = map (λ s. record { object = v.object; offset = s.offset; scalar = s.scalar }) (layout_of structs v.decl).slots

-- just these variables live, each with the slots of its layout, in this order
pub record IsLaidOut (structs : List StructDef) (vs : List Variable) (m : Memory) : Type 0 where
  pub living : m.living ≡ map (extent_of structs) vs
  pub slots : map key_of m.slots ≡ flat_map (keys_of structs) vs

-- in each state of each run the globals and the locals of the frames live, with the slots of their layouts, and nothing else
abbrev pub MemoryIsLaidOut : Type 0
MemoryIsLaidOut = (p : Sealed) (input : List ℤ) (past : List Event) (s : State) → Comes p input past s → IsLaidOut p.program.structs (variables_of p.program s) s.world.memory

-- ---- each slot is there once

-- no two slots have the same object and the same offset
abbrev pub SlotsDiffer : List MemorySlot → Type 0
SlotsDiffer slots = AllPairs (λ (x y : MemorySlot). x.object ≡ y.object → x.offset ≡ y.offset → ⊥) slots

-- in each state of each run
abbrev pub SlotsAreOnce : Type 0
SlotsAreOnce = (p : Sealed) (input : List ℤ) (past : List Event) (s : State) → Comes p input past s → SlotsDiffer s.world.memory.slots
