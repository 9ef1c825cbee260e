-- What holds of the variables that live in a state of a run.
use Rattle.std.specs.Prelude.{◌≡◌, ℕ, ℤ, pos, Bool, true, false, List, Some, Ok, slice_get}
use Rattle.std.specs.List.{Contains}
use Rattle.gimple_ir.specs.declared.scalar.Scalar.{Scalar}
use Rattle.gimple_ir.specs.declared.value.Value.{Value}
use Rattle.gimple_ir.specs.declared.value.Value.TheVariants.{At}
use Rattle.gimple_ir.specs.declared.value.Object.{Object}
use Rattle.gimple_ir.specs.declared.value.Object.TheVariants.{Global as GlobalObject, Local as LocalObject}
use Rattle.gimple_ir.specs.declared.declarations.Decl.{Decl}
use Rattle.gimple_ir.specs.declared.declarations.Global.{Global}
use Rattle.gimple_ir.specs.declared.program.Program.{Program}
use Rattle.gimple_core.specs.Sealed.{Sealed}
use Rattle.gimple_core.specs.Layout.{layout_of}
use Rattle.gimple_core.specs.Memory.{found_at}
use Rattle.gimple_core.specs.State.{Control, State}
use Rattle.gimple_core.specs.Statements.{has_slot}
use Rattle.gimple_core.specs.Trace.{Event}
use Rattle.gimple_claims.specs.Runs.{Comes}
use Rattle.gimple_claims.specs.Laws.{living_object}
use Rattle.gimple_claims.specs.Shapes.{controls}
use Rattle.gimple_claims.specs.Slots.{slot_value}

-- the object is a variable of the state: a global, or a local of one of its frames
pub data IsVariableOf (p : Program) (s : State) : Object → Decl → Bool → Type 0 where
  global : (k : ℕ) (g : Global) → slice_get p.globals k ≡ Some g → IsVariableOf p s (GlobalObject k) g.decl g.constant
  local : (c : Control) (k : ℕ) (d : Decl) → Contains (controls s) c → slice_get c.function.locals k ≡ Some d → IsVariableOf p s (LocalObject c.serial k) d false

-- it lives, with the size of its layout
abbrev pub VariablesLive : Type 0
VariablesLive = (p : Sealed) (input : List ℤ) (past : List Event) (s : State) → Comes p input past s → (object : Object) (d : Decl) (constant : Bool) → IsVariableOf p.program s object d constant →
    living_object object s.world.memory ≡ Some (record { object = object; size = (layout_of p.program.structs d).size; constant = constant })

-- it has the slots of its layout
abbrev pub VariablesHaveSlots : Type 0
VariablesHaveSlots = (p : Sealed) (input : List ℤ) (past : List Event) (s : State) → Comes p input past s → (object : Object) (d : Decl) (constant : Bool) → IsVariableOf p.program s object d constant →
    (offset : ℕ) (scalar : Scalar) → has_slot (layout_of p.program.structs d).slots (pos offset) scalar ≡ true → (v : Value) × (slot_value object offset scalar s.world.memory ≡ Some v)

-- an access to a slot of its layout finds what the slot holds
abbrev pub AccessesFindSlots : Type 0
AccessesFindSlots = (p : Sealed) (input : List ℤ) (past : List Event) (s : State) → Comes p input past s → (object : Object) (d : Decl) (constant : Bool) → IsVariableOf p.program s object d constant →
    (offset : ℕ) (scalar : Scalar) → has_slot (layout_of p.program.structs d).slots (pos offset) scalar ≡ true →
    (v : Value) × (found_at s.world.memory (At object (pos offset)) scalar ≡ Ok (record { object = object; offset = offset; value = v; constant = constant }))
