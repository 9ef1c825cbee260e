-- What jump functions promise of the runs of a program.
use Rattle.std.specs.Prelude.{◌≡◌, ℕ, List, [], ◌∷◌, Option, Some, None, IsSomeAnd, Ok, slice_get}
use Rattle.gimple_ir.specs.declared.scalar.Mode.{Mode}
use Rattle.gimple_ir.specs.declared.value.Value.{Value}
use Rattle.gimple_ir.specs.declared.value.Value.TheVariants.{Int, At as AtObject}
use Rattle.gimple_ir.specs.declared.program.Function.{Function}
use Rattle.gimple_core.specs.Sealed.{Sealed}
use Rattle.gimple_core.specs.Accepted.{first_fault}
use Rattle.gimple_core.specs.Memory.{moved_by}
use Rattle.gimple_core.specs.State.{Control}
use Rattle.gimple_core.specs.Run.{arith_of}
use Rattle.gimple_core.specs.Trace.{Event, Entry, At, Load, Store, Leave, InEachRun}
use Rattle.body_symbols.specs.declared.jumps.JumpFn.{JumpFn}
use Rattle.body_symbols.specs.declared.jumps.JumpFn.TheVariants.{Unknown, Const, Pass, Ancestor, Address}
use Rattle.body_symbols.specs.Bodies.{value_of_constant}
use Rattle.body_symbols.specs.Claims.{formal_scalar, argument_of, object_of, arguments_of}
use Rattle.body_symbols.specs.Found.{Found, AreSymbols}
use Rattle.body_symbols.specs.Jumps.{jumps_in}

-- what a jump function says of a value, by the function that calls, its arguments and its serial
abbrev pub JumpStands : Mode → Function → List Value → ℕ → JumpFn → Value → Type 0
JumpStands mode f arguments serial Unknown v = Unit {0}
JumpStands mode f arguments serial (Const c) v = v ≡ value_of_constant c
JumpStands mode f arguments serial (Pass i None z) v = v ≡ argument_of f arguments i
JumpStands mode f arguments serial (Pass i (Some op) z) v = arith_of mode (formal_scalar f i) (argument_of f arguments i) op (Int z) ≡ Ok v
JumpStands mode f arguments serial (Ancestor i o) v = v ≡ moved_by (argument_of f arguments i) o
JumpStands mode f arguments serial (Address x o) v = v ≡ AtObject (object_of serial x) o

-- one of a value each
abbrev pub JumpsStand : Mode → Function → List Value → ℕ → List JumpFn → List Value → Type 0
JumpsStand mode f arguments serial [] [] = Unit {0}
JumpsStand mode f arguments serial [] (v ∷ vs) = ⊥
JumpsStand mode f arguments serial (j ∷ js) [] = ⊥
JumpsStand mode f arguments serial (j ∷ js) (v ∷ vs) = JumpStands mode f arguments serial j v × JumpsStand mode f arguments serial js vs

-- the call of this control, by the number of its function
abbrev pub CallStands : Sealed → ℕ → Function → Found → List Event → List Value → Option Control → Type 0
CallStands p n f t past given None = Unit {0}
CallStands p n f t past given (Some c) =
    c.function ≡ f → IsSomeAnd (arguments_of c.serial past) (λ arguments. JumpsStand p.mode f arguments c.serial (jumps_in p.program p.program.globals f.locals t (record { function = n; block = c.block; index = c.index })) given)

-- at each entry from a call of the function, the arguments are what the call's jump functions say
abbrev pub JumpsClaim : Sealed → ℕ → Function → Found → List Event → Event → Type 0
JumpsClaim p n f t past (Entry serial g given m caller) = CallStands p n f t past given caller
JumpsClaim p n f t past (At c w) = Unit {0}
JumpsClaim p n f t past (Load c scalar object offset v) = Unit {0}
JumpsClaim p n f t past (Store c scalar object offset v) = Unit {0}
JumpsClaim p n f t past (Leave serial) = Unit {0}

-- so in each run, by the symbols of the function of this number
abbrev pub JumpsHold : Type 0
JumpsHold = (p : Sealed) (n : ℕ) (f : Function) (t : Found) → first_fault p.program ≡ None → slice_get p.program.functions n ≡ Some f → AreSymbols p n f t → InEachRun p (JumpsClaim p n f t)
