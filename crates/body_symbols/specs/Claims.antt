-- What symbols promise of the runs of a program.
use Rattle.std.specs.Prelude.{◌≡◌, ℕ, ◌==◌, ℤ, if◌then◌else◌, List, [], ◌∷◌, ◌++◌, length, Option, Some, None, IsSomeAnd, Ok, slice_get, unwrap_or}
use Rattle.gimple_ir.specs.declared.scalar.Scalar.{Scalar}
use Rattle.gimple_ir.specs.declared.scalar.Mode.{Mode}
use Rattle.gimple_ir.specs.declared.value.Value.{Value}
use Rattle.gimple_ir.specs.declared.value.Value.TheVariants.{Int, At as AtObject}
use Rattle.gimple_ir.specs.declared.value.Object.{Object}
use Rattle.gimple_ir.specs.declared.value.Object.TheVariants.{Global as GlobalObject, Local as LocalObject}
use Rattle.gimple_ir.specs.declared.operand.Operand.{Operand}
use Rattle.gimple_ir.specs.declared.program.Function.{Function}
use Rattle.gimple_core.specs.Sealed.{Sealed}
use Rattle.gimple_core.specs.Accepted.{first_fault}
use Rattle.gimple_core.specs.Memory.{moved_by}
use Rattle.gimple_core.specs.State.{Control, World, scope_of, zero_of, scalar_or_pointer}
use Rattle.gimple_core.specs.Run.{arith_of, value_of}
use Rattle.gimple_core.specs.Trace.{Event, Entry, At, Load, Store, Leave, InEachRun}
use Rattle.fix_engine.specs.declared.lifted.Lifted.{Lifted}
use Rattle.fix_engine.specs.Rows.{FitsRows, rows_below}
use Rattle.block_flow.specs.System.{Solves, point_value}
use Rattle.block_flow.specs.Runs.{ReachedWith}
use Rattle.body_symbols.specs.declared.symbol.Variable.{Variable}
use Rattle.body_symbols.specs.declared.symbol.Variable.TheVariants.{Global, Local}
use Rattle.body_symbols.specs.declared.symbol.Symbol.{Symbol}
use Rattle.body_symbols.specs.declared.symbol.Symbol.TheVariants.{Const, Formal, FormalOp, FormalAt, VariableAt, Unknown}
use Rattle.body_symbols.specs.Order.{symbol_below, FitsSymbol}
use Rattle.body_symbols.specs.Bodies.{body_of, operand_symbol, value_of_constant, symbol_steps}

-- ---- what a symbol says of a value, in an activation of a function with these arguments and this serial

-- the scalar of a formal
abbrev pub formal_scalar : Function → ℕ → Scalar
formal_scalar f i = scalar_or_pointer (slice_get f.params i)

-- an argument; a formal without one, which no call of a program without a type fault has, is zero or null
abbrev pub argument_of : Function → List Value → ℕ → Value
argument_of f arguments i = unwrap_or (slice_get arguments i) (zero_of (formal_scalar f i))

-- a variable as an object
abbrev pub object_of : ℕ → Variable → Object
object_of serial (Global k) = GlobalObject k
object_of serial (Local k) = LocalObject serial k

-- a pointer to the same object, or the same value where it is no pointer to one
abbrev pub IsFrom : Value → Value → Type 0
IsFrom (AtObject object o) v = (n : ℤ) × (v ≡ AtObject object n)
IsFrom a v = v ≡ a

-- a value moved by this offset modulo 2^64, or by any
abbrev pub StandsFrom : Value → Option ℤ → Value → Type 0
StandsFrom a (Some o) v = v ≡ moved_by a o
StandsFrom a None v = IsFrom a v

-- a pointer to the object at this offset, or at any
abbrev pub StandsAt : Object → Option ℤ → Value → Type 0
StandsAt object (Some o) v = v ≡ AtObject object o
StandsAt object None v = (n : ℤ) × (v ≡ AtObject object n)

abbrev pub Stands : Mode → Function → List Value → ℕ → Symbol → Value → Type 0
Stands mode f arguments serial (Const c) v = v ≡ value_of_constant c
Stands mode f arguments serial (Formal i) v = v ≡ argument_of f arguments i
Stands mode f arguments serial (FormalOp i op z) v = arith_of mode (formal_scalar f i) (argument_of f arguments i) op (Int z) ≡ Ok v
Stands mode f arguments serial (FormalAt i o) v = StandsFrom (argument_of f arguments i) o v
Stands mode f arguments serial (VariableAt x o) v = StandsAt (object_of serial x) o v
Stands mode f arguments serial Unknown v = Unit {0}

-- ---- in each run

-- the activation of this serial begins with these arguments
abbrev pub BeginsWith : ℕ → List Value → Event → Type 0
BeginsWith serial arguments (Entry s g given m caller) = s ≡ serial → given ≡ arguments
BeginsWith serial arguments (At c w) = Unit {0}
BeginsWith serial arguments (Load c scalar object offset v) = Unit {0}
BeginsWith serial arguments (Store c scalar object offset v) = Unit {0}
BeginsWith serial arguments (Leave s) = Unit {0}

-- the arguments with which the activation of this serial began
abbrev pub arguments_of : ℕ → List Event → Option (List Value)
arguments_of serial [] = None
arguments_of serial (Entry s g given m caller ∷ past) = if s == serial then Some given else arguments_of serial past
arguments_of serial (At c w ∷ past) = arguments_of serial past
arguments_of serial (Load c scalar object offset v ∷ past) = arguments_of serial past
arguments_of serial (Store c scalar object offset v ∷ past) = arguments_of serial past
arguments_of serial (Leave s ∷ past) = arguments_of serial past

-- each operand of the function, whatever it is, has a value of which its symbol is true
abbrev pub OperandsStand : Sealed → Function → List Value → Control → World → List Symbol → Type 0
OperandsStand p f arguments c w row = (x : Operand) → Stands p.mode f arguments c.serial (operand_symbol (body_of p f) row x) (value_of p.program.globals (scope_of c) w.registers x)

-- each point at which the function is, is reached, and its operands are there what their symbols say
abbrev pub SymbolsClaim : Sealed → Function → List (Lifted (List Symbol)) → List Event → Event → Type 0
SymbolsClaim p f xs past (Entry serial g arguments m caller) = Unit {0}
SymbolsClaim p f xs past (At c w) = c.function ≡ f → IsSomeAnd (arguments_of c.serial past) (λ arguments. ReachedWith (OperandsStand p f arguments c w) (point_value (symbol_steps (body_of p f)) f.blocks xs c.block c.index))
SymbolsClaim p f xs past (Load c scalar object offset v) = Unit {0}
SymbolsClaim p f xs past (Store c scalar object offset v) = Unit {0}
SymbolsClaim p f xs past (Leave serial) = Unit {0}

-- a solution of the equations of the symbols of a function, as the symbols at the begins of its blocks
abbrev pub SolvesSymbols : Sealed → Function → List (Lifted (List Symbol)) → Type 0
SolvesSymbols p f xs = Solves (FitsRows FitsSymbol) (rows_below symbol_below) (length (f.params ++ f.registers) ∷ []) (symbol_steps (body_of p f)) f.blocks xs

-- each solution holds in each run of a program without a type fault
abbrev pub SymbolsHold : Type 0
SymbolsHold = (p : Sealed) (f : Function) (xs : List (Lifted (List Symbol))) → first_fault p.program ≡ None → SolvesSymbols p f xs → InEachRun p (SymbolsClaim p f xs)
