-- What the symbols that are found promise of the runs of a program.
use Rattle.std.specs.Prelude.{◌≡◌, ℕ, true, List, Some, None, IsSomeAnd}
use Rattle.gimple_ir.specs.declared.value.Value.{Value}
use Rattle.gimple_ir.specs.declared.operand.Operand.{Operand}
use Rattle.gimple_ir.specs.declared.point.Point.{Point}
use Rattle.gimple_ir.specs.declared.program.Function.{Function}
use Rattle.gimple_core.specs.Sealed.{Sealed}
use Rattle.gimple_core.specs.Accepted.{first_fault}
use Rattle.gimple_core.specs.State.{Control, World, scope_of}
use Rattle.gimple_core.specs.Run.{value_of}
use Rattle.gimple_core.specs.Trace.{Event, Entry, At, Load, Store, Leave, InEachRun}
use Rattle.body_symbols.specs.declared.symbol.Symbol.{Symbol}
use Rattle.body_symbols.specs.Claims.{Stands, arguments_of}
use Rattle.body_symbols.specs.Found.{Found, found_symbol, AreSymbols}
use Rattle.body_symbols.specs.FoundWhere.{reached_at}

-- the point is reached, and what is found of an operand there is true of its value
pub record FoundStand (p : Sealed) (f : Function) (t : Found) (at : Point) (arguments : List Value) (c : Control) (w : World) : Type 0 where
  pub reached : reached_at t at ≡ true
  pub stands : (x : Operand) (a : Symbol) → found_symbol p.program.globals f.locals t at x ≡ Some a → Stands p.mode f arguments c.serial a (value_of p.program.globals (scope_of c) w.registers x)

-- at each point at which the function is, whose number is n
abbrev pub FoundClaim : Sealed → ℕ → Function → Found → List Event → Event → Type 0
FoundClaim p n f t past (Entry serial g arguments m caller) = Unit {0}
FoundClaim p n f t past (At c w) = c.function ≡ f → IsSomeAnd (arguments_of c.serial past) (λ arguments. FoundStand p f t (record { function = n; block = c.block; index = c.index }) arguments c w)
FoundClaim p n f t past (Load c scalar object offset v) = Unit {0}
FoundClaim p n f t past (Store c scalar object offset v) = Unit {0}
FoundClaim p n f t past (Leave serial) = Unit {0}

-- so in each run of a program without a type fault
abbrev pub FoundHold : Type 0
FoundHold = (p : Sealed) (n : ℕ) (f : Function) (t : Found) → first_fault p.program ≡ None → AreSymbols p n f t → InEachRun p (FoundClaim p n f t)
