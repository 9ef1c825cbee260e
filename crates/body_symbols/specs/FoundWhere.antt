-- Where a symbol is found.
use Rattle.std.specs.Prelude.{◌≡◌, ℕ, ◌==◌, ◌&&◌, Bool, true, List, is_some}
use Rattle.std.specs.List.{list_any}
use Rattle.std.specs.Str.{bytes_eq}
use Rattle.gimple_ir.specs.declared.operand.Operand.{Operand}
use Rattle.gimple_ir.specs.declared.operand.Operand.TheVariants.{Reg, Number, Null, Address}
use Rattle.gimple_ir.specs.declared.declarations.Decl.{Decl}
use Rattle.gimple_ir.specs.declared.declarations.Global.{Global}
use Rattle.gimple_ir.specs.declared.declarations.Register.{Register}
use Rattle.gimple_ir.specs.declared.point.Point.{Point}
use Rattle.gimple_ir.specs.declared.program.Function.{Function}
use Rattle.gimple_core.specs.Sealed.{Sealed}
use Rattle.body_symbols.specs.Found.{Found, found_row, is_reached, found_symbol, AreSymbols}

-- a register of the function, or an operand that is no register
abbrev pub is_known : List Register → Operand → Bool
is_known registers (Reg name) = list_any (λ r. bytes_eq r.name name) registers
is_known registers (Number z) = true
is_known registers Null = true
is_known registers (Address name offset) = true

-- the point is one of the function and is reached
abbrev pub reached_at : Found → Point → Bool
reached_at t at = (at.function == t.function) && is_reached (found_row t at.block at.index)

-- a symbol is found exactly at the points that are reached, where a register name is one of the function
abbrev pub SymbolsFound : Type 0
SymbolsFound = (p : Sealed) (n : ℕ) (f : Function) (t : Found) → AreSymbols p n f t → (globals : List Global) (locals : List Decl) (at : Point) (x : Operand) → is_some (found_symbol globals locals t at x) ≡ (reached_at t at && is_known t.registers x)
