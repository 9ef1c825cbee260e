-- Symbols in their order, and what joins two of them. What lies above a symbol is a chain: any offset from the same base, then unknown.
use Rattle.std.specs.Prelude.{ℕ, ◌==◌, ℤ, Bool, true, false, ◌&&◌, if◌then◌else◌, List, Option, Some, None}
use Rattle.std.specs.Ordering.{int_eq}
use Rattle.gimple_ir.specs.declared.scalar.Op.{Op}
use Rattle.gimple_ir.specs.declared.scalar.Op.TheVariants.{Add, Sub, Mul, Div, Rem, And, Or, Xor, Shl, Shr}
use Rattle.gimple_ir.specs.declared.value.Constant.{Constant}
use Rattle.gimple_ir.specs.declared.value.Constant.TheVariants.{Int, Null, Global as GlobalAddress}
use Rattle.body_symbols.specs.declared.symbol.Variable.{Variable}
use Rattle.body_symbols.specs.declared.symbol.Variable.TheVariants.{Global, Local}
use Rattle.body_symbols.specs.declared.symbol.Symbol.{Symbol}
use Rattle.body_symbols.specs.declared.symbol.Symbol.TheVariants.{Const, Formal, FormalOp, FormalAt, VariableAt, Unknown}

-- ---- the same parts

abbrev pub op_number : Op → ℕ
op_number Add = 0
op_number Sub = 1
op_number Mul = 2
op_number Div = 3
op_number Rem = 4
op_number And = 5
op_number Or = 6
op_number Xor = 7
op_number Shl = 8
op_number Shr = 9

abbrev pub same_op : Op → Op → Bool
same_op o p = op_number o == op_number p

abbrev pub same_constant : Constant → Constant → Bool
same_constant (Int z) (Int w) = int_eq z w
same_constant Null Null = true
same_constant (GlobalAddress k o) (GlobalAddress j p) = (k == j) && int_eq o p
same_constant c d = false

abbrev pub same_variable : Variable → Variable → Bool
same_variable (Global k) (Global j) = k == j
same_variable (Local k) (Local j) = k == j
same_variable v w = false

-- ---- the order

-- each offset is below any offset
abbrev pub offset_below : Option ℤ → Option ℤ → Bool
offset_below o None = true
offset_below None (Some z) = false
offset_below (Some z) (Some w) = int_eq z w

abbrev pub symbol_below : Symbol → Symbol → Bool
symbol_below a Unknown = true
symbol_below (Const c) (Const d) = same_constant c d
symbol_below (Formal i) (Formal j) = i == j
symbol_below (FormalOp i op z) (FormalOp j other w) = (i == j) && (same_op op other && int_eq z w)
symbol_below (FormalAt i o) (FormalAt j p) = (i == j) && offset_below o p
symbol_below (VariableAt v o) (VariableAt w p) = same_variable v w && offset_below o p
symbol_below a b = false

-- what differs but for the offset keeps any offset, and else nothing is known
abbrev pub widened : Symbol → Symbol → Symbol
widened (FormalAt i o) (FormalAt j p) = if i == j then FormalAt i None else Unknown
widened (VariableAt v o) (VariableAt w p) = if same_variable v w then VariableAt v None else Unknown
widened a b = Unknown

abbrev pub symbol_joined : Symbol → Symbol → Symbol
symbol_joined a b = if symbol_below a b then b else (if symbol_below b a then a else widened a b)

-- ---- how often a symbol can rise

-- all symbols are of every kind
abbrev pub FitsSymbol : List ℕ → Symbol → Type 0
FitsSymbol k a = Unit {0}

abbrev pub symbol_height : List ℕ → ℕ
symbol_height k = 2

abbrev pub offset_rank : Option ℤ → ℕ
offset_rank None = 1
offset_rank (Some z) = 2

abbrev pub symbol_rank : List ℕ → Symbol → ℕ
symbol_rank k Unknown = 0
symbol_rank k (FormalAt i o) = offset_rank o
symbol_rank k (VariableAt v o) = offset_rank o
symbol_rank k a = 1
