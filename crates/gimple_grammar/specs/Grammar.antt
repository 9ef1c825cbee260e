-- The grammar: which tokens spell a value.
use Rattle.std.specs.Prelude.{◌≡◌, ℕ, zero, suc, Bool, true, false, List, [], ◌∷◌, ◌++◌, Option, Some, None, ℤ, pos, negsuc, ◌⊎◌}
use Rattle.gimple_ir.specs.declared.operand.Operand.{Operand}
use Rattle.gimple_ir.specs.declared.operand.Operand.TheVariants.{Reg, Number, Null, Address}
use Rattle.gimple_ir.specs.declared.operand.Base.{Base}
use Rattle.gimple_ir.specs.declared.operand.Base.TheVariants as base
use Rattle.gimple_ir.specs.declared.operand.Place.{Place}
use Rattle.gimple_ir.specs.declared.scalar.Op.{Op}
use Rattle.gimple_ir.specs.declared.scalar.Op.TheVariants as op
use Rattle.gimple_ir.specs.declared.scalar.Cmp.{Cmp}
use Rattle.gimple_ir.specs.declared.scalar.Cmp.TheVariants as cmp
use Rattle.gimple_ir.specs.declared.scalar.Scalar.{Scalar}
use Rattle.gimple_ir.specs.declared.scalar.Scalar.TheVariants as kind
use Rattle.gimple_ir.specs.declared.statement.Signature.{Signature}
use Rattle.gimple_ir.specs.declared.statement.Stmt.{Stmt}
use Rattle.gimple_ir.specs.declared.statement.Stmt.TheVariants.{Copy, Arith, Compare, Convert, Load, Store, Call, Indirect, Get, Put, Abort}
use Rattle.gimple_ir.specs.declared.block.Case.{Case}
use Rattle.gimple_ir.specs.declared.block.End.{End}
use Rattle.gimple_ir.specs.declared.block.End.TheVariants.{Goto, If, Switch, Return}
use Rattle.gimple_ir.specs.declared.block.Block.{Block}
use Rattle.gimple_ir.specs.declared.declarations.Shape.{Shape}
use Rattle.gimple_ir.specs.declared.declarations.Shape.TheVariants.{Plain, Named}
use Rattle.gimple_ir.specs.declared.declarations.Decl.{Decl}
use Rattle.gimple_ir.specs.declared.declarations.StructDef.{StructDef}
use Rattle.gimple_ir.specs.declared.declarations.Global.{Global}
use Rattle.gimple_ir.specs.declared.declarations.Register.{Register}
use Rattle.gimple_ir.specs.declared.program.Function.{Function}
use Rattle.gimple_ir.specs.declared.program.Program.{Program}
use Rattle.gimple_ir.specs.Spellable.{IsProfile}
use Rattle.gimple_tokens.specs.declared.token.Symbol.{Symbol}
use Rattle.gimple_tokens.specs.declared.token.Symbol.TheVariants as s
use Rattle.gimple_tokens.specs.declared.token.Token.TheVariants as tok
use Rattle.token_law.specs.Reading.{Tokens}
use Rattle.token_law.specs.Languages.{IsMany, IsSeparated}

-- ---- symbols

abbrev pub scalar_symbol : Scalar → Symbol
scalar_symbol kind.I8 = s.I8
scalar_symbol kind.I16 = s.I16
scalar_symbol kind.I32 = s.I32
scalar_symbol kind.I64 = s.I64
scalar_symbol kind.U8 = s.U8
scalar_symbol kind.U16 = s.U16
scalar_symbol kind.U32 = s.U32
scalar_symbol kind.U64 = s.U64
scalar_symbol kind.Ptr = s.Ptr

abbrev pub op_symbol : Op → Symbol
op_symbol op.Add = s.Plus
op_symbol op.Sub = s.Minus
op_symbol op.Mul = s.Star
op_symbol op.Div = s.Slash
op_symbol op.Rem = s.Percent
op_symbol op.And = s.Ampersand
op_symbol op.Or = s.Bar
op_symbol op.Xor = s.Caret
op_symbol op.Shl = s.ShiftLeft
op_symbol op.Shr = s.ShiftRight

abbrev pub cmp_symbol : Cmp → Symbol
cmp_symbol cmp.Eq = s.EqEq
cmp_symbol cmp.Ne = s.NotEq
cmp_symbol cmp.Lt = s.Less
cmp_symbol cmp.Le = s.LessEq
cmp_symbol cmp.Gt = s.Greater
cmp_symbol cmp.Ge = s.GreaterEq

-- ---- operands

-- minus a number
abbrev pub negative : ℕ → ℤ
negative zero = pos 0
negative (suc n) = negsuc n

-- A number may have a minus before it, so 0 has two spellings.
abbrev pub IsSigned : ℤ → Tokens → Type 0
IsSigned z ts = ((n : ℕ) × (z ≡ pos n) × (ts ≡ tok.Number n ∷ [])) ⊎ ((n : ℕ) × (z ≡ negative n) × (ts ≡ tok.Fixed s.Minus ∷ tok.Number n ∷ []))

-- An offset that is not written is 0.
abbrev pub IsOffset : ℤ → Tokens → Type 0
IsOffset z ts = ((a : Tokens) × IsSigned z a × (ts ≡ tok.Fixed s.At ∷ a)) ⊎ ((z ≡ pos 0) × (ts ≡ []))

abbrev pub IsAddress : List ℕ → ℤ → Tokens → Type 0
IsAddress x z ts = (a : Tokens) × IsOffset z a × (ts ≡ tok.Fixed s.Ampersand ∷ tok.Name x ∷ a)

-- an item of a global: an operand, and no register
abbrev pub IsItem : Operand → Tokens → Type 0
IsItem (Reg x) ts = ⊥
IsItem (Number z) ts = IsSigned z ts
IsItem Null ts = ts ≡ tok.Fixed s.Null ∷ []
IsItem (Address x z) ts = IsAddress x z ts

abbrev pub IsOperand : Operand → Tokens → Type 0
IsOperand (Reg x) ts = ts ≡ tok.Name x ∷ []
IsOperand (Number z) ts = IsSigned z ts
IsOperand Null ts = ts ≡ tok.Fixed s.Null ∷ []
IsOperand (Address x z) ts = IsAddress x z ts

abbrev pub IsArguments : List Operand → Tokens → Type 0
IsArguments xs ts = (a : Tokens) × IsSeparated IsOperand xs a × (ts ≡ tok.Fixed s.Open ∷ a ++ tok.Fixed s.Close ∷ [])

abbrev pub base_tokens : Base → Tokens
base_tokens (base.Reg x) = tok.Name x ∷ []
base_tokens (base.Variable x) = tok.Fixed s.Ampersand ∷ tok.Name x ∷ []

abbrev pub IsPlace : Place → Tokens → Type 0
IsPlace p ts = (a : Tokens) × IsOffset p.offset a × (ts ≡ tok.Fixed s.OpenBracket ∷ base_tokens p.base ++ (a ++ tok.Fixed s.CloseBracket ∷ []))

abbrev pub mem_tokens : Scalar → Tokens
mem_tokens k = tok.Fixed s.Mem ∷ tok.Fixed s.Less ∷ tok.Fixed (scalar_symbol k) ∷ tok.Fixed s.Greater ∷ []

-- ---- signatures

abbrev pub IsResult : Option Scalar → Tokens → Type 0
IsResult None ts = ts ≡ tok.Fixed s.Void ∷ []
IsResult (Some k) ts = ts ≡ tok.Fixed (scalar_symbol k) ∷ []

abbrev pub IsScalar : Scalar → Tokens → Type 0
IsScalar k ts = ts ≡ tok.Fixed (scalar_symbol k) ∷ []

-- what an indirect call says of its callee
abbrev pub IsSignature : Signature → Tokens → Type 0
IsSignature g ts = (gives : Tokens) × (params : Tokens) × IsResult g.result gives × IsSeparated IsScalar g.params params
    × (ts ≡ tok.Fixed s.Less ∷ gives ++ (tok.Fixed s.Open ∷ params ++ (tok.Fixed s.Close ∷ tok.Fixed s.Greater ∷ [])))

-- ---- statements, in a program of a profile

-- the target of a call, where there is one
abbrev pub to_tokens : Option (List ℕ) → Tokens
to_tokens None = []
to_tokens (Some x) = tok.Name x ∷ tok.Fixed s.Assign ∷ []

-- a statement without its semicolon; an indirect call stands in profile 2 alone
abbrev pub IsSimple : ℕ → Stmt → Tokens → Type 0
IsSimple profile (Copy x from) ts = (a : Tokens) × IsOperand from a × (ts ≡ tok.Name x ∷ tok.Fixed s.Assign ∷ a)
IsSimple profile (Arith x l o r) ts = (a : Tokens) × (b : Tokens) × IsOperand l a × IsOperand r b × (ts ≡ tok.Name x ∷ tok.Fixed s.Assign ∷ a ++ tok.Fixed (op_symbol o) ∷ b)
IsSimple profile (Compare x l c r) ts = (a : Tokens) × (b : Tokens) × IsOperand l a × IsOperand r b × (ts ≡ tok.Name x ∷ tok.Fixed s.Assign ∷ a ++ tok.Fixed (cmp_symbol c) ∷ b)
IsSimple profile (Convert x k from) ts = (a : Tokens) × IsOperand from a × (ts ≡ tok.Name x ∷ tok.Fixed s.Assign ∷ tok.Fixed s.Open ∷ tok.Fixed (scalar_symbol k) ∷ tok.Fixed s.Close ∷ a)
IsSimple profile (Load x k place) ts = (a : Tokens) × IsPlace place a × (ts ≡ tok.Name x ∷ tok.Fixed s.Assign ∷ mem_tokens k ++ a)
IsSimple profile (Store k place from) ts = (a : Tokens) × (b : Tokens) × IsPlace place a × IsOperand from b × (ts ≡ mem_tokens k ++ (a ++ tok.Fixed s.Assign ∷ b))
IsSimple profile (Call to f xs) ts = (a : Tokens) × IsArguments xs a × (ts ≡ to_tokens to ++ tok.Name f ∷ a)
IsSimple profile (Indirect to g x xs) ts = (a : Tokens) × (b : Tokens) × IsSignature g a × IsArguments xs b × (ts ≡ to_tokens to ++ (tok.Fixed s.Star ∷ a ++ (tok.Name x ∷ b))) × (profile ≡ 2)
IsSimple profile (Get x) ts = ts ≡ tok.Name x ∷ tok.Fixed s.Assign ∷ tok.Fixed s.Getint ∷ tok.Fixed s.Open ∷ tok.Fixed s.Close ∷ []
IsSimple profile (Put from) ts = (a : Tokens) × IsOperand from a × (ts ≡ tok.Fixed s.Putint ∷ tok.Fixed s.Open ∷ a ++ tok.Fixed s.Close ∷ [])
IsSimple profile Abort ts = ts ≡ tok.Fixed s.Abort ∷ tok.Fixed s.Open ∷ tok.Fixed s.Close ∷ []

abbrev pub IsStmt : ℕ → Stmt → Tokens → Type 0
IsStmt profile x ts = (a : Tokens) × IsSimple profile x a × (ts ≡ a ++ tok.Fixed s.Semi ∷ [])

-- ---- ends and blocks

abbrev pub target_tokens : ℕ → Tokens
target_tokens n = tok.Fixed s.Less ∷ tok.Fixed s.Bb ∷ tok.Number n ∷ tok.Fixed s.Greater ∷ []

abbrev pub goto_tokens : ℕ → Tokens
goto_tokens n = tok.Fixed s.Goto ∷ target_tokens n ++ tok.Fixed s.Semi ∷ []

abbrev pub IsCase : Case → Tokens → Type 0
IsCase c ts = (a : Tokens) × IsSigned c.value a × (ts ≡ tok.Fixed s.Case ∷ a ++ (tok.Fixed s.Colon ∷ target_tokens c.target ++ tok.Fixed s.Semi ∷ []))

abbrev pub IsEnd : End → Tokens → Type 0
IsEnd (Goto n) ts = ts ≡ goto_tokens n
IsEnd (If l c r first second) ts = (a : Tokens) × (b : Tokens) × IsOperand l a × IsOperand r b
    × (ts ≡ tok.Fixed s.If ∷ tok.Fixed s.Open ∷ a ++ (tok.Fixed (cmp_symbol c) ∷ b ++ (tok.Fixed s.Close ∷ goto_tokens first ++ tok.Fixed s.Else ∷ goto_tokens second)))
IsEnd (Switch on cases other) ts = (a : Tokens) × (b : Tokens) × IsOperand on a × IsMany IsCase cases b
    × (ts ≡ tok.Fixed s.Switch ∷ tok.Fixed s.Open ∷ a ++ (tok.Fixed s.Close ∷ tok.Fixed s.OpenBrace ∷ b ++ (tok.Fixed s.Default ∷ tok.Fixed s.Colon ∷ target_tokens other ++ tok.Fixed s.Semi ∷ tok.Fixed s.CloseBrace ∷ [])))
IsEnd (Return None) ts = ts ≡ tok.Fixed s.Return ∷ tok.Fixed s.Semi ∷ []
IsEnd (Return (Some o)) ts = (a : Tokens) × IsOperand o a × (ts ≡ tok.Fixed s.Return ∷ a ++ tok.Fixed s.Semi ∷ [])

abbrev pub IsBlock : ℕ → Block → Tokens → Type 0
IsBlock profile b ts = (body : Tokens) × (end : Tokens) × IsMany (IsStmt profile) b.body body × IsEnd b.end end × (ts ≡ target_tokens b.label ++ tok.Fixed s.Colon ∷ body ++ end)

-- ---- declarations

abbrev pub shape_tokens : Shape → Tokens
shape_tokens (Plain k) = tok.Fixed (scalar_symbol k) ∷ []
shape_tokens (Named x) = tok.Fixed s.Struct ∷ tok.Name x ∷ []

abbrev pub length_tokens : Option ℕ → Tokens
length_tokens None = []
length_tokens (Some n) = tok.Fixed s.OpenBracket ∷ tok.Number n ∷ tok.Fixed s.CloseBracket ∷ []

abbrev pub decl_tokens : Decl → Tokens
decl_tokens d = shape_tokens d.shape ++ tok.Name d.name ∷ length_tokens d.length

abbrev pub IsField : Decl → Tokens → Type 0
IsField d ts = ts ≡ decl_tokens d ++ tok.Fixed s.Semi ∷ []

abbrev pub IsStruct : StructDef → Tokens → Type 0
IsStruct x ts = (a : Tokens) × IsMany IsField x.fields a × (ts ≡ tok.Fixed s.Struct ∷ tok.Name x.name ∷ tok.Fixed s.OpenBrace ∷ a ++ tok.Fixed s.CloseBrace ∷ tok.Fixed s.Semi ∷ [])

abbrev pub const_tokens : Bool → Tokens
const_tokens false = []
const_tokens true = tok.Fixed s.Const ∷ []

-- a global without items has none in braces
abbrev pub IsItems : List Operand → Tokens → Type 0
IsItems [] ts = ts ≡ []
IsItems (x ∷ xs) ts = (a : Tokens) × IsSeparated IsItem (x ∷ xs) a × (ts ≡ tok.Fixed s.Assign ∷ tok.Fixed s.OpenBrace ∷ a ++ tok.Fixed s.CloseBrace ∷ [])

abbrev pub IsGlobal : Global → Tokens → Type 0
IsGlobal g ts = (a : Tokens) × IsItems g.items a × (ts ≡ tok.Fixed s.Global ∷ const_tokens g.constant ++ (decl_tokens g.decl ++ (a ++ tok.Fixed s.Semi ∷ [])))

-- ---- functions and programs

abbrev pub IsRegister : Register → Tokens → Type 0
IsRegister r ts = ts ≡ tok.Fixed (scalar_symbol r.scalar) ∷ tok.Name r.name ∷ []

abbrev pub IsDeclared : Register → Tokens → Type 0
IsDeclared r ts = ts ≡ tok.Fixed (scalar_symbol r.scalar) ∷ tok.Name r.name ∷ tok.Fixed s.Semi ∷ []

abbrev pub IsLocal : Decl → Tokens → Type 0
IsLocal d ts = ts ≡ tok.Fixed s.Local ∷ decl_tokens d ++ tok.Fixed s.Semi ∷ []

abbrev pub IsFunction : ℕ → Function → Tokens → Type 0
IsFunction profile f ts = (gives : Tokens) × (params : Tokens) × (locals : Tokens) × (registers : Tokens) × (blocks : Tokens)
    × IsResult f.result gives × IsSeparated IsRegister f.params params × IsMany IsLocal f.locals locals × IsMany IsDeclared f.registers registers × IsMany (IsBlock profile) f.blocks blocks
    × (ts ≡ gives ++ (tok.Name f.name ∷ tok.Fixed s.Open ∷ params ++ (tok.Fixed s.Close ∷ tok.Fixed s.OpenBrace ∷ locals ++ (registers ++ (blocks ++ tok.Fixed s.CloseBrace ∷ [])))))

-- the header's number is the profile
abbrev pub IsProgram : Program → Tokens → Type 0
IsProgram p ts = (structs : Tokens) × (globals : Tokens) × (functions : Tokens) × IsMany IsStruct p.structs structs × IsMany IsGlobal p.globals globals × IsMany (IsFunction p.profile) p.functions functions
    × (ts ≡ tok.Fixed s.Gimple ∷ tok.Number p.profile ∷ tok.Fixed s.Semi ∷ structs ++ (globals ++ functions)) × IsProfile p.profile
