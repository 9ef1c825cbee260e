-- Which programs a text can spell.
use Rattle.std.specs.Prelude.{◌≡◌, ℕ, suc, ◌<◌, ◌^◌, List, [], ◌∷◌, Option, Some, None, ℤ, pos, negsuc, ◌⊎◌}
use Rattle.gimple_ir.specs.declared.operand.Operand.{Operand}
use Rattle.gimple_ir.specs.declared.operand.Operand.TheVariants.{Reg, Number, Null, Address}
use Rattle.gimple_ir.specs.declared.operand.Base.{Base}
use Rattle.gimple_ir.specs.declared.operand.Base.TheVariants as base
use Rattle.gimple_ir.specs.declared.operand.Place.{Place}
use Rattle.gimple_ir.specs.declared.statement.Stmt.{Stmt}
use Rattle.gimple_ir.specs.declared.statement.Stmt.TheVariants.{Copy, Arith, Compare, Convert, Load, Store, Call, Indirect, Get, Put, Abort}
use Rattle.gimple_ir.specs.declared.block.Case.{Case}
use Rattle.gimple_ir.specs.declared.block.End.{End}
use Rattle.gimple_ir.specs.declared.block.End.TheVariants.{Goto, If, Switch, Return}
use Rattle.gimple_ir.specs.declared.block.Block.{Block}
use Rattle.gimple_ir.specs.declared.declarations.Shape.{Shape}
use Rattle.gimple_ir.specs.declared.declarations.Shape.TheVariants.{Plain, Named}
use Rattle.gimple_ir.specs.declared.declarations.Decl.{Decl}
use Rattle.gimple_ir.specs.declared.declarations.StructDef.{StructDef}
use Rattle.gimple_ir.specs.declared.declarations.Global.{Global}
use Rattle.gimple_ir.specs.declared.declarations.Register.{Register}
use Rattle.gimple_ir.specs.declared.program.Function.{Function}
use Rattle.gimple_ir.specs.declared.program.Program.{Program}
use Rattle.gimple_ir.specs.Names.{Bytes, IsNameText}

abbrev pub AllOf : {A : Type 0} → (A → Type 0) → List A → Type 0
AllOf P [] = Unit {0}
AllOf P (x ∷ xs) = P x × AllOf P xs

-- the profiles that a header can name
abbrev pub IsProfile : ℕ → Type 0
IsProfile n = (n ≡ 1) ⊎ (n ≡ 2)

-- ---- operands and places

abbrev pub IsSpellableNumber : ℤ → Type 0
IsSpellableNumber (pos n) = n < 2 ^ 64
IsSpellableNumber (negsuc n) = suc n < 2 ^ 64

abbrev pub IsSpellableOperand : Operand → Type 0
IsSpellableOperand (Reg x) = IsNameText x
IsSpellableOperand (Number z) = IsSpellableNumber z
IsSpellableOperand Null = Unit {0}
IsSpellableOperand (Address x z) = IsNameText x × IsSpellableNumber z

-- an item of a global is no register
abbrev pub IsSpellableItem : Operand → Type 0
IsSpellableItem (Reg x) = ⊥
IsSpellableItem (Number z) = IsSpellableNumber z
IsSpellableItem Null = Unit {0}
IsSpellableItem (Address x z) = IsNameText x × IsSpellableNumber z

abbrev pub IsSpellableBase : Base → Type 0
IsSpellableBase (base.Reg x) = IsNameText x
IsSpellableBase (base.Variable x) = IsNameText x

abbrev pub IsSpellablePlace : Place → Type 0
IsSpellablePlace p = IsSpellableBase p.base × IsSpellableNumber p.offset

-- ---- statements, in a program of a profile

abbrev pub IsSpellableTarget : Option Bytes → Type 0
IsSpellableTarget None = Unit {0}
IsSpellableTarget (Some x) = IsNameText x

-- an indirect call stands in profile 2 alone
abbrev pub IsSpellableStmt : ℕ → Stmt → Type 0
IsSpellableStmt profile (Copy x from) = IsNameText x × IsSpellableOperand from
IsSpellableStmt profile (Arith x l o r) = IsNameText x × IsSpellableOperand l × IsSpellableOperand r
IsSpellableStmt profile (Compare x l c r) = IsNameText x × IsSpellableOperand l × IsSpellableOperand r
IsSpellableStmt profile (Convert x kind from) = IsNameText x × IsSpellableOperand from
IsSpellableStmt profile (Load x kind place) = IsNameText x × IsSpellablePlace place
IsSpellableStmt profile (Store kind place from) = IsSpellablePlace place × IsSpellableOperand from
IsSpellableStmt profile (Call to f xs) = IsSpellableTarget to × IsNameText f × AllOf IsSpellableOperand xs
IsSpellableStmt profile (Indirect to signature x xs) = IsSpellableTarget to × IsNameText x × AllOf IsSpellableOperand xs × (profile ≡ 2)
IsSpellableStmt profile (Get x) = IsNameText x
IsSpellableStmt profile (Put from) = IsSpellableOperand from
IsSpellableStmt profile Abort = Unit {0}

abbrev pub IsSpellableCase : Case → Type 0
IsSpellableCase c = IsSpellableNumber c.value × (c.target < 2 ^ 64)

abbrev pub IsSpellableEnd : End → Type 0
IsSpellableEnd (Goto n) = n < 2 ^ 64
IsSpellableEnd (If l c r first second) = IsSpellableOperand l × IsSpellableOperand r × (first < 2 ^ 64) × (second < 2 ^ 64)
IsSpellableEnd (Switch on cases other) = IsSpellableOperand on × AllOf IsSpellableCase cases × (other < 2 ^ 64)
IsSpellableEnd (Return None) = Unit {0}
IsSpellableEnd (Return (Some o)) = IsSpellableOperand o

abbrev pub IsSpellableBlock : ℕ → Block → Type 0
IsSpellableBlock profile b = (b.label < 2 ^ 64) × AllOf (IsSpellableStmt profile) b.body × IsSpellableEnd b.end

-- ---- declarations

abbrev pub IsSpellableShape : Shape → Type 0
IsSpellableShape (Plain kind) = Unit {0}
IsSpellableShape (Named x) = IsNameText x

abbrev pub IsSpellableLength : Option ℕ → Type 0
IsSpellableLength None = Unit {0}
IsSpellableLength (Some n) = n < 2 ^ 64

abbrev pub IsSpellableDecl : Decl → Type 0
IsSpellableDecl d = IsNameText d.name × IsSpellableShape d.shape × IsSpellableLength d.length

abbrev pub IsSpellableStruct : StructDef → Type 0
IsSpellableStruct x = IsNameText x.name × AllOf IsSpellableDecl x.fields

abbrev pub IsSpellableGlobal : Global → Type 0
IsSpellableGlobal g = IsSpellableDecl g.decl × AllOf IsSpellableItem g.items

abbrev pub IsSpellableRegister : Register → Type 0
IsSpellableRegister r = IsNameText r.name

-- ---- functions and programs

pub record IsSpellableFunction (profile : ℕ) (f : Function) : Type 0 where
  pub name : IsNameText f.name
  pub params : AllOf IsSpellableRegister f.params
  pub locals : AllOf IsSpellableDecl f.locals
  pub registers : AllOf IsSpellableRegister f.registers
  pub blocks : AllOf (IsSpellableBlock profile) f.blocks

-- names are names and no keywords, numbers have 64 bits, no item of a global is a register, and indirect calls stand in profile 2 alone
pub record IsSpellable (p : Program) : Type 0 where
  pub profile : IsProfile p.profile
  pub structs : AllOf IsSpellableStruct p.structs
  pub globals : AllOf IsSpellableGlobal p.globals
  pub functions : AllOf (IsSpellableFunction p.profile) p.functions
