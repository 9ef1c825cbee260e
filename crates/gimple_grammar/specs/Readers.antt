-- The readers of programs.
use Rattle.std.specs.Prelude.{ℕ, ◌==◌, Bool, true, false, ◌&&◌, ◌||◌, List, [], ◌∷◌, Option, Some, None, ℤ, pos}
use Rattle.gimple_ir.specs.declared.operand.Operand.{Operand}
use Rattle.gimple_ir.specs.declared.operand.Operand.TheVariants.{Reg, Number, Null, Address}
use Rattle.gimple_ir.specs.declared.operand.Base.{Base}
use Rattle.gimple_ir.specs.declared.operand.Base.TheVariants as base
use Rattle.gimple_ir.specs.declared.operand.Place.{Place}
use Rattle.gimple_ir.specs.declared.scalar.Op.{Op}
use Rattle.gimple_ir.specs.declared.scalar.Op.TheVariants as op
use Rattle.gimple_ir.specs.declared.scalar.Cmp.{Cmp}
use Rattle.gimple_ir.specs.declared.scalar.Cmp.TheVariants as cmp
use Rattle.gimple_ir.specs.declared.scalar.Scalar.{Scalar}
use Rattle.gimple_ir.specs.declared.scalar.Scalar.TheVariants as kind
use Rattle.gimple_ir.specs.declared.statement.Signature.{Signature}
use Rattle.gimple_ir.specs.declared.statement.Stmt.{Stmt}
use Rattle.gimple_ir.specs.declared.statement.Stmt.TheVariants.{Copy, Arith, Compare, Convert, Load, Store, Call, Indirect, Get, Put, Abort}
use Rattle.gimple_ir.specs.declared.block.Case.{Case}
use Rattle.gimple_ir.specs.declared.block.End.{End}
use Rattle.gimple_ir.specs.declared.block.End.TheVariants.{Goto, If, Switch, Return}
use Rattle.gimple_ir.specs.declared.block.Block.{Block}
use Rattle.gimple_ir.specs.declared.declarations.Shape.{Shape}
use Rattle.gimple_ir.specs.declared.declarations.Shape.TheVariants.{Plain, Named}
use Rattle.gimple_ir.specs.declared.declarations.Decl.{Decl}
use Rattle.gimple_ir.specs.declared.declarations.StructDef.{StructDef}
use Rattle.gimple_ir.specs.declared.declarations.Global.{Global}
use Rattle.gimple_ir.specs.declared.declarations.Register.{Register}
use Rattle.gimple_ir.specs.declared.program.Function.{Function}
use Rattle.gimple_ir.specs.declared.program.Program.{Program}
use Rattle.gimple_tokens.specs.declared.token.Symbol.TheVariants as s
use Rattle.token_law.specs.Reading.{Tokens, Parser, ◌>>=◌, ◌>>◌, pure, choose, many, sees, sees_name, keyed, one_of, sees_one, fixed, name, number, profile_number, end_of_text, one_or_more, separated}
use Rattle.gimple_grammar.specs.Grammar.{negative, scalar_symbol, op_symbol, cmp_symbol}

abbrev pub scalars : List Scalar
scalars = kind.I8 ∷ kind.I16 ∷ kind.I32 ∷ kind.I64 ∷ kind.U8 ∷ kind.U16 ∷ kind.U32 ∷ kind.U64 ∷ kind.Ptr ∷ []

abbrev pub ops : List Op
ops = op.Add ∷ op.Sub ∷ op.Mul ∷ op.Div ∷ op.Rem ∷ op.And ∷ op.Or ∷ op.Xor ∷ op.Shl ∷ op.Shr ∷ []

abbrev pub cmps : List Cmp
cmps = cmp.Eq ∷ cmp.Ne ∷ cmp.Lt ∷ cmp.Le ∷ cmp.Gt ∷ cmp.Ge ∷ []

unfoldable pub scalar : Parser Scalar
scalar = one_of scalar_symbol scalars

unfoldable pub operator : Parser Op
operator = one_of op_symbol ops

unfoldable pub comparison : Parser Cmp
comparison = one_of cmp_symbol cmps

unfoldable pub sees_scalar : Tokens → Bool
sees_scalar = sees_one scalar_symbol scalars

unfoldable pub sees_operator : Tokens → Bool
sees_operator = sees_one op_symbol ops

unfoldable pub sees_comparison : Tokens → Bool
sees_comparison = sees_one cmp_symbol cmps

-- ---- operands

unfoldable pub signed : Parser ℤ
signed = choose (sees s.Minus) (do fixed s.Minus; n ← number; pure (negative n)) (do n ← number; pure (pos n))

unfoldable pub offset : Parser ℤ
offset = choose (sees s.At) (fixed s.At >> signed) (pure (pos 0))

unfoldable pub address : Parser Operand
address = do
  fixed s.Ampersand
  x ← name
  z ← offset
  pure (Address x z)

unfoldable pub literal : Parser Operand
literal = do
  z ← signed
  pure (Number z)

unfoldable pub item : Parser Operand
item = choose (sees s.Null) (keyed s.Null Null) (choose (sees s.Ampersand) address literal)

unfoldable pub operand : Parser Operand
operand = choose sees_name (do n ← name; pure (Reg n)) item

unfoldable pub arguments : Parser (List Operand)
arguments = do
  fixed s.Open
  xs ← separated operand
  fixed s.Close
  pure xs

unfoldable pub based : Parser Base
based = choose sees_name (do n ← name; pure (base.Reg n)) (do fixed s.Ampersand; n ← name; pure (base.Variable n))

unfoldable pub place : Parser Place
place = do
  fixed s.OpenBracket
  b ← based
  z ← offset
  fixed s.CloseBracket
  pure (record { base = b; offset = z })

unfoldable pub mem : Parser Scalar
mem = do
  fixed s.Mem
  fixed s.Less
  k ← scalar
  fixed s.Greater
  pure k

-- ---- signatures and indirect calls

unfoldable pub result : Parser (Option Scalar)
result = choose (sees s.Void) (keyed s.Void None) (do k ← scalar; pure (Some k))

unfoldable pub signature : Parser Signature
signature = do
  fixed s.Less
  gives ← result
  fixed s.Open
  params ← separated scalar
  fixed s.Close
  fixed s.Greater
  pure (record { params = params; result = gives })

unfoldable pub indirect : Option (List ℕ) → Parser Stmt
indirect to = do
  fixed s.Star
  g ← signature
  x ← name
  xs ← arguments
  pure (Indirect to g x xs)

-- in a program of profile 2 alone
abbrev pub begins_indirect : ℕ → Tokens → Bool
begins_indirect profile ts = sees s.Star ts && (profile == 2)

-- ---- statements, in a program of a profile

-- what follows the first operand of an assignment
unfoldable pub tail : List ℕ → Operand → Parser Stmt
tail x left = choose sees_operator (do o ← operator; right ← operand; pure (Arith x left o right))
    (choose sees_comparison (do c ← comparison; right ← operand; pure (Compare x left c right)) (pure (Copy x left)))

unfoldable pub after_name : List ℕ → List ℕ → Parser Stmt
after_name x y = choose (sees s.Open) (do xs ← arguments; pure (Call (Some x) y xs)) (tail x (Reg y))

unfoldable pub convert : List ℕ → Parser Stmt
convert x = do
  fixed s.Open
  k ← scalar
  fixed s.Close
  from ← operand
  pure (Convert x k from)

unfoldable pub load : List ℕ → Parser Stmt
load x = do
  k ← mem
  p ← place
  pure (Load x k p)

unfoldable pub get : List ℕ → Parser Stmt
get x = do
  fixed s.Getint
  fixed s.Open
  fixed s.Close
  pure (Get x)

unfoldable pub right_side : ℕ → List ℕ → Parser Stmt
right_side profile x = choose sees_name (do y ← name; after_name x y) (choose (sees s.Open) (convert x) (choose (sees s.Mem) (load x) (choose (sees s.Getint) (get x)
    (choose (begins_indirect profile) (indirect (Some x)) (do left ← item; tail x left)))))

unfoldable pub named : ℕ → List ℕ → Parser Stmt
named profile x = choose (sees s.Assign) (do fixed s.Assign; right_side profile x) (do xs ← arguments; pure (Call None x xs))

unfoldable pub put : Parser Stmt
put = do
  fixed s.Putint
  fixed s.Open
  x ← operand
  fixed s.Close
  pure (Put x)

unfoldable pub stop : Parser Stmt
stop = do
  fixed s.Abort
  fixed s.Open
  fixed s.Close
  pure Abort

unfoldable pub store : Parser Stmt
store = do
  k ← mem
  p ← place
  fixed s.Assign
  from ← operand
  pure (Store k p from)

unfoldable pub simple : ℕ → Parser Stmt
simple profile = choose (sees s.Putint) put (choose (sees s.Abort) stop (choose (sees s.Mem) store (choose (begins_indirect profile) (indirect None) (do x ← name; named profile x))))

unfoldable pub statement : ℕ → Parser Stmt
statement profile = do
  found ← simple profile
  fixed s.Semi
  pure found

abbrev pub begins_statement : ℕ → Tokens → Bool
begins_statement profile ts = sees_name ts || sees s.Putint ts || sees s.Abort ts || sees s.Mem ts || begins_indirect profile ts

-- ---- ends and blocks

unfoldable pub target : Parser ℕ
target = do
  fixed s.Less
  fixed s.Bb
  n ← number
  fixed s.Greater
  pure n

unfoldable pub goto : Parser ℕ
goto = do
  fixed s.Goto
  to ← target
  fixed s.Semi
  pure to

unfoldable pub branches : Parser End
branches = do
  fixed s.If
  fixed s.Open
  left ← operand
  c ← comparison
  right ← operand
  fixed s.Close
  first ← goto
  fixed s.Else
  second ← goto
  pure (If left c right first second)

unfoldable pub case_of : Parser Case
case_of = do
  fixed s.Case
  z ← signed
  fixed s.Colon
  to ← target
  fixed s.Semi
  pure (record { value = z; target = to })

unfoldable pub switch_end : Parser End
switch_end = do
  fixed s.Switch
  fixed s.Open
  on ← operand
  fixed s.Close
  fixed s.OpenBrace
  cases ← many (sees s.Case) case_of []
  fixed s.Default
  fixed s.Colon
  other ← target
  fixed s.Semi
  fixed s.CloseBrace
  pure (Switch on cases other)

unfoldable pub returned : Parser (Option Operand)
returned = choose (sees s.Semi) (pure None) (do o ← operand; pure (Some o))

unfoldable pub return_end : Parser End
return_end = do
  fixed s.Return
  o ← returned
  fixed s.Semi
  pure (Return o)

unfoldable pub ending : Parser End
ending = choose (sees s.Goto) (do to ← goto; pure (Goto to)) (choose (sees s.If) branches (choose (sees s.Switch) switch_end return_end))

unfoldable pub block : ℕ → Parser Block
block profile = do
  label ← target
  fixed s.Colon
  body ← many (begins_statement profile) (statement profile) []
  end ← ending
  pure (record { label = label; body = body; end = end })

-- ---- declarations

unfoldable pub shape : Parser Shape
shape = choose (sees s.Struct) (do fixed s.Struct; x ← name; pure (Named x)) (do k ← scalar; pure (Plain k))

unfoldable pub array : Parser (Option ℕ)
array = choose (sees s.OpenBracket) (do fixed s.OpenBracket; n ← number; fixed s.CloseBracket; pure (Some n)) (pure None)

unfoldable pub decl : Parser Decl
decl = do
  form ← shape
  x ← name
  n ← array
  pure (record { name = x; shape = form; length = n })

abbrev pub begins_decl : Tokens → Bool
begins_decl ts = sees s.Struct ts || sees_scalar ts

unfoldable pub field : Parser Decl
field = do
  d ← decl
  fixed s.Semi
  pure d

unfoldable pub struct_def : Parser StructDef
struct_def = do
  fixed s.Struct
  x ← name
  fixed s.OpenBrace
  fields ← many begins_decl field []
  fixed s.CloseBrace
  fixed s.Semi
  pure (record { name = x; fields = fields })

unfoldable pub constant : Parser Bool
constant = choose (sees s.Const) (keyed s.Const true) (pure false)

unfoldable pub items : Parser (List Operand)
items = choose (sees s.Assign) (do fixed s.Assign; fixed s.OpenBrace; xs ← one_or_more item; fixed s.CloseBrace; pure xs) (pure [])

unfoldable pub global_def : Parser Global
global_def = do
  fixed s.Global
  c ← constant
  d ← decl
  xs ← items
  fixed s.Semi
  pure (record { decl = d; constant = c; items = xs })

-- ---- functions and programs

unfoldable pub register : Parser Register
register = do
  k ← scalar
  x ← name
  pure (record { name = x; scalar = k })

unfoldable pub declared_register : Parser Register
declared_register = do
  r ← register
  fixed s.Semi
  pure r

unfoldable pub local_decl : Parser Decl
local_decl = do
  fixed s.Local
  d ← decl
  fixed s.Semi
  pure d

unfoldable pub function : ℕ → Parser Function
function profile = do
  gives ← result
  x ← name
  fixed s.Open
  params ← separated register
  fixed s.Close
  fixed s.OpenBrace
  locals ← many (sees s.Local) local_decl []
  registers ← many sees_scalar declared_register []
  blocks ← many (sees s.Less) (block profile) []
  fixed s.CloseBrace
  pure (record { name = x; params = params; result = gives; locals = locals; registers = registers; blocks = blocks })

abbrev pub begins_function : Tokens → Bool
begins_function ts = sees s.Void ts || sees_scalar ts

unfoldable pub program : Parser Program
program = do
  fixed s.Gimple
  profile ← profile_number
  fixed s.Semi
  structs ← many (sees s.Struct) struct_def []
  globals ← many (sees s.Global) global_def []
  functions ← many begins_function (function profile) []
  end_of_text
  pure (record { profile = profile; structs = structs; globals = globals; functions = functions })
