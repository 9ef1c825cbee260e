-- The checks of statements and of the ends of blocks, in their order.
use Rattle.std.specs.Prelude.{ℕ, ◌+◌, ◌==◌, Bool, true, false, not, ◌||◌, ◌&&◌, if◌then◌else◌, List, [], ◌∷◌, ◌++◌, length, map, Option, Some, None, Err, ℤ, pos, negsuc}
use Rattle.std.specs.List.{list_any}
use Rattle.std.specs.Ordering.{int_eq}
use Rattle.gimple_ir.specs.declared.scalar.Scalar.{Scalar}
use Rattle.gimple_ir.specs.declared.scalar.Scalar.TheVariants.{I64, U64, Ptr}
use Rattle.gimple_ir.specs.declared.scalar.Op.{Op}
use Rattle.gimple_ir.specs.declared.scalar.Op.TheVariants.{Add, Shl, Shr}
use Rattle.gimple_ir.specs.declared.scalar.Cmp.{Cmp}
use Rattle.gimple_ir.specs.declared.scalar.Cmp.TheVariants.{Eq, Ne}
use Rattle.gimple_ir.specs.declared.operand.Operand.{Operand}
use Rattle.gimple_ir.specs.declared.operand.Operand.TheVariants.{Reg, Number, Null, Address}
use Rattle.gimple_ir.specs.declared.operand.Base.{Base}
use Rattle.gimple_ir.specs.declared.operand.Base.TheVariants.{Reg as RegBase, Variable}
use Rattle.gimple_ir.specs.declared.operand.Place.{Place}
use Rattle.gimple_ir.specs.declared.statement.Stmt.{Stmt}
use Rattle.gimple_ir.specs.declared.statement.Stmt.TheVariants.{Copy, Arith, Compare, Convert, Load, Store, Call, Indirect, Get, Put, Abort}
use Rattle.gimple_ir.specs.declared.statement.Signature.{Signature}
use Rattle.gimple_ir.specs.declared.block.Case.{Case}
use Rattle.gimple_ir.specs.declared.block.End.{End}
use Rattle.gimple_ir.specs.declared.block.End.TheVariants.{Goto, If, Switch, Return}
use Rattle.gimple_ir.specs.declared.block.Block.{Block}
use Rattle.gimple_ir.specs.declared.declarations.Register.{Register}
use Rattle.gimple_ir.specs.declared.value.LayoutSlot.{LayoutSlot}
use Rattle.gimple_ir.specs.declared.program.Function.{Function}
use Rattle.gimple_ir.specs.declared.fault.Site.TheVariants as site
use Rattle.gimple_core.specs.Memory.{same_scalar}
use Rattle.gimple_core.specs.Operators.{in_scalar}
use Rattle.gimple_core.specs.Layout.{layout_of}
use Rattle.gimple_core.specs.Verdict.{Verdict, Judgement, ◌>>=◌, ◌>>◌, pure, demand, found, at}
use Rattle.gimple_core.specs.Env.{Env, Names, named, scalar_of, is_target, is_variable, variable, is_constant}

abbrev pub is_pointer : Scalar → Bool
is_pointer Ptr = true
is_pointer scalar = false

-- ---- operands

-- an operand against a scalar; `wrong` is the code of an operand of another scalar or kind
unfoldable pub operand : Env → ℕ → Scalar → Operand → Verdict (Unit {0})
operand env wrong scalar (Reg name) = do
  own ← scalar_of env name
  demand (same_scalar own scalar) wrong
operand env wrong scalar (Number z) = do
  demand (not (is_pointer scalar)) wrong
  demand (in_scalar scalar z) 13
operand env wrong scalar Null = demand (is_pointer scalar) wrong
operand env wrong scalar (Address name offset) = do
  demand (is_pointer scalar) wrong
  demand (is_variable env name || is_target env.targets name) 1
  demand (in_scalar I64 offset) 13
  demand (is_variable env name || int_eq offset (pos 0)) 11

-- ---- arithmetic

abbrev pub is_shift : Op → Bool
is_shift Shl = true
is_shift Shr = true
is_shift op = false

abbrev pub is_add : Op → Bool
is_add Add = true
is_add op = false

-- the count of a shift: a register may have any integer scalar
unfoldable pub count : Env → Scalar → Operand → Verdict (Unit {0})
count env scalar (Reg name) = do
  own ← scalar_of env name
  demand (not (is_pointer own)) 4
count env scalar x = operand env 4 scalar x

unfoldable pub right_side : Env → Scalar → Op → Operand → Verdict (Unit {0})
right_side env scalar op right = if is_shift op then count env scalar right else operand env 4 scalar right

-- arithmetic whose result has this scalar; to a pointer only an i64 may be added
unfoldable pub arith : Env → Scalar → Operand → Op → Operand → Verdict (Unit {0})
arith env scalar left op right =
    if is_pointer scalar
    then (do
      demand (is_add op) 4
      operand env 4 Ptr left
      operand env 4 I64 right)
    else (do
      operand env 4 scalar left
      right_side env scalar op right)

-- ---- comparisons and conversions

abbrev pub is_number : Operand → Bool
is_number (Number z) = true
is_number x = false

abbrev pub is_order : Cmp → Bool
is_order Eq = false
is_order Ne = false
is_order cmp = true

-- the scalar of both sides: that of the first register, or `ptr` where neither side is a register or a number
unfoldable pub common_scalar : Env → Operand → Operand → Verdict Scalar
common_scalar env (Reg name) right = scalar_of env name
common_scalar env left (Reg name) = scalar_of env name
common_scalar env left right = do
  demand (not (is_number left || is_number right)) 4
  pure Ptr

unfoldable pub compared : Env → Operand → Cmp → Operand → Verdict (Unit {0})
compared env left cmp right = do
  scalar ← common_scalar env left right
  operand env 4 scalar left
  operand env 4 scalar right
  demand (not (is_pointer scalar && is_order cmp)) 4

-- a register that holds an integer, and its scalar
unfoldable pub integer : Env → Operand → Verdict Scalar
integer env (Reg name) = do
  own ← scalar_of env name
  demand (not (is_pointer own)) 4
  pure own
integer env x = Err 4

unfoldable pub converted : Env → Scalar → Scalar → Operand → Verdict (Unit {0})
converted env to scalar from = do
  own ← integer env from
  demand (not (is_pointer scalar)) 4
  demand (same_scalar scalar to) 4

-- ---- memory

abbrev pub is_slot_at : ℤ → Scalar → LayoutSlot → Bool
is_slot_at (pos offset) scalar slot = (slot.offset == offset) && same_scalar slot.scalar scalar
is_slot_at (negsuc n) scalar slot = false

-- whether a slot of this offset and scalar is among the slots
abbrev pub has_slot : List LayoutSlot → ℤ → Scalar → Bool
has_slot slots offset scalar = list_any (is_slot_at offset scalar) slots

unfoldable pub place_at : Env → Scalar → Base → ℤ → Verdict (Unit {0})
place_at env scalar (RegBase name) offset = do
  own ← scalar_of env name
  demand (is_pointer own) 4
  demand (in_scalar I64 offset) 13
place_at env scalar (Variable name) offset = do
  decl ← found (variable env name) 1
  demand (in_scalar I64 offset) 13
  demand (has_slot (layout_of env.structs decl).slots offset scalar) 11

abbrev pub place : Env → Scalar → Place → Verdict (Unit {0})
place env scalar p = place_at env scalar p.base p.offset

-- whether the place is a read-only global
abbrev pub is_read_only : Env → Base → Bool
is_read_only env (Variable name) = is_constant (named name env.globals)
is_read_only env (RegBase name) = false

-- ---- calls

abbrev pub scalars_of : List Register → List Scalar
scalars_of rs = map (λ r. r.scalar) rs

-- each argument against the scalar of its formal
unfoldable pub arguments : Env → List Scalar → List Operand → Verdict (Unit {0})
arguments env (scalar ∷ scalars) (x ∷ xs) = do
  operand env 6 scalar x
  arguments env scalars xs
arguments env [] xs = pure tt
arguments env (scalar ∷ scalars) [] = pure tt

-- the scalar of a call's target
abbrev pub target : Env → Option (List ℕ) → Verdict (Option Scalar)
target env None = pure None
target env (Some name) = do
  scalar ← scalar_of env name
  pure (Some scalar)

abbrev pub result_fits : Option Scalar → Option Scalar → Verdict (Unit {0})
result_fits None result = pure tt
result_fits (Some scalar) None = Err 7
result_fits (Some scalar) (Some result) = demand (same_scalar scalar result) 4

unfoldable pub called : Env → Names Function → Option (List ℕ) → List ℕ → List Operand → Verdict (Unit {0})
called env functions to callee xs = do
  scalar ← target env to
  function ← found (named callee functions) 1
  demand (length xs == length function.params) 5
  arguments env (scalars_of function.params) xs
  result_fits scalar function.result

-- a call through a register, which holds a function with the written signature where the call runs
unfoldable pub called_through : Env → Option (List ℕ) → Signature → List ℕ → List Operand → Verdict (Unit {0})
called_through env to signature callee xs = do
  scalar ← target env to
  functions ← found env.targets 1
  own ← scalar_of env callee
  demand (is_pointer own) 4
  demand (length xs == length signature.params) 5
  arguments env signature.params xs
  result_fits scalar signature.result

-- ---- statements

-- a number that is printed lies in some integer scalar
abbrev pub is_printable : ℤ → Bool
is_printable z = in_scalar I64 z || in_scalar U64 z

unfoldable pub printed : Env → Operand → Verdict (Unit {0})
printed env (Reg name) = do
  own ← scalar_of env name
  demand (not (is_pointer own)) 4
printed env (Number z) = demand (is_printable z) 13
printed env x = Err 4

unfoldable pub statement : Env → Names Function → Stmt → Verdict (Unit {0})
statement env functions (Copy to from) = do
  scalar ← scalar_of env to
  operand env 4 scalar from
statement env functions (Arith to left op right) = do
  scalar ← scalar_of env to
  arith env scalar left op right
statement env functions (Compare to left cmp right) = do
  scalar ← scalar_of env to
  demand (not (is_pointer scalar)) 4
  compared env left cmp right
statement env functions (Convert to scalar from) = do
  own ← scalar_of env to
  converted env own scalar from
statement env functions (Load to scalar from) = do
  own ← scalar_of env to
  demand (same_scalar scalar own) 4
  place env scalar from
statement env functions (Store scalar to from) = do
  place env scalar to
  demand (not (is_read_only env to.base)) 14
  operand env 4 scalar from
statement env functions (Call to callee xs) = called env functions to callee xs
statement env functions (Indirect to signature callee xs) = called_through env to signature callee xs
statement env functions (Get to) = do
  own ← scalar_of env to
  demand (same_scalar own I64) 4
statement env functions (Put from) = printed env from
statement env functions Abort = pure tt

-- ---- ends

unfoldable pub label : Env → ℕ → Verdict (Unit {0})
label env to = demand (list_any (λ l. to == l) env.labels) 8

-- a case's value is of the scalar, and no earlier one
unfoldable pub new_case : Scalar → List ℤ → ℤ → Verdict (List ℤ)
new_case scalar earlier value = do
  demand (in_scalar scalar value) 13
  demand (not (list_any (int_eq value) earlier)) 17
  pure (earlier ++ value ∷ [])

-- the value of each case, after those of earlier ones
unfoldable pub case_values : Scalar → List ℤ → List Case → Verdict (Unit {0})
case_values scalar earlier [] = pure tt
case_values scalar earlier (c ∷ cs) = do
  more ← new_case scalar earlier c.value
  case_values scalar more cs

unfoldable pub case_labels : Env → List Case → Verdict (Unit {0})
case_labels env [] = pure tt
case_labels env (c ∷ cs) = do
  label env c.target
  case_labels env cs

unfoldable pub returned : Env → Option Operand → Option Scalar → Verdict (Unit {0})
returned env None None = pure tt
returned env (Some x) (Some scalar) = operand env 16 scalar x
returned env x result = Err 16

unfoldable pub ending : Env → End → Verdict (Unit {0})
ending env (Goto to) = label env to
ending env (If left cmp right hit miss) = do
  compared env left cmp right
  label env hit
  label env miss
ending env (Switch on cases other) = do
  scalar ← integer env on
  case_values scalar [] cases
  case_labels env cases
  label env other
ending env (Return x) = returned env x env.result

-- ---- bodies

-- statements, numbered from a number on
unfoldable pub body : Env → Names Function → ℕ → ℕ → List Stmt → Judgement (Unit {0})
body env functions index number [] = pure tt
body env functions index number (x ∷ xs) = do
  at (site.Statement index number) (statement env functions x)
  body env functions index (number + 1) xs

-- blocks, whose statements and ends are numbered from a number on
unfoldable pub blocks : Env → Names Function → ℕ → ℕ → List Block → Judgement (Unit {0})
blocks env functions index number [] = pure tt
blocks env functions index number (b ∷ bs) = do
  body env functions index number b.body
  at (site.Statement index (number + length b.body)) (ending env b.end)
  blocks env functions index (number + length b.body + 1) bs
