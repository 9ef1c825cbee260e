-- Placed functions as rows of numbers. Each code puts its numbers on those before it: the last one first, so that a tag or a
-- length is met before what it tells of.
use Rattle.std.specs.Prelude.{◌≡◌, ◌↔◌, ◌<◌, slice_get, ℕ, ℤ, pos, List, [], ◌∷◌, map, reverse, length, Option, Some, None}
use Rattle.gimple_ir.specs.declared.scalar.Scalar.{Scalar}
use Rattle.gimple_ir.specs.declared.scalar.Scalar.TheVariants.{I8, I16, I32, I64, U8, U16, U32, U64, Ptr}
use Rattle.gimple_ir.specs.declared.scalar.Op.{Op}
use Rattle.gimple_ir.specs.declared.scalar.Op.TheVariants.{Add, Sub, Mul, Div, Rem, And, Or, Xor, Shl, Shr}
use Rattle.gimple_ir.specs.declared.scalar.Cmp.{Cmp}
use Rattle.gimple_ir.specs.declared.scalar.Cmp.TheVariants.{Eq, Ne, Lt, Le, Gt, Ge}
use Rattle.gimple_ir.specs.declared.statement.Signature.{Signature}
use Rattle.gimple_ir.specs.declared.declarations.Shape.{Shape}
use Rattle.gimple_ir.specs.declared.declarations.Shape.TheVariants as shape
use Rattle.gimple_ir.specs.declared.declarations.Decl.{Decl}
use Rattle.gimple_ir.specs.declared.program.Function.{Function}
use Rattle.gimple_ir.specs.declared.program.Program.{Program}
use Rattle.gimple_core.specs.State.{registers_of}
use Rattle.partition_refinement.specs.Relations.{class_of}
use Rattle.icf_classes.specs.Placed.{placed_function, Spot, Seen, Own, Outer, PlacedOperand, Reg, Number, Null, Address, PlacedBase, RegBase, Variable, PlacedStmt, Copy, Arith, Compare, Convert, Load, Store, Call, Indirect, Get, Put, Abort, PlacedCase, PlacedEnd, Goto, If, Switch, Return, PlacedBlock, PlacedLocal, PlacedFunction}

-- ---- lists and options

-- the codes of items, one on the other
unfoldable pub code_items : {X : Type 0} → (X → List ℤ → List ℤ) → List X → List ℤ → List ℤ
code_items code [] row = row
code_items code (x ∷ xs) row = code_items code xs (code x row)

-- and how many there are
unfoldable pub code_list : {X : Type 0} → (X → List ℤ → List ℤ) → List X → List ℤ → List ℤ
code_list code xs row = pos (length xs) ∷ code_items code xs row

unfoldable pub code_option : {X : Type 0} → (X → List ℤ → List ℤ) → Option X → List ℤ → List ℤ
code_option code None row = pos 0 ∷ row
code_option code (Some x) row = pos 1 ∷ code x row

abbrev pub code_count : ℕ → List ℤ → List ℤ
code_count n row = pos n ∷ row

unfoldable pub code_text : List ℕ → List ℤ → List ℤ
code_text name row = code_list code_count name row

unfoldable pub code_spot : Spot → List ℤ → List ℤ
code_spot spot row = code_option code_count spot row

-- ---- scalars and operators by their numbers

abbrev pub scalar_number : Scalar → ℕ
scalar_number I8 = 0
scalar_number I16 = 1
scalar_number I32 = 2
scalar_number I64 = 3
scalar_number U8 = 4
scalar_number U16 = 5
scalar_number U32 = 6
scalar_number U64 = 7
scalar_number Ptr = 8

abbrev pub op_number : Op → ℕ
op_number Add = 0
op_number Sub = 1
op_number Mul = 2
op_number Div = 3
op_number Rem = 4
op_number And = 5
op_number Or = 6
op_number Xor = 7
op_number Shl = 8
op_number Shr = 9

abbrev pub cmp_number : Cmp → ℕ
cmp_number Eq = 0
cmp_number Ne = 1
cmp_number Lt = 2
cmp_number Le = 3
cmp_number Gt = 4
cmp_number Ge = 5

unfoldable pub code_scalar : Scalar → List ℤ → List ℤ
code_scalar scalar row = pos (scalar_number scalar) ∷ row

unfoldable pub code_op : Op → List ℤ → List ℤ
code_op op row = pos (op_number op) ∷ row

unfoldable pub code_cmp : Cmp → List ℤ → List ℤ
code_cmp cmp row = pos (cmp_number cmp) ∷ row

-- ---- what statements have

unfoldable pub code_seen : Seen → List ℤ → List ℤ
code_seen (Own k) row = pos 0 ∷ pos k ∷ row
code_seen (Outer name) row = pos 1 ∷ code_text name row

unfoldable pub code_operand : PlacedOperand → List ℤ → List ℤ
code_operand (Reg spot) row = pos 0 ∷ code_spot spot row
code_operand (Number z) row = pos 1 ∷ z ∷ row
code_operand Null row = pos 2 ∷ row
code_operand (Address seen offset) row = pos 3 ∷ offset ∷ code_seen seen row

unfoldable pub code_operands : List PlacedOperand → List ℤ → List ℤ
code_operands xs row = code_list code_operand xs row

unfoldable pub code_base : PlacedBase → List ℤ → List ℤ
code_base (RegBase spot) row = pos 0 ∷ code_spot spot row
code_base (Variable seen) row = pos 1 ∷ code_seen seen row

unfoldable pub code_target : Option Spot → List ℤ → List ℤ
code_target target row = code_option code_spot target row

unfoldable pub code_scalars : List Scalar → List ℤ → List ℤ
code_scalars scalars row = code_list code_scalar scalars row

unfoldable pub code_result : Option Scalar → List ℤ → List ℤ
code_result result row = code_option code_scalar result row

unfoldable pub code_signature : Signature → List ℤ → List ℤ
code_signature signature row = code_result signature.result (code_scalars signature.params row)

-- ---- statements

unfoldable pub code_stmt : PlacedStmt → List ℤ → List ℤ
code_stmt (Copy to from) row = pos 0 ∷ code_operand from (code_spot to row)
code_stmt (Arith to left op right) row = pos 1 ∷ code_operand right (code_op op (code_operand left (code_spot to row)))
code_stmt (Compare to left cmp right) row = pos 2 ∷ code_operand right (code_cmp cmp (code_operand left (code_spot to row)))
code_stmt (Convert to scalar from) row = pos 3 ∷ code_operand from (code_scalar scalar (code_spot to row))
code_stmt (Load to scalar base offset) row = pos 4 ∷ offset ∷ code_base base (code_scalar scalar (code_spot to row))
code_stmt (Store scalar base offset from) row = pos 5 ∷ code_operand from (offset ∷ code_base base (code_scalar scalar row))
code_stmt (Call to arguments) row = pos 6 ∷ code_operands arguments (code_target to row)
code_stmt (Indirect to signature callee arguments) row = pos 7 ∷ code_operands arguments (code_spot callee (code_signature signature (code_target to row)))
code_stmt (Get to) row = pos 8 ∷ code_spot to row
code_stmt (Put from) row = pos 9 ∷ code_operand from row
code_stmt Abort row = pos 10 ∷ row

-- ---- ends and blocks

unfoldable pub code_case : PlacedCase → List ℤ → List ℤ
code_case c row = code_spot c.target (c.value ∷ row)

unfoldable pub code_cases : List PlacedCase → List ℤ → List ℤ
code_cases cases row = code_list code_case cases row

unfoldable pub code_returned : Option PlacedOperand → List ℤ → List ℤ
code_returned value row = code_option code_operand value row

unfoldable pub code_end : PlacedEnd → List ℤ → List ℤ
code_end (Goto spot) row = pos 0 ∷ code_spot spot row
code_end (If left cmp right hit miss) row = pos 1 ∷ code_spot miss (code_spot hit (code_operand right (code_cmp cmp (code_operand left row))))
code_end (Switch on cases other) row = pos 2 ∷ code_spot other (code_cases cases (code_operand on row))
code_end (Return value) row = pos 3 ∷ code_returned value row

unfoldable pub code_body : List PlacedStmt → List ℤ → List ℤ
code_body body row = code_list code_stmt body row

unfoldable pub code_block : PlacedBlock → List ℤ → List ℤ
code_block b row = code_end b.end (code_body b.body row)

unfoldable pub code_blocks : List PlacedBlock → List ℤ → List ℤ
code_blocks blocks row = code_list code_block blocks row

-- ---- locals and functions

unfoldable pub code_shape : Shape → List ℤ → List ℤ
code_shape (shape.Plain scalar) row = pos 0 ∷ code_scalar scalar row
code_shape (shape.Named name) row = pos 1 ∷ code_text name row

unfoldable pub code_length : Option ℕ → List ℤ → List ℤ
code_length length row = code_option code_count length row

unfoldable pub code_local : PlacedLocal → List ℤ → List ℤ
code_local d row = code_length d.length (code_shape d.shape row)

unfoldable pub code_locals : List PlacedLocal → List ℤ → List ℤ
code_locals locals row = code_list code_local locals row

unfoldable pub code_function : PlacedFunction → List ℤ → List ℤ
code_function f row = code_blocks f.blocks (code_scalars f.registers (code_locals f.locals (code_result f.result (code_scalars f.params row))))

-- ---- rows

-- the numbers of a function in the order in which they are put
unfoldable pub form_row : Function → List ℤ
form_row f = reverse (code_function (placed_function f) [])

-- the names of the registers of a function in a row, its locals, and the labels of its blocks in a row
pub record AreTables (f : Function) (names : List (List ℕ)) (variables : List Decl) (numbers : List ℕ) : Type 0 where
  pub registers : names ≡ map (λ r. r.name) (registers_of f)
  pub locals : variables ≡ f.locals
  pub labels : numbers ≡ map (λ b. b.label) f.blocks

-- Classes of the forms: functions have the same number exactly where their rows are equal, which is where their placed forms
-- are.
pub record AreFormClasses (p : Program) (first : List ℕ) : Type 0 where
  pub count : length first ≡ length p.functions
  pub same : (i j : ℕ) → i < length p.functions → j < length p.functions → (class_of first i ≡ class_of first j) ↔ (slice_get (map form_row p.functions) i ≡ slice_get (map form_row p.functions) j)
