-- A placed function can be read back from its row of numbers.
use Rattle.std.proofs.Common.{◌≡◌, ℕ, zero, suc, ◌+◌, ◌==◌, ℤ, pos, negsuc, if◌then◌else◌, arith, List, [], ◌∷◌, ◌++◌, length, refl, sym, ◌∙◌, ap, Option, Some, None}
use Rattle.std.proofs.lemmas.List.{append-nil}
use Rattle.gimple_ir.specs.declared.scalar.Scalar.{Scalar}
use Rattle.gimple_ir.specs.declared.scalar.Scalar.TheVariants.{I8, I16, I32, I64, U8, U16, U32, U64, Ptr}
use Rattle.gimple_ir.specs.declared.scalar.Op.{Op}
use Rattle.gimple_ir.specs.declared.scalar.Op.TheVariants.{Add, Sub, Mul, Div, Rem, And, Or, Xor, Shl, Shr}
use Rattle.gimple_ir.specs.declared.scalar.Cmp.{Cmp}
use Rattle.gimple_ir.specs.declared.scalar.Cmp.TheVariants.{Eq, Ne, Lt, Le, Gt, Ge}
use Rattle.gimple_ir.specs.declared.statement.Signature.{Signature}
use Rattle.gimple_ir.specs.declared.declarations.Shape.{Shape}
use Rattle.gimple_ir.specs.declared.declarations.Shape.TheVariants as shape
use Rattle.icf_classes.specs.Placed.{Spot, Seen, Own, Outer, PlacedOperand, Reg, Number, Null, Address, PlacedBase, RegBase, Variable, PlacedStmt, Copy, Arith, Compare, Convert, Load, Store, Call, Indirect, Get, Put, Abort, PlacedCase, PlacedEnd, Goto, If, Switch, Return, PlacedBlock, PlacedLocal, PlacedFunction}
use Rattle.icf_classes.specs.Codes.{code_items, code_list, code_option, code_count, code_text, code_spot, scalar_number, op_number, cmp_number, code_scalar, code_op, code_cmp, code_seen, code_operand, code_operands, code_base, code_target, code_scalars, code_result, code_signature, code_stmt, code_case, code_cases, code_returned, code_end, code_body, code_block, code_blocks, code_shape, code_length, code_local, code_locals, code_function}

-- what is read off a row, and what is left of it
abbrev Reader : Type 0 → Type 0
Reader X = List ℤ → X × List ℤ

abbrev ReadsBack : (X : Type 0) → (X → List ℤ → List ℤ) → (List ℤ → X × List ℤ) → Type 0
ReadsBack X code read = (x : X) (row : List ℤ) → read (code x row) ≡ (x, row)

abbrev number_in : ℤ → ℕ
number_in (pos n) = n
number_in (negsuc n) = 0

read_tag : List ℤ → ℕ × List ℤ
read_tag [] = (0, [])
read_tag (z ∷ row) = (number_in z, row)

read_number : List ℤ → ℤ × List ℤ
read_number [] = (pos 0, [])
read_number (z ∷ row) = (z, row)

tag_read : (n : ℕ) (row : List ℤ) → read_tag (pos n ∷ row) ≡ (n, row)
unfolding read_tag
tag_read n row = refl

number_read : (z : ℤ) (row : List ℤ) → read_number (z ∷ row) ≡ (z, row)
unfolding read_number
number_read z row = refl

-- ---- lists and options

module _ (X : Type 0) (code : X → List ℤ → List ℤ) (read : List ℤ → X × List ℤ) (back : (x : X) (row : List ℤ) → read (code x row) ≡ (x, row)) where
  -- the items from the last one on, before those that were read
  read_items : ℕ → List X → List ℤ → List X × List ℤ
  read_items zero made row = (made, row)
  read_items (suc n) made row = let a = read row in read_items n (a.0 ∷ made) a.1

  one_read : (n : ℕ) (made : List X) (x : X) (row : List ℤ) → read_items (suc n) made (code x row) ≡ read_items n (x ∷ made) row
  unfolding read_items
  one_read n made x row = ap (λ (a : X × List ℤ). read_items n (a.0 ∷ made) a.1) (back x row)

  items_read : (xs : List X) (m : ℕ) (made : List X) (row : List ℤ) → read_items (length xs + m) made (code_items code xs row) ≡ read_items m (xs ++ made) row
  unfolding code_items
  items_read [] m made row = let n : 0 + m ≡ m = omega arith in ap (λ k. read_items k made row) n
  items_read (x ∷ xs) m made row =
      let n : suc (length xs) + m ≡ length xs + suc m = omega arith in
      ap (λ k. read_items k made (code_items code xs (code x row))) n ∙ (items_read xs (suc m) made (code x row) ∙ one_read m (xs ++ made) x row)

  pub read_list : List ℤ → List X × List ℤ
  read_list row = let a = read_tag row in read_items a.0 [] a.1

  pub list_read : (xs : List X) (row : List ℤ) → read_list (code_list code xs row) ≡ (xs, row)
  unfolding read_list code_list read_items
  list_read xs row =
      let n : length xs ≡ length xs + 0 = omega arith in
      ap (λ (a : ℕ × List ℤ). read_items a.0 [] a.1) (tag_read (length xs) (code_items code xs row))
      ∙ (ap (λ k. read_items k [] (code_items code xs row)) n ∙ (items_read xs 0 [] row ∙ ap (λ ys. read_items 0 ys row) (append-nil xs)))

  pub read_option : List ℤ → Option X × List ℤ
  read_option row = let t = read_tag row in if t.0 == 0 then (None, t.1) else (let a = read t.1 in (Some a.0, a.1))

  pub option_read : (x : Option X) (row : List ℤ) → read_option (code_option code x row) ≡ (x, row)
  unfolding read_option code_option
  option_read None row = rw (tag_read 0 row) refl
  option_read (Some x) row = rw (tag_read 1 (code x row), back x row) refl

read_text : List ℤ → List ℕ × List ℤ
read_text row = read_list ℕ code_count read_tag tag_read row

text_read : (name : List ℕ) (row : List ℤ) → read_text (code_text name row) ≡ (name, row)
unfolding read_text code_text
text_read name row = list_read ℕ code_count read_tag tag_read name row

read_spot : List ℤ → Spot × List ℤ
read_spot row = read_option ℕ code_count read_tag tag_read row

spot_read : (spot : Spot) (row : List ℤ) → read_spot (code_spot spot row) ≡ (spot, row)
unfolding read_spot code_spot
spot_read spot row = option_read ℕ code_count read_tag tag_read spot row

-- ---- scalars and operators

abbrev scalar_of_number : ℕ → Scalar
scalar_of_number n =
    if n == 0 then I8 else if n == 1 then I16 else if n == 2 then I32 else if n == 3 then I64 else if n == 4 then U8 else if n == 5 then U16 else if n == 6 then U32 else if n == 7 then U64 else Ptr

abbrev op_of_number : ℕ → Op
op_of_number n =
    if n == 0 then Add else if n == 1 then Sub else if n == 2 then Mul else if n == 3 then Div else if n == 4 then Rem else if n == 5 then And else if n == 6 then Or else if n == 7 then Xor else if n == 8 then Shl else Shr

abbrev cmp_of_number : ℕ → Cmp
cmp_of_number n = if n == 0 then Eq else if n == 1 then Ne else if n == 2 then Lt else if n == 3 then Le else if n == 4 then Gt else Ge

scalar_back : (scalar : Scalar) → scalar_of_number (scalar_number scalar) ≡ scalar
scalar_back I8 = refl
scalar_back I16 = refl
scalar_back I32 = refl
scalar_back I64 = refl
scalar_back U8 = refl
scalar_back U16 = refl
scalar_back U32 = refl
scalar_back U64 = refl
scalar_back Ptr = refl

op_back : (op : Op) → op_of_number (op_number op) ≡ op
op_back Add = refl
op_back Sub = refl
op_back Mul = refl
op_back Div = refl
op_back Rem = refl
op_back And = refl
op_back Or = refl
op_back Xor = refl
op_back Shl = refl
op_back Shr = refl

cmp_back : (cmp : Cmp) → cmp_of_number (cmp_number cmp) ≡ cmp
cmp_back Eq = refl
cmp_back Ne = refl
cmp_back Lt = refl
cmp_back Le = refl
cmp_back Gt = refl
cmp_back Ge = refl

read_scalar : List ℤ → Scalar × List ℤ
read_scalar row = let t = read_tag row in (scalar_of_number t.0, t.1)

scalar_read : (scalar : Scalar) (row : List ℤ) → read_scalar (code_scalar scalar row) ≡ (scalar, row)
unfolding read_scalar read_tag code_scalar
scalar_read scalar row = ap (λ (s : Scalar). (s, row)) (scalar_back scalar)

read_op : List ℤ → Op × List ℤ
read_op row = let t = read_tag row in (op_of_number t.0, t.1)

op_read : (op : Op) (row : List ℤ) → read_op (code_op op row) ≡ (op, row)
unfolding read_op read_tag code_op
op_read op row = ap (λ (s : Op). (s, row)) (op_back op)

read_cmp : List ℤ → Cmp × List ℤ
read_cmp row = let t = read_tag row in (cmp_of_number t.0, t.1)

cmp_read : (cmp : Cmp) (row : List ℤ) → read_cmp (code_cmp cmp row) ≡ (cmp, row)
unfolding read_cmp read_tag code_cmp
cmp_read cmp row = ap (λ (s : Cmp). (s, row)) (cmp_back cmp)

-- ---- what statements have

read_seen : List ℤ → Seen × List ℤ
read_seen row =
    let t = read_tag row in
    if t.0 == 0 then (let a = read_tag t.1 in (Own a.0, a.1)) else (let a = read_text t.1 in (Outer a.0, a.1))

seen_read : (seen : Seen) (row : List ℤ) → read_seen (code_seen seen row) ≡ (seen, row)
unfolding read_seen code_seen
seen_read (Own k) row = rw (tag_read 0 (pos k ∷ row), tag_read k row) refl
seen_read (Outer name) row = rw (tag_read 1 (code_text name row), text_read name row) refl

read_address : List ℤ → PlacedOperand × List ℤ
read_address row = let a = read_number row in let b = read_seen a.1 in (Address b.0 a.0, b.1)

address_read : (seen : Seen) (offset : ℤ) (row : List ℤ) → read_address (offset ∷ code_seen seen row) ≡ (Address seen offset, row)
unfolding read_address
address_read seen offset row = rw (number_read offset (code_seen seen row), seen_read seen row) refl

read_operand : List ℤ → PlacedOperand × List ℤ
read_operand row =
    let t = read_tag row in
    if t.0 == 0 then (let a = read_spot t.1 in (Reg a.0, a.1))
    else if t.0 == 1 then (let a = read_number t.1 in (Number a.0, a.1))
    else if t.0 == 2 then (Null, t.1)
    else read_address t.1

operand_read : (x : PlacedOperand) (row : List ℤ) → read_operand (code_operand x row) ≡ (x, row)
unfolding read_operand code_operand
operand_read (Reg spot) row = rw (tag_read 0 (code_spot spot row), spot_read spot row) refl
operand_read (Number z) row = rw (tag_read 1 (z ∷ row), number_read z row) refl
operand_read Null row = rw (tag_read 2 row) refl
operand_read (Address seen offset) row = rw (tag_read 3 (offset ∷ code_seen seen row)) (address_read seen offset row)

read_operands : List ℤ → List PlacedOperand × List ℤ
read_operands row = read_list PlacedOperand code_operand read_operand operand_read row

operands_read : (xs : List PlacedOperand) (row : List ℤ) → read_operands (code_operands xs row) ≡ (xs, row)
unfolding read_operands code_operands
operands_read xs row = list_read PlacedOperand code_operand read_operand operand_read xs row

read_base : List ℤ → PlacedBase × List ℤ
read_base row =
    let t = read_tag row in
    if t.0 == 0 then (let a = read_spot t.1 in (RegBase a.0, a.1)) else (let a = read_seen t.1 in (Variable a.0, a.1))

base_read : (b : PlacedBase) (row : List ℤ) → read_base (code_base b row) ≡ (b, row)
unfolding read_base code_base
base_read (RegBase spot) row = rw (tag_read 0 (code_spot spot row), spot_read spot row) refl
base_read (Variable seen) row = rw (tag_read 1 (code_seen seen row), seen_read seen row) refl

read_target : List ℤ → Option Spot × List ℤ
read_target row = read_option Spot code_spot read_spot spot_read row

target_read : (target : Option Spot) (row : List ℤ) → read_target (code_target target row) ≡ (target, row)
unfolding read_target code_target
target_read target row = option_read Spot code_spot read_spot spot_read target row

read_scalars : List ℤ → List Scalar × List ℤ
read_scalars row = read_list Scalar code_scalar read_scalar scalar_read row

scalars_read : (scalars : List Scalar) (row : List ℤ) → read_scalars (code_scalars scalars row) ≡ (scalars, row)
unfolding read_scalars code_scalars
scalars_read scalars row = list_read Scalar code_scalar read_scalar scalar_read scalars row

read_result : List ℤ → Option Scalar × List ℤ
read_result row = read_option Scalar code_scalar read_scalar scalar_read row

result_read : (result : Option Scalar) (row : List ℤ) → read_result (code_result result row) ≡ (result, row)
unfolding read_result code_result
result_read result row = option_read Scalar code_scalar read_scalar scalar_read result row

read_signature : List ℤ → Signature × List ℤ
read_signature row = let a = read_result row in let b = read_scalars a.1 in (record { params = b.0; result = a.0 }, b.1)

signature_read : (s : Signature) (row : List ℤ) → read_signature (code_signature s row) ≡ (s, row)
unfolding read_signature code_signature
signature_read s row = rw (result_read s.result (code_scalars s.params row), scalars_read s.params row) refl

-- ---- statements

read_copy : List ℤ → PlacedStmt × List ℤ
read_copy row = let a = read_operand row in let b = read_spot a.1 in (Copy b.0 a.0, b.1)

copy_read : (to : Spot) (from : PlacedOperand) (row : List ℤ) → read_copy (code_operand from (code_spot to row)) ≡ (Copy to from, row)
unfolding read_copy
copy_read to from row = rw (operand_read from (code_spot to row), spot_read to row) refl

read_arith : List ℤ → PlacedStmt × List ℤ
read_arith row = let a = read_operand row in let b = read_op a.1 in let c = read_operand b.1 in let d = read_spot c.1 in (Arith d.0 c.0 b.0 a.0, d.1)

arith_read : (to : Spot) (left : PlacedOperand) (op : Op) (right : PlacedOperand) (row : List ℤ) → read_arith (code_operand right (code_op op (code_operand left (code_spot to row)))) ≡ (Arith to left op right, row)
unfolding read_arith
arith_read to left op right row =
    rw (operand_read right (code_op op (code_operand left (code_spot to row))), op_read op (code_operand left (code_spot to row)), operand_read left (code_spot to row), spot_read to row) refl

read_compare : List ℤ → PlacedStmt × List ℤ
read_compare row = let a = read_operand row in let b = read_cmp a.1 in let c = read_operand b.1 in let d = read_spot c.1 in (Compare d.0 c.0 b.0 a.0, d.1)

compare_read : (to : Spot) (left : PlacedOperand) (cmp : Cmp) (right : PlacedOperand) (row : List ℤ) → read_compare (code_operand right (code_cmp cmp (code_operand left (code_spot to row)))) ≡ (Compare to left cmp right, row)
unfolding read_compare
compare_read to left cmp right row =
    rw (operand_read right (code_cmp cmp (code_operand left (code_spot to row))), cmp_read cmp (code_operand left (code_spot to row)), operand_read left (code_spot to row), spot_read to row) refl

read_convert : List ℤ → PlacedStmt × List ℤ
read_convert row = let a = read_operand row in let b = read_scalar a.1 in let c = read_spot b.1 in (Convert c.0 b.0 a.0, c.1)

convert_read : (to : Spot) (scalar : Scalar) (from : PlacedOperand) (row : List ℤ) → read_convert (code_operand from (code_scalar scalar (code_spot to row))) ≡ (Convert to scalar from, row)
unfolding read_convert
convert_read to scalar from row = rw (operand_read from (code_scalar scalar (code_spot to row)), scalar_read scalar (code_spot to row), spot_read to row) refl

read_load : List ℤ → PlacedStmt × List ℤ
read_load row = let a = read_number row in let b = read_base a.1 in let c = read_scalar b.1 in let d = read_spot c.1 in (Load d.0 c.0 b.0 a.0, d.1)

load_read : (to : Spot) (scalar : Scalar) (base : PlacedBase) (offset : ℤ) (row : List ℤ) → read_load (offset ∷ code_base base (code_scalar scalar (code_spot to row))) ≡ (Load to scalar base offset, row)
unfolding read_load
load_read to scalar base offset row =
    rw (number_read offset (code_base base (code_scalar scalar (code_spot to row))), base_read base (code_scalar scalar (code_spot to row)), scalar_read scalar (code_spot to row), spot_read to row) refl

read_store : List ℤ → PlacedStmt × List ℤ
read_store row = let a = read_operand row in let b = read_number a.1 in let c = read_base b.1 in let d = read_scalar c.1 in (Store d.0 c.0 b.0 a.0, d.1)

store_read : (scalar : Scalar) (base : PlacedBase) (offset : ℤ) (from : PlacedOperand) (row : List ℤ) → read_store (code_operand from (offset ∷ code_base base (code_scalar scalar row))) ≡ (Store scalar base offset from, row)
unfolding read_store
store_read scalar base offset from row =
    rw (operand_read from (offset ∷ code_base base (code_scalar scalar row)), number_read offset (code_base base (code_scalar scalar row)), base_read base (code_scalar scalar row), scalar_read scalar row) refl

read_call : List ℤ → PlacedStmt × List ℤ
read_call row = let a = read_operands row in let b = read_target a.1 in (Call b.0 a.0, b.1)

call_read : (to : Option Spot) (arguments : List PlacedOperand) (row : List ℤ) → read_call (code_operands arguments (code_target to row)) ≡ (Call to arguments, row)
unfolding read_call
call_read to arguments row = rw (operands_read arguments (code_target to row), target_read to row) refl

read_indirect : List ℤ → PlacedStmt × List ℤ
read_indirect row = let a = read_operands row in let b = read_spot a.1 in let c = read_signature b.1 in let d = read_target c.1 in (Indirect d.0 c.0 b.0 a.0, d.1)

indirect_read : (to : Option Spot) (signature : Signature) (callee : Spot) (arguments : List PlacedOperand) (row : List ℤ) → read_indirect (code_operands arguments (code_spot callee (code_signature signature (code_target to row)))) ≡ (Indirect to signature callee arguments, row)
unfolding read_indirect
indirect_read to signature callee arguments row =
    rw (operands_read arguments (code_spot callee (code_signature signature (code_target to row))), spot_read callee (code_signature signature (code_target to row)), signature_read signature (code_target to row), target_read to row) refl

read_stmt : List ℤ → PlacedStmt × List ℤ
read_stmt row =
    let t = read_tag row in
    if t.0 == 0 then read_copy t.1
    else if t.0 == 1 then read_arith t.1
    else if t.0 == 2 then read_compare t.1
    else if t.0 == 3 then read_convert t.1
    else if t.0 == 4 then read_load t.1
    else if t.0 == 5 then read_store t.1
    else if t.0 == 6 then read_call t.1
    else if t.0 == 7 then read_indirect t.1
    else if t.0 == 8 then (let a = read_spot t.1 in (Get a.0, a.1))
    else if t.0 == 9 then (let a = read_operand t.1 in (Put a.0, a.1))
    else (Abort, t.1)

stmt_read : (x : PlacedStmt) (row : List ℤ) → read_stmt (code_stmt x row) ≡ (x, row)
unfolding read_stmt code_stmt
stmt_read (Copy to from) row = rw (tag_read 0 (code_operand from (code_spot to row))) (copy_read to from row)
stmt_read (Arith to left op right) row = rw (tag_read 1 (code_operand right (code_op op (code_operand left (code_spot to row))))) (arith_read to left op right row)
stmt_read (Compare to left cmp right) row = rw (tag_read 2 (code_operand right (code_cmp cmp (code_operand left (code_spot to row))))) (compare_read to left cmp right row)
stmt_read (Convert to scalar from) row = rw (tag_read 3 (code_operand from (code_scalar scalar (code_spot to row)))) (convert_read to scalar from row)
stmt_read (Load to scalar base offset) row = rw (tag_read 4 (offset ∷ code_base base (code_scalar scalar (code_spot to row)))) (load_read to scalar base offset row)
stmt_read (Store scalar base offset from) row = rw (tag_read 5 (code_operand from (offset ∷ code_base base (code_scalar scalar row)))) (store_read scalar base offset from row)
stmt_read (Call to arguments) row = rw (tag_read 6 (code_operands arguments (code_target to row))) (call_read to arguments row)
stmt_read (Indirect to signature callee arguments) row =
    rw (tag_read 7 (code_operands arguments (code_spot callee (code_signature signature (code_target to row))))) (indirect_read to signature callee arguments row)
stmt_read (Get to) row = rw (tag_read 8 (code_spot to row), spot_read to row) refl
stmt_read (Put from) row = rw (tag_read 9 (code_operand from row), operand_read from row) refl
stmt_read Abort row = rw (tag_read 10 row) refl

-- ---- ends and blocks

read_case : List ℤ → PlacedCase × List ℤ
read_case row = let a = read_spot row in let b = read_number a.1 in (record { value = b.0; target = a.0 }, b.1)

case_read : (c : PlacedCase) (row : List ℤ) → read_case (code_case c row) ≡ (c, row)
unfolding read_case code_case
case_read c row = rw (spot_read c.target (c.value ∷ row), number_read c.value row) refl

read_cases : List ℤ → List PlacedCase × List ℤ
read_cases row = read_list PlacedCase code_case read_case case_read row

cases_read : (cases : List PlacedCase) (row : List ℤ) → read_cases (code_cases cases row) ≡ (cases, row)
unfolding read_cases code_cases
cases_read cases row = list_read PlacedCase code_case read_case case_read cases row

read_returned : List ℤ → Option PlacedOperand × List ℤ
read_returned row = read_option PlacedOperand code_operand read_operand operand_read row

returned_read : (value : Option PlacedOperand) (row : List ℤ) → read_returned (code_returned value row) ≡ (value, row)
unfolding read_returned code_returned
returned_read value row = option_read PlacedOperand code_operand read_operand operand_read value row

read_if : List ℤ → PlacedEnd × List ℤ
read_if row = let a = read_spot row in let b = read_spot a.1 in let c = read_operand b.1 in let d = read_cmp c.1 in let e = read_operand d.1 in (If e.0 d.0 c.0 b.0 a.0, e.1)

if_read : (left : PlacedOperand) (cmp : Cmp) (right : PlacedOperand) (hit miss : Spot) (row : List ℤ) → read_if (code_spot miss (code_spot hit (code_operand right (code_cmp cmp (code_operand left row))))) ≡ (If left cmp right hit miss, row)
unfolding read_if
if_read left cmp right hit miss row =
    rw (spot_read miss (code_spot hit (code_operand right (code_cmp cmp (code_operand left row)))), spot_read hit (code_operand right (code_cmp cmp (code_operand left row))), operand_read right (code_cmp cmp (code_operand left row)), cmp_read cmp (code_operand left row), operand_read left row) refl

read_switch : List ℤ → PlacedEnd × List ℤ
read_switch row = let a = read_spot row in let b = read_cases a.1 in let c = read_operand b.1 in (Switch c.0 b.0 a.0, c.1)

switch_read : (on : PlacedOperand) (cases : List PlacedCase) (other : Spot) (row : List ℤ) → read_switch (code_spot other (code_cases cases (code_operand on row))) ≡ (Switch on cases other, row)
unfolding read_switch
switch_read on cases other row = rw (spot_read other (code_cases cases (code_operand on row)), cases_read cases (code_operand on row), operand_read on row) refl

read_end : List ℤ → PlacedEnd × List ℤ
read_end row =
    let t = read_tag row in
    if t.0 == 0 then (let a = read_spot t.1 in (Goto a.0, a.1))
    else if t.0 == 1 then read_if t.1
    else if t.0 == 2 then read_switch t.1
    else (let a = read_returned t.1 in (Return a.0, a.1))

end_read : (e : PlacedEnd) (row : List ℤ) → read_end (code_end e row) ≡ (e, row)
unfolding read_end code_end
end_read (Goto spot) row = rw (tag_read 0 (code_spot spot row), spot_read spot row) refl
end_read (If left cmp right hit miss) row = rw (tag_read 1 (code_spot miss (code_spot hit (code_operand right (code_cmp cmp (code_operand left row)))))) (if_read left cmp right hit miss row)
end_read (Switch on cases other) row = rw (tag_read 2 (code_spot other (code_cases cases (code_operand on row)))) (switch_read on cases other row)
end_read (Return value) row = rw (tag_read 3 (code_returned value row), returned_read value row) refl

read_body : List ℤ → List PlacedStmt × List ℤ
read_body row = read_list PlacedStmt code_stmt read_stmt stmt_read row

body_read : (body : List PlacedStmt) (row : List ℤ) → read_body (code_body body row) ≡ (body, row)
unfolding read_body code_body
body_read body row = list_read PlacedStmt code_stmt read_stmt stmt_read body row

read_block : List ℤ → PlacedBlock × List ℤ
read_block row = let a = read_end row in let b = read_body a.1 in (record { body = b.0; end = a.0 }, b.1)

block_read : (b : PlacedBlock) (row : List ℤ) → read_block (code_block b row) ≡ (b, row)
unfolding read_block code_block
block_read b row = rw (end_read b.end (code_body b.body row), body_read b.body row) refl

read_blocks : List ℤ → List PlacedBlock × List ℤ
read_blocks row = read_list PlacedBlock code_block read_block block_read row

blocks_read : (blocks : List PlacedBlock) (row : List ℤ) → read_blocks (code_blocks blocks row) ≡ (blocks, row)
unfolding read_blocks code_blocks
blocks_read blocks row = list_read PlacedBlock code_block read_block block_read blocks row

-- ---- locals and functions

read_shape : List ℤ → Shape × List ℤ
read_shape row =
    let t = read_tag row in
    if t.0 == 0 then (let a = read_scalar t.1 in (shape.Plain a.0, a.1)) else (let a = read_text t.1 in (shape.Named a.0, a.1))

shape_read : (s : Shape) (row : List ℤ) → read_shape (code_shape s row) ≡ (s, row)
unfolding read_shape code_shape
shape_read (shape.Plain scalar) row = rw (tag_read 0 (code_scalar scalar row), scalar_read scalar row) refl
shape_read (shape.Named name) row = rw (tag_read 1 (code_text name row), text_read name row) refl

read_length : List ℤ → Option ℕ × List ℤ
read_length row = read_option ℕ code_count read_tag tag_read row

length_read : (n : Option ℕ) (row : List ℤ) → read_length (code_length n row) ≡ (n, row)
unfolding read_length code_length
length_read n row = option_read ℕ code_count read_tag tag_read n row

read_local : List ℤ → PlacedLocal × List ℤ
read_local row = let a = read_length row in let b = read_shape a.1 in (record { shape = b.0; length = a.0 }, b.1)

local_read : (d : PlacedLocal) (row : List ℤ) → read_local (code_local d row) ≡ (d, row)
unfolding read_local code_local
local_read d row = rw (length_read d.length (code_shape d.shape row), shape_read d.shape row) refl

read_locals : List ℤ → List PlacedLocal × List ℤ
read_locals row = read_list PlacedLocal code_local read_local local_read row

locals_read : (locals : List PlacedLocal) (row : List ℤ) → read_locals (code_locals locals row) ≡ (locals, row)
unfolding read_locals code_locals
locals_read locals row = list_read PlacedLocal code_local read_local local_read locals row

read_function : List ℤ → PlacedFunction × List ℤ
read_function row =
    let a = read_blocks row in let b = read_scalars a.1 in let c = read_locals b.1 in let d = read_result c.1 in let e = read_scalars d.1 in
    (record { params = e.0; result = d.0; locals = c.0; registers = b.0; blocks = a.0 }, e.1)

function_read : (f : PlacedFunction) (row : List ℤ) → read_function (code_function f row) ≡ (f, row)
unfolding read_function code_function
function_read f row =
    rw (blocks_read f.blocks (code_scalars f.registers (code_locals f.locals (code_result f.result (code_scalars f.params row)))), scalars_read f.registers (code_locals f.locals (code_result f.result (code_scalars f.params row))), locals_read f.locals (code_result f.result (code_scalars f.params row)), result_read f.result (code_scalars f.params row), scalars_read f.params row) refl

-- functions with the same numbers have the same form
pub same_code : (f g : PlacedFunction) → code_function f [] ≡ code_function g [] → f ≡ g
same_code f g e = ap (λ (a : PlacedFunction × List ℤ). a.0) (sym (function_read f []) ∙ (ap read_function e ∙ function_read g []))
