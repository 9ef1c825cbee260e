-- Worked rows: folded statements and ends.
use Rattle.std.specs.Prelude.{◌≡◌, ℕ, ℤ, pos, negsuc, List, [], ◌∷◌, None, refl}
use Rattle.gimple_ir.specs.declared.scalar.Scalar.TheVariants.{I8, U8, U64}
use Rattle.gimple_ir.specs.declared.scalar.Mode.{Mode}
use Rattle.gimple_ir.specs.declared.scalar.Mode.TheVariants.{Trap, Wrap}
use Rattle.gimple_ir.specs.declared.scalar.Op.TheVariants.{Add, Div, Shr}
use Rattle.gimple_ir.specs.declared.scalar.Cmp.TheVariants.{Lt}
use Rattle.gimple_ir.specs.declared.operand.Operand.TheVariants.{Reg, Number}
use Rattle.gimple_ir.specs.declared.declarations.Register.{Register}
use Rattle.gimple_ir.specs.declared.value.Constant.TheVariants.{Int}
use Rattle.gimple_ir.specs.declared.statement.Stmt.TheVariants.{Copy, Arith}
use Rattle.gimple_ir.specs.declared.block.End.TheVariants.{Goto, If}
use Rattle.gimple_core.specs.Operators.{op_of, wrapped}
use Rattle.gimple_core.specs.State.{number_in}
use Rattle.gimple_core.specs.Run.{arith_of, compares}
use Rattle.gimple_core.specs.Env.{registers_by_name}
use Rattle.gimple_core.specs.Statements as s
use Rattle.value_domain.specs.declared.vals.Vals.TheVariants.{Any, Among}
use Rattle.value_domain.specs.declared.abs_val.AbsVal.{AbsVal}
use Rattle.value_domain.specs.AbsOperators.{known_of, may_trap_of, brought_into, exactly_of, abs_cmp_of}
use Rattle.body_values.specs.Bodies.{operand_value, compare_value}
use Rattle.body_fold.specs.Fold.{Folding, known_register, known_operand, compared_constant, known_comparison, constant_operand, constant_for, evaluated, never_traps, known_result, folded_left, folded_right, with_operands, folded_stmt, folded_end}

-- registers `u8 a; u8 b; i8 c; i8 d; u64 e;`, by one letter each
abbrev declared : List Register
declared =
    record { name = 97 ∷ []; scalar = U8 } ∷ record { name = 98 ∷ []; scalar = U8 } ∷ record { name = 99 ∷ []; scalar = I8 } ∷ record { name = 100 ∷ []; scalar = I8 } ∷ record { name = 101 ∷ []; scalar = U64 } ∷ []

abbrev a : List ℕ
a = 97 ∷ []

abbrev b : List ℕ
b = 98 ∷ []

abbrev c : List ℕ
c = 99 ∷ []

abbrev d : List ℕ
d = 100 ∷ []

abbrev e : List ℕ
e = 101 ∷ []

abbrev in_mode : Mode → Folding
in_mode mode = record {
  env = record { targets = None; structs = []; globals = []; locals = []; registers = registers_by_name declared; labels = 2 ∷ 3 ∷ []; result = None };
  names = [];
  body = record { structs = []; globals = []; mode = mode; locals = []; registers = declared; most = 8; ends = []; loads = λ k i. None };
}

abbrev S : Folding
S = in_mode Trap

-- one number, and all numbers of an interval
abbrev one : ℤ → AbsVal
one z = record { vals = Among 8 (Int z ∷ []); bits = record { mask = 0; value = 0 }; range = record { low = z; high = z } }

abbrev between : ℤ → ℤ → AbsVal
between x y = record { vals = Any; bits = record { mask = 0; value = 0 }; range = record { low = x; high = y } }

-- a = 255, b = 0, c = 127, d = 0, e = 300
abbrev row : List AbsVal
row = one (pos 255) ∷ one (pos 0) ∷ one (pos 127) ∷ one (pos 0) ∷ one (pos 300) ∷ []

-- `b = a + 1;` wraps, and becomes `b = 0;`
unsigned_wraps : folded_stmt S 0 0 row (Arith b (Reg a) Add (Number (pos 1))) ≡ Copy b (Number (pos 0))
unfolding folded_stmt with_operands known_result evaluated never_traps known_operand known_register constant_operand operand_value brought_into known_of arith_of op_of number_in wrapped s.operand
unsigned_wraps = refl

-- `d = c + 1;` traps, and becomes `d = 127 + 1;`
signed_traps : folded_stmt S 0 0 row (Arith d (Reg c) Add (Number (pos 1))) ≡ Arith d (Number (pos 127)) Add (Number (pos 1))
unfolding folded_stmt with_operands known_result evaluated never_traps known_operand known_register constant_operand constant_for operand_value brought_into known_of may_trap_of arith_of op_of number_in wrapped exactly_of s.operand s.right_side
signed_traps = refl

-- where sums wrap, it becomes `d = -128;`
signed_wraps : folded_stmt (in_mode Wrap) 0 0 row (Arith d (Reg c) Add (Number (pos 1))) ≡ Copy d (Number (negsuc 127))
unfolding folded_stmt with_operands known_result evaluated never_traps known_operand known_register constant_operand constant_for operand_value brought_into known_of arith_of op_of number_in wrapped s.operand
signed_wraps = refl

-- `d = d >> e;` becomes `d = 0 >> e;`, since 300 is no i8
count_stays : folded_stmt S 0 0 row (Arith d (Reg d) Shr (Reg e)) ≡ Arith d (Number (pos 0)) Shr (Reg e)
unfolding folded_stmt with_operands known_result evaluated never_traps known_operand known_register constant_operand constant_for operand_value brought_into known_of may_trap_of arith_of op_of number_in s.operand s.right_side s.count
count_stays = refl

-- two intervals that touch
abbrev touching : List AbsVal
touching = between (pos 0) (pos 5) ∷ between (pos 5) (pos 9) ∷ []

-- `if (a < b)` stays where the intervals touch
touching_stays : folded_end S touching (If (Reg a) Lt (Reg b) 2 3) ≡ If (Reg a) Lt (Reg b) 2 3
unfolding folded_end folded_left folded_right known_comparison compared_constant known_operand known_register constant_for constant_operand operand_value compare_value brought_into known_of abs_cmp_of exactly_of
touching_stays = refl

-- `if (a < 3)` with a = 255 becomes the `goto` of the second block
decided : folded_end S row (If (Reg a) Lt (Number (pos 3)) 2 3) ≡ Goto 3
unfolding folded_end known_comparison compared_constant known_operand known_register operand_value brought_into known_of compares
decided = refl

-- in each mode a quotient by a number that may be 0 stays, and only what is known is put in
quotient_stays : (mode : Mode) → folded_stmt (in_mode mode) 0 0 (one (pos 9) ∷ between (pos 0) (pos 5) ∷ []) (Arith b (Reg a) Div (Reg b)) ≡ Arith b (Number (pos 9)) Div (Reg b)
unfolding folded_stmt with_operands known_result evaluated never_traps known_operand known_register constant_operand constant_for operand_value brought_into known_of may_trap_of exactly_of s.operand s.right_side
quotient_stays Trap = refl
quotient_stays Wrap = refl
