-- A worked row: a whole `main`, folded by its values.
use Rattle.std.specs.Prelude.{◌≡◌, ◌==◌, ℕ, zero, suc, pos, true, List, [], ◌∷◌, Some, slice_get, refl}
use Rattle.std.proofs.Common.{subst, sym}
use Rattle.std.proofs.lemmas.Bool.{eqb-true}
use Rattle.gimple_ir.specs.declared.scalar.Scalar.{Scalar}
use Rattle.gimple_ir.specs.declared.scalar.Scalar.TheVariants.{I8, I32, U8}
use Rattle.gimple_ir.specs.declared.scalar.Op.TheVariants.{Add}
use Rattle.gimple_ir.specs.declared.operand.Operand.{Operand}
use Rattle.gimple_ir.specs.declared.operand.Operand.TheVariants.{Reg, Number}
use Rattle.gimple_ir.specs.declared.declarations.Register.{Register}
use Rattle.gimple_ir.specs.declared.statement.Stmt.{Stmt}
use Rattle.gimple_ir.specs.declared.statement.Stmt.TheVariants.{Copy, Arith, Put}
use Rattle.gimple_ir.specs.declared.block.Block.{Block}
use Rattle.gimple_ir.specs.declared.block.End.TheVariants.{Return}
use Rattle.gimple_ir.specs.declared.program.Function.{Function}
use Rattle.gimple_ir.specs.declared.scalar.Mode.TheVariants.{Trap}
use Rattle.gimple_core.specs.Sealed.{Sealed}
use Rattle.gimple_core.specs.Operators.{op_of, wrapped}
use Rattle.gimple_core.specs.State.{number_in}
use Rattle.gimple_core.specs.Run.{arith_of, main_name}
use Rattle.gimple_core.specs.Statements as s
use Rattle.fix_engine.specs.declared.lifted.Lifted.{Lifted}
use Rattle.fix_engine.specs.declared.lifted.Lifted.TheVariants.{NotReached, Reached}
use Rattle.value_domain.specs.declared.abs_val.AbsVal.{AbsVal}
use Rattle.value_domain.specs.AbsOperators.{known_of, may_trap_of, brought_into, exactly_of, abs_op_of}
use Rattle.body_values.specs.declared.facts.Facts.{Facts}
use Rattle.body_values.specs.Bodies.{operand_value, arith_value, result_value, after_stmt}
use Rattle.block_flow.specs.Branches.{labels_of}
use Rattle.block_flow.specs.System.{point_value}
use Rattle.body_values.specs.Flow.{body_of, entry_row, values_at}
use Rattle.body_fold.specs.Fold.{Folding, known_register, known_operand, constant_operand, constant_for, evaluated, never_traps, known_result, with_operands, folded_stmt, folded_end, end_at, new_end, IsLinked, first, linked, IsFolded}
use Rattle.body_fold.proofs.FoldsBy.{folding_of}

abbrev register : ℕ → Scalar → Register
register letter scalar = record { name = letter ∷ []; scalar = scalar }

abbrev main_with : List Stmt → Function
main_with body = record {
  name = main_name;
  params = [];
  result = Some I32;
  locals = [];
  registers = register 97 U8 ∷ register 98 U8 ∷ register 99 I8 ∷ register 100 I8 ∷ [];
  blocks = record { label = 2; body = body; end = Return (Some (Number (pos 0))) } ∷ [];
}

abbrev a : List ℕ
a = 97 ∷ []

abbrev b : List ℕ
b = 98 ∷ []

abbrev c : List ℕ
c = 99 ∷ []

abbrev d : List ℕ
d = 100 ∷ []

-- `a = 255; b = a + 1; putint (b); c = 127; d = c + 1; putint (d); return 0;` on `u8 a; u8 b; i8 c; i8 d;`
abbrev source : Function
source = main_with (Copy a (Number (pos 255)) ∷ Arith b (Reg a) Add (Number (pos 1)) ∷ Put (Reg b) ∷ Copy c (Number (pos 127)) ∷ Arith d (Reg c) Add (Number (pos 1)) ∷ Put (Reg d) ∷ [])

-- `a = 255; b = 0; putint (0); c = 127; d = 127 + 1; putint (d); return 0;`
abbrev folded : Function
folded = main_with (Copy a (Number (pos 255)) ∷ Copy b (Number (pos 0)) ∷ Put (Number (pos 0)) ∷ Copy c (Number (pos 127)) ∷ Arith d (Number (pos 127)) Add (Number (pos 1)) ∷ Put (Reg d) ∷ [])

abbrev program : Sealed
program = record { program = record { profile = 1; structs = []; globals = []; functions = source ∷ [] }; mode = Trap }

abbrev facts : Facts
facts = record { formals = []; loads = [] }

abbrev S : Folding
S = folding_of program 0 source facts 8 []

abbrev values : ℕ → ℕ → Lifted (List AbsVal)
values = values_at (body_of program 0 source facts 8 []) source.blocks (entry_row source [] 8 [] ∷ [])

-- a return leads nowhere, and so no end leads to another block
return_leads : (x : Operand) (v : Lifted (List AbsVal)) → labels_of (end_at S (Return (Some x)) v) ≡ []
unfolding folded_end
return_leads x NotReached = refl
return_leads x (Reached row) = refl

nowhere : (ls : List ℕ) (slot label : ℕ) → ls ≡ [] → slice_get ls slot ≡ Some label → ⊥
nowhere [] slot label e h = cc
nowhere (l ∷ ls) slot label e h = cc

first_leads : (y : Block) (slot label : ℕ) → slice_get source.blocks 0 ≡ Some y → slice_get (labels_of (new_end S source.blocks values 0 y.end)) slot ≡ Some label → ⊥
first_leads y slot label e l =
    let same : first_block ≡ y = cc in
    nowhere (labels_of (new_end S source.blocks values 0 y.end)) slot label (subst (λ (z : Block). labels_of (new_end S source.blocks values 0 z.end) ≡ []) same (return_leads (Number (pos 0)) _)) l
  where
    first_block : Block
    first_block = record { label = 2; body = (Copy a (Number (pos 255)) ∷ Arith b (Reg a) Add (Number (pos 1)) ∷ Put (Reg b) ∷ Copy c (Number (pos 127)) ∷ Arith d (Reg c) Add (Number (pos 1)) ∷ Put (Reg d) ∷ []); end = Return (Some (Number (pos 0))) }

only_first : (k : ℕ) → IsLinked source.blocks (new_end S source.blocks values) k → (k == 0) ≡ true
only_first _ first = refl
only_first _ (linked zero y slot label h e l) = absurd (first_leads y slot label e l)
only_first _ (linked (suc k) y slot label h e l) = cc

wraps_and_overflows : IsFolded S values source folded
unfolding folded_stmt folded_end with_operands known_result evaluated never_traps known_operand known_register constant_operand constant_for operand_value arith_value result_value after_stmt point_value brought_into known_of may_trap_of abs_op_of exactly_of arith_of op_of number_in wrapped s.operand s.right_side s.printed s.returned
wraps_and_overflows = record {
  keep = λ k. k == 0;
  kept = λ k. (λ e. subst (IsLinked source.blocks (new_end S source.blocks values)) (sym (eqb-true k 0 e)) first, λ h. only_first k h);
  is = refl;
}
