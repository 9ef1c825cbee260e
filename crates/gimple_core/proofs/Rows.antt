-- Small programs, run by computing.
use Rattle.std.proofs.Common.{◌≡◌, ℕ, pos, negsuc, List, [], ◌∷◌, refl, Option, Some, None, true, false}
use Rattle.std.specs.Fmt.{digits}
use Rattle.gimple_ir.specs.declared.scalar.Scalar.{Scalar}
use Rattle.gimple_ir.specs.declared.scalar.Scalar.TheVariants.{I8, I16, I32, I64, U8, Ptr}
use Rattle.gimple_ir.specs.declared.scalar.Mode.TheVariants.{Trap, Wrap}
use Rattle.gimple_ir.specs.declared.scalar.Op.TheVariants.{Add, Div, Shl}
use Rattle.gimple_ir.specs.declared.operand.Operand.TheVariants.{Reg, Number, Address}
use Rattle.gimple_ir.specs.declared.operand.Base.TheVariants.{Reg as RegBase, Variable}
use Rattle.gimple_ir.specs.declared.statement.Stmt.{Stmt}
use Rattle.gimple_ir.specs.declared.statement.Stmt.TheVariants.{Copy, Arith, Load, Store, Call, Indirect, Put, Abort}
use Rattle.gimple_ir.specs.declared.statement.Signature.{Signature}
use Rattle.gimple_ir.specs.declared.block.End.{End}
use Rattle.gimple_ir.specs.declared.block.End.TheVariants.{Return}
use Rattle.gimple_ir.specs.declared.declarations.Register.{Register}
use Rattle.gimple_ir.specs.declared.declarations.Shape.TheVariants.{Plain, Named}
use Rattle.gimple_ir.specs.declared.declarations.Decl.{Decl}
use Rattle.gimple_ir.specs.declared.program.Function.{Function}
use Rattle.gimple_ir.specs.declared.program.Program.{Program}
use Rattle.gimple_ir.specs.declared.value.Layout.{Layout}
use Rattle.gimple_ir.specs.declared.value.Outcome.{Outcome}
use Rattle.gimple_ir.specs.declared.value.Outcome.TheVariants.{Going, Ended, Trapped}
use Rattle.gimple_ir.specs.declared.value.TrapKind.TheVariants as trap
use Rattle.gimple_core.specs.Names.{update_first}
use Rattle.gimple_core.specs.Operators.{op_of, wrapped}
use Rattle.gimple_core.specs.Layout.{layout_of}
use Rattle.gimple_core.specs.Memory.{found_at, moved_by, without_frame}
use Rattle.gimple_core.specs.State.{register_place, value_in, scalar_in, number_in}
use Rattle.gimple_core.specs.Run.{Run, block_from, runs, walk, act, arith_of, function_named, with_globals, with_locals, values_made, address_of, address_of_global, main_name}

-- ---- names, and functions of one block

abbrev a : List ℕ
a = 97 ∷ []

abbrev b : List ℕ
b = 98 ∷ []

abbrev c : List ℕ
c = 99 ∷ []

abbrev d : List ℕ
d = 100 ∷ []

abbrev f : List ℕ
f = 102 ∷ []

abbrev h : List ℕ
h = 104 ∷ []

abbrev k : List ℕ
k = 107 ∷ []

abbrev p : List ℕ
p = 112 ∷ []

abbrev s : List ℕ
s = 115 ∷ []

abbrev register : Scalar → List ℕ → Register
register scalar name = record { name = name; scalar = scalar }

abbrev variable : Scalar → List ℕ → Decl
variable scalar name = record { name = name; shape = Plain scalar; length = None }

abbrev function : List ℕ → List Register → Option Scalar → List Decl → List Register → List Stmt → End → Function
function name params result locals registers body end =
    record { name = name; params = params; result = result; locals = locals; registers = registers; blocks = record { label = 2; body = body; end = end } ∷ [] }

abbrev main : List Decl → List Register → List Stmt → Function
main locals registers body = function main_name [] (Some I32) locals registers body (Return (Some (Number (pos 0))))

abbrev program : List Function → Program
program functions = record { profile = 1; structs = []; globals = []; functions = functions }

-- a run without input in each mode
abbrev trapping : Program → ℕ → Outcome
trapping p n = Run (record { program = p; mode = Trap }) [] n

abbrev wrapping : Program → ℕ → Outcome
wrapping p n = Run (record { program = p; mode = Wrap }) [] n

-- ---- i32 main () { return 0; }

abbrev minimal : Program
minimal = program (main [] [] [] ∷ [])

minimal_0 : trapping minimal 0 ≡ Going []
unfolding Run runs walk act arith_of function_named with_globals with_locals values_made update_first op_of wrapped without_frame value_in scalar_in register_place block_from number_in found_at moved_by address_of address_of_global layout_of digits
minimal_0 = refl

minimal_1 : trapping minimal 1 ≡ Ended [] (pos 0)
unfolding Run runs walk act arith_of function_named with_globals with_locals values_made update_first op_of wrapped without_frame value_in scalar_in register_place block_from number_in found_at moved_by address_of address_of_global layout_of digits
minimal_1 = refl

-- ---- the same behind void h () { k (); return; } and void k () { return; }

abbrev unreached : Program
unreached = program (function h [] None [] [] (Call None k [] ∷ []) (Return None) ∷ function k [] None [] [] [] (Return None) ∷ main [] [] [] ∷ [])

unreached_0 : trapping unreached 0 ≡ Going []
unfolding Run runs walk act arith_of function_named with_globals with_locals values_made update_first op_of wrapped without_frame value_in scalar_in register_place block_from number_in found_at moved_by address_of address_of_global layout_of digits
unreached_0 = refl

unreached_1 : trapping unreached 1 ≡ Ended [] (pos 0)
unfolding Run runs walk act arith_of function_named with_globals with_locals values_made update_first op_of wrapped without_frame value_in scalar_in register_place block_from number_in found_at moved_by address_of address_of_global layout_of digits
unreached_1 = refl

-- ---- i32 f (i32 b) { i32 a; a = 6 / b; return a; } and in main a = f (6); putint (a); a = f (0); putint (a);

abbrev divides : Program
divides = program (
    function f (register I32 b ∷ []) (Some I32) [] (register I32 a ∷ []) (Arith a (Number (pos 6)) Div (Reg b) ∷ []) (Return (Some (Reg a)))
    ∷ main [] (register I32 a ∷ []) (Call (Some a) f (Number (pos 6) ∷ []) ∷ Put (Reg a) ∷ Call (Some a) f (Number (pos 0) ∷ []) ∷ Put (Reg a) ∷ []) ∷ [])

divides_1 : trapping divides 1 ≡ Going []
unfolding Run runs walk act arith_of function_named with_globals with_locals values_made update_first op_of wrapped without_frame value_in scalar_in register_place block_from number_in found_at moved_by address_of address_of_global layout_of digits
divides_1 = refl

divides_2 : trapping divides 2 ≡ Going (49 ∷ 10 ∷ [])
unfolding Run runs walk act arith_of function_named with_globals with_locals values_made update_first op_of wrapped without_frame value_in scalar_in register_place block_from number_in found_at moved_by address_of address_of_global layout_of digits
divides_2 = refl

divides_3 : trapping divides 3 ≡ Trapped (49 ∷ 10 ∷ []) trap.Divide
unfolding Run runs walk act arith_of function_named with_globals with_locals values_made update_first op_of wrapped without_frame value_in scalar_in register_place block_from number_in found_at moved_by address_of address_of_global layout_of digits
divides_3 = refl

-- ---- u8 a; u8 b; i8 c; i8 d; a = 255; b = a + 1; putint (b); c = 127; d = c + 1; putint (d);

abbrev wraps : Program
wraps = program (main [] (register U8 a ∷ register U8 b ∷ register I8 c ∷ register I8 d ∷ [])
    (Copy a (Number (pos 255)) ∷ Arith b (Reg a) Add (Number (pos 1)) ∷ Put (Reg b) ∷ Copy c (Number (pos 127)) ∷ Arith d (Reg c) Add (Number (pos 1)) ∷ Put (Reg d) ∷ []) ∷ [])

wraps_0 : trapping wraps 0 ≡ Trapped (48 ∷ 10 ∷ []) trap.Overflow
unfolding Run runs walk act arith_of function_named with_globals with_locals values_made update_first op_of wrapped without_frame value_in scalar_in register_place block_from number_in found_at moved_by address_of address_of_global layout_of digits
wraps_0 = refl

-- in the other mode the signed sum wraps too
wraps_on : wrapping wraps 1 ≡ Ended (48 ∷ 10 ∷ 45 ∷ 49 ∷ 50 ∷ 56 ∷ 10 ∷ []) (pos 0)
unfolding Run runs walk act arith_of function_named with_globals with_locals values_made update_first op_of wrapped without_frame value_in scalar_in register_place block_from number_in found_at moved_by address_of address_of_global layout_of digits
wraps_on = refl

-- i32 a; a = -2147483648; a = a / -1; in the mode that wraps
abbrev least_by_minus_one : Program
least_by_minus_one = program (main [] (register I32 a ∷ []) (Copy a (Number (negsuc 2147483647)) ∷ Arith a (Reg a) Div (Number (negsuc 0)) ∷ []) ∷ [])

division_traps : wrapping least_by_minus_one 1 ≡ Trapped [] trap.Overflow
unfolding Run runs walk act arith_of function_named with_globals with_locals values_made update_first op_of wrapped without_frame value_in scalar_in register_place block_from number_in found_at moved_by address_of address_of_global layout_of digits
division_traps = refl

-- ---- each other trap

abbrev traps_in : List Decl → List Stmt → Program
traps_in locals body = program (main locals (register I32 a ∷ register I16 c ∷ register Ptr p ∷ []) body ∷ [])

abbrev at : ℕ → Stmt
at offset = Load a I32 (record { base = RegBase p; offset = pos offset })

-- a = 1 << 32;
shift : trapping (traps_in [] (Arith a (Number (pos 1)) Shl (Number (pos 32)) ∷ [])) 0 ≡ Trapped [] trap.Shift
unfolding Run runs walk act arith_of function_named with_globals with_locals values_made update_first op_of wrapped without_frame value_in scalar_in register_place block_from number_in found_at moved_by address_of address_of_global layout_of digits
shift = refl

-- a = MEM <i32> [p]; where p is null
null_access : trapping (traps_in [] (at 0 ∷ [])) 0 ≡ Trapped [] trap.NullAccess
unfolding Run runs walk act arith_of function_named with_globals with_locals values_made update_first op_of wrapped without_frame value_in scalar_in register_place block_from number_in found_at moved_by address_of address_of_global layout_of digits
null_access = refl

-- local i32 s; p = &s; a = MEM <i32> [p@4];
bounds : trapping (traps_in (variable I32 s ∷ []) (Copy p (Address s (pos 0)) ∷ at 4 ∷ [])) 0 ≡ Trapped [] trap.Bounds
unfolding Run runs walk act arith_of function_named with_globals with_locals values_made update_first op_of wrapped without_frame value_in scalar_in register_place block_from number_in found_at moved_by address_of address_of_global layout_of digits
bounds = refl

-- local i32 s; p = &s; a = MEM <i32> [p@2];
bad_slot_offset : trapping (traps_in (variable I32 s ∷ []) (Copy p (Address s (pos 0)) ∷ at 2 ∷ [])) 0 ≡ Trapped [] trap.BadSlot
unfolding Run runs walk act arith_of function_named with_globals with_locals values_made update_first op_of wrapped without_frame value_in scalar_in register_place block_from number_in found_at moved_by address_of address_of_global layout_of digits
bad_slot_offset = refl

-- local i32 s; p = &s; c = MEM <i16> [p];
bad_slot_scalar : trapping (traps_in (variable I32 s ∷ []) (Copy p (Address s (pos 0)) ∷ Load c I16 (record { base = RegBase p; offset = pos 0 }) ∷ [])) 0 ≡ Trapped [] trap.BadSlot
unfolding Run runs walk act arith_of function_named with_globals with_locals values_made update_first op_of wrapped without_frame value_in scalar_in register_place block_from number_in found_at moved_by address_of address_of_global layout_of digits
bad_slot_scalar = refl

-- abort ();
aborts : trapping (traps_in [] (Abort ∷ [])) 0 ≡ Trapped [] trap.Abort
unfolding Run runs walk act arith_of function_named with_globals with_locals values_made update_first op_of wrapped without_frame value_in scalar_in register_place block_from number_in found_at moved_by address_of address_of_global layout_of digits
aborts = refl

-- global const i32 s; p = &s; MEM <i32> [p] = 1;
abbrev writes : Program
writes = record (traps_in [] (Copy p (Address s (pos 0)) ∷ Store I32 (record { base = RegBase p; offset = pos 0 }) (Number (pos 1)) ∷ [])) { globals = record { decl = variable I32 s; constant = true; items = [] } ∷ [] }

read_only : trapping writes 0 ≡ Trapped [] trap.ReadOnly
unfolding Run runs walk act arith_of function_named with_globals with_locals values_made update_first op_of wrapped without_frame value_in scalar_in register_place block_from number_in found_at moved_by address_of address_of_global layout_of digits
read_only = refl

-- ptr f () { local i32 s; return &s; } and in main p = f (); a = MEM <i32> [p];
abbrev dangles : Program
dangles = program (function f [] (Some Ptr) (variable I32 s ∷ []) [] [] (Return (Some (Address s (pos 0)))) ∷ main [] (register I32 a ∷ register Ptr p ∷ []) (Call (Some p) f [] ∷ at 0 ∷ []) ∷ [])

dangling_1 : trapping dangles 1 ≡ Going []
unfolding Run runs walk act arith_of function_named with_globals with_locals values_made update_first op_of wrapped without_frame value_in scalar_in register_place block_from number_in found_at moved_by address_of address_of_global layout_of digits
dangling_1 = refl

dangling_2 : trapping dangles 2 ≡ Trapped [] trap.Dangling
unfolding Run runs walk act arith_of function_named with_globals with_locals values_made update_first op_of wrapped without_frame value_in scalar_in register_place block_from number_in found_at moved_by address_of address_of_global layout_of digits
dangling_2 = refl

-- ---- function values: global ptr h = {&f}; i32 f (i32 n) { i32 a; a = n + 1; return a; } and in main
-- a = f (3); putint (a); p = MEM <ptr> [&h]; a = *<i32 (i32)> p (3); putint (a);

abbrev taken : List Scalar → Option Scalar → Signature
taken params result = record { params = params; result = result }

abbrev adds_one : Function
adds_one = function f (register I32 b ∷ []) (Some I32) [] (register I32 a ∷ []) (Arith a (Reg b) Add (Number (pos 1)) ∷ []) (Return (Some (Reg a)))

abbrev in_main : List Stmt → Program
in_main body = record (program (adds_one ∷ main [] (register Ptr p ∷ register I32 a ∷ []) body ∷ [])) {
  profile = 2;
  globals = record { decl = variable Ptr h; constant = false; items = Address f (pos 0) ∷ [] } ∷ [];
}

abbrev calls_both_ways : Program
calls_both_ways = in_main (Call (Some a) f (Number (pos 3) ∷ []) ∷ Put (Reg a) ∷ Load p Ptr (record { base = Variable h; offset = pos 0 })
    ∷ Indirect (Some a) (taken (I32 ∷ []) (Some I32)) p (Number (pos 3) ∷ []) ∷ Put (Reg a) ∷ [])

indirect_call : trapping calls_both_ways 5 ≡ Ended (52 ∷ 10 ∷ 52 ∷ 10 ∷ []) (pos 0)
unfolding Run runs walk act arith_of function_named with_globals with_locals values_made update_first op_of wrapped without_frame value_in scalar_in register_place block_from number_in found_at moved_by address_of address_of_global layout_of digits
indirect_call = refl

-- p = &f; *<void (i32)> p (1);
bad_call : trapping (in_main (Copy p (Address f (pos 0)) ∷ Indirect None (taken (I32 ∷ []) None) p (Number (pos 1) ∷ []) ∷ [])) 0 ≡ Trapped [] trap.BadCall
unfolding Run runs walk act arith_of function_named with_globals with_locals values_made update_first op_of wrapped without_frame value_in scalar_in register_place block_from number_in found_at moved_by address_of address_of_global layout_of digits
bad_call = refl

-- *<void (i32)> p (1); where p is null
null_call : trapping (in_main (Indirect None (taken (I32 ∷ []) None) p (Number (pos 1) ∷ []) ∷ [])) 0 ≡ Trapped [] trap.NullAccess
unfolding Run runs walk act arith_of function_named with_globals with_locals values_made update_first op_of wrapped without_frame value_in scalar_in register_place block_from number_in found_at moved_by address_of address_of_global layout_of digits
null_call = refl

-- p = &f; a = MEM <i32> [p];
no_slot : trapping (in_main (Copy p (Address f (pos 0)) ∷ at 0 ∷ [])) 0 ≡ Trapped [] trap.BadSlot
unfolding Run runs walk act arith_of function_named with_globals with_locals values_made update_first op_of wrapped without_frame value_in scalar_in register_place block_from number_in found_at moved_by address_of address_of_global layout_of digits
no_slot = refl

-- ---- the layout of struct s { i8 a; i64 b; i16 c[3]; }

abbrev layout : Layout
layout = layout_of (record { name = s; fields = variable I8 a ∷ variable I64 b ∷ record (variable I16 c) { length = Some 3 } ∷ [] } ∷ []) (record { name = d; shape = Named s; length = None })

layout_is : layout ≡ record {
  size = 24;
  align = 8;
  slots = record { offset = 0; scalar = I8 } ∷ record { offset = 8; scalar = I64 } ∷ record { offset = 16; scalar = I16 } ∷ record { offset = 18; scalar = I16 } ∷ record { offset = 20; scalar = I16 } ∷ [];
}
unfolding layout_of
layout_is = refl
