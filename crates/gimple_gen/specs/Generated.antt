-- The program of a number of functions, to measure passes on: each function calls one of them, and `main` calls every 64th one and prints its result.
use Rattle.std.specs.Prelude.{ℕ, ◌+◌, ◌*◌, ◌%◌, ◌==◌, if◌then◌else◌, List, [], ◌∷◌, ◌++◌, map, codes, Some, pos}
use Rattle.std.specs.List.{range_with_len, flat_map}
use Rattle.std.specs.Fmt.{decimal}
use Rattle.gimple_ir.specs.Names.{Bytes}
use Rattle.gimple_ir.specs.declared.scalar.Scalar.TheVariants.{I32}
use Rattle.gimple_ir.specs.declared.scalar.Op.TheVariants.{Add, Sub, Xor}
use Rattle.gimple_ir.specs.declared.scalar.Cmp.TheVariants.{Le}
use Rattle.gimple_ir.specs.declared.operand.Operand.{Operand}
use Rattle.gimple_ir.specs.declared.operand.Operand.TheVariants.{Reg, Number}
use Rattle.gimple_ir.specs.declared.statement.Stmt.{Stmt}
use Rattle.gimple_ir.specs.declared.statement.Stmt.TheVariants.{Arith, Call, Put}
use Rattle.gimple_ir.specs.declared.block.Block.{Block}
use Rattle.gimple_ir.specs.declared.block.End.TheVariants.{Goto, If, Return}
use Rattle.gimple_ir.specs.declared.declarations.Register.{Register}
use Rattle.gimple_ir.specs.declared.program.Function.{Function}
use Rattle.gimple_ir.specs.declared.program.Program.{Program}
use Rattle.gimple_core.specs.Run.{main_name}

-- ---- the numbers and names of function i of n

-- what it adds
abbrev pub constant_of : ℕ → ℕ
constant_of i = (7 * i) % 16

-- the number of the function that it calls
abbrev pub callee_of : ℕ → ℕ → ℕ
callee_of n i = (5 * i + 1) % n

abbrev pub function_name : ℕ → Bytes
function_name i = codes "f" ++ decimal i

abbrev pub word : Bytes → Register
word name = record { name = name; scalar = I32 }

-- the first argument of its call: a number in every third function, and else what it has added
unfoldable pub argument_of : ℕ → Operand
argument_of i = if i % 3 == 0 then Number (pos (i % 5)) else Reg (codes "t")

-- ---- its blocks

-- t = a + C; if (b <= 0) goto <bb 4>; else goto <bb 3>;
unfoldable pub first_block : ℕ → Block
first_block i = record {
  label = 2;
  body = Arith (codes "t") (Reg (codes "a")) Add (Number (pos (constant_of i))) ∷ [];
  end = If (Reg (codes "b")) Le (Number (pos 0)) 4 3;
}

-- b = b - 1; u = fJ (A, b); t = t ^ u; goto <bb 4>;
unfoldable pub calling_block : ℕ → ℕ → Block
calling_block n i = record {
  label = 3;
  body =
      Arith (codes "b") (Reg (codes "b")) Sub (Number (pos 1))
      ∷ Call (Some (codes "u")) (function_name (callee_of n i)) (argument_of i ∷ Reg (codes "b") ∷ [])
      ∷ Arith (codes "t") (Reg (codes "t")) Xor (Reg (codes "u"))
      ∷ [];
  end = Goto 4;
}

-- return t;
unfoldable pub last_block : Block
last_block = record { label = 4; body = []; end = Return (Some (Reg (codes "t"))) }

-- i32 fi (i32 a, i32 b), with the registers t and u
unfoldable pub function_of : ℕ → ℕ → Function
function_of n i = record {
  name = function_name i;
  params = word (codes "a") ∷ word (codes "b") ∷ [];
  result = Some I32;
  locals = [];
  registers = word (codes "t") ∷ word (codes "u") ∷ [];
  blocks = first_block i ∷ calling_block n i ∷ last_block ∷ [];
}

-- ---- main

-- r = fk (1, 3); putint (r);
abbrev pub asks : ℕ → List Stmt
asks k = Call (Some (codes "r")) (function_name k) (Number (pos 1) ∷ Number (pos 3) ∷ []) ∷ Put (Reg (codes "r")) ∷ []

-- what main does for k: it asks a multiple of 64
unfoldable pub asked : ℕ → List Stmt
asked k = if k % 64 == 0 then asks k else []

unfoldable pub main_block : ℕ → Block
main_block n = record { label = 2; body = flat_map asked (range_with_len 0 n); end = Return (Some (Number (pos 0))) }

-- i32 main (), with the register r
unfoldable pub main_of : ℕ → Function
main_of n = record { name = main_name; params = []; result = Some I32; locals = []; registers = word (codes "r") ∷ []; blocks = main_block n ∷ [] }

-- ---- the program

unfoldable pub generated : ℕ → Program
generated n = record { profile = 1; structs = []; globals = []; functions = map (function_of n) (range_with_len 0 n) ++ main_of n ∷ [] }
