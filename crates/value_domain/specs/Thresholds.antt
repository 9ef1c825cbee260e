-- The thresholds of intervals.
use Rattle.std.specs.Prelude.{ℕ, zero, suc, ◌+◌, ◌-◌, ◌^◌, nat_lt, length, Option, Some, None, ℤ, pos, ◌-ℤ◌, ◌≤ℤ◌, int_le, int_lt, ◌&&◌, not, if◌then◌else◌, List, [], ◌∷◌, ◌++◌}
use Rattle.gimple_ir.specs.declared.scalar.Scalar.{Scalar}
use Rattle.gimple_ir.specs.declared.operand.Operand.{Operand}
use Rattle.gimple_ir.specs.declared.operand.Operand.TheVariants.{Reg, Number, Null, Address}
use Rattle.gimple_ir.specs.declared.statement.Stmt.{Stmt}
use Rattle.gimple_ir.specs.declared.statement.Stmt.TheVariants.{Copy, Arith, Compare, Convert, Load, Store, Call, Indirect, Get, Put, Abort}
use Rattle.gimple_ir.specs.declared.block.Case.{Case}
use Rattle.gimple_ir.specs.declared.block.End.{End}
use Rattle.gimple_ir.specs.declared.block.End.TheVariants.{Goto, If, Switch, Return}
use Rattle.gimple_ir.specs.declared.block.Block.{Block}
use Rattle.gimple_ir.specs.declared.declarations.Global.{Global}
use Rattle.gimple_ir.specs.declared.program.Function.{Function}
use Rattle.gimple_ir.specs.declared.program.Program.{Program}
use Rattle.gimple_core.specs.Operators.{least_of, greatest_of}
use Rattle.lattice_parts.specs.Sets.{Has, Ascending, Each, placed, has_by}
use Rattle.value_domain.specs.RangeOperators.{lowest, highest}

-- what the operators ask of thresholds: they ascend, are numbers of scalars, and the ends of each scalar, 0 and 1 are among them
pub record IsLawful (ts : List ℤ) : Type 0 where
  pub rising : Ascending int_lt ts
  pub words : Each (λ t. (lowest ≤ℤ t) × (t ≤ℤ highest)) ts
  pub ends : (scalar : Scalar) → Has (least_of scalar) ts × Has (greatest_of scalar) ts
  pub truths : Has (pos 0) ts × Has (pos 1) ts

-- the limit of lists of constants, and the thresholds
pub record Limits : Type 0 where
  pub size : ℕ
  pub ends : List ℤ

-- ---- the numbers of a program, in file order, unreached code included: the first 64 distinct ones
abbrev pub noted : ℤ → List ℤ → List ℤ
noted z found = if nat_lt (length found) 64 && not (has_by int_lt z found) then found ++ z ∷ [] else found

abbrev pub operand_noted : Operand → List ℤ → List ℤ
operand_noted (Reg name) found = found
operand_noted (Number z) found = noted z found
operand_noted Null found = found
operand_noted (Address name offset) found = found

abbrev pub operands_noted : List Operand → List ℤ → List ℤ
operands_noted [] found = found
operands_noted (o ∷ os) found = operands_noted os (operand_noted o found)

-- offsets of addresses and places do not count
abbrev pub stmt_noted : Stmt → List ℤ → List ℤ
stmt_noted (Copy to from) found = operand_noted from found
stmt_noted (Arith to left op right) found = operand_noted right (operand_noted left found)
stmt_noted (Compare to left cmp right) found = operand_noted right (operand_noted left found)
stmt_noted (Convert to scalar from) found = operand_noted from found
stmt_noted (Load to scalar place) found = found
stmt_noted (Store scalar place from) found = operand_noted from found
stmt_noted (Call to callee arguments) found = operands_noted arguments found
stmt_noted (Indirect to signature callee arguments) found = operands_noted arguments found
stmt_noted (Get to) found = found
stmt_noted (Put from) found = operand_noted from found
stmt_noted Abort found = found

abbrev pub stmts_noted : List Stmt → List ℤ → List ℤ
stmts_noted [] found = found
stmts_noted (s ∷ ss) found = stmts_noted ss (stmt_noted s found)

abbrev pub cases_noted : List Case → List ℤ → List ℤ
cases_noted [] found = found
cases_noted (c ∷ cs) found = cases_noted cs (noted c.value found)

abbrev pub option_noted : Option Operand → List ℤ → List ℤ
option_noted None found = found
option_noted (Some o) found = operand_noted o found

abbrev pub end_noted : End → List ℤ → List ℤ
end_noted (Goto target) found = found
end_noted (If left cmp right taken other) found = operand_noted right (operand_noted left found)
end_noted (Switch on cases other) found = cases_noted cases (operand_noted on found)
end_noted (Return value) found = option_noted value found

abbrev pub blocks_noted : List Block → List ℤ → List ℤ
blocks_noted [] found = found
blocks_noted (b ∷ bs) found = blocks_noted bs (end_noted b.end (stmts_noted b.body found))

abbrev pub functions_noted : List Function → List ℤ → List ℤ
functions_noted [] found = found
functions_noted (f ∷ fs) found = functions_noted fs (blocks_noted f.blocks found)

abbrev pub globals_noted : List Global → List ℤ → List ℤ
globals_noted [] found = found
globals_noted (g ∷ gs) found = globals_noted gs (operands_noted g.items found)

-- items of globals stand first
abbrev pub program_noted : Program → List ℤ
program_noted p = functions_noted p.functions (globals_noted p.globals [])

-- ---- the thresholds, as far as they are numbers of scalars
abbrev pub put_word : ℤ → List ℤ → List ℤ
put_word z ts = if int_le lowest z && int_le z highest then placed int_lt z ts else ts

abbrev pub words_put : List ℤ → List ℤ → List ℤ
words_put [] ts = ts
words_put (z ∷ zs) ts = words_put zs (put_word z ts)

-- 2 ^ k, 2 ^ k - 1 and 2 ^ k + 1
abbrev pub power_put : ℕ → List ℤ → List ℤ
power_put k ts = put_word (pos (2 ^ k + 1)) (put_word (pos (2 ^ k)) (put_word (pos (2 ^ k - 1)) ts))

-- their negatives
abbrev pub negative_put : ℕ → List ℤ → List ℤ
negative_put k ts = put_word (pos 0 -ℤ pos (2 ^ k + 1)) (put_word (pos 0 -ℤ pos (2 ^ k)) (put_word (pos 0 -ℤ pos (2 ^ k - 1)) ts))

unfoldable pub powers_put : ℕ → ℕ → List ℤ → List ℤ
powers_put zero k ts = ts
powers_put (suc more) k ts = powers_put more (suc k) (power_put k ts)

unfoldable pub negatives_put : ℕ → ℕ → List ℤ → List ℤ
negatives_put zero k ts = ts
negatives_put (suc more) k ts = negatives_put more (suc k) (negative_put k ts)

-- 0, and the powers of two with their neighbours and negatives; the negatives from 2 ^ 64 on are numbers of no scalar
unfoldable pub fixed_thresholds : List ℤ
fixed_thresholds = negatives_put 64 0 (powers_put 65 0 (pos 0 ∷ []))

unfoldable pub thresholds_list : Program → List ℤ
thresholds_list p = words_put (program_noted p) fixed_thresholds
