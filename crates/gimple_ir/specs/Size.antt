-- How large programs are.
use Rattle.std.specs.Prelude.{ℕ, ◌+◌, length, sum_by}
use Rattle.gimple_ir.specs.declared.block.Block.{Block}
use Rattle.gimple_ir.specs.declared.block.End.{End}
use Rattle.gimple_ir.specs.declared.block.End.TheVariants.{Goto, If, Switch, Return}
use Rattle.gimple_ir.specs.declared.program.Function.{Function}
use Rattle.gimple_ir.specs.declared.program.Program.{Program}

-- the statements of a block, and its end
abbrev pub size_of_block : Block → ℕ
size_of_block b = length b.body + 1

abbrev pub size_of_function : Function → ℕ
size_of_function f = sum_by size_of_block f.blocks

abbrev pub size_of_program : Program → ℕ
size_of_program p = sum_by size_of_function p.functions

-- how many branches lead out of a block
abbrev pub branches_of_end : End → ℕ
branches_of_end (Goto target) = 1
branches_of_end (If left cmp right hit miss) = 2
branches_of_end (Switch on cases other) = length cases + 1
branches_of_end (Return value) = 0

abbrev pub branches_of_function : Function → ℕ
branches_of_function f = sum_by (λ (b : Block). branches_of_end b.end) f.blocks
