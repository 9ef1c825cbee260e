use Rattle.std.proofs.Common.{◌≡◌, ◌++◌, drop}
use Rattle.gimple_core.specs.Statements as check
use Rattle.body_fold.proofs.operands.scalars_of.Given as goal

abbrev pub invariant-loop-register : goal.invariant-loop-register
invariant-loop-register l = l.scalars ++ check.scalars_of (drop l.register-index l.registers) ≡ check.scalars_of l.registers
