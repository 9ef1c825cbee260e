-- The parts of a result that is known.
use Rattle.std.specs.Prelude.{Bool, List, Option}
use Rattle.gimple_ir.specs.declared.scalar.Scalar.{Scalar}
use Rattle.gimple_ir.specs.declared.scalar.Mode.{Mode}
use Rattle.gimple_ir.specs.declared.scalar.Op.{Op}
use Rattle.gimple_ir.specs.declared.operand.Operand.{Operand}
use Rattle.gimple_ir.specs.declared.value.Constant.{Constant}
use Rattle.gimple_core.specs.Run.{arith_of, converted}
use Rattle.value_domain.specs.declared.abs_val.AbsVal.{AbsVal}
use Rattle.value_domain.specs.AbsOperators.{may_trap_of}
use Rattle.value_domain.specs.Holding.{constant_of}
use Rattle.body_values.specs.Bodies.{Body, operand_value, right_scalar}
use Rattle.body_fold.specs.Fold.{result_constant, one_known, both_known}

-- an operator on sides that are both known
abbrev pub evaluated_arithmetic : Mode → Scalar → Option Constant → Op → Option Constant → Option Constant
evaluated_arithmetic mode scalar left op right = both_known left right (λ v w. result_constant (arith_of mode scalar v op w))

-- a conversion of what is known
abbrev pub evaluated_conversion : Scalar → Option Constant → Option Constant
evaluated_conversion target from = one_known from (λ v. constant_of (converted target v))

-- whether an operator may trap by the values of its sides
abbrev pub may_trap_here : Body → List AbsVal → Scalar → Operand → Op → Operand → Bool
may_trap_here B row scalar left op right = may_trap_of B.mode op scalar (operand_value B row scalar left) (operand_value B row (right_scalar B scalar op right) right)
