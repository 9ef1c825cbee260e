-- What a jump function makes of the value of a formal of the caller.
use Rattle.std.specs.Prelude.{ℤ, pos, int_lt, if◌then◌else◌, Option, Some, None}
use Rattle.gimple_ir.specs.declared.options.Passes.{Passes}
use Rattle.gimple_ir.specs.declared.scalar.Scalar.{Scalar}
use Rattle.gimple_ir.specs.declared.scalar.Scalar.TheVariants.{I64, U64, Ptr}
use Rattle.gimple_ir.specs.declared.scalar.Mode.{Mode}
use Rattle.gimple_ir.specs.declared.scalar.Op.{Op}
use Rattle.gimple_ir.specs.declared.scalar.Op.TheVariants.{Add}
use Rattle.gimple_ir.specs.declared.value.Constant.TheVariants.{Int, Global as GlobalAddress}
use Rattle.gimple_core.specs.Operators.{in_scalar}
use Rattle.gimple_core.specs.Statements.{is_pointer, is_shift}
use Rattle.value_domain.specs.declared.abs_val.AbsVal.{AbsVal}
use Rattle.value_domain.specs.AbsOperators.{top_of, exactly_of, abs_op_of, abs_met, brought_into}
use Rattle.value_domain.specs.Thresholds.{Limits}
use Rattle.cp_lattices.specs.Trimmed.{trimmed}
use Rattle.body_symbols.specs.declared.jumps.JumpFn.{JumpFn}
use Rattle.body_symbols.specs.declared.jumps.JumpFn.TheVariants.{Unknown, Const, Pass, Ancestor, Address}
use Rattle.body_symbols.specs.declared.symbol.Variable.TheVariants.{Global, Local}

-- what abstract values are made with
pub record Making : Type 0 where
  pub mode : Mode
  pub limits : Limits

abbrev pub alone : Making → Scalar → ℤ → AbsVal
alone m scalar z = exactly_of scalar m.limits.size m.limits.ends (Int z)

-- a scalar that has the number at the right of an operator: a shift's count can be of any integer scalar
abbrev pub right_scalar : Op → Scalar → ℤ → Scalar
right_scalar op scalar z = if is_shift op then (if int_lt z (pos 0) then I64 else U64) else scalar

-- a number under an operator with a number at its right, of this scalar
abbrev pub under : Making → Scalar → Op → Scalar → ℤ → AbsVal → AbsVal
under m scalar op other z a = abs_op_of m.mode op scalar other m.limits.size m.limits.ends (brought_into scalar a) (alone m other z)

-- a number that is none of its scalar, which a program without a type fault does not have, tells nothing
abbrev pub operated : Making → Scalar → Op → ℤ → AbsVal → AbsVal
operated m scalar op z a = if in_scalar (right_scalar op scalar z) z then under m scalar op (right_scalar op scalar z) z a else top_of scalar

-- a pointer moved by some bytes
abbrev pub moved : Making → ℤ → AbsVal → AbsVal
moved m z a = under m Ptr Add I64 z a

abbrev pub passed : Making → Scalar → Option Op → ℤ → AbsVal → AbsVal
passed m scalar None z a = brought_into scalar a
passed m scalar (Some op) z a = if is_pointer scalar then top_of scalar else operated m scalar op z a

-- the argument of a scalar, where this is the value of the caller's formal that the jump function speaks of
unfoldable pub carried : Making → Scalar → JumpFn → AbsVal → AbsVal
carried m scalar Unknown a = top_of scalar
carried m scalar (Const c) a = exactly_of scalar m.limits.size m.limits.ends c
carried m scalar (Pass i op z) a = passed m scalar op z a
carried m scalar (Ancestor i z) a = if is_pointer scalar then moved m z a else top_of scalar
carried m scalar (Address (Global k) z) a = exactly_of scalar m.limits.size m.limits.ends (GlobalAddress k z)
carried m scalar (Address (Local k) z) a = top_of scalar

-- ---- what a call gives to a formal: what its jump function gives and what is known of the argument there hold both
unfoldable pub given : Making → Passes → Scalar → JumpFn → AbsVal → AbsVal → AbsVal
given m passes scalar jump local a = trimmed passes scalar (abs_met (carried m scalar jump a) local)
