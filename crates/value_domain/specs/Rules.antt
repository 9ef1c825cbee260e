-- Operators on constants as the code names them.
use Rattle.std.specs.Prelude.{ℕ, Bool, not, Option}
use Rattle.gimple_ir.specs.declared.scalar.Scalar.{Scalar}
use Rattle.gimple_ir.specs.declared.value.Constant.{Constant}
use Rattle.lattice_parts.specs.Sets.{same_by}
use Rattle.value_domain.specs.declared.vals.Vals.{Vals}
use Rattle.value_domain.specs.declared.constant_operators.Rule.{Rule}
use Rattle.value_domain.specs.declared.constant_operators.Rule.TheVariants.{Arithmetic, Comparison, Conversion}
use Rattle.value_domain.specs.declared.constant_operators.Test.{Test}
use Rattle.value_domain.specs.declared.constant_operators.Test.TheVariants.{OfScalar, Within, Unlike}
use Rattle.value_domain.specs.Constants.{before}
use Rattle.value_domain.specs.ConstantOperators.{constant_in, op_constant, cmp_constant, convert_constant, pairs_vals, mapped_vals, kept_vals}
use Rattle.value_domain.specs.AbsOperators.{lies_in}

abbrev pub rule_constant : Rule → Constant → Constant → Option Constant
rule_constant (Arithmetic mode op scalar) c d = op_constant mode op scalar c d
rule_constant (Comparison cmp) c d = cmp_constant cmp c d
rule_constant (Conversion target) c d = convert_constant target d

abbrev pub rule_vals : ℕ → Rule → Vals → Vals → Vals
rule_vals limit rule a b = pairs_vals limit (rule_constant rule) a b

abbrev pub converted_vals : ℕ → Scalar → Vals → Vals
converted_vals limit target a = mapped_vals limit (convert_constant target) a

abbrev pub passes : Test → Constant → Bool
passes (OfScalar scalar) c = constant_in scalar c
passes (Within range) c = lies_in range c
passes (Unlike d) c = not (same_by before c d)

abbrev pub tested_vals : Test → Vals → Vals
tested_vals test a = kept_vals (passes test) a
