-- Numbers among constants.
use Rattle.std.specs.Prelude.{ℤ, Option, Some, None}
use Rattle.gimple_ir.specs.declared.value.Constant.{Constant}
use Rattle.gimple_ir.specs.declared.value.Constant.TheVariants.{Int}

-- the number that a constant is
abbrev pub number_in : Option Constant → Option ℤ
number_in (Some (Int z)) = Some z
number_in x = None
