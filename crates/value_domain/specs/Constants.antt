-- The order of constants.
use Rattle.std.specs.Prelude.{◌==◌, nat_lt, int_lt, Bool, true, false, ◌&&◌, ◌||◌}
use Rattle.gimple_ir.specs.declared.value.Constant.{Constant}
use Rattle.gimple_ir.specs.declared.value.Constant.TheVariants.{Int, Null, Global}

abbrev pub before : Constant → Constant → Bool
before (Int x) (Int y) = int_lt x y
before (Int x) c = true
before Null (Global y b) = true
before Null c = false
before (Global x a) (Global y b) = nat_lt x y || ((x == y) && int_lt a b)
before (Global x a) c = false
