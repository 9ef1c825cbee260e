-- What the code puts in the place of operands and places.
use Rattle.std.specs.Prelude.{ℕ, ℤ, pos, Bool, true, false, ◌&&◌, if◌then◌else◌, List, Option, Some, None}
use Rattle.std.specs.Ordering.{int_eq}
use Rattle.gimple_ir.specs.declared.scalar.Scalar.{Scalar}
use Rattle.gimple_ir.specs.declared.scalar.Scalar.TheVariants.{I64}
use Rattle.gimple_ir.specs.declared.operand.Operand.{Operand}
use Rattle.gimple_ir.specs.declared.operand.Place.{Place}
use Rattle.gimple_core.specs.Verdict.{Verdict}
use Rattle.gimple_core.specs.Operators.{in_scalar}
use Rattle.gimple_core.specs.Env.{Env, is_target, is_variable}
use Rattle.gimple_core.specs.Statements as check
use Rattle.value_domain.specs.declared.abs_val.AbsVal.{AbsVal}
use Rattle.body_fold.specs.declared.places.Access.{Access}
use Rattle.body_fold.specs.declared.places.Access.TheVariants.{Load, Store}
use Rattle.body_fold.specs.Fold.{Folding, passes, folded_operand, stored_place}

-- what is put, where it is there and passes the check
abbrev pub put_in : {X : Type 0} → (X → Verdict (Unit {0})) → Option X → Option X
put_in check None = None
put_in check (Some y) = if passes (check y) then Some y else None

-- an argument against the scalar of its formal
abbrev pub argument_of : Folding → List AbsVal → Option Scalar → Operand → Operand
argument_of S row None x = x
argument_of S row (Some scalar) x = folded_operand S row (check.operand S.env 6 scalar) x

-- whether the address of a name at an offset passes its check: that of a variable, or of a function at no offset
abbrev pub address_passes : Env → List ℕ → ℤ → Bool
address_passes env name offset = if is_variable env name then in_scalar I64 offset else (int_eq offset (pos 0) && is_target env.targets name)

-- whether an access writes
abbrev pub is_store : Access → Bool
is_store Load = false
is_store Store = true

-- the check of the place of an access
abbrev pub access_check : Env → Access → Scalar → Place → Verdict (Unit {0})
access_check env Load scalar place = check.place env scalar place
access_check env Store scalar place = stored_place env scalar place
