-- Which values are of a scalar.
use Rattle.std.proofs.Common.{◌≡◌, ℕ, ℤ, true, false, refl, List}
use Rattle.gimple_ir.specs.declared.scalar.Scalar.{Scalar}
use Rattle.gimple_ir.specs.declared.scalar.Scalar.TheVariants.{I8, I16, I32, I64, U8, U16, U32, U64, Ptr}
use Rattle.gimple_ir.specs.declared.value.Object.{Object}
use Rattle.gimple_ir.specs.declared.value.Value.TheVariants.{Int as Number, Null as NullPointer, At, Code}
use Rattle.gimple_core.specs.Operators.{in_scalar}
use Rattle.gimple_core.specs.State.{is_of}
use Rattle.gimple_core.specs.Statements.{is_pointer}

pub of_number : (scalar : Scalar) (z : ℤ) → is_of scalar (Number z) ≡ true → (is_pointer scalar ≡ false) × (in_scalar scalar z ≡ true)
of_number I8 z h = (refl, h)
of_number I16 z h = (refl, h)
of_number I32 z h = (refl, h)
of_number I64 z h = (refl, h)
of_number U8 z h = (refl, h)
of_number U16 z h = (refl, h)
of_number U32 z h = (refl, h)
of_number U64 z h = (refl, h)
of_number Ptr z h = cc

pub of_null : (scalar : Scalar) → is_of scalar NullPointer ≡ true → is_pointer scalar ≡ true
of_null I8 h = cc
of_null I16 h = cc
of_null I32 h = cc
of_null I64 h = cc
of_null U8 h = cc
of_null U16 h = cc
of_null U32 h = cc
of_null U64 h = cc
of_null Ptr h = refl

pub of_address : (scalar : Scalar) (object : Object) (offset : ℤ) → is_of scalar (At object offset) ≡ true → is_pointer scalar ≡ true
of_address I8 object offset h = cc
of_address I16 object offset h = cc
of_address I32 object offset h = cc
of_address I64 object offset h = cc
of_address U8 object offset h = cc
of_address U16 object offset h = cc
of_address U32 object offset h = cc
of_address U64 object offset h = cc
of_address Ptr object offset h = refl

pub of_function : (scalar : Scalar) (name : List ℕ) → is_of scalar (Code name) ≡ true → is_pointer scalar ≡ true
of_function I8 name h = cc
of_function I16 name h = cc
of_function I32 name h = cc
of_function I64 name h = cc
of_function U8 name h = cc
of_function U16 name h = cc
of_function U32 name h = cc
of_function U64 name h = cc
of_function Ptr name h = refl
