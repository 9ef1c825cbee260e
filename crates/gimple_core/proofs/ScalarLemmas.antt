-- Scalars that pass the test are the same.
use Rattle.std.proofs.Common.{◌≡◌, ℕ, zero, suc, true, refl, sym, ◌∙◌, ap}
use Rattle.std.proofs.lemmas.Bool.{eqb-true}
use Rattle.gimple_ir.specs.declared.scalar.Scalar.{Scalar}
use Rattle.gimple_ir.specs.declared.scalar.Scalar.TheVariants.{I8, I16, I32, I64, U8, U16, U32, U64, Ptr}
use Rattle.gimple_core.specs.Memory.{number_of, same_scalar}
use Rattle.gimple_core.specs.Statements.{is_pointer}

of_number : ℕ → Scalar
of_number zero = I8
of_number (suc zero) = I16
of_number (suc (suc zero)) = I32
of_number (suc (suc (suc zero))) = I64
of_number (suc (suc (suc (suc zero)))) = U8
of_number (suc (suc (suc (suc (suc zero))))) = U16
of_number (suc (suc (suc (suc (suc (suc zero)))))) = U32
of_number (suc (suc (suc (suc (suc (suc (suc zero))))))) = U64
of_number (suc (suc (suc (suc (suc (suc (suc (suc n)))))))) = Ptr

numbered : (a : Scalar) → of_number (number_of a) ≡ a
unfolding of_number
numbered I8 = refl
numbered I16 = refl
numbered I32 = refl
numbered I64 = refl
numbered U8 = refl
numbered U16 = refl
numbered U32 = refl
numbered U64 = refl
numbered Ptr = refl

-- scalars that pass the test are the same
pub same_scalar_true : (a b : Scalar) → same_scalar a b ≡ true → a ≡ b
same_scalar_true a b e = sym (numbered a) ∙ (ap of_number (eqb-true (number_of a) (number_of b) e) ∙ numbered b)

pub pointer_is : (a : Scalar) → is_pointer a ≡ true → a ≡ Ptr
pointer_is I8 e = cc
pointer_is I16 e = cc
pointer_is I32 e = cc
pointer_is I64 e = cc
pointer_is U8 e = cc
pointer_is U16 e = cc
pointer_is U32 e = cc
pointer_is U64 e = cc
pointer_is Ptr e = refl
