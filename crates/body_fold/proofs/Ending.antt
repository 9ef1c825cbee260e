-- Ends with known constants put in.
use Rattle.std.proofs.Common.{◌≡◌, ℕ, List, refl, sym, ◌∙◌, ap, subst, Option, Some, None, Ok, Err}
use Rattle.gimple_ir.specs.declared.scalar.Scalar.{Scalar}
use Rattle.gimple_ir.specs.declared.scalar.Cmp.{Cmp}
use Rattle.gimple_ir.specs.declared.operand.Operand.{Operand}
use Rattle.gimple_ir.specs.declared.block.End.{End}
use Rattle.gimple_ir.specs.declared.block.End.TheVariants.{If, Return}
use Rattle.gimple_core.specs.Env.{Env}
use Rattle.gimple_core.specs.Statements as check
use Rattle.gimple_core.proofs.Passed.{first_passed}
use Rattle.value_domain.specs.declared.abs_val.AbsVal.{AbsVal}
use Rattle.body_fold.specs.Fold.{Folding, put_or, constant_for, folded_operand, folded_end}
use Rattle.body_fold.proofs.Checking.{put_same}

pub branch_compared : (env : Env) (e : End) (left : Operand) (cmp : Cmp) (right : Operand) (hit miss : ℕ) → check.ending env e ≡ Ok tt → e ≡ If left cmp right hit miss → check.compared env left cmp right ≡ Ok tt
unfolding check.ending
branch_compared env e left cmp right hit miss h is =
    let passes : check.ending env (If left cmp right hit miss) ≡ Ok tt = subst (λ x. check.ending env x ≡ Ok tt) is h in
    (first_passed (check.compared env left cmp right) _ tt passes).1

module _ (S : Folding) (row : List AbsVal) (x : Operand) where
  pub returned_scalar : (scalar : Scalar) → S.env.result ≡ Some scalar → folded_end S row (Return (Some x)) ≡ Return (Some (folded_operand S row (check.operand S.env 4 scalar) x))
  unfolding folded_end check.returned
  returned_scalar scalar e =
      ap (λ r. Return (Some (put_or (λ y. check.returned S.env (Some y) r) x (constant_for S.body row x)))) e
      ∙ ap (λ z. Return (Some z)) (sym (put_same S.env 16 scalar x (constant_for S.body row x)))

  none_put : (o : Option Operand) → put_or (λ y. Err 16) x o ≡ x
  none_put None = refl
  none_put (Some y) = refl

  pub returned_none : S.env.result ≡ None → folded_end S row (Return (Some x)) ≡ Return (Some x)
  unfolding folded_end check.returned
  returned_none e =
      ap (λ r. Return (Some (put_or (λ y. check.returned S.env (Some y) r) x (constant_for S.body row x)))) e
      ∙ ap (λ z. Return (Some z)) (none_put (constant_for S.body row x))
