-- Sides of comparisons and arguments with known constants put in.
use Rattle.std.proofs.Common.{◌≡◌, ℕ, zero, suc, ◌+◌, ◌<◌, Bool, true, false, if◌then◌else◌, List, [], ◌∷◌, ◌++◌, length, drop, refl, sym, ◌∙◌, ap, arith, append_assoc, drop-cons, get_or, Option, Some, None, slice_get}
use Rattle.gimple_ir.specs.declared.scalar.Cmp.{Cmp}
use Rattle.gimple_ir.specs.declared.scalar.Scalar.{Scalar}
use Rattle.gimple_ir.specs.declared.operand.Operand.{Operand}
use Rattle.gimple_core.specs.Verdict.{Verdict}
use Rattle.gimple_core.specs.Statements as check
use Rattle.value_domain.specs.declared.abs_val.AbsVal.{AbsVal}
use Rattle.body_fold.specs.Fold.{Folding, passes, is_put, put_or, constant_for, folded_operand, folded_left, folded_right, folded_arguments}
use Rattle.body_fold.specs.Putting.{put_in, argument_of}

-- ---- what is put

put_by : {X : Type 0} (b : Bool) (x y z : X) → (if b then Some y else None) ≡ Some z → (b ≡ true) × ((if b then y else x) ≡ z)
put_by true x y z e = (refl, cc)
put_by false x y z e = cc

put_some : {X : Type 0} (check : X → Verdict (Unit {0})) (x z : X) (o : Option X) → put_in check o ≡ Some z → (is_put check o ≡ true) × (put_or check x o ≡ z)
put_some check x z None e = cc
put_some check x z (Some y) e = put_by (passes (check y)) x y z e

not_by : {X : Type 0} (b : Bool) (x y : X) → (if b then Some y else None) ≡ None → (b ≡ false) × ((if b then y else x) ≡ x)
not_by true x y e = cc
not_by false x y e = (refl, refl)

put_none : {X : Type 0} (check : X → Verdict (Unit {0})) (x : X) (o : Option X) → put_in check o ≡ None → (is_put check o ≡ false) × (put_or check x o ≡ x)
put_none check x None e = (refl, refl)
put_none check x (Some y) e = not_by (passes (check y)) x y e

-- ---- comparisons

module _ (S : Folding) (row : List AbsVal) (left : Operand) (cmp : Cmp) (right : Operand) where
  pub record SidesAre (l r : Operand) : Type 0 where
    pub left_side : l ≡ folded_left S row left cmp right
    pub right_side : r ≡ folded_right S row left cmp right

  pub right_put : (y : Operand) → put_in (λ y. check.compared S.env left cmp y) (constant_for S.body row right) ≡ Some y → SidesAre left y
  unfolding folded_left folded_right
  right_put y e =
      let h = put_some (λ y. check.compared S.env left cmp y) right y (constant_for S.body row right) e in
      record { left_side = sym (ap (λ b. if b then left else folded_operand S row (λ y. check.compared S.env y cmp right) left) h.0); right_side = sym h.1 }

  pub left_put : (l : Operand) → put_in (λ y. check.compared S.env left cmp y) (constant_for S.body row right) ≡ None → l ≡ folded_operand S row (λ y. check.compared S.env y cmp right) left → SidesAre l right
  unfolding folded_left folded_right
  left_put l e is =
      let h = put_none (λ y. check.compared S.env left cmp y) right (constant_for S.body row right) e in
      record { left_side = is ∙ sym (ap (λ b. if b then left else folded_operand S row (λ y. check.compared S.env y cmp right) left) h.0); right_side = sym h.1 }

-- ---- arguments

module _ (S : Folding) (row : List AbsVal) where
  no_formals : (xs : List Operand) → folded_arguments S row [] xs ≡ xs
  no_formals [] = refl
  no_formals (x ∷ xs) = refl

  next_formal : (formals : List Scalar) (i : ℕ) (x : Operand) (xs : List Operand) → folded_arguments S row (drop i formals) (x ∷ xs) ≡ argument_of S row (slice_get formals i) x ∷ folded_arguments S row (drop (suc i) formals) xs
  next_formal [] zero x xs = ap (λ ys. x ∷ ys) (sym (no_formals xs))
  next_formal [] (suc i) x xs = ap (λ ys. x ∷ ys) (sym (no_formals xs))
  next_formal (r ∷ rs) zero x xs = refl
  next_formal (r ∷ rs) (suc i) x xs = next_formal rs i x xs

  pub next_argument : (formals : List Scalar) (xs done all : List Operand) (i : ℕ) (x y : Operand) → i < length xs → x ≡ get_or xs i x → y ≡ argument_of S row (slice_get formals i) x →
      done ++ folded_arguments S row (drop i formals) (drop i xs) ≡ all → (done ++ y ∷ []) ++ folded_arguments S row (drop (i + 1) formals) (drop (i + 1) xs) ≡ all
  next_argument formals xs done all i x y l is put h =
      let here : drop i xs ≡ x ∷ drop (suc i) xs = drop-cons xs i x l ∙ ap (λ z. z ∷ drop (suc i) xs) (sym is) in
      let more : i + 1 ≡ suc i = omega arith in
      append_assoc done (y ∷ []) _
      ∙ (ap (λ n. done ++ y ∷ folded_arguments S row (drop n formals) (drop n xs)) more
      ∙ (ap (λ z. done ++ z ∷ folded_arguments S row (drop (suc i) formals) (drop (suc i) xs)) put
      ∙ (sym (ap (λ ys. done ++ ys) (ap (folded_arguments S row (drop i formals)) here ∙ next_formal formals i x (drop (suc i) xs))) ∙ h)))
