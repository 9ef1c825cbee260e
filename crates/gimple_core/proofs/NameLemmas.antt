-- Names that pass the test are the same, and the other way round.
use Rattle.std.proofs.Common.{◌≡◌, ℕ, Bool, true, false, ◌&&◌, List, [], ◌∷◌, refl, sym, ◌∙◌, ap, ◌==◌}
use Rattle.std.proofs.lemmas.Bool.{eqb-true, eq-eqb}
use Rattle.std.specs.Str.{bytes_eq}

same_of : (x y : ℕ) (xs ys : List ℕ) (a : Bool) → a ≡ (x == y) → a && bytes_eq xs ys ≡ true → (bytes_eq xs ys ≡ true → xs ≡ ys) → x ∷ xs ≡ y ∷ ys
same_of x y xs ys true e h more = let head = eqb-true x y (sym e) in let tail = more h in cc
same_of x y xs ys false e h more = cc

-- names that pass the test are the same
pub same_name_true : (xs ys : List ℕ) → bytes_eq xs ys ≡ true → xs ≡ ys
same_name_true [] [] h = refl
same_name_true [] (y ∷ ys) h = cc
same_name_true (x ∷ xs) [] h = cc
same_name_true (x ∷ xs) (y ∷ ys) h = same_of x y xs ys (x == y) refl h (same_name_true xs ys)

-- a name passes the test with itself
pub same_name_self : (xs : List ℕ) → bytes_eq xs xs ≡ true
same_name_self [] = refl
same_name_self (x ∷ xs) = rw (eq-eqb x x refl) (same_name_self xs)

same_by : (b c : Bool) → (b ≡ true → c ≡ true) → (c ≡ true → b ≡ true) → b ≡ c
same_by true true f g = refl
same_by true false f g = sym (f refl)
same_by false true f g = g refl
same_by false false f g = refl

-- a test that says whether two names are the same is the test of names
pub is_same_name : (b : Bool) (xs ys : List ℕ) → (b ≡ true → xs ≡ ys) → (xs ≡ ys → b ≡ true) → b ≡ bytes_eq xs ys
is_same_name b xs ys f g =
    same_by b (bytes_eq xs ys) (λ h. ap (bytes_eq xs) (sym (f h)) ∙ same_name_self xs) (λ h. g (same_name_true xs ys h))
