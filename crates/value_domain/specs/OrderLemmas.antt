-- The order of constants is a strict order.
use Rattle.std.proofs.Common.{◌≡◌, ℕ, ◌≤ℤ◌, ℤ, int_lt, ◌⊎◌, inl, inr, Bool, true, false, ◌&&◌, ◌||◌, ◌==◌, ltb, refl, sym, ◌∙◌, ap, subst, arith}
use Rattle.std.proofs.lemmas.Int.{ints}
use Rattle.std.proofs.lemmas.Bool.{eqb-true, eq-eqb}
use Rattle.std.proofs.lemmas.Bool.Decides.{nat_tests}
use Rattle.gimple_ir.specs.declared.value.Constant.{Constant}
use Rattle.gimple_ir.specs.declared.value.Constant.TheVariants.{Int, Null, Global}
use Rattle.value_domain.specs.Constants.{before}
use Rattle.lattice_parts.specs.Sets.{IsOrder}

int_apart : (x : ℤ) → int_lt x x ≡ false
int_apart x = grind (arith, ints)

int_trans : (x y z : ℤ) → int_lt x y ≡ true → int_lt y z ≡ true → int_lt x z ≡ true
int_trans x y z h k = grind (arith, ints)

int_total : (x y : ℤ) → int_lt x y ≡ false → int_lt y x ≡ false → x ≡ y
int_total x y h k = let p : y ≤ℤ x = grind (arith, ints) in let q : x ≤ℤ y = grind (arith, ints) in omega (arith, ints)

pair_lt : ℕ → ℤ → ℕ → ℤ → Bool
pair_lt x a y b = ltb x y || ((x == y) && int_lt a b)

nat_apart : (x : ℕ) → ltb x x ≡ false
nat_apart x = grind (arith, nat_tests)

apart : (c : Constant) → before c c ≡ false
apart (Int x) = int_apart x
apart Null = refl
apart (Global x a) = rw (nat_apart x, int_apart a) (and_false (x == x))
  where
    and_false : (b : Bool) → (b && false) ≡ false
    and_false true = refl
    and_false false = refl

pub int_order : IsOrder int_lt
int_order = record { apart = int_apart; transitive = int_trans; total = int_total }

or_cases : (a b : Bool) → (a || b) ≡ true → (a ≡ true) ⊎ (b ≡ true)
or_cases true b h = inl refl
or_cases false b h = inr h

and_both : (a b : Bool) → (a && b) ≡ true → (a ≡ true) × (b ≡ true)
and_both true true h = (refl, refl)
and_both true false h = cc
and_both false b h = cc

pairs_trans : (x : ℕ) (a : ℤ) (y : ℕ) (b : ℤ) (z : ℕ) (d : ℤ) → before (Global x a) (Global y b) ≡ true → before (Global y b) (Global z d) ≡ true → before (Global x a) (Global z d) ≡ true
pairs_trans x a y b z d h k = by (or_cases _ _ h) (or_cases _ _ k)
  where
    first : ltb x z ≡ true → before (Global x a) (Global z d) ≡ true
    first e = rw e refl

    by : (ltb x y ≡ true) ⊎ (((x == y) && int_lt a b) ≡ true) → (ltb y z ≡ true) ⊎ (((y == z) && int_lt b d) ≡ true) → before (Global x a) (Global z d) ≡ true
    by (inl p) (inl q) = first (grind (arith, nat_tests, p, q))
    by (inl p) (inr q) = let e : y ≡ z = eqb-true _ _ (and_both _ _ q).0 in first (subst (λ n. ltb x n ≡ true) e p)
    by (inr p) (inl q) = let e : x ≡ y = eqb-true _ _ (and_both _ _ p).0 in first (subst (λ n. ltb n z ≡ true) (sym e) q)
    by (inr p) (inr q) =
        let e : x ≡ z = eqb-true _ _ (and_both _ _ p).0 ∙ eqb-true _ _ (and_both _ _ q).0 in
        let f : int_lt a d ≡ true = int_trans a b d (and_both _ _ p).1 (and_both _ _ q).1 in
        rw (eq-eqb _ _ e, f) (or_true (ltb x z))
      where
        or_true : (b : Bool) → (b || true) ≡ true
        or_true true = refl
        or_true false = refl

transitive : (x y z : Constant) → before x y ≡ true → before y z ≡ true → before x z ≡ true
transitive (Int x) (Int y) (Int z) h k = int_trans x y z h k
transitive (Int x) y Null h k = refl
transitive (Int x) y (Global z d) h k = refl
transitive Null (Global y b) (Global z d) h k = refl
transitive (Global x a) (Global y b) (Global z d) h k = pairs_trans x a y b z d h k
transitive (Int x) Null (Int z) h k = cc
transitive (Int x) (Global y b) (Int z) h k = cc
transitive Null (Int y) z h k = cc
transitive Null Null z h k = cc
transitive Null (Global y b) (Int z) h k = cc
transitive Null (Global y b) Null h k = cc
transitive (Global x a) (Int y) z h k = cc
transitive (Global x a) Null z h k = cc
transitive (Global x a) (Global y b) (Int z) h k = cc
transitive (Global x a) (Global y b) Null h k = cc

pairs_total : (x : ℕ) (a : ℤ) (y : ℕ) (b : ℤ) → before (Global x a) (Global y b) ≡ false → before (Global y b) (Global x a) ≡ false → Global x a ≡ Global y b
pairs_total x a y b h k =
    let e : x ≡ y = near x y (or_no _ _ h).0 (or_no _ _ k).0 in
    let f : int_lt a b ≡ false = second (x == y) (int_lt a b) (eq-eqb _ _ e) (or_no _ _ h).1 in
    let g : int_lt b a ≡ false = second (y == x) (int_lt b a) (eq-eqb _ _ (sym e)) (or_no _ _ k).1 in
    let t : a ≡ b = int_total a b f g in
    λ i. Global (e i) (t i)
  where
    or_no : (p q : Bool) → (p || q) ≡ false → (p ≡ false) × (q ≡ false)
    or_no true q h = cc
    or_no false q h = (refl, h)

    second : (p q : Bool) → p ≡ true → (p && q) ≡ false → q ≡ false
    second true q e h = h
    second false q e h = cc

    near : (x y : ℕ) → ltb x y ≡ false → ltb y x ≡ false → x ≡ y
    near x y p q = grind (arith, nat_tests)

total : (x y : Constant) → before x y ≡ false → before y x ≡ false → x ≡ y
total (Int x) (Int y) h k = ap Int (int_total x y h k)
total (Int x) Null h k = cc
total (Int x) (Global y b) h k = cc
total Null (Int y) h k = cc
total Null Null h k = refl
total Null (Global y b) h k = cc
total (Global x a) (Int y) h k = cc
total (Global x a) Null h k = cc
total (Global x a) (Global y b) h k = pairs_total x a y b h k

pub constant_order : IsOrder before
constant_order = record { apart = apart; transitive = transitive; total = total }
