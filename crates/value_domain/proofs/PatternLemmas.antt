-- The 64 bits of a sum, a difference and a product.
use Rattle.std.proofs.Common.{◌≡◌, ℕ, ◌+◌, ◌-◌, ◌*◌, ◌%◌, ◌^◌, ◌<◌, ◌≤◌, ℤ, pos, negsuc, ◌+ℤ◌, ◌-ℤ◌, ◌*ℤ◌, refl, sym, ◌∙◌, ap, arith, bit_and, lit<, ◌⊎◌, inl, inr}
use Rattle.std.specs.Int.{w64, int_wrap, cast_signed, cast_unsigned}
use Rattle.std.proofs.lemmas.Int.{of_z-to_z, wrapping_add-bits, wrapping_mul-bits, int_wrap-add_left, int_wrap-add_right, int_wrap-mul_left, int_wrap-mul_right}
use Rattle.std.proofs.lemmas.Nat.{mod_below, and_mod, and_mask, mul-mod}
use Rattle.std.proofs.lemmas.Bool.{cases_lt}
use Rattle.std.proofs.Math.Nat.{mod-eq_of_lt, mod-eq-sub-mod, add-mod, mod-mod}
use Rattle.std.proofs.Math.Pow.{mod-mod-pow}
use Rattle.std.proofs.lemmas.Int.{ints}
use Rattle.value_domain.specs.declared.bits.Bits.{Bits}
use Rattle.value_domain.specs.Bitmasks.{pattern, Agrees}

pub pattern_below : (z : ℤ) → pattern z < 2 ^ 64
pattern_below (pos n) = mod_below n (2 ^ 64) (lit< tt)
pattern_below (negsuc n) = omega (arith, mod_below n (2 ^ 64) (lit< tt))

wrap_is : (z : ℤ) → int_wrap w64 z ≡ cast_signed w64 (pattern z)
unfolding int_wrap
wrap_is z = refl

unwrapped : (m n : ℕ) → m < 2 ^ 64 → n < 2 ^ 64 → cast_signed w64 m ≡ cast_signed w64 n → m ≡ n
unwrapped m n h k e = sym (of_z-to_z w64 m h) ∙ (ap (cast_unsigned w64) e ∙ of_z-to_z w64 n k)

pub pattern_sum : (z w : ℤ) → pattern (z +ℤ w) ≡ (pattern z + pattern w) % 2 ^ 64
pattern_sum z w = unwrapped _ _ (pattern_below (z +ℤ w)) (mod_below _ (2 ^ 64) (lit< tt))
    (sym (wrap_is (z +ℤ w)) ∙ (sym (int_wrap-add_left w64 z w) ∙ (sym (int_wrap-add_right w64 (int_wrap w64 z) w) ∙ (ap (λ (x : ℤ). int_wrap w64 (x +ℤ int_wrap w64 w)) (wrap_is z) ∙ (ap (λ (x : ℤ). int_wrap w64 (cast_signed w64 (pattern z) +ℤ x)) (wrap_is w) ∙ sym (wrapping_add-bits w64 (pattern z) (pattern w) (pattern_below z) (pattern_below w)))))))

pub pattern_product : (z w : ℤ) → pattern (z *ℤ w) ≡ (pattern z * pattern w) % 2 ^ 64
pattern_product z w = unwrapped _ _ (pattern_below (z *ℤ w)) (mod_below _ (2 ^ 64) (lit< tt))
    (sym (wrap_is (z *ℤ w)) ∙ (sym (int_wrap-mul_left w64 z w) ∙ (sym (int_wrap-mul_right w64 (int_wrap w64 z) w) ∙ (ap (λ (x : ℤ). int_wrap w64 (x *ℤ int_wrap w64 w)) (wrap_is z) ∙ (ap (λ (x : ℤ). int_wrap w64 (cast_signed w64 (pattern z) *ℤ x)) (wrap_is w) ∙ sym (wrapping_mul-bits w64 (pattern z) (pattern w) (pattern_below z) (pattern_below w)))))))

-- a difference is what gives the left side, with the right side added
taken_away : (p q : ℕ) → p < 2 ^ 64 → q < 2 ^ 64 → p ≡ ((p + q) % 2 ^ 64 + (2 ^ 64 - q)) % 2 ^ 64
taken_away p q h k = by (cases_lt (p + q) (2 ^ 64))
  where
    by : (p + q < 2 ^ 64) ⊎ (2 ^ 64 ≤ p + q) → p ≡ ((p + q) % 2 ^ 64 + (2 ^ 64 - q)) % 2 ^ 64
    by (inl l) = let e : (p + q) % 2 ^ 64 ≡ p + q = omega arith in omega (arith, e)
    by (inr l) = let e : (p + q) % 2 ^ 64 ≡ p + q - 2 ^ 64 = omega arith in omega (arith, e)

pub pattern_difference : (z w : ℤ) → pattern (z -ℤ w) ≡ (pattern z + (2 ^ 64 - pattern w)) % 2 ^ 64
pattern_difference z w =
    let e : pattern z ≡ (pattern (z -ℤ w) + pattern w) % 2 ^ 64 = ap pattern (let f : z ≡ (z -ℤ w) +ℤ w = omega (arith, ints) in f) ∙ pattern_sum (z -ℤ w) w in
    taken_away (pattern (z -ℤ w)) (pattern w) (pattern_below (z -ℤ w)) (pattern_below w) ∙ ap (λ (n : ℕ). (n + (2 ^ 64 - pattern w)) % 2 ^ 64) (sym e)

-- ---- remainders by 2 ^ t
pub lower : (n s t : ℕ) → t ≤ s → n % 2 ^ s % 2 ^ t ≡ n % 2 ^ t
lower n s t h = let e : s - t + t ≡ s = omega arith in ap (λ (k : ℕ). n % 2 ^ k % 2 ^ t) (sym e) ∙ mod-mod-pow n (s - t) t

pub sum_mod : (p x y u v : ℕ) → x % p ≡ u % p → y % p ≡ v % p → (x + y) % p ≡ (u + v) % p
sum_mod p x y u v e f = add-mod x y p ∙ (ap (λ (n : ℕ). (n + y % p) % p) e ∙ (ap (λ (n : ℕ). (u % p + n) % p) f ∙ sym (add-mod u v p)))

pub product_mod : (p x y u v : ℕ) → x % p ≡ u % p → y % p ≡ v % p → (x * y) % p ≡ (u * v) % p
product_mod p x y u v e f = mul-mod x y p ∙ (ap (λ (n : ℕ). (n * (y % p)) % p) e ∙ (ap (λ (n : ℕ). (u % p * n) % p) f ∙ sym (mul-mod u v p)))

mod_two : (s p : ℕ) → s < p + p → ((s % p ≡ s) × (s < p)) ⊎ ((s % p ≡ s - p) × (p ≤ s))
mod_two s p h = by (cases_lt s p)
  where
    by : (s < p) ⊎ (p ≤ s) → ((s % p ≡ s) × (s < p)) ⊎ ((s % p ≡ s - p) × (p ≤ s))
    by (inl l) = inl (mod-eq_of_lt l, l)
    by (inr l) = inr (mod-eq-sub-mod l ∙ mod-eq_of_lt (let m : s - p < p = omega arith in m), l)

cancelled : (a b c p m : ℕ) → a < p → b < p → c < p → (a + c) % p ≡ m → (b + c) % p ≡ m → a ≡ b
cancelled a b c p m h k l e f = by (mod_two (a + c) p (omega arith)) (mod_two (b + c) p (omega arith))
  where
    by : (((a + c) % p ≡ a + c) × (a + c < p)) ⊎ (((a + c) % p ≡ a + c - p) × (p ≤ a + c)) → (((b + c) % p ≡ b + c) × (b + c < p)) ⊎ (((b + c) % p ≡ b + c - p) × (p ≤ b + c)) → a ≡ b
    by (inl x) (inl y) = let g : a + c ≡ b + c = sym x.0 ∙ (e ∙ (sym f ∙ y.0)) in omega arith
    by (inl x) (inr y) = let g : a + c ≡ b + c - p = sym x.0 ∙ (e ∙ (sym f ∙ y.0)) in omega (arith, x.1, y.1)
    by (inr x) (inl y) = let g : a + c - p ≡ b + c = sym x.0 ∙ (e ∙ (sym f ∙ y.0)) in omega (arith, x.1, y.1)
    by (inr x) (inr y) = let g : a + c - p ≡ b + c - p = sym x.0 ∙ (e ∙ (sym f ∙ y.0)) in omega (arith, x.1, y.1)

-- what is left of n
pub rest_mod : (n x y p : ℕ) → 0 < p → x ≤ n → y ≤ n → x % p ≡ y % p → (n - x) % p ≡ (n - y) % p
rest_mod n x y p h k l e =
    let f : ((n - x) % p + x % p) % p ≡ n % p = sym (add-mod (n - x) x p) ∙ ap (λ (m : ℕ). m % p) (let g : n - x + x ≡ n = omega arith in g) in
    let i : ((n - y) % p + y % p) % p ≡ n % p = sym (add-mod (n - y) y p) ∙ ap (λ (m : ℕ). m % p) (let g : n - y + y ≡ n = omega arith in g) in
    let j : ((n - y) % p + x % p) % p ≡ n % p = ap (λ (m : ℕ). ((n - y) % p + m) % p) e ∙ i in
    cancelled ((n - x) % p) ((n - y) % p) (x % p) p (n % p) (mod_below (n - x) p h) (mod_below (n - y) p h) (mod_below x p h) f j

-- where the t low bits of the mask are known, the numbers agree below 2 ^ t
pub low_agree : (n t : ℕ) (b : Bits) → Agrees n b → b.mask % 2 ^ t ≡ 2 ^ t - 1 → n % 2 ^ t ≡ b.value % 2 ^ t
low_agree n t b h k =
    let e : bit_and (n % 2 ^ t) (b.mask % 2 ^ t) ≡ b.value % 2 ^ t = sym (and_mod n b.mask t) ∙ ap (λ (m : ℕ). m % 2 ^ t) h in
    let f : bit_and (n % 2 ^ t) (2 ^ t - 1) ≡ b.value % 2 ^ t = rw k at e in
    sym (mod-mod n (2 ^ t)) ∙ (sym (and_mask (n % 2 ^ t) t) ∙ f)

-- what the code computes at 64 bits
pub low_code : (t n mask : ℕ) → mask ≡ 2 ^ t - 1 → t ≤ 64 → bit_and (n % 2 ^ 64) mask ≡ n % 2 ^ t
low_code t n mask e h = ap (bit_and (n % 2 ^ 64)) e ∙ (and_mask (n % 2 ^ 64) t ∙ lower n 64 t h)

pub bits_by : (m n p q : ℕ) → m ≡ p → n ≡ q → ◌≡◌ {A = Bits} (record { mask = m; value = n }) (record { mask = p; value = q })
bits_by m n p q e f = λ i. record { mask = e i; value = f i }
