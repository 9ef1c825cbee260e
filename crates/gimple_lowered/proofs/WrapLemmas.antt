-- A number that lies in a scalar stays when it is wrapped into it.
use Rattle.std.proofs.Common.{cond, ◌≡◌, ℕ, ◌+◌, ◌%◌, ◌-◌, ◌<◌, ◌≤◌, ℤ, pos, negsuc, ◌≤ℤ◌, ◌<ℤ◌, ◌-ℤ◌, ◌⊎◌, inl, inr, Bool, true, false, ◌&&◌, not, refl, sym, ◌∙◌, ap, subst, int_lt, int_le, arith, Ok}
use Rattle.std.proofs.lemmas.Int.{ints}
use Rattle.std.proofs.Math.Nat.{mod-eq_of_lt}
use Rattle.gimple_ir.specs.declared.scalar.Mode.{Mode}
use Rattle.gimple_ir.specs.declared.scalar.Mode.TheVariants.{Trap, Wrap}
use Rattle.gimple_ir.specs.declared.scalar.Scalar.{Scalar}
use Rattle.gimple_ir.specs.declared.scalar.Scalar.TheVariants.{I8, I16, I32, I64, U8, U16, U32, U64, Ptr}
use Rattle.gimple_core.specs.Operators.{is_signed, in_scalar, least_of, greatest_of, wrapped, of_bits, low_bits, modulus_of, half_of, kept, within, IsWord}

record IsIn (scalar : Scalar) (z : ℤ) : Type 0 where
  from : least_of scalar ≤ℤ z
  to : z ≤ℤ greatest_of scalar

le_true : (a b : ℤ) → int_le a b ≡ true → a ≤ℤ b
le_true a b e = grind (arith, ints)

two : (a b : Bool) → (a && b) ≡ true → (a ≡ true) × (b ≡ true)
two true true h = (refl, refl)
two true false h = cc
two false b h = cc

is_in : (scalar : Scalar) (z : ℤ) → in_scalar scalar z ≡ true → IsIn scalar z
is_in scalar z h = let k = two _ _ h in record { from = le_true _ _ k.0; to = le_true _ _ k.1 }

-- the modulus is twice the half
halves : (scalar : Scalar) → (modulus_of scalar ≡ half_of scalar + half_of scalar) × (0 < half_of scalar)
halves I8 = (refl, omega arith)
halves I16 = (refl, omega arith)
halves I32 = (refl, omega arith)
halves I64 = (refl, omega arith)
halves U8 = (refl, omega arith)
halves U16 = (refl, omega arith)
halves U32 = (refl, omega arith)
halves U64 = (refl, omega arith)
halves Ptr = (refl, omega arith)

signed_ends : (scalar : Scalar) → is_signed scalar ≡ true → (least_of scalar ≡ pos 0 -ℤ pos (half_of scalar)) × (greatest_of scalar ≡ pos (half_of scalar - 1))
signed_ends I8 h = (refl, refl)
signed_ends I16 h = (refl, refl)
signed_ends I32 h = (refl, refl)
signed_ends I64 h = (refl, refl)
signed_ends U8 h = cc
signed_ends U16 h = cc
signed_ends U32 h = cc
signed_ends U64 h = cc
signed_ends Ptr h = cc

unsigned_ends : (scalar : Scalar) → is_signed scalar ≡ false → (least_of scalar ≡ pos 0) × (greatest_of scalar ≡ pos (modulus_of scalar - 1))
unsigned_ends I8 h = cc
unsigned_ends I16 h = cc
unsigned_ends I32 h = cc
unsigned_ends I64 h = cc
unsigned_ends U8 h = (refl, refl)
unsigned_ends U16 h = (refl, refl)
unsigned_ends U32 h = (refl, refl)
unsigned_ends U64 h = (refl, refl)
unsigned_ends Ptr h = (refl, refl)

of_bits_cases : (scalar : Scalar) (n : ℕ) (P : ℤ → Type 0) → ((is_signed scalar ≡ false) ⊎ (n < half_of scalar) → P (pos n)) → (is_signed scalar ≡ true → half_of scalar ≤ n → P (pos n -ℤ pos (modulus_of scalar))) → P (of_bits scalar n)
of_bits_cases scalar n P h k = by (is_signed scalar) (int_lt (pos n) (pos (half_of scalar))) refl refl
  where
    by : (a b : Bool) → is_signed scalar ≡ a → int_lt (pos n) (pos (half_of scalar)) ≡ b → P (cond (a && not b) (pos n -ℤ pos (modulus_of scalar)) (pos n))
    by true true e f = let p : pos n <ℤ pos (half_of scalar) = grind (arith, ints) in h (inr (omega (arith, ints)))
    by true false e f = let p : pos (half_of scalar) ≤ℤ pos n = grind (arith, ints) in k e (omega (arith, ints))
    by false b e f = h (inl e)

-- what lies in a scalar is small
pos_below : (scalar : Scalar) (n : ℕ) → IsIn scalar (pos n) → (n < modulus_of scalar) × (is_signed scalar ≡ true → n < half_of scalar)
pos_below scalar n h = by (is_signed scalar) refl
  where
    by : (b : Bool) → is_signed scalar ≡ b → (n < modulus_of scalar) × (is_signed scalar ≡ true → n < half_of scalar)
    by true e =
        let u = signed_ends scalar e in let p = halves scalar in
        let k : pos n ≤ℤ pos (half_of scalar - 1) = subst (λ (x : ℤ). pos n ≤ℤ x) u.1 h.to in
        (omega (arith, ints, p.0, p.1), λ _. omega (arith, ints, p.1))
    by false e =
        let u = unsigned_ends scalar e in let p = halves scalar in
        let k : pos n ≤ℤ pos (modulus_of scalar - 1) = subst (λ (x : ℤ). pos n ≤ℤ x) u.1 h.to in
        (omega (arith, ints, p.0, p.1), λ f. absurd (let g : true ≡ false = sym f ∙ e in cc))

neg_below : (scalar : Scalar) (n : ℕ) → IsIn scalar (negsuc n) → (is_signed scalar ≡ true) × (n < half_of scalar)
neg_below scalar n h = by (is_signed scalar) refl
  where
    by : (b : Bool) → is_signed scalar ≡ b → (is_signed scalar ≡ true) × (n < half_of scalar)
    by true e =
        let u = signed_ends scalar e in
        let k : (pos 0 -ℤ pos (half_of scalar)) ≤ℤ negsuc n = subst (λ (x : ℤ). x ≤ℤ negsuc n) u.0 h.from in
        (e, omega (arith, ints))
    by false e =
        let u = unsigned_ends scalar e in
        let k : pos 0 ≤ℤ negsuc n = subst (λ (x : ℤ). x ≤ℤ negsuc n) u.0 h.from in
        absurd (omega (arith, ints))

of_low : (scalar : Scalar) (z : ℤ) → IsIn scalar z → of_bits scalar (low_bits scalar z) ≡ z
of_low scalar (pos n) h =
    let p = pos_below scalar n h in
    let e : n % modulus_of scalar ≡ n = mod-eq_of_lt p.0 in
    of_bits_cases scalar (n % modulus_of scalar) (λ (z : ℤ). z ≡ pos n) (λ _. ap (λ (k : ℕ). pos k) e) (λ (s : is_signed scalar ≡ true) (l : half_of scalar ≤ n % modulus_of scalar). absurd (let q = p.1 s in omega (arith, e, q, l)))
of_low scalar (negsuc n) h =
    let p = neg_below scalar n h in
    let t = halves scalar in
    let e : n % modulus_of scalar ≡ n = mod-eq_of_lt (omega (arith, t.0, t.1, p.1)) in
    of_bits_cases scalar (modulus_of scalar - 1 - n % modulus_of scalar) (λ (z : ℤ). z ≡ negsuc n)
    (λ c. absurd (small c e)) (λ (s : is_signed scalar ≡ true) (l : half_of scalar ≤ modulus_of scalar - 1 - n % modulus_of scalar). omega (arith, ints, t.0, t.1, e, p.1))
  where
    small : (is_signed scalar ≡ false) ⊎ (modulus_of scalar - 1 - n % modulus_of scalar < half_of scalar) → n % modulus_of scalar ≡ n → ⊥
    small (inl f) e = let p = neg_below scalar n h in let g : true ≡ false = sym p.0 ∙ f in cc
    small (inr l) e = let p = neg_below scalar n h in let t = halves scalar in omega (arith, t.0, t.1, p.1, e, l)

pub wrapped_same : (scalar : Scalar) (z : ℤ) → in_scalar scalar z ≡ true → wrapped scalar z ≡ z
unfolding wrapped
wrapped_same scalar z h = of_low scalar z (is_in scalar z h)

-- a result that lies in its scalar
pub kept_same : (mode : Mode) (scalar : Scalar) (z : ℤ) → in_scalar scalar z ≡ true → kept mode scalar z ≡ Ok z
kept_same Wrap scalar z h = ap Ok (wrapped_same scalar z h)
kept_same Trap scalar z h = by (is_signed scalar)
  where
    inside : within scalar z ≡ Ok z
    inside = rw h refl

    by : (b : Bool) → cond b (within scalar z) (Ok (wrapped scalar z)) ≡ Ok z
    by true = inside
    by false = ap Ok (wrapped_same scalar z h)

-- a number of a scalar is one of some integer scalar
pub scalar_word : (scalar : Scalar) (z : ℤ) → in_scalar scalar z ≡ true → IsWord z
scalar_word scalar z h = by scalar (is_in scalar z h)
  where
    by : (s : Scalar) → IsIn s z → IsWord z
    by I8 k = let a : least_of I8 ≤ℤ z = k.from in let b : z ≤ℤ greatest_of I8 = k.to in record { low = omega (arith, ints); high = omega (arith, ints) }
    by I16 k = let a : least_of I16 ≤ℤ z = k.from in let b : z ≤ℤ greatest_of I16 = k.to in record { low = omega (arith, ints); high = omega (arith, ints) }
    by I32 k = let a : least_of I32 ≤ℤ z = k.from in let b : z ≤ℤ greatest_of I32 = k.to in record { low = omega (arith, ints); high = omega (arith, ints) }
    by I64 k = let a : least_of I64 ≤ℤ z = k.from in let b : z ≤ℤ greatest_of I64 = k.to in record { low = omega (arith, ints); high = omega (arith, ints) }
    by U8 k = let a : least_of U8 ≤ℤ z = k.from in let b : z ≤ℤ greatest_of U8 = k.to in record { low = omega (arith, ints); high = omega (arith, ints) }
    by U16 k = let a : least_of U16 ≤ℤ z = k.from in let b : z ≤ℤ greatest_of U16 = k.to in record { low = omega (arith, ints); high = omega (arith, ints) }
    by U32 k = let a : least_of U32 ≤ℤ z = k.from in let b : z ≤ℤ greatest_of U32 = k.to in record { low = omega (arith, ints); high = omega (arith, ints) }
    by U64 k = let a : least_of U64 ≤ℤ z = k.from in let b : z ≤ℤ greatest_of U64 = k.to in record { low = omega (arith, ints); high = omega (arith, ints) }
    by Ptr k = let a : least_of Ptr ≤ℤ z = k.from in let b : z ≤ℤ greatest_of Ptr = k.to in record { low = omega (arith, ints); high = omega (arith, ints) }
