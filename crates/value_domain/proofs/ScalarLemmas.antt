-- Numbers of a scalar, and numbers wrapped into it.
use Rattle.std.proofs.Common.{cond, ◌≡◌, ℕ, ◌+◌, ◌%◌, ◌-◌, ◌<◌, ◌≤◌, ℤ, pos, negsuc, ◌≤ℤ◌, ◌<ℤ◌, ◌-ℤ◌, ◌⊎◌, inl, inr, Bool, true, false, ◌&&◌, not, refl, sym, ◌∙◌, ap, subst, int_lt, arith, Result, Ok}
use Rattle.std.proofs.lemmas.Int.{ints}
use Rattle.std.proofs.lemmas.Nat.{mod_below}
use Rattle.std.proofs.Math.Nat.{mod-eq_of_lt}
use Rattle.gimple_ir.specs.declared.scalar.Scalar.{Scalar}
use Rattle.gimple_ir.specs.declared.scalar.Scalar.TheVariants.{I8, I16, I32, I64, U8, U16, U32, U64, Ptr}
use Rattle.gimple_ir.specs.declared.value.TrapKind.{TrapKind}
use Rattle.gimple_core.specs.Operators.{is_signed, in_scalar, least_of, greatest_of, wrapped, of_bits, low_bits, bits_of, modulus_of, half_of}
use Rattle.value_domain.specs.Ranges.{InRange}
use Rattle.value_domain.specs.RangeOperators.{type_range, lowest, highest}
use Rattle.value_domain.specs.FitLemmas.{le_tells}

-- a result that is no trap
abbrev pub okay : ℤ → Result ℤ TrapKind
okay z = Ok z

pub two : (a b : Bool) → (a && b) ≡ true → (a ≡ true) × (b ≡ true)
two true true h = (refl, refl)
two true false h = cc
two false b h = cc

pub both : (a b : Bool) → a ≡ true → b ≡ true → (a && b) ≡ true
both a b e f = cc

pub in_type : (scalar : Scalar) (z : ℤ) → in_scalar scalar z ≡ true → InRange z (type_range scalar)
in_type scalar z h = let k = two _ _ h in record { from = (le_tells _ _).is_so k.0; to = (le_tells _ _).is_so k.1 }

pub in_type_is : (scalar : Scalar) (z : ℤ) → InRange z (type_range scalar) → in_scalar scalar z ≡ true
in_type_is scalar z h = both _ _ ((le_tells _ _).so_is h.from) ((le_tells _ _).so_is h.to)

-- the modulus is twice the half
pub halves : (scalar : Scalar) → (modulus_of scalar ≡ half_of scalar + half_of scalar) × (0 < half_of scalar)
halves I8 = (refl, omega arith)
halves I16 = (refl, omega arith)
halves I32 = (refl, omega arith)
halves I64 = (refl, omega arith)
halves U8 = (refl, omega arith)
halves U16 = (refl, omega arith)
halves U32 = (refl, omega arith)
halves U64 = (refl, omega arith)
halves Ptr = (refl, omega arith)

pub signed_ends : (scalar : Scalar) → is_signed scalar ≡ true → (least_of scalar ≡ pos 0 -ℤ pos (half_of scalar)) × (greatest_of scalar ≡ pos (half_of scalar - 1))
signed_ends I8 h = (refl, refl)
signed_ends I16 h = (refl, refl)
signed_ends I32 h = (refl, refl)
signed_ends I64 h = (refl, refl)
signed_ends U8 h = cc
signed_ends U16 h = cc
signed_ends U32 h = cc
signed_ends U64 h = cc
signed_ends Ptr h = cc

pub unsigned_ends : (scalar : Scalar) → is_signed scalar ≡ false → (least_of scalar ≡ pos 0) × (greatest_of scalar ≡ pos (modulus_of scalar - 1))
unsigned_ends I8 h = cc
unsigned_ends I16 h = cc
unsigned_ends I32 h = cc
unsigned_ends I64 h = cc
unsigned_ends U8 h = (refl, refl)
unsigned_ends U16 h = (refl, refl)
unsigned_ends U32 h = (refl, refl)
unsigned_ends U64 h = (refl, refl)
unsigned_ends Ptr h = (refl, refl)

-- the type's interval is one of words, holds 0, and its width is at most 64 bits
pub type_word : (scalar : Scalar) → (lowest ≤ℤ least_of scalar) × (greatest_of scalar ≤ℤ highest)
type_word I8 = (omega (arith, ints), omega (arith, ints))
type_word I16 = (omega (arith, ints), omega (arith, ints))
type_word I32 = (omega (arith, ints), omega (arith, ints))
type_word I64 = (omega (arith, ints), omega (arith, ints))
type_word U8 = (omega (arith, ints), omega (arith, ints))
type_word U16 = (omega (arith, ints), omega (arith, ints))
type_word U32 = (omega (arith, ints), omega (arith, ints))
type_word U64 = (omega (arith, ints), omega (arith, ints))
type_word Ptr = (omega (arith, ints), omega (arith, ints))

pub type_zero : (scalar : Scalar) → (least_of scalar ≤ℤ pos 0) × (pos 1 ≤ℤ greatest_of scalar)
type_zero I8 = (omega (arith, ints), omega (arith, ints))
type_zero I16 = (omega (arith, ints), omega (arith, ints))
type_zero I32 = (omega (arith, ints), omega (arith, ints))
type_zero I64 = (omega (arith, ints), omega (arith, ints))
type_zero U8 = (omega (arith, ints), omega (arith, ints))
type_zero U16 = (omega (arith, ints), omega (arith, ints))
type_zero U32 = (omega (arith, ints), omega (arith, ints))
type_zero U64 = (omega (arith, ints), omega (arith, ints))
type_zero Ptr = (omega (arith, ints), omega (arith, ints))

pub width_bound : (scalar : Scalar) → (0 < bits_of scalar) × (bits_of scalar ≤ 64)
width_bound I8 = (omega arith, omega arith)
width_bound I16 = (omega arith, omega arith)
width_bound I32 = (omega arith, omega arith)
width_bound I64 = (omega arith, omega arith)
width_bound U8 = (omega arith, omega arith)
width_bound U16 = (omega arith, omega arith)
width_bound U32 = (omega arith, omega arith)
width_bound U64 = (omega arith, omega arith)
width_bound Ptr = (omega arith, omega arith)

pub low_below : (scalar : Scalar) (z : ℤ) → low_bits scalar z < modulus_of scalar
low_below scalar (pos n) = let p = halves scalar in mod_below n (modulus_of scalar) (omega arith)
low_below scalar (negsuc n) = let p = halves scalar in let q : 0 < modulus_of scalar = omega arith in let r : n % modulus_of scalar < modulus_of scalar = mod_below n (modulus_of scalar) q in omega arith

-- ---- a number by its bits
pub of_bits_cases : (scalar : Scalar) (n : ℕ) (P : ℤ → Type 0) → ((is_signed scalar ≡ false) ⊎ (n < half_of scalar) → P (pos n)) → (is_signed scalar ≡ true → half_of scalar ≤ n → P (pos n -ℤ pos (modulus_of scalar))) → P (of_bits scalar n)
of_bits_cases scalar n P h k = by (is_signed scalar) (int_lt (pos n) (pos (half_of scalar))) refl refl
  where
    by : (a b : Bool) → is_signed scalar ≡ a → int_lt (pos n) (pos (half_of scalar)) ≡ b → P (cond (a && not b) (pos n -ℤ pos (modulus_of scalar)) (pos n))
    by true true e f = let p : pos n <ℤ pos (half_of scalar) = grind (arith, ints) in h (inr (omega (arith, ints)))
    by true false e f = let p : pos (half_of scalar) ≤ℤ pos n = grind (arith, ints) in k e (omega (arith, ints))
    by false b e f = h (inl e)

pub turned : (n m : ℕ) → n < m → pos n -ℤ pos m ≡ negsuc (m - 1 - n)
turned n m h = omega (arith, ints)

pub of_bits_in : (scalar : Scalar) (n : ℕ) → n < modulus_of scalar → InRange (of_bits scalar n) (type_range scalar)
of_bits_in scalar n h = of_bits_cases scalar n (λ (z : ℤ). InRange z (type_range scalar)) plain moved
  where
    plain : (is_signed scalar ≡ false) ⊎ (n < half_of scalar) → InRange (pos n) (type_range scalar)
    plain (inl e) = let u = unsigned_ends scalar e in record { from = subst (λ (x : ℤ). x ≤ℤ pos n) (sym u.0) (omega (arith, ints)); to = subst (λ (x : ℤ). pos n ≤ℤ x) (sym u.1) (omega (arith, ints)) }
    plain (inr l) = within (is_signed scalar) refl
      where
        within : (b : Bool) → is_signed scalar ≡ b → InRange (pos n) (type_range scalar)
        within true e = let u = signed_ends scalar e in record { from = subst (λ (x : ℤ). x ≤ℤ pos n) (sym u.0) (omega (arith, ints)); to = subst (λ (x : ℤ). pos n ≤ℤ x) (sym u.1) (omega (arith, ints)) }
        within false e = let u = unsigned_ends scalar e in record { from = subst (λ (x : ℤ). x ≤ℤ pos n) (sym u.0) (omega (arith, ints)); to = subst (λ (x : ℤ). pos n ≤ℤ x) (sym u.1) (omega (arith, ints)) }

    moved : is_signed scalar ≡ true → half_of scalar ≤ n → InRange (pos n -ℤ pos (modulus_of scalar)) (type_range scalar)
    moved e l = let u = signed_ends scalar e in let p = halves scalar in record { from = subst (λ (x : ℤ). x ≤ℤ (pos n -ℤ pos (modulus_of scalar))) (sym u.0) (omega (arith, ints, p.0, p.1)); to = subst (λ (x : ℤ). (pos n -ℤ pos (modulus_of scalar)) ≤ℤ x) (sym u.1) (omega (arith, ints, p.0, p.1)) }

pub wrapped_is : (scalar : Scalar) (z : ℤ) → wrapped scalar z ≡ of_bits scalar (low_bits scalar z)
unfolding wrapped
wrapped_is scalar z = refl

pub wrapped_in : (scalar : Scalar) (z : ℤ) → InRange (wrapped scalar z) (type_range scalar)
wrapped_in scalar z = subst (λ (x : ℤ). InRange x (type_range scalar)) (sym (wrapped_is scalar z)) (of_bits_in scalar (low_bits scalar z) (low_below scalar z))

-- what lies in a scalar is small
pub pos_below : (scalar : Scalar) (n : ℕ) → InRange (pos n) (type_range scalar) → (n < modulus_of scalar) × (is_signed scalar ≡ true → n < half_of scalar)
pos_below scalar n h = by (is_signed scalar) refl
  where
    by : (b : Bool) → is_signed scalar ≡ b → (n < modulus_of scalar) × (is_signed scalar ≡ true → n < half_of scalar)
    by true e =
        let u = signed_ends scalar e in let p = halves scalar in
        let k : pos n ≤ℤ pos (half_of scalar - 1) = subst (λ (x : ℤ). pos n ≤ℤ x) u.1 h.to in
        (omega (arith, ints, p.0, p.1), λ _. omega (arith, ints, p.1))
    by false e =
        let u = unsigned_ends scalar e in let p = halves scalar in
        let k : pos n ≤ℤ pos (modulus_of scalar - 1) = subst (λ (x : ℤ). pos n ≤ℤ x) u.1 h.to in
        (omega (arith, ints, p.0, p.1), λ f. absurd (let g : true ≡ false = sym f ∙ e in cc))

pub neg_below : (scalar : Scalar) (n : ℕ) → InRange (negsuc n) (type_range scalar) → (is_signed scalar ≡ true) × (n < half_of scalar)
neg_below scalar n h = by (is_signed scalar) refl
  where
    by : (b : Bool) → is_signed scalar ≡ b → (is_signed scalar ≡ true) × (n < half_of scalar)
    by true e =
        let u = signed_ends scalar e in
        let k : (pos 0 -ℤ pos (half_of scalar)) ≤ℤ negsuc n = subst (λ (x : ℤ). x ≤ℤ negsuc n) u.0 h.from in
        (e, omega (arith, ints))
    by false e =
        let u = unsigned_ends scalar e in
        let k : pos 0 ≤ℤ negsuc n = subst (λ (x : ℤ). x ≤ℤ negsuc n) u.0 h.from in
        absurd (omega (arith, ints))

-- a number of the scalar stays
pub of_low : (scalar : Scalar) (z : ℤ) → InRange z (type_range scalar) → of_bits scalar (low_bits scalar z) ≡ z
of_low scalar (pos n) h =
    let p = pos_below scalar n h in
    let e : n % modulus_of scalar ≡ n = mod-eq_of_lt p.0 in
    of_bits_cases scalar (n % modulus_of scalar) (λ (z : ℤ). z ≡ pos n) (λ _. ap (λ (k : ℕ). pos k) e) (λ (s : is_signed scalar ≡ true) (l : half_of scalar ≤ n % modulus_of scalar). absurd (let q = p.1 s in omega (arith, e, q, l)))
of_low scalar (negsuc n) h =
    let p = neg_below scalar n h in
    let t = halves scalar in
    let e : n % modulus_of scalar ≡ n = mod-eq_of_lt (omega (arith, t.0, t.1, p.1)) in
    of_bits_cases scalar (modulus_of scalar - 1 - n % modulus_of scalar) (λ (z : ℤ). z ≡ negsuc n)
    (λ c. absurd (small c e)) (λ (s : is_signed scalar ≡ true) (l : half_of scalar ≤ modulus_of scalar - 1 - n % modulus_of scalar). omega (arith, ints, t.0, t.1, e, p.1))
  where
    small : (is_signed scalar ≡ false) ⊎ (modulus_of scalar - 1 - n % modulus_of scalar < half_of scalar) → n % modulus_of scalar ≡ n → ⊥
    small (inl f) e = let p = neg_below scalar n h in let g : true ≡ false = sym p.0 ∙ f in cc
    small (inr l) e = let p = neg_below scalar n h in let t = halves scalar in omega (arith, t.0, t.1, p.1, e, l)

pub wrapped_same : (scalar : Scalar) (z : ℤ) → InRange z (type_range scalar) → wrapped scalar z ≡ z
wrapped_same scalar z h = wrapped_is scalar z ∙ of_low scalar z h
