-- The operators on known bits are monotone, and keep to the width of the scalar.
use Rattle.std.proofs.Common.{cond, ◌≡◌, ℕ, ◌+◌, ◌*◌, ◌%◌, ◌^◌, ◌-◌, ◌<◌, ◌≤◌, ◌==◌, min, max, ℤ, pos, ◌⊎◌, inl, inr, Bool, true, false, not, refl, sym, ◌∙◌, ap, subst, arith, bit_and, unsigned_abs, Option, Some, None, Result, Ok, Err}
use Rattle.std.specs.Int.{bit_at, w64, int_shr, trailing_ones}
use Rattle.std.proofs.lemmas.Bool.{cases_lt, eqb-true, eq-eqb}
use Rattle.std.proofs.lemmas.Nat.{mod_below, pow_pos, and_le_l, and_mask}
use Rattle.std.proofs.lemmas.Nat.Bits.{bit_at_and, bit_at_or, bit_at_xor, bit_at-lt, bit_at-zero, bit_at_above, bit_at_ones, bit_at_ones_above, same_from_bits, bit_at-trailing_ones}
use Rattle.std.proofs.Math.Nat.{mod-eq_of_lt}
use Rattle.std.proofs.Math.Pow.{mod-mod-pow}
use Rattle.gimple_ir.specs.declared.scalar.Scalar.{Scalar}
use Rattle.gimple_ir.specs.declared.scalar.Scalar.TheVariants.{I8, I16, I32, I64, U8, U16, U32, U64, Ptr}
use Rattle.gimple_ir.specs.declared.scalar.Mode.{Mode}
use Rattle.gimple_ir.specs.declared.scalar.Cmp.{Cmp}
use Rattle.gimple_ir.specs.declared.scalar.Op.{Op}
use Rattle.gimple_ir.specs.declared.value.TrapKind.{TrapKind}
use Rattle.gimple_core.specs.Operators.{wrapped, low_bits, bits_of, modulus_of, is_count, op_of, cmp_of}
use Rattle.value_domain.specs.declared.bits.Bits.{Bits}
use Rattle.value_domain.specs.Bitmasks.{IsBits, or_known, xor_known, conflict, AreBelow}
use Rattle.value_domain.specs.BitsLemmas.{bit_agrees, bit_below, or_sound}
use Rattle.value_domain.specs.BitOperators.{unknown_bits, exact_bits, number_of, low_known, low_exact, result_bits, both_known, divided_bits, if_count, mask_above, value_above, shifted_left, shifted_right, converted_bits, truth, exact_truth, some_truth, apart_result, unless_apart, compared_bits, cmp_bits}
use Rattle.value_domain.proofs.ScalarLemmas.{low_below, width_bound, halves}
use Rattle.value_domain.proofs.TwosLemmas.{low_bit, mod_bit, shr_bit}
use Rattle.value_domain.proofs.AgreeLemmas.{BitsOf, min_by, agrees_by, mask_spread, value_spread}
use Rattle.value_domain.proofs.BitSoundness.{unknown_holds, all_ones, ones_low, ones_within, shl_agrees, shl_ones_low, shl_ones_high}

-- ---- bit by bit
or_rises : (p q u v s t x y : ℕ) → p < 2 → q < 2 → u < 2 → v < 2 → s < 2 → t < 2 → x < 2 → y < 2 → min p s ≡ s → min u s ≡ x → min q t ≡ t → min v t ≡ y → min (max (max (min p q) u) v) (max (max (min s t) x) y) ≡ max (max (min s t) x) y
or_rises p q u v s t x y a b c d e f g h i j k l = omega arith

pub or_monotone : (a b c d : Bits) → AreBelow a c → AreBelow b d → AreBelow (or_known a b) (or_known c d)
or_monotone a b c d h k = record {
  mask = same_from_bits _ _ (λ (i : ℕ). simp (bit_at_and, bit_at_or) (or_rises (bit_at a.mask i) (bit_at b.mask i) (bit_at a.value i) (bit_at b.value i) (bit_at c.mask i) (bit_at d.mask i) (bit_at c.value i) (bit_at d.value i) (bit_at-lt _ i) (bit_at-lt _ i) (bit_at-lt _ i) (bit_at-lt _ i) (bit_at-lt _ i) (bit_at-lt _ i) (bit_at-lt _ i) (bit_at-lt _ i) (bit_below a c i h).0 (bit_below a c i h).1 (bit_below b d i k).0 (bit_below b d i k).1));
  value = or_sound a.value b.value c d h.value k.value;
}

xor_rises : (p q u v s t x y : ℕ) → p < 2 → q < 2 → u < 2 → v < 2 → s < 2 → t < 2 → min p s ≡ s → min u s ≡ x → min q t ≡ t → min v t ≡ y → (min (min p q) (min s t) ≡ min s t) × (min (min ((u + v) % 2) (min p q)) (min s t) ≡ min ((x + y) % 2) (min s t))
xor_rises p q u v s t x y a b c d e f g h i j = (omega arith, omega arith)

pub xor_monotone : (a b c d : Bits) → AreBelow a c → AreBelow b d → AreBelow (xor_known a b) (xor_known c d)
xor_monotone a b c d h k =
    let row = λ (i : ℕ). xor_rises (bit_at a.mask i) (bit_at b.mask i) (bit_at a.value i) (bit_at b.value i) (bit_at c.mask i) (bit_at d.mask i) (bit_at c.value i) (bit_at d.value i) (bit_at-lt _ i) (bit_at-lt _ i) (bit_at-lt _ i) (bit_at-lt _ i) (bit_at-lt _ i) (bit_at-lt _ i) (bit_below a c i h).0 (bit_below a c i h).1 (bit_below b d i k).0 (bit_below b d i k).1 in
    record {
      mask = same_from_bits _ _ (λ (i : ℕ). simp bit_at_and (row i).0);
      value = same_from_bits _ _ (λ (i : ℕ). simp (bit_at_and, bit_at_xor) (row i).1);
    }

-- ---- nothing known, all known
pub below_unknown : (a : Bits) → AreBelow a unknown_bits
below_unknown a = record { mask = unknown_holds a.mask; value = unknown_holds a.value }

pub unknown_of : (scalar : Scalar) → BitsOf scalar unknown_bits
unknown_of scalar = record { within = refl; short = (let p = halves scalar in omega arith) }

pub exact_of : (scalar : Scalar) (z : ℤ) → BitsOf scalar (exact_bits scalar z)
exact_of scalar z = record { within = and_mask (low_bits scalar z) (bits_of scalar) ∙ mod-eq_of_lt (low_below scalar z); short = (let p = halves scalar in omega arith) }

pub below_same : (a : Bits) → IsBits a → AreBelow a a
below_same a h = record { mask = same_from_bits _ _ (λ i. bit_at_and a.mask a.mask i ∙ own (bit_at a.mask i)); value = h }
  where
    own : (x : ℕ) → min x x ≡ x
    own x = omega arith

-- where fewer bits are known and still all, they are the same
pub same_full : (scalar : Scalar) (a b : Bits) → BitsOf scalar a → AreBelow a b → b.mask ≡ modulus_of scalar - 1 → (a.mask ≡ modulus_of scalar - 1) × (a.value ≡ b.value)
same_full scalar a b f h e =
    let m : bit_and a.mask (modulus_of scalar - 1) ≡ modulus_of scalar - 1 = subst (λ (x : ℕ). bit_and a.mask x ≡ x) e h.mask in
    let p : a.mask ≡ modulus_of scalar - 1 = sym (mod-eq_of_lt f.short) ∙ (sym (and_mask a.mask (bits_of scalar)) ∙ m) in
    let q : bit_and a.value b.mask ≡ a.value = ap (bit_and a.value) (e ∙ sym p) ∙ f.within in
    (p, sym q ∙ h.value)

pub number_same : (scalar : Scalar) (a b : Bits) → BitsOf scalar a → AreBelow a b → (number_of scalar b ≡ None) ⊎ (number_of scalar b ≡ number_of scalar a)
number_same scalar a b f h = by (b.mask == modulus_of scalar - 1) refl
  where
    by : (t : Bool) → (b.mask == modulus_of scalar - 1) ≡ t → (cond t (Some (wrapped scalar (pos b.value))) None ≡ None) ⊎ (cond t (Some (wrapped scalar (pos b.value))) None ≡ number_of scalar a)
    by true e = inr (let s = same_full scalar a b f h (eqb-true _ _ e) in rw (eq-eqb a.mask (modulus_of scalar - 1) s.0) (ap (λ (n : ℕ). Some (wrapped scalar (pos n))) (sym s.1)))
    by false e = inl refl

pub result_of : (scalar : Scalar) (r : Result ℤ TrapKind) → BitsOf scalar (result_bits scalar r)
result_of scalar (Ok z) = exact_of scalar z
result_of scalar (Err kind) = unknown_of scalar

both_of : (scalar : Scalar) (x y : Option ℤ) (f : ℤ → ℤ → Bits) → ((z w : ℤ) → BitsOf scalar (f z w)) → BitsOf scalar (both_known x y f)
both_of scalar (Some z) (Some w) f h = h z w
both_of scalar (Some z) None f h = unknown_of scalar
both_of scalar None w f h = unknown_of scalar

pub divided_of : (mode : Mode) (op : Op) (scalar : Scalar) (a b : Bits) → BitsOf scalar (divided_bits mode op scalar a b)
divided_of mode op scalar a b = both_of scalar (number_of scalar a) (number_of scalar b) (λ z w. result_bits scalar (op_of mode op scalar z w)) (λ z w. result_of scalar (op_of mode op scalar z w))

both_rises : (scalar : Scalar) (x y u v : Option ℤ) (f : ℤ → ℤ → Bits) → ((z w : ℤ) → IsBits (f z w)) → (u ≡ None) ⊎ (u ≡ x) → (v ≡ None) ⊎ (v ≡ y) → AreBelow (both_known x y f) (both_known u v f)
both_rises scalar x y None v f i h k = below_unknown (both_known x y f)
both_rises scalar x y (Some u) None f i h k = below_unknown (both_known x y f)
both_rises scalar None y (Some u) (Some v) f i (inl h) k = cc
both_rises scalar None y (Some u) (Some v) f i (inr h) k = cc
both_rises scalar (Some x) None (Some u) (Some v) f i h (inl k) = cc
both_rises scalar (Some x) None (Some u) (Some v) f i h (inr k) = cc
both_rises scalar (Some x) (Some y) (Some u) (Some v) f i (inl h) k = cc
both_rises scalar (Some x) (Some y) (Some u) (Some v) f i (inr h) (inl k) = cc
both_rises scalar (Some x) (Some y) (Some u) (Some v) f i (inr h) (inr k) =
    let p : u ≡ x = cc in let q : v ≡ y = cc in
    subst (λ (n : ℤ). AreBelow (f x y) (f n v)) (sym p) (subst (λ (n : ℤ). AreBelow (f x y) (f x n)) (sym q) (below_same (f x y) (i x y)))

pub divided_monotone : (mode : Mode) (op : Op) (scalar : Scalar) (a b c d : Bits) → BitsOf scalar a → BitsOf scalar b → AreBelow a c → AreBelow b d → AreBelow (divided_bits mode op scalar a b) (divided_bits mode op scalar c d)
divided_monotone mode op scalar a b c d f g h k = both_rises scalar (number_of scalar a) (number_of scalar b) (number_of scalar c) (number_of scalar d) (λ z w. result_bits scalar (op_of mode op scalar z w)) (λ z w. (result_of scalar (op_of mode op scalar z w)).within) (number_same scalar a c f h) (number_same scalar b d g k)

-- ---- the low bits
pub known_within : (scalar : Scalar) (a b : Bits) → a.mask < modulus_of scalar → low_known a b ≤ bits_of scalar
known_within scalar a b h = ones_within (bit_and a.mask b.mask) (bits_of scalar) (let k : bit_and a.mask b.mask ≤ a.mask = and_le_l a.mask b.mask in omega arith) (width_bound scalar).1

-- fewer bits are known without a gap
pub known_falls : (a b c d : Bits) → a.mask < 2 ^ 64 → c.mask < 2 ^ 64 → AreBelow a c → AreBelow b d → low_known c d ≤ low_known a b
known_falls a b c d p r h k = by (cases_lt (low_known a b) (low_known c d))
  where
    small : (m n : ℕ) → m < 2 ^ 64 → bit_and m n < 2 ^ 64
    small m n h = let k : bit_and m n ≤ m = and_le_l m n in omega arith

    row : (x y s t : ℕ) → x < 2 → y < 2 → min x s ≡ s → min y t ≡ t → min s t ≡ 1 → min x y ≡ 0 → ⊥
    row x y s t e f g i j l = omega arith

    clash : (i : ℕ) → min (bit_at c.mask i) (bit_at d.mask i) ≡ 1 → min (bit_at a.mask i) (bit_at b.mask i) ≡ 0 → ⊥
    clash i e f = row (bit_at a.mask i) (bit_at b.mask i) (bit_at c.mask i) (bit_at d.mask i) (bit_at-lt a.mask i) (bit_at-lt b.mask i) (bit_below a c i h).0 (bit_below b d i k).0 e f

    by : (low_known a b < low_known c d) ⊎ (low_known c d ≤ low_known a b) → low_known c d ≤ low_known a b
    by (inr u) = u
    by (inl l) = at (cases_lt (bit_and a.mask b.mask + 1) (2 ^ 64))
      where
        at : (bit_and a.mask b.mask + 1 < 2 ^ 64) ⊎ (2 ^ 64 ≤ bit_and a.mask b.mask + 1) → low_known c d ≤ low_known a b
        at (inl m) =
            let z : bit_at (bit_and a.mask b.mask) (low_known a b) ≡ 0 = (bit_at-trailing_ones w64 (bit_and a.mask b.mask) m).1 in
            let o : bit_at (bit_and c.mask d.mask) (low_known a b) ≡ 1 = ones_low (bit_and c.mask d.mask) (low_known a b) (small c.mask d.mask r) l in
            absurd (clash (low_known a b) (sym (bit_at_and c.mask d.mask (low_known a b)) ∙ o) (sym (bit_at_and a.mask b.mask (low_known a b)) ∙ z))
        at (inr m) =
            let s : bit_and a.mask b.mask < 2 ^ 64 = small a.mask b.mask p in
            let e : bit_and a.mask b.mask ≡ 2 ^ 64 - 1 = omega arith in
            let t : 64 ≡ low_known a b = sym all_ones ∙ ap (trailing_ones w64) (sym e) in
            let u : low_known c d ≤ 64 = ones_within (bit_and c.mask d.mask) 64 (small c.mask d.mask r) (omega arith) in
            omega arith

lower : (n s t : ℕ) → t ≤ s → n % 2 ^ s % 2 ^ t ≡ n % 2 ^ t
lower n s t h = let e : s - t + t ≡ s = omega arith in ap (λ (k : ℕ). n % 2 ^ k % 2 ^ t) (sym e) ∙ mod-mod-pow n (s - t) t

ones_mod : (s t : ℕ) → t ≤ s → (2 ^ s - 1) % 2 ^ t ≡ 2 ^ t - 1
ones_mod s t h = same_from_bits _ _ (λ i. by i (cases_lt i t))
  where
    by : (i : ℕ) → (i < t) ⊎ (t ≤ i) → bit_at ((2 ^ s - 1) % 2 ^ t) i ≡ bit_at (2 ^ t - 1) i
    by i (inl l) = mod_bit (2 ^ s - 1) t i l ∙ (bit_at_ones s i (omega arith) ∙ sym (bit_at_ones t i l))
    by i (inr u) = bit_at_above ((2 ^ s - 1) % 2 ^ t) t i (mod_below (2 ^ s - 1) (2 ^ t) (pow_pos t)) u ∙ sym (bit_at_ones_above t i u)

pub low_rises : (s t m n : ℕ) → t ≤ s → m % 2 ^ t ≡ n % 2 ^ t → AreBelow (low_exact s m) (low_exact t n)
low_rises s t m n h e = record {
  mask = and_mask (2 ^ s - 1) t ∙ ones_mod s t h;
  value = and_mask (m % 2 ^ s) t ∙ (lower m s t h ∙ e);
}

-- ---- shifts
pub shr_of : (scalar : Scalar) (a : Bits) (k : ℕ) → BitsOf scalar a → BitsOf scalar (shifted_right scalar a k)
shr_of scalar a k f = record {
  within = agrees_by scalar _ (shifted_right scalar a k) (low_below scalar _) (low_below scalar _) (λ i l.
      min_by _ _ _ _ _ _ (low_bit scalar (int_shr (value_above scalar a) k) i l ∙ shr_bit (value_above scalar a) k i) (low_bit scalar (int_shr (mask_above scalar a) k) i l ∙ shr_bit (mask_above scalar a) k i) (low_bit scalar (int_shr (value_above scalar a) k) i l ∙ shr_bit (value_above scalar a) k i) (value_spread scalar a a f f f.within (i + k)));
  short = low_below scalar _;
}

pub shr_monotone : (scalar : Scalar) (a c : Bits) (k : ℕ) → BitsOf scalar a → BitsOf scalar c → AreBelow a c → AreBelow (shifted_right scalar a k) (shifted_right scalar c k)
shr_monotone scalar a c k f g h = record {
  mask = agrees_by scalar _ (record { mask = low_bits scalar (int_shr (mask_above scalar c) k); value = low_bits scalar (int_shr (mask_above scalar c) k) }) (low_below scalar _) (low_below scalar _) (λ i l.
      min_by _ _ _ _ _ _ (low_bit scalar (int_shr (mask_above scalar a) k) i l ∙ shr_bit (mask_above scalar a) k i) (low_bit scalar (int_shr (mask_above scalar c) k) i l ∙ shr_bit (mask_above scalar c) k i) (low_bit scalar (int_shr (mask_above scalar c) k) i l ∙ shr_bit (mask_above scalar c) k i) (mask_spread scalar a c f.short g.short h (i + k)));
  value = agrees_by scalar _ (shifted_right scalar c k) (low_below scalar _) (low_below scalar _) (λ i l.
      min_by _ _ _ _ _ _ (low_bit scalar (int_shr (value_above scalar a) k) i l ∙ shr_bit (value_above scalar a) k i) (low_bit scalar (int_shr (mask_above scalar c) k) i l ∙ shr_bit (mask_above scalar c) k i) (low_bit scalar (int_shr (value_above scalar c) k) i l ∙ shr_bit (value_above scalar c) k i) (value_spread scalar a c f g h.value (i + k)));
}

pub convert_of : (target source : Scalar) (a : Bits) → BitsOf source a → BitsOf target (converted_bits target source a)
convert_of target source a f = record {
  within = agrees_by target _ (converted_bits target source a) (low_below target _) (low_below target _) (λ i l.
      min_by _ _ _ _ _ _ (low_bit target (value_above source a) i l) (low_bit target (mask_above source a) i l) (low_bit target (value_above source a) i l) (value_spread source a a f f f.within i));
  short = low_below target _;
}

pub convert_monotone : (target source : Scalar) (a c : Bits) → BitsOf source a → BitsOf source c → AreBelow a c → AreBelow (converted_bits target source a) (converted_bits target source c)
convert_monotone target source a c f g h = record {
  mask = agrees_by target _ (record { mask = low_bits target (mask_above source c); value = low_bits target (mask_above source c) }) (low_below target _) (low_below target _) (λ i l.
      min_by _ _ _ _ _ _ (low_bit target (mask_above source a) i l) (low_bit target (mask_above source c) i l) (low_bit target (mask_above source c) i l) (mask_spread source a c f.short g.short h i));
  value = agrees_by target _ (converted_bits target source c) (low_below target _) (low_below target _) (λ i l.
      min_by _ _ _ _ _ _ (low_bit target (value_above source a) i l) (low_bit target (mask_above source c) i l) (low_bit target (value_above source c) i l) (value_spread source a c f g h.value i));
}

pub shl_of : (scalar : Scalar) (a : Bits) (k : ℕ) → BitsOf scalar a → BitsOf scalar (shifted_left scalar a k)
shl_of scalar a k f =
    let p : 0 < modulus_of scalar = (let q = halves scalar in omega arith) in
    record {
      within = agrees_by scalar _ (shifted_left scalar a k) (mod_below _ _ p) (mod_below _ _ p) (λ i l.
          min_by _ _ _ _ _ _ (mod_bit (a.value * 2 ^ k) (bits_of scalar) i l) (mod_bit (a.mask * 2 ^ k + (2 ^ k - 1)) (bits_of scalar) i l) (mod_bit (a.value * 2 ^ k) (bits_of scalar) i l) (shl_agrees a.value a k i (λ j m. bit_agrees a.value j a f.within)));
      short = mod_below _ _ p;
    }

pub shl_monotone : (scalar : Scalar) (a c : Bits) (k : ℕ) → AreBelow a c → AreBelow (shifted_left scalar a k) (shifted_left scalar c k)
shl_monotone scalar a c k h =
    let p : 0 < modulus_of scalar = (let q = halves scalar in omega arith) in
    record {
      mask = agrees_by scalar _ (record { mask = (c.mask * 2 ^ k + (2 ^ k - 1)) % modulus_of scalar; value = (c.mask * 2 ^ k + (2 ^ k - 1)) % modulus_of scalar }) (mod_below _ _ p) (mod_below _ _ p) (λ i l.
          min_by _ _ _ _ _ _ (mod_bit (a.mask * 2 ^ k + (2 ^ k - 1)) (bits_of scalar) i l) (mod_bit (c.mask * 2 ^ k + (2 ^ k - 1)) (bits_of scalar) i l) (mod_bit (c.mask * 2 ^ k + (2 ^ k - 1)) (bits_of scalar) i l) (masks i));
      value = agrees_by scalar _ (shifted_left scalar c k) (mod_below _ _ p) (mod_below _ _ p) (λ i l.
          min_by _ _ _ _ _ _ (mod_bit (a.value * 2 ^ k) (bits_of scalar) i l) (mod_bit (c.mask * 2 ^ k + (2 ^ k - 1)) (bits_of scalar) i l) (mod_bit (c.value * 2 ^ k) (bits_of scalar) i l) (shl_agrees a.value c k i (λ j m. bit_agrees a.value j c h.value)));
    }
  where
    one_one : (x y : ℕ) → x ≡ 1 → y ≡ 1 → min x y ≡ y
    one_one x y e f = omega arith

    masks : (i : ℕ) → min (bit_at (a.mask * 2 ^ k + (2 ^ k - 1)) i) (bit_at (c.mask * 2 ^ k + (2 ^ k - 1)) i) ≡ bit_at (c.mask * 2 ^ k + (2 ^ k - 1)) i
    masks i = by (cases_lt i k)
      where
        by : (i < k) ⊎ (k ≤ i) → min (bit_at (a.mask * 2 ^ k + (2 ^ k - 1)) i) (bit_at (c.mask * 2 ^ k + (2 ^ k - 1)) i) ≡ bit_at (c.mask * 2 ^ k + (2 ^ k - 1)) i
        by (inl l) = one_one _ _ (shl_ones_low a.mask k i l) (shl_ones_low c.mask k i l)
        by (inr u) = min_by _ _ _ _ _ _ (shl_ones_high a.mask k i u) (shl_ones_high c.mask k i u) (shl_ones_high c.mask k i u) (bit_below a c (i - k) h).0

-- the bits shifted by a count that may be known
pub count_of : (scalar : Scalar) (n : Option ℤ) (f : ℕ → Bits) → ((k : ℕ) → BitsOf scalar (f k)) → BitsOf scalar (if_count scalar n f)
count_of scalar None f h = unknown_of scalar
count_of scalar (Some z) f h = by (is_count scalar z)
  where
    by : (b : Bool) → BitsOf scalar (cond b (f (unsigned_abs z)) unknown_bits)
    by true = h (unsigned_abs z)
    by false = unknown_of scalar

pub count_monotone : (scalar : Scalar) (m n : Option ℤ) (f g : ℕ → Bits) → (n ≡ None) ⊎ (n ≡ m) → ((k : ℕ) → AreBelow (f k) (g k)) → AreBelow (if_count scalar m f) (if_count scalar n g)
count_monotone scalar m None f g h each = below_unknown (if_count scalar m f)
count_monotone scalar m (Some w) f g (inl h) each = cc
count_monotone scalar None (Some w) f g (inr h) each = cc
count_monotone scalar (Some z) (Some w) f g (inr h) each = let e : w ≡ z = cc in subst (λ (y : ℤ). AreBelow (if_count scalar (Some z) f) (if_count scalar (Some y) g)) (sym e) (by (is_count scalar z))
  where
    by : (b : Bool) → AreBelow (cond b (f (unsigned_abs z)) unknown_bits) (cond b (g (unsigned_abs z)) unknown_bits)
    by true = each (unsigned_abs z)
    by false = below_unknown unknown_bits

-- ---- comparisons
pub truth_of : (target : Scalar) (b : Bool) → BitsOf target (exact_truth target b)
truth_of target b = exact_of target (truth b)

pub some_truth_of : (target : Scalar) → BitsOf target (some_truth target)
some_truth_of target = record { within = zero_and (modulus_of target - 2); short = (let p = halves target in omega arith) }
  where
    zero_and : (n : ℕ) → bit_and 0 n ≡ 0
    zero_and n = let h : bit_and 0 n ≤ 0 = and_le_l 0 n in omega arith

truth_below : (target : Scalar) (b : Bool) → AreBelow (exact_truth target b) (some_truth target)
truth_below I8 true = record { mask = refl; value = refl }
truth_below I8 false = record { mask = refl; value = refl }
truth_below I16 true = record { mask = refl; value = refl }
truth_below I16 false = record { mask = refl; value = refl }
truth_below I32 true = record { mask = refl; value = refl }
truth_below I32 false = record { mask = refl; value = refl }
truth_below I64 true = record { mask = refl; value = refl }
truth_below I64 false = record { mask = refl; value = refl }
truth_below U8 true = record { mask = refl; value = refl }
truth_below U8 false = record { mask = refl; value = refl }
truth_below U16 true = record { mask = refl; value = refl }
truth_below U16 false = record { mask = refl; value = refl }
truth_below U32 true = record { mask = refl; value = refl }
truth_below U32 false = record { mask = refl; value = refl }
truth_below U64 true = record { mask = refl; value = refl }
truth_below U64 false = record { mask = refl; value = refl }
truth_below Ptr true = record { mask = refl; value = refl }
truth_below Ptr false = record { mask = refl; value = refl }

compared_cases : (target : Scalar) (cmp : Cmp) (m n : Option ℤ) (P : Bits → Type 0) → ((b : Bool) → P (exact_truth target b)) → P (some_truth target) → P (compared_bits target cmp m n)
compared_cases target cmp (Some z) (Some w) P h k = h (cmp_of cmp z w)
compared_cases target cmp (Some z) None P h k = k
compared_cases target cmp None w P h k = k

apart_cases : (target : Scalar) (o : Option Bool) (apart : Bool) (x : Bits) (P : Bits → Type 0) → ((b : Bool) → P (exact_truth target b)) → P x → P (unless_apart target o apart x)
apart_cases target (Some b) true x P h k = h b
apart_cases target (Some b) false x P h k = k
apart_cases target None apart x P h k = k

pub cmp_cases : (target : Scalar) (cmp : Cmp) (scalar : Scalar) (a b : Bits) (P : Bits → Type 0) → ((t : Bool) → P (exact_truth target t)) → P (some_truth target) → P (cmp_bits target cmp scalar a b)
cmp_cases target cmp scalar a b P h k = apart_cases target (apart_result cmp) (not (conflict a b == 0)) _ P h (compared_cases target cmp (number_of scalar a) (number_of scalar b) P h k)

pub cmp_of_width : (target : Scalar) (cmp : Cmp) (scalar : Scalar) (a b : Bits) → BitsOf target (cmp_bits target cmp scalar a b)
cmp_of_width target cmp scalar a b = cmp_cases target cmp scalar a b (BitsOf target) (truth_of target) (some_truth_of target)

below_some : (target : Scalar) (cmp : Cmp) (scalar : Scalar) (a b : Bits) → AreBelow (cmp_bits target cmp scalar a b) (some_truth target)
below_some target cmp scalar a b = cmp_cases target cmp scalar a b (λ x. AreBelow x (some_truth target)) (truth_below target) (below_same (some_truth target) (some_truth_of target).within)

conflict_row : (p q u v s t x y : ℕ) → p < 2 → q < 2 → u < 2 → v < 2 → s < 2 → t < 2 → min p s ≡ s → min u s ≡ x → min q t ≡ t → min v t ≡ y → min ((u + v) % 2) (min p q) ≡ 0 → min ((x + y) % 2) (min s t) ≡ 0
conflict_row p q u v s t x y a b c d e f g h i j k = omega arith

-- a bit that differs where fewer are known differs where more are
pub conflict_stays : (a b c d : Bits) → AreBelow a c → AreBelow b d → conflict a b ≡ 0 → conflict c d ≡ 0
conflict_stays a b c d h k e = same_from_bits _ _ (λ i.
    let z : min ((bit_at a.value i + bit_at b.value i) % 2) (min (bit_at a.mask i) (bit_at b.mask i)) ≡ 0 = simp (bit_at_and, bit_at_xor, bit_at-zero) at (ap (λ (m : ℕ). bit_at m i) e) in
    simp (bit_at_and, bit_at_xor, bit_at-zero) (conflict_row (bit_at a.mask i) (bit_at b.mask i) (bit_at a.value i) (bit_at b.value i) (bit_at c.mask i) (bit_at d.mask i) (bit_at c.value i) (bit_at d.value i) (bit_at-lt _ i) (bit_at-lt _ i) (bit_at-lt _ i) (bit_at-lt _ i) (bit_at-lt _ i) (bit_at-lt _ i) (bit_below a c i h).0 (bit_below a c i h).1 (bit_below b d i k).0 (bit_below b d i k).1 z))

bits_same : (a b : Bits) → a.mask ≡ b.mask → a.value ≡ b.value → a ≡ b
bits_same a b e f = λ i. record { mask = e i; value = f i }

-- all bits known of fewer: the same bits
all_same : (scalar : Scalar) (a c : Bits) → BitsOf scalar a → AreBelow a c → (number_of scalar c ≡ None) ⊎ (c ≡ a)
all_same scalar a c f h = by (c.mask == modulus_of scalar - 1) refl
  where
    by : (t : Bool) → (c.mask == modulus_of scalar - 1) ≡ t → (cond t (Some (wrapped scalar (pos c.value))) None ≡ None) ⊎ (c ≡ a)
    by true e = inr (let m = eqb-true _ _ e in let s = same_full scalar a c f h m in bits_same c a (m ∙ sym s.0) (sym s.1))
    by false e = inl refl

none_left : (target : Scalar) (cmp : Cmp) (m n : Option ℤ) → m ≡ None → compared_bits target cmp m n ≡ some_truth target
none_left target cmp None n e = refl
none_left target cmp (Some z) n e = cc

none_right : (target : Scalar) (cmp : Cmp) (m n : Option ℤ) → n ≡ None → compared_bits target cmp m n ≡ some_truth target
none_right target cmp None n e = refl
none_right target cmp (Some z) None e = refl
none_right target cmp (Some z) (Some w) e = cc

pub cmp_monotone : (target : Scalar) (cmp : Cmp) (scalar : Scalar) (a b c d : Bits) → BitsOf scalar a → BitsOf scalar b → AreBelow a c → AreBelow b d → AreBelow (cmp_bits target cmp scalar a b) (cmp_bits target cmp scalar c d)
cmp_monotone target cmp scalar a b c d f g h k = by (all_same scalar a c f h) (all_same scalar b d g k)
  where
    stays : (o : Option Bool) (x y : Bits) → AreBelow (unless_apart target o (not (conflict a b == 0)) x) (some_truth target) → y ≡ some_truth target → AreBelow (unless_apart target o (not (conflict a b == 0)) x) (unless_apart target o (not (conflict c d == 0)) y)
    stays None x y l e = subst (λ z. AreBelow x z) (sym e) l
    stays (Some v) x y l e = at (conflict a b == 0) (conflict c d == 0) refl refl l
      where
        at : (p q : Bool) → (conflict a b == 0) ≡ p → (conflict c d == 0) ≡ q → AreBelow (unless_apart target (Some v) (not p) x) (some_truth target) → AreBelow (unless_apart target (Some v) (not p) x) (unless_apart target (Some v) (not q) y)
        at p true m n i = subst (λ z. AreBelow (unless_apart target (Some v) (not p) x) z) (sym e) i
        at false false m n i = below_same (exact_truth target v) (truth_of target v).within
        at true false m n i = absurd (let z = conflict_stays a b c d h k (eqb-true _ _ m) in let t : (conflict c d == 0) ≡ true = eq-eqb _ _ z in let u : true ≡ false = sym t ∙ n in cc)

    by : (number_of scalar c ≡ None) ⊎ (c ≡ a) → (number_of scalar d ≡ None) ⊎ (d ≡ b) → AreBelow (cmp_bits target cmp scalar a b) (cmp_bits target cmp scalar c d)
    by (inl e) _ = stays (apart_result cmp) _ _ (below_some target cmp scalar a b) (none_left target cmp (number_of scalar c) (number_of scalar d) e)
    by (inr s) (inl e) = stays (apart_result cmp) _ _ (below_some target cmp scalar a b) (none_right target cmp (number_of scalar c) (number_of scalar d) e)
    by (inr s) (inr t) = subst (λ x. AreBelow (cmp_bits target cmp scalar a b) (cmp_bits target cmp scalar x d)) (sym s) (subst (λ y. AreBelow (cmp_bits target cmp scalar a b) (cmp_bits target cmp scalar a y)) (sym t) (below_same (cmp_bits target cmp scalar a b) (cmp_of_width target cmp scalar a b).within))
