-- What is known of the bits of each operator's result: it holds, is monotone and keeps to the width.
use Rattle.std.proofs.Common.{cond, ◌≡◌, ℕ, zero, suc, ◌+◌, ◌*◌, ◌%◌, ◌^◌, ◌-◌, ◌<◌, ◌≤◌, ◌==◌, ℤ, pos, ◌+ℤ◌, ◌-ℤ◌, ◌*ℤ◌, Bool, true, false, not, refl, sym, ◌∙◌, ap, subst, arith, bit_and, bit_or, bit_xor, unsigned_abs, Some, Result, int_div, int_rem}
use Rattle.std.specs.Int.{int_shr}
use Rattle.std.proofs.lemmas.Nat.{pow_pos}
use Rattle.std.proofs.Math.Nat.{pow-le-pow_right}
use Rattle.gimple_ir.specs.declared.scalar.Scalar.{Scalar}
use Rattle.gimple_ir.specs.declared.scalar.Mode.{Mode}
use Rattle.gimple_ir.specs.declared.scalar.Op.{Op}
use Rattle.gimple_ir.specs.declared.scalar.Op.TheVariants.{Add, Sub, Mul, Div, Rem, And, Or, Xor, Shl, Shr}
use Rattle.gimple_ir.specs.declared.value.TrapKind.{TrapKind}
use Rattle.gimple_ir.specs.declared.value.TrapKind.TheVariants.{Divide, Overflow, Shift}
use Rattle.gimple_core.specs.Operators.{in_scalar, within, kept, wrapped, of_bits, low_bits, bits_of, modulus_of, is_count, op_of, unless_not}
use Rattle.value_domain.specs.declared.bits.Bits.{Bits}
use Rattle.value_domain.specs.Ranges.{InRange}
use Rattle.value_domain.specs.Holding.{IsRight}
use Rattle.value_domain.specs.RangeOperators.{type_range}
use Rattle.value_domain.specs.Bitmasks.{pattern, Agrees, AreBelow}
use Rattle.value_domain.specs.BitsLemmas.{and_monotone}
use Rattle.value_domain.specs.BitOperators.{unknown_bits, number_of, low_known, low_sum, low_difference, low_product, result_bits, both_known, divided_bits, if_count, shifted_left, shifted_right, op_bits}
use Rattle.value_domain.proofs.ScalarLemmas.{okay, width_bound}
use Rattle.value_domain.proofs.AgreeLemmas.{BitsOf, value_short}
use Rattle.value_domain.proofs.PatternLemmas.{pattern_below, pattern_sum, pattern_difference, pattern_product, lower, sum_mod, product_mod, rest_mod, low_agree}
use Rattle.value_domain.proofs.BitSoundness.{unknown_holds, exact_holds, number_cases, number_is, and_of, or_of, xor_of, and_holds, or_holds, xor_holds, kept_bits, low_short, low_holds, low_full, shr_holds, shl_holds}
use Rattle.value_domain.proofs.BitOrder.{or_monotone, xor_monotone, number_same, divided_of, divided_monotone, known_within, known_falls, low_rises, shr_of, shr_monotone, shl_of, shl_monotone, count_of, count_monotone}

-- ---- what an operator's result says
unless_ok : (t : Bool) (k : TrapKind) (r : Result ℤ TrapKind) (x : ℤ) → unless_not t k r ≡ okay x → (t ≡ true) × (r ≡ okay x)
unless_ok true k r x e = (refl, e)
unless_ok false k r x e = cc

ok_same : (y x : ℤ) → okay y ≡ okay x → y ≡ x
ok_same y x e = cc

pub add_is : (mode : Mode) (scalar : Scalar) (z w x : ℤ) → op_of mode Add scalar z w ≡ okay x → kept mode scalar (z +ℤ w) ≡ okay x
unfolding op_of
add_is mode scalar z w x e = e

pub sub_is : (mode : Mode) (scalar : Scalar) (z w x : ℤ) → op_of mode Sub scalar z w ≡ okay x → kept mode scalar (z -ℤ w) ≡ okay x
unfolding op_of
sub_is mode scalar z w x e = e

pub mul_is : (mode : Mode) (scalar : Scalar) (z w x : ℤ) → op_of mode Mul scalar z w ≡ okay x → kept mode scalar (z *ℤ w) ≡ okay x
unfolding op_of
mul_is mode scalar z w x e = e

not_zero : (n : ℕ) → not (n == 0) ≡ true → 0 < n
not_zero zero e = cc
not_zero (suc n) e = omega arith

pub div_is : (mode : Mode) (scalar : Scalar) (z w x : ℤ) → op_of mode Div scalar z w ≡ okay x → (0 < unsigned_abs w) × (within scalar (int_div z w) ≡ okay x)
unfolding op_of
div_is mode scalar z w x e = let f = unless_ok (not (unsigned_abs w == 0)) Divide (within scalar (int_div z w)) x e in (not_zero (unsigned_abs w) f.0, f.1)

pub rem_is : (mode : Mode) (scalar : Scalar) (z w x : ℤ) → op_of mode Rem scalar z w ≡ okay x → (0 < unsigned_abs w) × (int_rem z w ≡ x)
unfolding op_of
rem_is mode scalar z w x e =
    let f = unless_ok (not (unsigned_abs w == 0)) Divide (unless_not (in_scalar scalar (int_div z w)) Overflow (okay (int_rem z w))) x e in
    let g = unless_ok (in_scalar scalar (int_div z w)) Overflow (okay (int_rem z w)) x f.1 in
    (not_zero (unsigned_abs w) f.0, ok_same (int_rem z w) x g.1)

pub and_is : (mode : Mode) (scalar : Scalar) (z w x : ℤ) → op_of mode And scalar z w ≡ okay x → of_bits scalar (bit_and (low_bits scalar z) (low_bits scalar w)) ≡ x
unfolding op_of
and_is mode scalar z w x e = ok_same _ x e

pub or_is : (mode : Mode) (scalar : Scalar) (z w x : ℤ) → op_of mode Or scalar z w ≡ okay x → of_bits scalar (bit_or (low_bits scalar z) (low_bits scalar w)) ≡ x
unfolding op_of
or_is mode scalar z w x e = ok_same _ x e

pub xor_is : (mode : Mode) (scalar : Scalar) (z w x : ℤ) → op_of mode Xor scalar z w ≡ okay x → of_bits scalar (bit_xor (low_bits scalar z) (low_bits scalar w)) ≡ x
unfolding op_of
xor_is mode scalar z w x e = ok_same _ x e

pub shl_is : (mode : Mode) (scalar : Scalar) (z w x : ℤ) → op_of mode Shl scalar z w ≡ okay x → (is_count scalar w ≡ true) × (of_bits scalar (low_bits scalar z * 2 ^ unsigned_abs w % modulus_of scalar) ≡ x)
unfolding op_of
shl_is mode scalar z w x e = let f = unless_ok (is_count scalar w) Shift (okay (of_bits scalar (low_bits scalar z * 2 ^ unsigned_abs w % modulus_of scalar))) x e in (f.0, ok_same _ x f.1)

pub shr_is : (mode : Mode) (scalar : Scalar) (z w x : ℤ) → op_of mode Shr scalar z w ≡ okay x → (is_count scalar w ≡ true) × (int_shr z (unsigned_abs w) ≡ x)
unfolding op_of
shr_is mode scalar z w x e = let f = unless_ok (is_count scalar w) Shift (okay (int_shr z (unsigned_abs w))) x e in (f.0, ok_same _ x f.1)

-- ---- the low bits
wide : (scalar : Scalar) (a : Bits) → a.mask < modulus_of scalar → a.mask < 2 ^ 64
wide scalar a h = let p : 2 ^ bits_of scalar ≤ 2 ^ 64 = below64 scalar in omega arith
  where
    below64 : (scalar : Scalar) → 2 ^ bits_of scalar ≤ 2 ^ 64
    below64 scalar = pow-le-pow_right {n = 2} (omega arith) (width_bound scalar).1

value_wide : (scalar : Scalar) (a : Bits) → BitsOf scalar a → a.value ≤ 2 ^ 64
value_wide scalar a f =
    let h : a.value < modulus_of scalar = value_short scalar a f in
    let p : 2 ^ bits_of scalar ≤ 2 ^ 64 = pow-le-pow_right {n = 2} (omega arith) (width_bound scalar).1 in
    omega arith

module _ (scalar : Scalar) (a b : Bits) (f : BitsOf scalar a) (g : BitsOf scalar b) where
  t : ℕ
  t = low_known a b

  pub known_short : low_known a b ≤ bits_of scalar
  known_short = known_within scalar a b f.short

  known64 : low_known a b ≤ 64
  known64 = let w = width_bound scalar in omega (arith, known_short, w.1)

  full : (a.mask % 2 ^ low_known a b ≡ 2 ^ low_known a b - 1) × (b.mask % 2 ^ low_known a b ≡ 2 ^ low_known a b - 1)
  full = low_full a.mask b.mask (wide scalar a f.short) (low_known a b) (omega arith)

  lows : (m n : ℕ) → Agrees m a → Agrees n b → (m % 2 ^ low_known a b ≡ a.value % 2 ^ low_known a b) × (n % 2 ^ low_known a b ≡ b.value % 2 ^ low_known a b)
  lows m n h k = (low_agree m (low_known a b) a h full.0, low_agree n (low_known a b) b k full.1)

  pub sum_holds : (mode : Mode) (z w x : ℤ) → Agrees (pattern z) a → Agrees (pattern w) b → kept mode scalar (z +ℤ w) ≡ okay x → Agrees (pattern x) (low_sum a b)
  sum_holds mode z w x h k e =
      let l = lows (pattern z) (pattern w) h k in
      low_holds scalar x (z +ℤ w) (low_known a b) (a.value + b.value) known_short (kept_bits mode scalar (z +ℤ w) x e)
      (ap (λ (n : ℕ). n % 2 ^ low_known a b) (pattern_sum z w) ∙ (lower (pattern z + pattern w) 64 (low_known a b) known64 ∙ sum_mod (2 ^ low_known a b) (pattern z) (pattern w) a.value b.value l.0 l.1))

  pub product_holds : (mode : Mode) (z w x : ℤ) → Agrees (pattern z) a → Agrees (pattern w) b → kept mode scalar (z *ℤ w) ≡ okay x → Agrees (pattern x) (low_product a b)
  product_holds mode z w x h k e =
      let l = lows (pattern z) (pattern w) h k in
      low_holds scalar x (z *ℤ w) (low_known a b) (a.value * b.value) known_short (kept_bits mode scalar (z *ℤ w) x e)
      (ap (λ (n : ℕ). n % 2 ^ low_known a b) (pattern_product z w) ∙ (lower (pattern z * pattern w) 64 (low_known a b) known64 ∙ product_mod (2 ^ low_known a b) (pattern z) (pattern w) a.value b.value l.0 l.1))

  pub difference_holds : (mode : Mode) (z w x : ℤ) → Agrees (pattern z) a → Agrees (pattern w) b → kept mode scalar (z -ℤ w) ≡ okay x → Agrees (pattern x) (low_difference a b)
  difference_holds mode z w x h k e =
      let l = lows (pattern z) (pattern w) h k in
      let p : pattern w < 2 ^ 64 = pattern_below w in
      let r : (2 ^ 64 - pattern w) % 2 ^ low_known a b ≡ (2 ^ 64 - b.value) % 2 ^ low_known a b = rest_mod (2 ^ 64) (pattern w) b.value (2 ^ low_known a b) (pow_pos (low_known a b)) (omega arith) (value_wide scalar b g) l.1 in
      low_holds scalar x (z -ℤ w) (low_known a b) (a.value + (2 ^ 64 - b.value)) known_short (kept_bits mode scalar (z -ℤ w) x e)
      (ap (λ (n : ℕ). n % 2 ^ low_known a b) (pattern_difference z w) ∙ (lower (pattern z + (2 ^ 64 - pattern w)) 64 (low_known a b) known64 ∙ sum_mod (2 ^ low_known a b) (pattern z) (2 ^ 64 - pattern w) a.value (2 ^ 64 - b.value) l.0 r))

module _ (scalar : Scalar) (a b c d : Bits) (f : BitsOf scalar a) (g : BitsOf scalar b) (i : BitsOf scalar c) (j : BitsOf scalar d) (h : AreBelow a c) (k : AreBelow b d) where
  falls : low_known c d ≤ low_known a b
  falls = known_falls a b c d (wide scalar a f.short) (wide scalar c i.short) h k

  same : (a.value % 2 ^ low_known c d ≡ c.value % 2 ^ low_known c d) × (b.value % 2 ^ low_known c d ≡ d.value % 2 ^ low_known c d)
  same = lows scalar c d i j a.value b.value h.value k.value

  pub sum_monotone : AreBelow (low_sum a b) (low_sum c d)
  sum_monotone = low_rises (low_known a b) (low_known c d) (a.value + b.value) (c.value + d.value) falls (sum_mod (2 ^ low_known c d) a.value b.value c.value d.value same.0 same.1)

  pub product_monotone : AreBelow (low_product a b) (low_product c d)
  product_monotone = low_rises (low_known a b) (low_known c d) (a.value * b.value) (c.value * d.value) falls (product_mod (2 ^ low_known c d) a.value b.value c.value d.value same.0 same.1)

  pub difference_monotone : AreBelow (low_difference a b) (low_difference c d)
  difference_monotone =
      let r : (2 ^ 64 - b.value) % 2 ^ low_known c d ≡ (2 ^ 64 - d.value) % 2 ^ low_known c d = rest_mod (2 ^ 64) b.value d.value (2 ^ low_known c d) (pow_pos (low_known c d)) (value_wide scalar b g) (value_wide scalar d j) same.1 in
      low_rises (low_known a b) (low_known c d) (a.value + (2 ^ 64 - b.value)) (c.value + (2 ^ 64 - d.value)) falls (sum_mod (2 ^ low_known c d) a.value (2 ^ 64 - b.value) c.value (2 ^ 64 - d.value) same.0 r)

-- ---- `/ %`
divided_holds : (mode : Mode) (op : Op) (scalar : Scalar) (z w x : ℤ) (a b : Bits) → BitsOf scalar a → BitsOf scalar b → InRange z (type_range scalar) → InRange w (type_range scalar) → Agrees (pattern z) a → Agrees (pattern w) b → op_of mode op scalar z w ≡ okay x → Agrees (pattern x) (divided_bits mode op scalar a b)
divided_holds mode op scalar z w x a b f g h k m n e =
    let goal : ℤ → ℤ → Type 0 = λ u v. Agrees (pattern x) (result_bits scalar (op_of mode op scalar u v)) in
    let here : goal z w = subst (λ r. Agrees (pattern x) (result_bits scalar r)) (sym e) (exact_holds scalar x) in
    number_cases scalar a (λ o. Agrees (pattern x) (both_known o (number_of scalar b) (λ u v. result_bits scalar (op_of mode op scalar u v))))
    (λ p. number_cases scalar b (λ o. Agrees (pattern x) (both_known (Some (wrapped scalar (pos a.value))) o (λ u v. result_bits scalar (op_of mode op scalar u v))))
    (λ q. subst (λ u. goal u (wrapped scalar (pos b.value))) (sym (number_is scalar z a f h m p)) (subst (λ v. goal z v) (sym (number_is scalar w b g k n q)) here))
    (unknown_holds (pattern x)))
    (unknown_holds (pattern x))

-- ---- shifts
count_holds : (scalar other : Scalar) (w : ℤ) (b : Bits) (n : ℕ) (f : ℕ → Bits) → BitsOf other b → InRange w (type_range other) → Agrees (pattern w) b → Agrees n (f (unsigned_abs w)) → Agrees n (if_count scalar (number_of other b) f)
count_holds scalar other w b n f g k m a = number_cases other b (λ o. Agrees n (if_count scalar o f))
    (λ q. subst (λ v. Agrees n (if_count scalar (Some v) f)) (sym (number_is other w b g k m q)) (by (is_count scalar w)))
    (unknown_holds n)
  where
    by : (t : Bool) → Agrees n (cond t (f (unsigned_abs w)) unknown_bits)
    by true = a
    by false = unknown_holds n

-- ---- each operator
pub op_bits_hold : (mode : Mode) (op : Op) (scalar other : Scalar) (z w x : ℤ) (a b : Bits) → IsRight op scalar other → BitsOf scalar a → BitsOf other b → InRange z (type_range scalar) → InRange w (type_range other) → Agrees (pattern z) a → Agrees (pattern w) b → op_of mode op scalar z w ≡ okay x → Agrees (pattern x) (op_bits mode op scalar other a b)
op_bits_hold mode Add scalar other z w x a b s f g h k m n e = sum_holds scalar a b f (subst (λ o. BitsOf o b) s g) mode z w x m n (add_is mode scalar z w x e)
op_bits_hold mode Sub scalar other z w x a b s f g h k m n e = difference_holds scalar a b f (subst (λ o. BitsOf o b) s g) mode z w x m n (sub_is mode scalar z w x e)
op_bits_hold mode Mul scalar other z w x a b s f g h k m n e = product_holds scalar a b f (subst (λ o. BitsOf o b) s g) mode z w x m n (mul_is mode scalar z w x e)
op_bits_hold mode Div scalar other z w x a b s f g h k m n e = divided_holds mode Div scalar z w x a b f (subst (λ o. BitsOf o b) s g) h (subst (λ o. InRange w (type_range o)) s k) m n e
op_bits_hold mode Rem scalar other z w x a b s f g h k m n e = divided_holds mode Rem scalar z w x a b f (subst (λ o. BitsOf o b) s g) h (subst (λ o. InRange w (type_range o)) s k) m n e
op_bits_hold mode And scalar other z w x a b s f g h k m n e = subst (λ y. Agrees (pattern y) (op_bits mode And scalar other a b)) (and_is mode scalar z w x e) (and_holds scalar z w a b f (subst (λ o. BitsOf o b) s g) m n)
op_bits_hold mode Or scalar other z w x a b s f g h k m n e = subst (λ y. Agrees (pattern y) (op_bits mode Or scalar other a b)) (or_is mode scalar z w x e) (or_holds scalar z w a b f (subst (λ o. BitsOf o b) s g) m n)
op_bits_hold mode Xor scalar other z w x a b s f g h k m n e = subst (λ y. Agrees (pattern y) (op_bits mode Xor scalar other a b)) (xor_is mode scalar z w x e) (xor_holds scalar z w a b f (subst (λ o. BitsOf o b) s g) m n)
op_bits_hold mode Shl scalar other z w x a b s f g h k m n e = count_holds scalar other w b (pattern x) (λ c. shifted_left scalar a c) g k n (subst (λ y. Agrees (pattern y) (shifted_left scalar a (unsigned_abs w))) (shl_is mode scalar z w x e).1 (shl_holds scalar z a (unsigned_abs w) f m))
op_bits_hold mode Shr scalar other z w x a b s f g h k m n e = count_holds scalar other w b (pattern x) (λ c. shifted_right scalar a c) g k n (subst (λ y. Agrees (pattern y) (shifted_right scalar a (unsigned_abs w))) (shr_is mode scalar z w x e).1 (shr_holds scalar z a (unsigned_abs w) f h m))

pub op_bits_of : (mode : Mode) (op : Op) (scalar other : Scalar) (a b : Bits) → IsRight op scalar other → BitsOf scalar a → BitsOf other b → BitsOf scalar (op_bits mode op scalar other a b)
op_bits_of mode Add scalar other a b s f g = low_short scalar (low_known a b) (a.value + b.value) (known_within scalar a b f.short)
op_bits_of mode Sub scalar other a b s f g = low_short scalar (low_known a b) (a.value + (2 ^ 64 - b.value)) (known_within scalar a b f.short)
op_bits_of mode Mul scalar other a b s f g = low_short scalar (low_known a b) (a.value * b.value) (known_within scalar a b f.short)
op_bits_of mode Div scalar other a b s f g = divided_of mode Div scalar a b
op_bits_of mode Rem scalar other a b s f g = divided_of mode Rem scalar a b
op_bits_of mode And scalar other a b s f g = and_of scalar a b f (subst (λ o. BitsOf o b) s g)
op_bits_of mode Or scalar other a b s f g = or_of scalar a b f (subst (λ o. BitsOf o b) s g)
op_bits_of mode Xor scalar other a b s f g = xor_of scalar a b f (subst (λ o. BitsOf o b) s g)
op_bits_of mode Shl scalar other a b s f g = count_of scalar (number_of other b) (λ k. shifted_left scalar a k) (λ k. shl_of scalar a k f)
op_bits_of mode Shr scalar other a b s f g = count_of scalar (number_of other b) (λ k. shifted_right scalar a k) (λ k. shr_of scalar a k f)

pub op_bits_monotone : (mode : Mode) (op : Op) (scalar other : Scalar) (a b c d : Bits) → IsRight op scalar other → BitsOf scalar a → BitsOf other b → BitsOf scalar c → BitsOf other d → AreBelow a c → AreBelow b d → AreBelow (op_bits mode op scalar other a b) (op_bits mode op scalar other c d)
op_bits_monotone mode Add scalar other a b c d s f g i j h k = sum_monotone scalar a b c d f (subst (λ o. BitsOf o b) s g) i (subst (λ o. BitsOf o d) s j) h k
op_bits_monotone mode Sub scalar other a b c d s f g i j h k = difference_monotone scalar a b c d f (subst (λ o. BitsOf o b) s g) i (subst (λ o. BitsOf o d) s j) h k
op_bits_monotone mode Mul scalar other a b c d s f g i j h k = product_monotone scalar a b c d f (subst (λ o. BitsOf o b) s g) i (subst (λ o. BitsOf o d) s j) h k
op_bits_monotone mode Div scalar other a b c d s f g i j h k = divided_monotone mode Div scalar a b c d f (subst (λ o. BitsOf o b) s g) h k
op_bits_monotone mode Rem scalar other a b c d s f g i j h k = divided_monotone mode Rem scalar a b c d f (subst (λ o. BitsOf o b) s g) h k
op_bits_monotone mode And scalar other a b c d s f g i j h k = and_monotone a b c d f.within g.within h k
op_bits_monotone mode Or scalar other a b c d s f g i j h k = or_monotone a b c d h k
op_bits_monotone mode Xor scalar other a b c d s f g i j h k = xor_monotone a b c d h k
op_bits_monotone mode Shl scalar other a b c d s f g i j h k = count_monotone scalar (number_of other b) (number_of other d) (λ n. shifted_left scalar a n) (λ n. shifted_left scalar c n) (number_same other b d g k) (λ n. shl_monotone scalar a c n h)
op_bits_monotone mode Shr scalar other a b c d s f g i j h k = count_monotone scalar (number_of other b) (number_of other d) (λ n. shifted_right scalar a n) (λ n. shifted_right scalar c n) (number_same other b d g k) (λ n. shr_monotone scalar a c n f i h)
