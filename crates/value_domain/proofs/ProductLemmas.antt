-- Products of intervals from 0.
use Rattle.std.proofs.Common.{◌≡◌, ℕ, ◌*◌, ◌^◌, ◌≤◌, ℤ, pos, negsuc, ◌*ℤ◌, ◌≤ℤ◌, ◌<ℤ◌, ◌⊎◌, inl, inr, false, refl, sym, ◌∙◌, ap, subst, arith, Some}
use Rattle.std.specs.Int.{int_min}
use Rattle.std.proofs.lemmas.Int.{ints, clamps}
use Rattle.std.proofs.lemmas.Nat.{mul-le}
use Rattle.gimple_ir.specs.declared.scalar.Mode.{Mode}
use Rattle.gimple_ir.specs.declared.scalar.Mode.TheVariants.{Trap, Wrap}
use Rattle.gimple_ir.specs.declared.scalar.Scalar.{Scalar}
use Rattle.gimple_core.specs.Operators.{is_signed, greatest_of}
use Rattle.value_domain.specs.declared.range.Range.{Range}
use Rattle.value_domain.specs.Ranges.{whole_unless, corners, hull_four, product_range}
use Rattle.value_domain.specs.RangeOperators.{IsInside, IsUnsignedWord, type_range, fitted, highest}
use Rattle.value_domain.specs.FitLemmas.{unless_cases}
use Rattle.value_domain.proofs.ScalarLemmas.{unsigned_ends, type_word}

range_by : (a b c d : ℤ) → a ≡ c → b ≡ d → ◌≡◌ {A = Range} (record { low = a; high = b }) (record { low = c; high = d })
range_by a b c d e f = λ i. record { low = e i; high = f i }

-- the corners of intervals from 0
four : (a b c d : ℕ) → a ≤ b → c ≤ d → hull_four (pos (a * c)) (pos (a * d)) (pos (b * c)) (pos (b * d)) ≡ record { low = pos (a * c); high = pos (b * d) }
four a b c d h k =
    let p : a * c ≤ a * d = mul-le a c a d (omega arith) k in
    let q : a * c ≤ b * c = mul-le a c b c h (omega arith) in
    let r : a * d ≤ b * d = mul-le a d b d h (omega arith) in
    let s : b * c ≤ b * d = mul-le b c b d (omega arith) k in
    range_by _ _ _ _ (omega (arith, ints, clamps)) (omega (arith, ints, clamps))

corners_up : (a b c d : ℤ) → pos 0 ≤ℤ a → a ≤ℤ b → pos 0 ≤ℤ c → c ≤ℤ d → hull_four (a *ℤ c) (a *ℤ d) (b *ℤ c) (b *ℤ d) ≡ record { low = a *ℤ c; high = b *ℤ d }
corners_up (negsuc a) b c d h k l m = absurd (omega (arith, ints))
corners_up (pos a) (negsuc b) c d h k l m = absurd (omega (arith, ints))
corners_up (pos a) (pos b) (negsuc c) d h k l m = absurd (omega (arith, ints))
corners_up (pos a) (pos b) (pos c) (negsuc d) h k l m = absurd (omega (arith, ints))
corners_up (pos a) (pos b) (pos c) (pos d) h k l m = four a b c d (omega (arith, ints)) (omega (arith, ints))

least_first : (a b c d : ℤ) → pos 0 ≤ℤ a → a ≤ℤ b → pos 0 ≤ℤ c → c ≤ℤ d → (a *ℤ c) ≤ℤ (b *ℤ d)
least_first (negsuc a) b c d h k l m = absurd (omega (arith, ints))
least_first (pos a) (negsuc b) c d h k l m = absurd (omega (arith, ints))
least_first (pos a) (pos b) (negsuc c) d h k l m = absurd (omega (arith, ints))
least_first (pos a) (pos b) (pos c) (negsuc d) h k l m = absurd (omega (arith, ints))
least_first (pos a) (pos b) (pos c) (pos d) h k l m = let p : a * c ≤ b * d = mul-le a c b d (omega (arith, ints)) (omega (arith, ints)) in omega (arith, ints)

-- an end that is cut beyond the type makes no difference
cut_same : (t : Range) (l h m : ℤ) → t.high <ℤ m → l ≤ℤ h → whole_unless t (record { low = int_min l m; high = int_min h m }) ≡ whole_unless t (record { low = l; high = h })
cut_same t l h m a b = unless_cases t (record { low = l; high = h }) (λ x. whole_unless t (record { low = int_min l m; high = int_min h m }) ≡ x)
    (λ p q. unless_cases t (record { low = int_min l m; high = int_min h m }) (λ y. y ≡ record { low = l; high = h }) (λ _ _. range_by _ _ _ _ (omega (arith, ints, clamps)) (omega (arith, ints, clamps))) (λ c. absurd (inner p q c)))
    (λ c. unless_cases t (record { low = int_min l m; high = int_min h m }) (λ y. y ≡ t) (λ p q. absurd (outer p q c)) (λ _. refl))
  where
    inner : t.low ≤ℤ l → h ≤ℤ t.high → (int_min l m <ℤ t.low) ⊎ (t.high <ℤ int_min h m) → ⊥
    inner p q (inl c) = omega (arith, ints, clamps)
    inner p q (inr c) = omega (arith, ints, clamps)

    outer : t.low ≤ℤ int_min l m → int_min h m ≤ℤ t.high → (l <ℤ t.low) ⊎ (t.high <ℤ h) → ⊥
    outer p q (inl c) = omega (arith, ints, clamps)
    outer p q (inr c) = omega (arith, ints, clamps)

pub unsigned_low : (scalar : Scalar) (r : Range) → is_signed scalar ≡ false → IsInside scalar r → (pos 0 ≤ℤ r.low) × (r.high ≤ℤ highest)
unsigned_low scalar r e i =
    let u = (unsigned_ends scalar e).0 in
    let l : pos 0 ≤ℤ r.low = subst (λ (x : ℤ). x ≤ℤ r.low) u i.low in
    let w = (type_word scalar).1 in
    (l, omega (arith, ints, i.high, w))

pub unsigned_words : (scalar : Scalar) (r : Range) → is_signed scalar ≡ false → IsInside scalar r → IsUnsignedWord r.low × IsUnsignedWord r.high
unsigned_words scalar r e i = let u = unsigned_low scalar r e i in (record { low = u.0; high = omega (arith, ints, i.full, u.1) }, record { low = omega (arith, ints, i.full, u.0); high = u.1 })

fit_unsigned : (mode : Mode) (scalar : Scalar) (x : Range) → is_signed scalar ≡ false → fitted mode scalar (Some x) ≡ Some (whole_unless (type_range scalar) x)
fit_unsigned Trap scalar x e = rw e refl
fit_unsigned Wrap scalar x e = refl

pub unsigned_product_is : (mode : Mode) (scalar : Scalar) (r s : Range) → is_signed scalar ≡ false → IsInside scalar r → IsInside scalar s → Some (whole_unless (type_range scalar) (record { low = int_min (r.low *ℤ s.low) (pos (2 ^ 64)); high = int_min (r.high *ℤ s.high) (pos (2 ^ 64)) })) ≡ fitted mode scalar (product_range r s)
unsigned_product_is mode scalar r s e i j =
    let a = unsigned_low scalar r e i in
    let b = unsigned_low scalar s e j in
    let w = (type_word scalar).1 in
    let below : greatest_of scalar <ℤ pos (2 ^ 64) = omega (arith, ints, w) in
    ap Some (cut_same (type_range scalar) (r.low *ℤ s.low) (r.high *ℤ s.high) (pos (2 ^ 64)) below (least_first r.low r.high s.low s.high a.0 i.full b.0 j.full) ∙ ap (whole_unless (type_range scalar)) (sym (corners_up r.low r.high s.low s.high a.0 i.full b.0 j.full))) ∙ sym (fit_unsigned mode scalar (corners (λ z w. z *ℤ w) r s) e)
