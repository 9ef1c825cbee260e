-- What the operators' code asks of the values that it is given.
use Rattle.std.proofs.Common.{◌≡◌, ℕ, ◌-◌, ◌^◌, ◌≤◌, ℤ, pos, ◌-ℤ◌, ◌≤ℤ◌, inl, inr, Bool, true, false, refl, sym, ap, subst, arith, List}
use Rattle.std.proofs.lemmas.Int.{ints}
use Rattle.gimple_ir.specs.declared.scalar.Scalar.{Scalar}
use Rattle.gimple_ir.specs.declared.scalar.Op.{Op}
use Rattle.gimple_ir.specs.declared.scalar.Op.TheVariants.{Add, Sub, Mul, Div, Rem, And, Or, Xor, Shl, Shr}
use Rattle.gimple_core.specs.Operators.{IsWord, IsRightSide, is_signed, half_of, bits_of}
use Rattle.gimple_core.specs.Statements.{is_pointer}
use Rattle.value_domain.specs.declared.range.Range.{Range}
use Rattle.value_domain.specs.declared.abs_val.AbsVal.{AbsVal}
use Rattle.value_domain.specs.Ranges.{Within}
use Rattle.value_domain.specs.RangeOperators.{IsInside, IsWords, IsSignedWords, lowest, highest}
use Rattle.value_domain.specs.ConstantOperators.{may_stand_right}
use Rattle.value_domain.specs.AbsOperators.{span_of, zero_range}
use Rattle.value_domain.specs.Values.{none_val, is_none_val, FitsWith}
use Rattle.value_domain.specs.ValueLemmas.{abs_apart}
use Rattle.value_domain.specs.FitLemmas.{le_tells}
use Rattle.value_domain.specs.Holding.{IsOf, IsRight, IsAllowed}
use Rattle.value_domain.proofs.ScalarLemmas.{two, type_word, signed_ends, width_bound}
use Rattle.value_domain.proofs.WholeLemmas.{proper_of}
use Rattle.std.proofs.Math.Nat.{pow-le-pow_right}

clash : (b : Bool) → b ≡ true → b ≡ false → ⊥
clash true e f = cc
clash false e f = cc

pub inside_of : (most : ℕ) (ts : List ℤ) (scalar : Scalar) (a : AbsVal) → FitsWith most ts a → IsOf scalar a → is_none_val a ≡ false → is_pointer scalar ≡ false → IsInside scalar a.range
inside_of most ts scalar a f o n e = elim (proper_of most ts scalar a f o e) [ inl s ↦ absurd (let t : is_none_val a ≡ true = ap is_none_val s in clash (is_none_val a) t n) | inr p ↦ p.inside ]

word_by : (z : ℤ) → lowest ≤ℤ z → z ≤ℤ highest → IsWord z
word_by z h k = record { low = omega (arith, ints); high = omega (arith, ints) }

pub words_in : (scalar : Scalar) (r : Range) → IsInside scalar r → IsWords r
words_in scalar r i = let w = type_word scalar in record { low = word_by r.low (omega (arith, ints, i.low, w.0)) (omega (arith, ints, i.full, i.high, w.1)); high = word_by r.high (omega (arith, ints, i.low, i.full, w.0)) (omega (arith, ints, i.high, w.1)) }

small_words : (r : Range) → lowest ≤ℤ r.low → r.low ≤ℤ highest → lowest ≤ℤ r.high → r.high ≤ℤ highest → IsWords r
small_words r a b c d = record { low = word_by r.low a b; high = word_by r.high c d }

none_words : IsWords (record { low = pos 1; high = pos 0 })
none_words = small_words (record { low = pos 1; high = pos 0 }) (omega (arith, ints)) (omega (arith, ints)) (omega (arith, ints)) (omega (arith, ints))

-- the ends of every value of a scalar are numbers of some scalar
pub words_of : (most : ℕ) (ts : List ℤ) (scalar : Scalar) (a : AbsVal) → FitsWith most ts a → IsOf scalar a → IsWords a.range
words_of most ts scalar a (inl n) o = subst (λ (x : AbsVal). IsWords x.range) (sym (abs_apart a none_val n.is)) none_words
words_of most ts scalar a (inr p) (inl n) = absurd (clash (is_none_val a) n p.full)
words_of most ts scalar a (inr p) (inr q) = by (is_pointer scalar) refl
  where
    by : (b : Bool) → is_pointer scalar ≡ b → IsWords a.range
    by true e =
        let s : span_of scalar ≡ zero_range = zero e in
        let w : Within a.range zero_range = subst (Within a.range) s q.range in
        let f = p.third.full in
        small_words a.range (omega (arith, ints, w.low)) (omega (arith, ints, w.high, f)) (omega (arith, ints, w.low, f)) (omega (arith, ints, w.high))
      where
        zero : is_pointer scalar ≡ true → span_of scalar ≡ zero_range
        zero e = rw e refl
    by false e = words_in scalar a.range (inside_of most ts scalar a (inr p) (inr q) p.full e)

signed_words_in : (scalar : Scalar) (r : Range) → is_signed scalar ≡ true → IsInside scalar r → IsSignedWords r
signed_words_in scalar r e i =
    let u = signed_ends scalar e in
    let w = width_bound scalar in
    let q : bits_of scalar - 1 ≤ 63 = omega (arith, w.1) in
    let p : half_of scalar ≤ 2 ^ 63 = pow-le-pow_right {n = 2} (omega arith) q in
    let low : (pos 0 -ℤ pos (half_of scalar)) ≤ℤ r.low = subst (λ (x : ℤ). x ≤ℤ r.low) u.0 i.low in
    let high : r.high ≤ℤ pos (half_of scalar - 1) = subst (λ (x : ℤ). r.high ≤ℤ x) u.1 i.high in
    let f = i.full in
    ends r (half_of scalar) p low high f
  where
    ends : (r : Range) (h : ℕ) → h ≤ 2 ^ 63 → (pos 0 -ℤ pos h) ≤ℤ r.low → r.high ≤ℤ pos (h - 1) → r.low ≤ℤ r.high → IsSignedWords r
    ends r h p low high f = record { low = record { low = omega (arith, ints); high = omega (arith, ints) }; high = record { low = omega (arith, ints); high = omega (arith, ints) } }

pub signed_words_of : (most : ℕ) (ts : List ℤ) (scalar : Scalar) (a : AbsVal) → FitsWith most ts a → IsOf scalar a → is_pointer scalar ≡ false → is_signed scalar ≡ true → IsSignedWords a.range
signed_words_of most ts scalar a f o e s = elim (proper_of most ts scalar a f o e) [
  | inl n ↦ subst (λ (x : AbsVal). IsSignedWords x.range) (sym n) (record { low = record { low = omega (arith, ints); high = omega (arith, ints) }; high = record { low = omega (arith, ints); high = omega (arith, ints) } })
  | inr p ↦ signed_words_in scalar a.range s p.inside
]

-- the scalar of the right side of an integer operator
right_by : (op : Op) (scalar other : Scalar) → IsRight op scalar other → is_pointer scalar ≡ false → is_pointer other ≡ false
right_by Add scalar other s e = subst (λ o. is_pointer o ≡ false) (sym s) e
right_by Sub scalar other s e = subst (λ o. is_pointer o ≡ false) (sym s) e
right_by Mul scalar other s e = subst (λ o. is_pointer o ≡ false) (sym s) e
right_by Div scalar other s e = subst (λ o. is_pointer o ≡ false) (sym s) e
right_by Rem scalar other s e = subst (λ o. is_pointer o ≡ false) (sym s) e
right_by And scalar other s e = subst (λ o. is_pointer o ≡ false) (sym s) e
right_by Or scalar other s e = subst (λ o. is_pointer o ≡ false) (sym s) e
right_by Xor scalar other s e = subst (λ o. is_pointer o ≡ false) (sym s) e
right_by Shl scalar other s e = s
right_by Shr scalar other s e = s

pub right_int : (op : Op) (scalar other : Scalar) → IsAllowed op scalar other → is_pointer scalar ≡ false → IsRight op scalar other × (is_pointer other ≡ false)
right_int op scalar other (inl a) e = absurd (clash (is_pointer scalar) a.0 e)
right_int op scalar other (inr a) e = (a.1, right_by op scalar other a.1 e)

pub mul_right : (op : Op) (scalar other : Scalar) → IsRight op scalar other → op ≡ Mul → other ≡ scalar
mul_right op scalar other s e = subst (λ o. IsRight o scalar other) e s

-- a number that may stand on the right
pub stands_right : (op : Op) (scalar : Scalar) (z : ℤ) → may_stand_right op scalar z ≡ true → IsRightSide op scalar z
stands_right Add scalar z h = h
stands_right Sub scalar z h = h
stands_right Mul scalar z h = h
stands_right Div scalar z h = h
stands_right Rem scalar z h = h
stands_right And scalar z h = h
stands_right Or scalar z h = h
stands_right Xor scalar z h = h
stands_right Shl scalar z h = let e = two _ _ h in word_by z ((le_tells lowest z).is_so e.0) ((le_tells z highest).is_so e.1)
stands_right Shr scalar z h = let e = two _ _ h in word_by z ((le_tells lowest z).is_so e.0) ((le_tells z highest).is_so e.1)
