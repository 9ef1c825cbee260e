-- Intervals of whole numbers, and what an operator on intervals promises.
use Rattle.std.specs.Prelude.{◌≡◌, ℕ, ◌+◌, ℤ, pos, negsuc, ◌+ℤ◌, ◌-ℤ◌, ◌*ℤ◌, ◌≤ℤ◌, ◌<ℤ◌, Bool, ◌&&◌, ◌||◌, int_le, int_lt, int_div, if◌then◌else◌, Option, Some, None, List, [], ◌∷◌}
use Rattle.std.specs.Int.{int_min, int_max}
use Rattle.value_domain.specs.declared.range.Range.{Range}
use Rattle.fix_engine.specs.Solving.{one_if}
use Rattle.lattice_parts.specs.Sets.{Has}

pub record InRange (z : ℤ) (r : Range) : Type 0 where
  pub from : r.low ≤ℤ z
  pub to : z ≤ℤ r.high

pub record Within (r s : Range) : Type 0 where
  pub low : s.low ≤ℤ r.low
  pub high : r.high ≤ℤ s.high

-- no interval is within each
abbrev pub WithinEach : Option Range → Option Range → Type 0
WithinEach None s = Unit {0}
WithinEach (Some r) None = ⊥
WithinEach (Some r) (Some s) = Within r s

abbrev pub InEach : ℤ → Option Range → Type 0
InEach z None = ⊥
InEach z (Some r) = InRange z r

-- the number is the result of some pair
pub record IsResult (ok : ℤ → Type 0) (f : ℤ → ℤ → ℤ) (r s : Range) (x : ℤ) : Type 0 where
  pub left : ℤ
  pub right : ℤ
  pub in_left : InRange left r
  pub in_right : InRange right s
  pub allowed : ok right
  pub is : f left right ≡ x

abbrev pub EndsReached : (ℤ → Type 0) → (ℤ → ℤ → ℤ) → Range → Range → Option Range → Type 0
EndsReached ok f r s None = Unit {0}
EndsReached ok f r s (Some t) = IsResult ok f r s t.low × IsResult ok f r s t.high

-- F is the least interval that holds the results of all pairs with an allowed right side
pub record IsHull (ok : ℤ → Type 0) (f : ℤ → ℤ → ℤ) (F : Range → Range → Option Range) : Type 0 where
  pub holds : (r s : Range) (z w : ℤ) → InRange z r → InRange w s → ok w → InEach (f z w) (F r s)
  pub reached : (r s : Range) → r.low ≤ℤ r.high → s.low ≤ℤ s.high → EndsReached ok f r s (F r s)

abbrev pub Always : ℤ → Type 0
Always z = Unit {0}

-- x lies between p and q, in either order
pub record Between (x p q : ℤ) : Type 0 where
  pub above : int_min p q ≤ℤ x
  pub below : x ≤ℤ int_max p q

-- on each side alone the function only rises or only falls
pub record IsSteady (ok : ℤ → Type 0) (f : ℤ → ℤ → ℤ) : Type 0 where
  pub left : (a z b w : ℤ) → ok w → a ≤ℤ z → z ≤ℤ b → Between (f z w) (f a w) (f b w)
  pub right : (z c w d : ℤ) → ok c → ok d → c ≤ℤ w → w ≤ℤ d → Between (f z w) (f z c) (f z d)

-- the hull of four numbers
abbrev pub hull_four : ℤ → ℤ → ℤ → ℤ → Range
hull_four p q m n = record { low = int_min (int_min p q) (int_min m n); high = int_max (int_max p q) (int_max m n) }

-- the hull of the results at the four corners
abbrev pub corners : (ℤ → ℤ → ℤ) → Range → Range → Range
corners f r s = hull_four (f r.low s.low) (f r.low s.high) (f r.high s.low) (f r.high s.high)

abbrev pub sum_range : Range → Range → Option Range
sum_range r s = Some (record { low = r.low +ℤ s.low; high = r.high +ℤ s.high })

abbrev pub difference_range : Range → Range → Option Range
difference_range r s = Some (record { low = r.low -ℤ s.high; high = r.high -ℤ s.low })

abbrev pub product_range : Range → Range → Option Range
product_range r s = Some (corners (λ z w. z *ℤ w) r s)

-- the least interval that holds both
abbrev pub hull : Range → Range → Range
hull r s = record { low = int_min r.low s.low; high = int_max r.high s.high }

abbrev pub hull_each : Option Range → Option Range → Option Range
hull_each None p = p
hull_each (Some r) None = Some r
hull_each (Some r) (Some s) = Some (hull r s)

abbrev pub below_zero : Range → Option Range
below_zero s = if int_lt s.low (pos 0) then Some (record { low = s.low; high = int_min s.high (negsuc 0) }) else None

abbrev pub above_zero : Range → Option Range
above_zero s = if int_lt (pos 0) s.high then Some (record { low = int_max s.low (pos 1); high = s.high }) else None

abbrev pub corners_each : (ℤ → ℤ → ℤ) → Range → Option Range → Option Range
corners_each f r None = None
corners_each f r (Some s) = Some (corners f r s)

-- the hull of the corner quotients over the divisors below 0 and above 0 apart
abbrev pub quotient_range : Range → Range → Option Range
quotient_range r s = hull_each (corners_each int_div r (below_zero s)) (corners_each int_div r (above_zero s))

abbrev pub IsNegative : ℤ → Type 0
IsNegative z = z <ℤ pos 0

abbrev pub IsPositive : ℤ → Type 0
IsPositive z = pos 0 <ℤ z

-- the part of the interval in the type
abbrev pub meet_range : Range → Range → Option Range
meet_range t r = if int_le (int_max t.low r.low) (int_min t.high r.high) then Some (record { low = int_max t.low r.low; high = int_min t.high r.high }) else None

-- the interval where it lies in the type, else the whole type
abbrev pub whole_unless : Range → Range → Range
whole_unless t r = if int_le t.low r.low && int_le r.high t.high then r else t

-- ---- intervals with ends in the thresholds
pub record FitsRange (ts : List ℤ) (r : Range) : Type 0 where
  pub low : Has r.low ts
  pub high : Has r.high ts
  pub full : r.low ≤ℤ r.high

abbrev pub is_bare : Range → Bool
is_bare r = int_lt r.high r.low

abbrev pub range_below : Range → Range → Bool
range_below r s = int_le s.low r.low && int_le r.high s.high

-- how many thresholds lie outside
abbrev pub outside : List ℤ → Range → ℕ
outside [] r = 0
outside (t ∷ ts) r = one_if (int_lt t r.low || int_lt r.high t) + outside ts r
