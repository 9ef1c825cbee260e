-- Intervals of results, and rounding outwards to thresholds.
use Rattle.std.specs.Prelude.{◌<◌, ◌≤◌, length, slice_index_or, ◌-◌, ◌^◌, Option, Some, None, ℕ, zero, suc, ℤ, pos, negsuc, ◌+ℤ◌, ◌-ℤ◌, ◌≤ℤ◌, ◌<ℤ◌, Bool, false, ◌||◌, ◌&&◌, int_le, int_lt, unsigned_abs, if◌then◌else◌, List, [], ◌∷◌}
use Rattle.std.specs.Int.{int_min, int_max}
use Rattle.value_domain.specs.declared.range.Range.{Range}
use Rattle.value_domain.specs.Ranges.{meet_range, whole_unless, sum_range, difference_range, product_range, quotient_range}
use Rattle.gimple_ir.specs.declared.scalar.Scalar.{Scalar}
use Rattle.gimple_ir.specs.declared.scalar.Mode.{Mode}
use Rattle.gimple_ir.specs.declared.scalar.Mode.TheVariants.{Trap, Wrap}
use Rattle.gimple_ir.specs.declared.scalar.Op.{Op}
use Rattle.gimple_ir.specs.declared.scalar.Op.TheVariants.{Add, Sub, Mul, Div, Rem, And, Or, Xor, Shl, Shr}
use Rattle.gimple_ir.specs.declared.scalar.Cmp.{Cmp}
use Rattle.gimple_ir.specs.declared.scalar.Cmp.TheVariants.{Eq, Ne, Lt, Le, Gt, Ge}
use Rattle.gimple_core.specs.Operators.{IsWord, IsSignedWord, is_signed, least_of, greatest_of}

-- the greatest threshold up to z, and `least` where there is none
abbrev pub floor_of : ℤ → List ℤ → ℤ → ℤ
floor_of least [] z = least
floor_of least (t ∷ ts) z = if int_le t z then int_max t (floor_of least ts z) else floor_of least ts z

abbrev pub ceiling_of : ℤ → List ℤ → ℤ → ℤ
ceiling_of most [] z = most
ceiling_of most (t ∷ ts) z = if int_le z t then int_min t (ceiling_of most ts z) else ceiling_of most ts z

abbrev pub lowest : ℤ
lowest = negsuc (2 ^ 63 - 1)

abbrev pub highest : ℤ
highest = pos (2 ^ 64 - 1)

-- the least interval with ends in the thresholds that holds the given one
abbrev pub rounded : List ℤ → Range → Range
rounded ts r = record { low = floor_of lowest ts r.low; high = ceiling_of highest ts r.high }

abbrev pub rounded_each : List ℤ → Option Range → Option Range
rounded_each ts None = None
rounded_each ts (Some r) = Some (rounded ts r)

abbrev pub type_range : Scalar → Range
type_range scalar = record { low = least_of scalar; high = greatest_of scalar }

abbrev pub meet_each : Range → Option Range → Option Range
meet_each t None = None
meet_each t (Some r) = meet_range t r

abbrev pub whole_each : Range → Option Range → Option Range
whole_each t None = None
whole_each t (Some r) = Some (whole_unless t r)

-- whether a sum, difference or product outside the scalar traps; else it wraps
abbrev pub traps_outside : Mode → Scalar → Bool
traps_outside Trap scalar = is_signed scalar
traps_outside Wrap scalar = false

-- an exact interval of a sum, difference or product brought into the scalar
abbrev pub fitted : Mode → Scalar → Option Range → Option Range
fitted mode scalar o = if traps_outside mode scalar then meet_each (type_range scalar) o else whole_each (type_range scalar) o

-- of the scalar, and not empty
pub record IsInside (scalar : Scalar) (r : Range) : Type 0 where
  pub low : least_of scalar ≤ℤ r.low
  pub high : r.high ≤ℤ greatest_of scalar
  pub full : r.low ≤ℤ r.high

-- a number of some unsigned scalar
pub record IsUnsignedWord (z : ℤ) : Type 0 where
  pub low : pos 0 ≤ℤ z
  pub high : z ≤ℤ highest

-- both ends are numbers of some scalar
pub record IsWords (r : Range) : Type 0 where
  pub low : IsWord r.low
  pub high : IsWord r.high

-- both ends are numbers of some signed scalar
pub record IsSignedWords (r : Range) : Type 0 where
  pub low : IsSignedWord r.low
  pub high : IsSignedWord r.high

-- ---- the interval of each operator, before rounding
-- `%`: below the divisor in size, with the sign of the left
abbrev pub low_remainder : ℤ → ℤ → ℤ
low_remainder m a = if int_le (pos 0) a then pos 0 else int_max a (pos 1 -ℤ m)

abbrev pub high_remainder : ℤ → ℤ → ℤ
high_remainder m b = if int_le b (pos 0) then pos 0 else int_min b (m -ℤ pos 1)

abbrev pub remainder_within : ℤ → Range → Range
remainder_within m r = record { low = low_remainder m r.low; high = high_remainder m r.high }

-- the greatest size of the numbers of an interval
abbrev pub reach_of : Range → ℤ
reach_of s = int_max (pos (unsigned_abs s.low)) (pos (unsigned_abs s.high))

abbrev pub remainder_range : Range → Range → Option Range
remainder_range r s = if int_le (reach_of s) (pos 0) then None else Some (remainder_within (reach_of s) r)

-- `&`
abbrev pub and_range : Range → Range → Range → Range
and_range type r s =
    if int_le (pos 0) r.low then (if int_le (pos 0) s.low then record { low = pos 0; high = int_min r.high s.high } else record { low = pos 0; high = r.high })
    else (if int_le (pos 0) s.low then record { low = pos 0; high = s.high } else type)

-- the first of the numbers 2 ^ k - 1, 2 ^ (k + 1) - 1 .. that is n or more
unfoldable pub ones_from : ℕ → ℕ → ℤ → ℤ
ones_from zero k n = pos (2 ^ k - 1)
ones_from (suc more) k n = if int_le n (pos (2 ^ k - 1)) then pos (2 ^ k - 1) else ones_from more (suc k) n

-- the least 2 ^ k - 1 that reaches n
unfoldable pub ones_reaching : ℤ → ℤ
ones_reaching n = ones_from 64 0 n

-- `|` and `^`
abbrev pub or_range : Range → Range → Range → Range
or_range type r s = if int_le (pos 0) r.low && int_le (pos 0) s.low then record { low = pos 0; high = ones_reaching (int_max r.high s.high) } else type

abbrev pub shr_range : Range → Range
shr_range r = record { low = int_min r.low (pos 0); high = int_max r.high (negsuc 0) }

abbrev pub op_range : Mode → Op → Scalar → Range → Range → Option Range
op_range mode Add scalar r s = fitted mode scalar (sum_range r s)
op_range mode Sub scalar r s = fitted mode scalar (difference_range r s)
op_range mode Mul scalar r s = fitted mode scalar (product_range r s)
op_range mode Div scalar r s = meet_each (type_range scalar) (quotient_range r s)
op_range mode Rem scalar r s = remainder_range r s
op_range mode And scalar r s = Some (and_range (type_range scalar) r s)
op_range mode Or scalar r s = Some (or_range (type_range scalar) r s)
op_range mode Xor scalar r s = Some (or_range (type_range scalar) r s)
op_range mode Shl scalar r s = Some (type_range scalar)
op_range mode Shr scalar r s = Some (shr_range r)

-- whether the comparison holds of all pairs
abbrev pub surely : Cmp → Range → Range → Bool
surely Eq r s = int_le r.high s.low && int_le s.high r.low
surely Ne r s = int_lt r.high s.low || int_lt s.high r.low
surely Lt r s = int_lt r.high s.low
surely Le r s = int_le r.high s.low
surely Gt r s = int_lt s.high r.low
surely Ge r s = int_le s.high r.low

abbrev pub opposite : Cmp → Cmp
opposite Eq = Ne
opposite Ne = Eq
opposite Lt = Ge
opposite Le = Gt
opposite Gt = Le
opposite Ge = Lt

abbrev pub cmp_range : Cmp → Range → Range → Range
cmp_range cmp r s =
    if surely cmp r s then record { low = pos 1; high = pos 1 }
    else (if surely (opposite cmp) r s then record { low = pos 0; high = pos 0 } else record { low = pos 0; high = pos 1 })

abbrev pub convert_range : Scalar → Range → Range
convert_range target r = whole_unless (type_range target) r

-- ---- taken comparisons
-- the numbers z for which `z cmp w` can hold of some w of the interval
abbrev pub allowed : Cmp → Range → Range
allowed Eq s = s
allowed Ne s = record { low = lowest; high = highest }
allowed Lt s = record { low = lowest; high = s.high -ℤ pos 1 }
allowed Le s = record { low = lowest; high = s.high }
allowed Gt s = record { low = s.low +ℤ pos 1; high = highest }
allowed Ge s = record { low = s.low; high = highest }

-- ---- the search for a threshold
-- each threshold is at least those before it
abbrev pub IsRising : List ℤ → Type 0
IsRising ts = (i j : ℕ) → i ≤ j → j < length ts → slice_index_or ts i (pos 0) ≤ℤ slice_index_or ts j (pos 0)

-- the thresholds before `low` are not above z, and those from `high` on are
pub record Searched (ts : List ℤ) (low high : ℕ) (z : ℤ) : Type 0 where
  pub ordered : low ≤ high
  pub within : high ≤ length ts
  pub under : (k : ℕ) → k < low → slice_index_or ts k (pos 0) ≤ℤ z
  pub over : (k : ℕ) → high ≤ k → k < length ts → z <ℤ slice_index_or ts k (pos 0)
