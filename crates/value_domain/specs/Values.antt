-- Abstract values: their parts, order, join and kinds.
use Rattle.std.specs.Prelude.{◌≡◌, ℕ, ◌+◌, ◌^◌, ◌<◌, ◌≤◌, ℤ, pos, ◌+ℤ◌, ◌-ℤ◌, Bool, if◌then◌else◌, List, [], ◌∷◌, length, nat_le, unsigned_abs}
use Rattle.gimple_ir.specs.declared.value.Constant.{Constant}
use Rattle.value_domain.specs.declared.bits.Bits.{Bits}
use Rattle.value_domain.specs.declared.range.Range.{Range}
use Rattle.value_domain.specs.declared.vals.Vals.{Vals}
use Rattle.value_domain.specs.declared.vals.Vals.TheVariants.{Any, Nothing, Among}
use Rattle.value_domain.specs.declared.abs_val.AbsVal.{AbsVal}
use Rattle.lattice_parts.specs.Sets.{Ascending, united}
use Rattle.lattice_parts.specs.Parts.{Parts, FitsParts, parts_below, parts_rank}
use Rattle.lattice_parts.specs.Finite.{Finite, Anything, Members, finite_below, finite_rank}
use Rattle.value_domain.specs.Constants.{before}
use Rattle.value_domain.specs.Bitmasks.{FitsBits, bits_rank, bits_below, bits_joined}
use Rattle.value_domain.specs.Ranges.{FitsRange, range_below, outside, hull, is_bare}

-- ---- sets of constants
abbrev pub finite_of : Vals → Finite Constant
finite_of Any = Anything
finite_of Nothing = Members []
finite_of (Among limit cs) = Members cs

-- a list of at most `most` constants in order, and at least one
pub record FitsAmong (most : ℕ) (limit : ℕ) (cs : List Constant) : Type 0 where
  pub same : limit ≡ most
  pub rising : Ascending before cs
  pub few : length cs ≤ most
  pub some : 0 < length cs

abbrev pub FitsVals : ℕ → Vals → Type 0
FitsVals most Any = Unit {0}
FitsVals most Nothing = ⊥
FitsVals most (Among limit cs) = FitsAmong most limit cs

abbrev pub vals_below : Vals → Vals → Bool
vals_below a b = finite_below before (finite_of a) (finite_of b)

-- a larger set is any
abbrev pub vals_capped : ℕ → List Constant → Vals
vals_capped limit cs = if nat_le (length cs) limit then Among limit cs else Any

abbrev pub vals_joined : Vals → Vals → Vals
vals_joined (Among limit xs) (Among most ys) = vals_capped limit (united before xs ys)
vals_joined a b = Any

-- ---- the whole
abbrev pub parts_of : AbsVal → Parts Vals Bits Range
parts_of a = record { first = a.vals; second = a.bits; third = a.range }

-- none has one form
abbrev pub none_val : AbsVal
none_val = record { vals = Nothing; bits = record { mask = 0; value = 0 }; range = record { low = pos 1; high = pos 0 } }

abbrev pub is_none_val : AbsVal → Bool
is_none_val a = is_bare a.range

-- the values made with a limit of constants and these thresholds: none, or three parts that are not empty
abbrev pub FitsWith : ℕ → List ℤ → AbsVal → Type 0
FitsWith most ts a = FitsParts (parts_of none_val) (FitsVals most) FitsBits (FitsRange ts) is_bare (parts_of a)

-- ---- kinds: the limit, then the thresholds moved up by 2 ^ 63
abbrev pub moved_up : List ℤ → List ℕ
moved_up [] = []
moved_up (z ∷ zs) = unsigned_abs (z +ℤ pos (2 ^ 63)) ∷ moved_up zs

abbrev pub kind_of : ℕ → List ℤ → List ℕ
kind_of most ts = most ∷ moved_up ts

abbrev pub limit_in : List ℕ → ℕ
limit_in [] = 0
limit_in (n ∷ k) = n

abbrev pub moved_down : List ℕ → List ℤ
moved_down [] = []
moved_down (n ∷ k) = (pos n -ℤ pos (2 ^ 63)) ∷ moved_down k

abbrev pub thresholds_in : List ℕ → List ℤ
thresholds_in [] = []
thresholds_in (n ∷ k) = moved_down k

abbrev pub FitsAbsVal : List ℕ → AbsVal → Type 0
FitsAbsVal k a = FitsWith (limit_in k) (thresholds_in k) a

abbrev pub height_with : ℕ → List ℤ → ℕ
height_with most ts = 1 + ((most + 1) + (64 + length ts))

abbrev pub abs_val_height : List ℕ → ℕ
abs_val_height k = height_with (limit_in k) (thresholds_in k)

abbrev pub rank_with : ℕ → List ℤ → AbsVal → ℕ
rank_with most ts a = parts_rank (height_with most ts) (λ v. finite_rank most (finite_of v)) bits_rank (outside ts) is_bare (parts_of a)

abbrev pub abs_val_rank : List ℕ → AbsVal → ℕ
abs_val_rank k a = rank_with (limit_in k) (thresholds_in k) a

-- none is below all, and else each part is
abbrev pub abs_val_below : AbsVal → AbsVal → Bool
abs_val_below a b = parts_below vals_below bits_below range_below is_bare (parts_of a) (parts_of b)

abbrev pub abs_val_joined : AbsVal → AbsVal → AbsVal
abs_val_joined a b = if is_none_val a then b else (if is_none_val b then a else record { vals = vals_joined a.vals b.vals; bits = bits_joined a.bits b.bits; range = hull a.range b.range })
