-- What is expected of values.
use Rattle.std.specs.Prelude.{◌≡◌, ℤ, [], ◌∷◌, pos}
use Rattle.gimple_ir.specs.declared.scalar.Cmp.TheVariants.{Ge, Le}
use Rattle.gimple_ir.specs.declared.scalar.Scalar.{Scalar}
use Rattle.gimple_ir.specs.declared.value.Constant.TheVariants.{Int}
use Rattle.value_domain.specs.declared.abs_val.AbsVal.{AbsVal}
use Rattle.value_domain.specs.declared.bits.Bits.{Bits}
use Rattle.value_domain.specs.declared.range.Range.{Range}
use Rattle.value_domain.specs.declared.vals.Vals.{Vals}
use Rattle.value_domain.specs.declared.vals.Vals.TheVariants.{Any, Nothing, Among}
use Rattle.value_domain.specs.AbsOperators.{exactly_of, refined_of, top_of}
use Rattle.value_domain.specs.Thresholds.{Limits}

-- the numbers of a scalar from one to another, as two comparisons leave them
abbrev pub between_of : Scalar → Limits → ℤ → ℤ → AbsVal
between_of scalar l low high =
    let from = refined_of Ge l.ends (top_of scalar) (exactly_of scalar l.size l.ends (Int low)) in
    refined_of Le l.ends from (exactly_of scalar l.size l.ends (Int high))

-- any constant, and this interval
pub record IsAnyWithin (within : Range) (a : AbsVal) : Type 0 where
  pub vals : a.vals ≡ Any
  pub range : a.range ≡ within

-- no constant, and the interval of none
pub record IsNothing (a : AbsVal) : Type 0 where
  pub vals : a.vals ≡ Nothing
  pub range : a.range ≡ record { low = pos 1; high = pos 0 }

-- these bits, and this interval
pub record IsWithin (known : Bits) (within : Range) (a : AbsVal) : Type 0 where
  pub bits : a.bits ≡ known
  pub range : a.range ≡ within

-- this number is the one constant of a list
abbrev pub IsListedAlone : ℤ → Vals → Type 0
IsListedAlone z (Among limit cs) = cs ≡ Int z ∷ []
IsListedAlone z Any = ⊥
IsListedAlone z Nothing = ⊥
