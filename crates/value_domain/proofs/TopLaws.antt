-- The value of a scalar that holds each value of it.
use Rattle.std.proofs.Common.{cond, ◌≡◌, pos, Bool, true, false, refl, subst, arith, Some}
use Rattle.std.proofs.lemmas.Int.{ints}
use Rattle.std.proofs.lemmas.Nat.{pow_pos}
use Rattle.gimple_ir.specs.declared.scalar.Scalar.{Scalar}
use Rattle.gimple_ir.specs.declared.value.Value.{Value}
use Rattle.gimple_ir.specs.declared.value.Value.TheVariants.{Int as Number, Null as NullPointer, At, Code}
use Rattle.gimple_core.specs.Statements.{is_pointer}
use Rattle.gimple_core.specs.State.{is_of}
use Rattle.value_domain.specs.declared.vals.Vals.TheVariants.{Any}
use Rattle.value_domain.specs.Bitmasks.{pattern}
use Rattle.value_domain.specs.Ranges.{InRange, Within, FitsRange}
use Rattle.value_domain.specs.RangeOperators.{type_range}
use Rattle.value_domain.specs.BitOperators.{unknown_bits}
use Rattle.value_domain.specs.AbsOperators.{span_of, zero_range}
use Rattle.value_domain.specs.Holding.{number_part, mask_width}
use Rattle.value_domain.specs.Laws.{TopHolds, TopFits}
use Rattle.value_domain.proofs.ScalarLemmas.{in_type, type_zero}
use Rattle.value_domain.proofs.ValuesOf.{of_number, of_null, of_address, of_function}
use Rattle.value_domain.proofs.BitSoundness.{unknown_holds}
use Rattle.value_domain.proofs.WholeLemmas.{assembled_good}

zero_in : InRange (pos 0) zero_range
zero_in = record { from = omega (arith, ints); to = omega (arith, ints) }

number_in_span : (scalar : Scalar) (v : Value) → is_of scalar v ≡ true → InRange (number_part v) (span_of scalar)
number_in_span scalar (Number z) h = let f = of_number scalar z h in rw f.0 (in_type scalar z f.1)
number_in_span scalar NullPointer h = rw (of_null scalar h) zero_in
number_in_span scalar (At object offset) h = rw (of_address scalar object offset h) zero_in
number_in_span scalar (Code name) h = rw (of_function scalar name h) zero_in

pub top_holds : TopHolds
top_holds scalar v h = record { vals = tt; bits = unknown_holds (pattern (number_part v)); range = number_in_span scalar v h }

pub top_fits : TopFits
top_fits most ts law scalar = assembled_good most ts scalar Any unknown_bits (Some (span_of scalar)) (record {
  vals = tt;
  kind = tt;
  within = refl;
  mask = pow_pos (mask_width scalar);
  range = λ r e. let i : span_of scalar ≡ r = cc in (subst (FitsRange ts) i (ends (is_pointer scalar)), subst (λ x. Within x (span_of scalar)) i (record { low = omega (arith, ints); high = omega (arith, ints) }));
})
  where
    ends : (b : Bool) → FitsRange ts (cond b zero_range (type_range scalar))
    ends true = record { low = law.truths.0; high = law.truths.0; full = omega (arith, ints) }
    ends false = let e = law.ends scalar in let z = type_zero scalar in record { low = e.0; high = e.1; full = omega (arith, ints, z.0, z.1) }
