-- What holds a value, and what lies above it.
use Rattle.std.proofs.Common.{◌≡◌, ℕ, min, ℤ, inl, inr, Bool, true, false, refl, ◌∙◌, arith, List, [], Option, Some, None}
use Rattle.std.specs.Int.{bit_at}
use Rattle.std.proofs.lemmas.Int.{ints}
use Rattle.std.proofs.lemmas.Nat.Bits.{bit_at_and, same_from_bits}
use Rattle.gimple_ir.specs.declared.value.Value.{Value}
use Rattle.gimple_ir.specs.declared.value.Constant.{Constant}
use Rattle.lattice_parts.specs.SetLemmas.{subset_is}
use Rattle.value_domain.specs.declared.bits.Bits.{Bits}
use Rattle.value_domain.specs.declared.vals.Vals.{Vals}
use Rattle.value_domain.specs.declared.vals.Vals.TheVariants.{Any, Nothing, Among}
use Rattle.value_domain.specs.declared.abs_val.AbsVal.{AbsVal}
use Rattle.value_domain.specs.Constants.{before}
use Rattle.value_domain.specs.OrderLemmas.{constant_order}
use Rattle.value_domain.specs.Bitmasks.{pattern, Agrees, AreBelow}
use Rattle.value_domain.specs.BitsLemmas.{bit_agrees, bit_below}
use Rattle.value_domain.specs.Values.{FitsWith, vals_below, none_val, is_none_val}
use Rattle.value_domain.specs.ValueLemmas.{abs_apart, laws_with}
use Rattle.value_domain.specs.Holding.{Holds, IsAmong, constant_of, number_part}
use Rattle.value_domain.specs.Laws.{AboveHolds, JoinHolds}
use Rattle.value_domain.proofs.WholeLemmas.{none_holds, parts_below_is}

clash : (b : Bool) → b ≡ true → b ≡ false → ⊥
clash true e f = cc
clash false e f = cc

-- what holds a value is not none
pub not_none : (most : ℕ) (ts : List ℤ) (a : AbsVal) (v : Value) → FitsWith most ts a → Holds v a → is_none_val a ≡ true → ⊥
not_none most ts a v (inl n) h e = none_holds v a (abs_apart a none_val n.is) h
not_none most ts a v (inr p) h e = clash (is_none_val a) e p.full

below_row : (x p q u v : ℕ) → min x p ≡ u → min p q ≡ q → min u q ≡ v → min x q ≡ v
below_row x p q u v a b c = omega (arith, a, b, c)

below_agrees : (n : ℕ) (a b : Bits) → AreBelow a b → Agrees n a → Agrees n b
below_agrees n a b e h = same_from_bits _ _ (λ (i : ℕ). let w = bit_below a b i e in bit_at_and n b.mask i ∙ below_row (bit_at n i) (bit_at a.mask i) (bit_at b.mask i) (bit_at a.value i) (bit_at b.value i) (bit_agrees n i a h) w.0 w.1)

among_above : (o : Option Constant) (a b : Vals) → vals_below a b ≡ true → IsAmong o a → IsAmong o b
among_above o a Any e h = tt
among_above o Any Nothing e h = cc
among_above o Any (Among m ys) e h = cc
among_above o Nothing b e h = absurd h
among_above None (Among l xs) b e h = absurd h
among_above (Some c) (Among l xs) Nothing e h = absurd (subset_is before constant_order xs [] e c h)
among_above (Some c) (Among l xs) (Among m ys) e h = subset_is before constant_order xs ys e c h

pub above_holds : AboveHolds
above_holds most ts a b f e v h = by (is_none_val a) refl
  where
    by : (t : Bool) → is_none_val a ≡ t → Holds v b
    by true n = absurd (not_none most ts a v f h n)
    by false n =
        let p = (parts_below_is a b n e).1 in
        record {
          vals = among_above (constant_of v) a.vals b.vals p.vals h.vals;
          bits = below_agrees (pattern (number_part v)) a.bits b.bits p.bits h.bits;
          range = record { from = omega (arith, ints, p.range.low, h.range.from); to = omega (arith, ints, p.range.high, h.range.to) };
        }

pub join_holds : JoinHolds
join_holds most ts a b f g v (inl h) = above_holds most ts a _ f ((laws_with most ts).above_left a b f g) v h
join_holds most ts a b f g v (inr h) = above_holds most ts b _ g ((laws_with most ts).above_right a b f g) v h
