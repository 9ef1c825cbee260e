-- A known constant is the value, and where no trap is left open none comes.
use Rattle.std.proofs.Common.{cond, ◌≡◌, ℤ, pos, ◌≤ℤ◌, inl, inr, Bool, true, false, ◌&&◌, refl, sym, ◌∙◌, ap, subst, int_le, arith, [], ◌∷◌, Option, Some, None}
use Rattle.std.proofs.lemmas.Int.{ints}
use Rattle.gimple_ir.specs.declared.value.Value.TheVariants.{Int as Number}
use Rattle.gimple_ir.specs.declared.value.Constant.{Constant}
use Rattle.gimple_ir.specs.declared.value.Constant.TheVariants.{Int}
use Rattle.gimple_core.specs.Operators.{wrapped}
use Rattle.gimple_core.specs.Statements.{is_pointer}
use Rattle.value_domain.specs.declared.range.Range.{Range}
use Rattle.value_domain.specs.declared.vals.Vals.{Vals}
use Rattle.value_domain.specs.declared.vals.Vals.TheVariants.{Any, Nothing, Among}
use Rattle.value_domain.specs.Ranges.{InRange}
use Rattle.value_domain.specs.FitLemmas.{le_tells}
use Rattle.value_domain.specs.BitOperators.{number_of}
use Rattle.value_domain.specs.AbsOperators.{single_of, number_constant, range_constant, first_constant, known_of}
use Rattle.value_domain.specs.Values.{is_none_val}
use Rattle.value_domain.specs.Holding.{Holds, IsAmong, constant_of}
use Rattle.value_domain.specs.Laws.{KnownHolds}
use Rattle.value_domain.proofs.ScalarLemmas.{two, in_type}
use Rattle.value_domain.proofs.BitSoundness.{number_cases, number_is}
use Rattle.value_domain.proofs.WholeLemmas.{number_value}
use Rattle.value_domain.proofs.AbsLaws.{none_or_not, proper_by}

some_same : (c d : Constant) → Some c ≡ Some d → c ≡ d
some_same c d e = cc

-- the value is the one constant of a set
single_is : (o : Option Constant) (v : Vals) (c : Constant) → IsAmong o v → single_of v ≡ Some c → o ≡ Some c
single_is o Any c h e = cc
single_is o Nothing c h e = cc
single_is o (Among l []) c h e = cc
single_is o (Among l (d ∷ (x ∷ xs))) c h e = cc
single_is None (Among l (d ∷ [])) c h e = absurd h
single_is (Some b) (Among l (d ∷ [])) c (inl s) e = ap Some (s ∙ some_same d c e)
single_is (Some b) (Among l (d ∷ [])) c (inr m) e = absurd m

range_is : (r : Range) (z : ℤ) (c : Constant) → InRange z r → range_constant r ≡ Some c → Int z ≡ c
range_is r z c h e = by (int_le r.low r.high && int_le r.high r.low) refl e
  where
    by : (b : Bool) → (int_le r.low r.high && int_le r.high r.low) ≡ b → cond b (Some (Int r.low)) None ≡ Some c → Int z ≡ c
    by true f g =
        let t : (int_le r.low r.high ≡ true) × (int_le r.high r.low ≡ true) = two _ _ f in
        let p : r.high ≤ℤ r.low = (le_tells r.high r.low).is_so t.1 in
        let s : z ≡ r.low = omega (arith, ints, h.from, h.to, p) in
        ap Int s ∙ some_same (Int r.low) c g
    by false f g = cc

pub known_holds : KnownHolds
unfolding known_of
known_holds most ts scalar a fa oa v c kv hv e = elim (none_or_not most ts a fa) [
  | inl n ↦ absurd (n.1 v hv)
  | inr i ↦ first (single_of a.vals) refl e i.0
]
  where
    number : is_pointer scalar ≡ false → is_none_val a ≡ false → number_constant (number_of scalar a.bits) (range_constant a.range) ≡ Some c → constant_of v ≡ Some c
    number p n f =
        let g = proper_by most ts scalar a fa oa p n in
        let z = number_value scalar v p kv in
        let h : Holds (Number z.0) a = subst (λ y. Holds y a) z.1 hv in
        let done : constant_of (Number z.0) ≡ Some c = ap Some (number_cases scalar a.bits (λ o. number_constant o (range_constant a.range) ≡ Some c → Int z.0 ≡ c)
        (λ m k. ap Int (sym (number_is scalar z.0 a.bits g.bits (in_type scalar z.0 z.2) h.bits m)) ∙ some_same (Int (wrapped scalar (pos a.bits.value))) c k)
        (λ k. range_is a.range z.0 c h.range k) f) in
        ap constant_of z.1 ∙ done

    rest : (b : Bool) → is_pointer scalar ≡ b → is_none_val a ≡ false → cond b None (number_constant (number_of scalar a.bits) (range_constant a.range)) ≡ Some c → constant_of v ≡ Some c
    rest true p n f = cc
    rest false p n f = number p n f

    first : (o : Option Constant) → single_of a.vals ≡ o → first_constant o (cond (is_pointer scalar) None (number_constant (number_of scalar a.bits) (range_constant a.range))) ≡ Some c → is_none_val a ≡ false → constant_of v ≡ Some c
    first (Some d) s f n = single_is (constant_of v) a.vals c hv.vals (s ∙ f)
    first None s f n = rest (is_pointer scalar) refl n f
