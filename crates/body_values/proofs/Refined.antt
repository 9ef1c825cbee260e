-- What the code asks of refined values.
use Rattle.std.proofs.Common.{ℤ, inr, refl, sym, ◌≡◌, subst}
use Rattle.gimple_ir.specs.declared.scalar.Cmp.TheVariants.{Eq, Ne}
use Rattle.gimple_ir.specs.declared.value.Constant.TheVariants.{Int}
use Rattle.value_domain.specs.AbsOperators.{exactly_of}
use Rattle.value_domain.proofs.AloneLaws.{alone_fits}
use Rattle.gimple_ir.specs.declared.scalar.Scalar.{Scalar}
use Rattle.gimple_ir.specs.declared.scalar.Cmp.{Cmp}
use Rattle.fix_engine.specs.Lattice.{AreAlike}
use Rattle.value_domain.specs.declared.abs_val.AbsVal.{AbsVal}
use Rattle.value_domain.specs.AbsOperators.{refined_of}
use Rattle.value_domain.specs.Values.{FitsWith, FitsAbsVal, kind_of}
use Rattle.value_domain.specs.Holding.{MayCompare}
use Rattle.value_domain.specs.Thresholds.{IsLawful}
use Rattle.value_domain.proofs.RefineLaws.{refine_fits}
use Rattle.body_values.specs.declared.scene.Scene.{Scene}
use Rattle.body_values.specs.Scenes.{IsGoodIn}
use Rattle.body_values.specs.System.{kind_is}

pub refined_good : (s : Scene) (cmp : Cmp) (scalar : Scalar) (a b v : AbsVal) → IsLawful s.limits.now.ends → MayCompare cmp scalar → IsGoodIn s scalar a → IsGoodIn s scalar b → v ≡ refined_of cmp s.limits.now.ends a b → IsGoodIn s scalar v
refined_good s cmp scalar a b v law may x y e =
    let g = refine_fits s.limits.now.size s.limits.now.ends law cmp scalar may a b x.fits x.of y.fits y.of in
    subst (IsGoodIn s scalar) (sym e) (record { fits = g.0; of = g.1 })

pub are_alike : (s : Scene) (scalar : Scalar) (a b : AbsVal) → IsLawful s.limits.now.ends → IsGoodIn s scalar a → IsGoodIn s scalar b → AreAlike FitsAbsVal a b
are_alike s scalar a b law x y =
    let back = sym (kind_is s.limits.now.size s.limits.now.ends law) in
    (kind_of s.limits.now.size s.limits.now.ends, subst (λ ts. FitsWith s.limits.now.size ts a) back x.fits, subst (λ ts. FitsWith s.limits.now.size ts b) back y.fits)

pub case_good : (s : Scene) (scalar : Scalar) (z : ℤ) (v : AbsVal) → IsLawful s.limits.now.ends → v ≡ exactly_of scalar s.limits.now.size s.limits.now.ends (Int z) → IsGoodIn s scalar v
case_good s scalar z v law e = let g = alone_fits s.limits.now.size s.limits.now.ends law scalar (Int z) in subst (IsGoodIn s scalar) (sym e) (record { fits = g.0; of = g.1 })

pub equality_may : (scalar : Scalar) → MayCompare Ne scalar
equality_may scalar = inr refl

pub same_may : (scalar : Scalar) → MayCompare Eq scalar
same_may scalar = inr refl
