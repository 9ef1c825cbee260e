-- What the calls need and give, from the laws of the operators.
use Rattle.std.proofs.Common.{◌≡◌, ◌∙◌, ℤ, ap, refl, subst, sym, false, inl, inr, Result, Ok, Err, IfOk}
use Rattle.gimple_ir.specs.declared.scalar.Scalar.{Scalar}
use Rattle.gimple_ir.specs.declared.scalar.Mode.{Mode}
use Rattle.gimple_ir.specs.declared.scalar.Op.{Op}
use Rattle.gimple_ir.specs.declared.scalar.Op.TheVariants.{Add, Sub, Mul, Div, Rem, And, Or, Xor, Shl, Shr}
use Rattle.gimple_ir.specs.declared.scalar.Cmp.{Cmp}
use Rattle.gimple_ir.specs.declared.scalar.Cmp.TheVariants.{Ge, Le}
use Rattle.gimple_ir.specs.declared.value.Constant.{Constant}
use Rattle.gimple_ir.specs.declared.value.Constant.TheVariants.{Int}
use Rattle.gimple_core.specs.Statements.{is_pointer}
use Rattle.fix_engine.specs.Lattice.{AreAlike}
use Rattle.value_domain.specs.declared.abs_val.AbsVal.{AbsVal}
use Rattle.value_domain.specs.AbsOperators.{exactly_of, top_of, refined_of, abs_op_of, abs_cmp_of, abs_convert_of}
use Rattle.value_domain.specs.Thresholds.{Limits, IsLawful}
use Rattle.value_domain.specs.Values.{FitsWith, FitsAbsVal, kind_of}
use Rattle.value_domain.specs.Holding.{IsRight, IsAllowed}
use Rattle.value_domain.proofs.AloneLaws.{alone_fits}
use Rattle.value_domain.proofs.TopLaws.{top_fits}
use Rattle.value_domain.proofs.AbsLaws.{op_fits, cmp_fits, convert_fits}
use Rattle.value_domain.proofs.RefineLaws.{refine_fits}
use Rattle.value_domain.proofs.KindLaws.{kind_thresholds}
use Rattle.value_rows.specs.Expected.{between_of}
use Rattle.value_rows.specs.Kept.{IsKept}

-- a result that is a kept value is kept
pub kept_ok : {E : Type 0} (scalar : Scalar) (l : Limits) (r : Result AbsVal E) (x : AbsVal) → IsKept scalar l x → IfOk r (λ v. v ≡ x) → IfOk r (IsKept scalar l)
kept_ok scalar l (Ok v) x k e = subst (IsKept scalar l) (sym e) k
kept_ok scalar l (Err u) x k e = tt

pub alone_kept : (l : Limits) → IsLawful l.ends → (scalar : Scalar) (c : Constant) → IsKept scalar l (exactly_of scalar l.size l.ends c)
alone_kept l law scalar c = let both = alone_fits l.size l.ends law scalar c in record { fits = both.0; of = both.1 }

pub top_kept : (l : Limits) → IsLawful l.ends → (scalar : Scalar) → IsKept scalar l (top_of scalar)
top_kept l law scalar = let both = top_fits l.size l.ends law scalar in record { fits = both.0; of = both.1 }

pub left_kept : (l : Limits) → IsLawful l.ends → (cmp : Cmp) (scalar : Scalar) (a b : AbsVal) → is_pointer scalar ≡ false → IsKept scalar l a → IsKept scalar l b → IsKept scalar l (refined_of cmp l.ends a b)
left_kept l law cmp scalar a b p k m =
    let both = refine_fits l.size l.ends law cmp scalar (inl p) a b k.fits k.of m.fits m.of in
    record { fits = both.0; of = both.1 }

pub compared_kept : (l : Limits) → IsLawful l.ends → (target : Scalar) (cmp : Cmp) (scalar : Scalar) (a b : AbsVal) → is_pointer target ≡ false → IsKept target l (abs_cmp_of target cmp scalar l.size a b)
compared_kept l law target cmp scalar a b p = let both = cmp_fits l.size l.ends law target cmp scalar p a b in record { fits = both.0; of = both.1 }

pub converted_kept : (l : Limits) → IsLawful l.ends → (target source : Scalar) (a : AbsVal) → is_pointer target ≡ false → is_pointer source ≡ false → IsKept source l a → IsKept target l (abs_convert_of target source l.size l.ends a)
converted_kept l law target source a p q k =
    let both = convert_fits l.size l.ends law target source p q a k.fits k.of in
    record { fits = both.0; of = both.1 }

is_right : (op : Op) (scalar : Scalar) → is_pointer scalar ≡ false → IsRight op scalar scalar
is_right Add scalar p = refl
is_right Sub scalar p = refl
is_right Mul scalar p = refl
is_right Div scalar p = refl
is_right Rem scalar p = refl
is_right And scalar p = refl
is_right Or scalar p = refl
is_right Xor scalar p = refl
is_right Shl scalar p = p
is_right Shr scalar p = p

-- an operator of numbers whose sides have one scalar
pub allowed_alike : (op : Op) (scalar : Scalar) → is_pointer scalar ≡ false → IsAllowed op scalar scalar
allowed_alike op scalar p = inr (p, is_right op scalar p)

pub made_kept : (l : Limits) → IsLawful l.ends → (mode : Mode) (op : Op) (scalar : Scalar) (a b : AbsVal) → is_pointer scalar ≡ false → IsKept scalar l a → IsKept scalar l b → IsKept scalar l (abs_op_of mode op scalar scalar l.size l.ends a b)
made_kept l law mode op scalar a b p k m =
    let both = op_fits l.size l.ends law mode op scalar scalar (allowed_alike op scalar p) a b k.fits k.of m.fits m.of in
    record { fits = both.0; of = both.1 }

kept_fits : (scalar : Scalar) (l : Limits) → IsLawful l.ends → (a : AbsVal) → IsKept scalar l a → FitsAbsVal (kind_of l.size l.ends) a
kept_fits scalar l law a k = subst (λ ts. FitsWith l.size ts a) (sym (kind_thresholds l.size l.ends law)) k.fits

-- kept values have one kind
pub kept_alike : (scalar : Scalar) (l : Limits) → IsLawful l.ends → (a b : AbsVal) → IsKept scalar l a → IsKept scalar l b → AreAlike FitsAbsVal a b
kept_alike scalar l law a b k m = (kind_of l.size l.ends, kept_fits scalar l law a k, kept_fits scalar l law b m)

refined_alike : (cmp : Cmp) (l : Limits) (a b x y : AbsVal) → a ≡ x → b ≡ y → refined_of cmp l.ends a b ≡ refined_of cmp l.ends x y
refined_alike cmp l a b x y e f = ap (λ v. refined_of cmp l.ends v b) e ∙ ap (refined_of cmp l.ends x) f

-- what two comparisons leave of all numbers of a scalar
pub between_ok : {E : Type 0} (scalar : Scalar) (l : Limits) (low high : ℤ) (all least greatest from : AbsVal) (r : Result AbsVal E) → all ≡ top_of scalar → least ≡ exactly_of scalar l.size l.ends (Int low) → greatest ≡ exactly_of scalar l.size l.ends (Int high) → from ≡ refined_of Ge l.ends all least → IfOk r (λ v. v ≡ refined_of Le l.ends from greatest) → IfOk r (λ v. v ≡ between_of scalar l low high)
between_ok scalar l low high all least greatest from (Ok v) e f g h m =
    m ∙ refined_alike Le l from greatest _ _ (h ∙ refined_alike Ge l all least _ _ e f) g
between_ok scalar l low high all least greatest from (Err u) e f g h m = tt
