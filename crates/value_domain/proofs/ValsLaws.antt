-- Sets of results hold the results, are monotone and fit.
use Rattle.std.proofs.Common.{cond, ◌≡◌, ℕ, ◌<◌, ◌≤◌, ◌⊎◌, inl, inr, Bool, true, false, refl, sym, ◌∙◌, ap, subst, arith, List, [], ◌∷◌, length, leb, Option, Some, None}
use Rattle.std.proofs.lemmas.Bool.{leb-true, leb-false}
use Rattle.gimple_ir.specs.declared.value.Constant.{Constant}
use Rattle.lattice_parts.specs.Sets.{Has, Ascending, Subset, Each, gathered, mapped, kept_members}
use Rattle.lattice_parts.specs.SetLemmas.{same_or_shorter, is_subset, subset_is, gathered_ascends, gathered_holds, gathered_monotone, gathered_from, mapped_ascends, mapped_holds, mapped_monotone, mapped_from, kept_holds, kept_from, kept_monotone, kept_ascends}
use Rattle.lattice_parts.proofs.LengthLemmas.{gathered_longer}
use Rattle.value_domain.specs.declared.vals.Vals.{Vals}
use Rattle.value_domain.specs.declared.vals.Vals.TheVariants.{Any, Nothing, Among}
use Rattle.value_domain.specs.Constants.{before}
use Rattle.value_domain.specs.OrderLemmas.{constant_order}
use Rattle.value_domain.specs.Values.{FitsAmong, FitsVals, vals_below, vals_capped}
use Rattle.value_domain.specs.ConstantOperators.{vals_of, pairs_vals, mapped_vals, kept_vals, constant_in}
use Rattle.value_domain.specs.Holding.{IsAmong, ValsOf}
use Rattle.gimple_ir.specs.declared.scalar.Scalar.{Scalar}

-- a set that fits, or none
abbrev pub MayFit : ℕ → Vals → Type 0
MayFit most Any = Unit {0}
MayFit most Nothing = Unit {0}
MayFit most (Among limit cs) = FitsAmong most limit cs

pub cap_cases : (limit : ℕ) (cs : List Constant) (P : Vals → Type 0) → (length cs ≤ limit → P (Among limit cs)) → P Any → P (vals_capped limit cs)
cap_cases limit cs P h k = by (leb (length cs) limit) refl
  where
    by : (b : Bool) → leb (length cs) limit ≡ b → P (cond b (Among limit cs) Any)
    by true e = h (leb-true (length cs) limit e)
    by false e = k

-- once there are more than the limit, further results leave any
pub past_limit : (limit : ℕ) (f : Constant → Constant → Option Constant) (xs ys acc : List Constant) → limit < length acc → vals_of limit (gathered before f xs ys acc) ≡ Any
past_limit limit f xs ys acc h = more (gathered before f xs ys acc) (let g = gathered_longer before f xs ys acc in omega (arith, g, h))
  where
    more : (cs : List Constant) → limit < length cs → vals_of limit cs ≡ Any
    more [] m = absurd (omega arith)
    more (c ∷ cs) m = by (leb (length (c ∷ cs)) limit) refl
      where
        by : (b : Bool) → leb (length (c ∷ cs)) limit ≡ b → cond b (Among limit (c ∷ cs)) Any ≡ Any
        by true e = let few = leb-true (length (c ∷ cs)) limit e in absurd (omega (arith, few, m))
        by false e = refl

pub of_holds : (limit : ℕ) (cs : List Constant) (c : Constant) → Has c cs → IsAmong (Some c) (vals_of limit cs)
of_holds limit [] c h = h
of_holds limit (d ∷ cs) c h = cap_cases limit (d ∷ cs) (IsAmong (Some c)) (λ _. h) tt

pub of_fits : (limit : ℕ) (cs : List Constant) → Ascending before cs → MayFit limit (vals_of limit cs)
of_fits limit [] a = tt
of_fits limit (c ∷ cs) a = cap_cases limit (c ∷ cs) (MayFit limit) (λ l. record { same = refl; rising = a; few = l; some = omega arith }) tt

pub of_scalar : (scalar : Scalar) (limit : ℕ) (cs : List Constant) → Each (λ c. constant_in scalar c ≡ true) cs → ValsOf scalar (vals_of limit cs)
of_scalar scalar limit [] h = tt
of_scalar scalar limit (c ∷ cs) h = cap_cases limit (c ∷ cs) (ValsOf scalar) (λ _. h) tt

-- below, and none only where the other is
pub record Rises (v w : Vals) : Type 0 where
  pub below : vals_below v w ≡ true
  pub empty : w ≡ Nothing → v ≡ Nothing

some_below : (xs : List Constant) (v : Vals) → vals_below Nothing v ≡ true
some_below xs Any = refl
some_below xs Nothing = refl
some_below xs (Among limit cs) = refl

pub nothing_rises : (v : Vals) → Rises Nothing v
nothing_rises v = record { below = some_below [] v; empty = λ _. refl }

pub any_rises : (v : Vals) → Rises v Any
any_rises v = record { below = under v; empty = λ e. cc }
  where
    under : (v : Vals) → vals_below v Any ≡ true
    under Any = refl
    under Nothing = refl
    under (Among limit cs) = refl

capped_some : (limit : ℕ) (cs : List Constant) → vals_capped limit cs ≡ Nothing → ⊥
capped_some limit cs e = cap_cases limit cs (λ v. v ≡ Nothing → ⊥) (λ _ f. cc) (λ f. cc) e

no_member : (c : Constant) (cs : List Constant) → Subset (c ∷ cs) [] → ⊥
no_member c cs s = s c (inl refl)

pub of_rises : (limit : ℕ) (xs ys : List Constant) → Ascending before xs → Ascending before ys → Subset xs ys → Rises (vals_of limit xs) (vals_of limit ys)
of_rises limit [] ys a b s = nothing_rises (vals_of limit ys)
of_rises limit (x ∷ xs) [] a b s = absurd (no_member x xs s)
of_rises limit (x ∷ xs) (y ∷ ys) a b s = by (same_or_shorter before constant_order (x ∷ xs) (y ∷ ys) a b s)
  where
    small : length (x ∷ xs) ≤ length (y ∷ ys) → Rises (vals_capped limit (x ∷ xs)) (vals_capped limit (y ∷ ys))
    small l = at (leb (length (y ∷ ys)) limit) refl (leb (length (x ∷ xs)) limit) refl
      where
        fits : (m n k : ℕ) → m ≤ n → leb n k ≡ true → leb m k ≡ false → ⊥
        fits m n k h e f = let p : n ≤ k = leb-true n k e in let q : k < m = leb-false m k f in omega arith

        at : (p : Bool) → leb (length (y ∷ ys)) limit ≡ p → (q : Bool) → leb (length (x ∷ xs)) limit ≡ q → Rises (cond q (Among limit (x ∷ xs)) Any) (cond p (Among limit (y ∷ ys)) Any)
        at false e q f = any_rises (cond q (Among limit (x ∷ xs)) Any)
        at true e true f = record { below = is_subset before constant_order (x ∷ xs) (y ∷ ys) s; empty = λ g. cc }
        at true e false f = absurd (fits (length (x ∷ xs)) (length (y ∷ ys)) limit l e f)

    by : ((x ∷ xs) ≡ (y ∷ ys)) ⊎ (length (x ∷ xs) < length (y ∷ ys)) → Rises (vals_capped limit (x ∷ xs)) (vals_capped limit (y ∷ ys))
    by (inl e) = small (let f : length (x ∷ xs) ≡ length (y ∷ ys) = ap length e in omega (arith, f))
    by (inr l) = small (omega arith)

-- ---- pairs
pub pairs_hold : (limit : ℕ) (f : Constant → Constant → Option Constant) (a b : Vals) (c d e : Constant) → IsAmong (Some c) a → IsAmong (Some d) b → f c d ≡ Some e → IsAmong (Some e) (pairs_vals limit f a b)
pairs_hold limit f Any b c d e h k m = tt
pairs_hold limit f Nothing b c d e h k m = absurd h
pairs_hold limit f (Among l xs) Any c d e h k m = tt
pairs_hold limit f (Among l xs) Nothing c d e h k m = absurd k
pairs_hold limit f (Among l xs) (Among n ys) c d e h k m = of_holds limit (gathered before f xs ys []) e (gathered_holds before constant_order f xs ys [] c d e h k m)

-- what is no constant is in any alone, and then so is each result
pub none_left : (limit : ℕ) (f : Constant → Constant → Option Constant) (a b : Vals) (q : Option Constant) → IsAmong None a → IsAmong q (pairs_vals limit f a b)
none_left limit f Any b q h = tt
none_left limit f Nothing b q h = absurd h
none_left limit f (Among l xs) b q h = absurd h

pub none_right : (limit : ℕ) (f : Constant → Constant → Option Constant) (a b : Vals) (q : Option Constant) → IsAmong None b → IsAmong q (pairs_vals limit f a b)
none_right limit f Any b q h = tt
none_right limit f Nothing b q h = tt
none_right limit f (Among l xs) Any q h = tt
none_right limit f (Among l xs) Nothing q h = absurd h
none_right limit f (Among l xs) (Among n ys) q h = absurd h

pub pairs_fit : (limit : ℕ) (f : Constant → Constant → Option Constant) (a b : Vals) → MayFit limit (pairs_vals limit f a b)
pairs_fit limit f Any b = tt
pairs_fit limit f Nothing b = tt
pairs_fit limit f (Among l xs) Any = tt
pairs_fit limit f (Among l xs) Nothing = tt
pairs_fit limit f (Among l xs) (Among n ys) = of_fits limit (gathered before f xs ys []) (gathered_ascends before constant_order f xs ys [] tt)

pub pairs_of : (scalar : Scalar) (limit : ℕ) (f : Constant → Constant → Option Constant) (a b : Vals) → ((c d e : Constant) → f c d ≡ Some e → constant_in scalar e ≡ true) → ValsOf scalar (pairs_vals limit f a b)
pairs_of scalar limit f Any b h = tt
pairs_of scalar limit f Nothing b h = tt
pairs_of scalar limit f (Among l xs) Any h = tt
pairs_of scalar limit f (Among l xs) Nothing h = tt
pairs_of scalar limit f (Among l xs) (Among n ys) h = of_scalar scalar limit (gathered before f xs ys []) (λ c m. elim (gathered_from before constant_order f xs ys [] c m) [
  | inl p ↦ h p.left p.right c p.is
  | inr n ↦ absurd n
])

pub pairs_rise : (limit : ℕ) (f : Constant → Constant → Option Constant) (a b c d : Vals) → FitsVals limit a → FitsVals limit b → FitsVals limit c → FitsVals limit d → vals_below a c ≡ true → vals_below b d ≡ true → Rises (pairs_vals limit f a b) (pairs_vals limit f c d)
pairs_rise limit f Nothing b c d m n o p h k = absurd m
pairs_rise limit f a Nothing c d m n o p h k = absurd n
pairs_rise limit f a b Nothing d m n o p h k = absurd o
pairs_rise limit f a b c Nothing m n o p h k = absurd p
pairs_rise limit f a b Any d m n o p h k = any_rises (pairs_vals limit f a b)
pairs_rise limit f a b (Among l us) Any m n o p h k = any_rises (pairs_vals limit f a b)
pairs_rise limit f Any b (Among l us) (Among j vs) m n o p h k = cc
pairs_rise limit f (Among i xs) Any (Among l us) (Among j vs) m n o p h k = cc
pairs_rise limit f (Among i xs) (Among g ys) (Among l us) (Among j vs) m n o p h k =
    of_rises limit (gathered before f xs ys []) (gathered before f us vs []) (gathered_ascends before constant_order f xs ys [] tt) (gathered_ascends before constant_order f us vs [] tt)
    (gathered_monotone before constant_order f xs ys us vs (subset_is before constant_order xs us h) (subset_is before constant_order ys vs k))

-- ---- one side
pub mapped_hold : (limit : ℕ) (g : Constant → Option Constant) (a : Vals) (c e : Constant) → IsAmong (Some c) a → g c ≡ Some e → IsAmong (Some e) (mapped_vals limit g a)
mapped_hold limit g Any c e h m = tt
mapped_hold limit g Nothing c e h m = absurd h
mapped_hold limit g (Among l xs) c e h m = of_holds limit (mapped before g xs []) e (mapped_holds before constant_order g xs [] c e h m)

pub mapped_fit : (limit : ℕ) (g : Constant → Option Constant) (a : Vals) → MayFit limit (mapped_vals limit g a)
mapped_fit limit g Any = tt
mapped_fit limit g Nothing = tt
mapped_fit limit g (Among l xs) = of_fits limit (mapped before g xs []) (mapped_ascends before constant_order g xs [] tt)

pub mapped_of : (scalar : Scalar) (limit : ℕ) (g : Constant → Option Constant) (a : Vals) → ((c e : Constant) → g c ≡ Some e → constant_in scalar e ≡ true) → ValsOf scalar (mapped_vals limit g a)
mapped_of scalar limit g Any h = tt
mapped_of scalar limit g Nothing h = tt
mapped_of scalar limit g (Among l xs) h = of_scalar scalar limit (mapped before g xs []) (λ c m. elim (mapped_from before constant_order g xs [] c m) [
  | inl p ↦ h p.0 c p.2
  | inr n ↦ absurd n
])

pub mapped_rise : (limit : ℕ) (g : Constant → Option Constant) (a c : Vals) → FitsVals limit a → FitsVals limit c → vals_below a c ≡ true → Rises (mapped_vals limit g a) (mapped_vals limit g c)
mapped_rise limit g Nothing c m o h = absurd m
mapped_rise limit g a Nothing m o h = absurd o
mapped_rise limit g a Any m o h = any_rises (mapped_vals limit g a)
mapped_rise limit g Any (Among l us) m o h = cc
mapped_rise limit g (Among i xs) (Among l us) m o h =
    of_rises limit (mapped before g xs []) (mapped before g us []) (mapped_ascends before constant_order g xs [] tt) (mapped_ascends before constant_order g us [] tt)
    (mapped_monotone before constant_order g xs us (subset_is before constant_order xs us h))

-- ---- tests
pub kept_hold : (p : Constant → Bool) (a : Vals) (o : Option Constant) → IsAmong o a → ((c : Constant) → o ≡ Some c → p c ≡ true) → IsAmong o (kept_vals p a)
kept_hold p Any o h each = tt
kept_hold p Nothing o h each = absurd h
kept_hold p (Among l xs) None h each = absurd h
kept_hold p (Among l xs) (Some c) h each = of_holds l (kept_members p xs) c (kept_holds p xs c h (each c refl))

pub kept_fit : (limit : ℕ) (p : Constant → Bool) (a : Vals) → FitsVals limit a → MayFit limit (kept_vals p a)
kept_fit limit p Any m = tt
kept_fit limit p Nothing m = tt
kept_fit limit p (Among l xs) m = subst (λ n. MayFit n (vals_of l (kept_members p xs))) m.same (of_fits l (kept_members p xs) (kept_ascends before p xs m.rising))

pub kept_of : (scalar : Scalar) (p : Constant → Bool) (a : Vals) → ValsOf scalar a → ValsOf scalar (kept_vals p a)
kept_of scalar p Any h = tt
kept_of scalar p Nothing h = tt
kept_of scalar p (Among l xs) h = of_scalar scalar l (kept_members p xs) (λ c m. h c (kept_from p xs c m).0)

pub kept_in : (scalar : Scalar) (a : Vals) → ValsOf scalar (kept_vals (constant_in scalar) a)
kept_in scalar Any = tt
kept_in scalar Nothing = tt
kept_in scalar (Among l xs) = of_scalar scalar l (kept_members (constant_in scalar) xs) (λ c m. (kept_from (constant_in scalar) xs c m).1)

pub kept_rise : (limit : ℕ) (p q : Constant → Bool) (a c : Vals) → FitsVals limit a → FitsVals limit c → ((d : Constant) → p d ≡ true → q d ≡ true) → vals_below a c ≡ true → Rises (kept_vals p a) (kept_vals q c)
kept_rise limit p q Nothing c m o le h = absurd m
kept_rise limit p q a Nothing m o le h = absurd o
kept_rise limit p q a Any m o le h = any_rises (kept_vals p a)
kept_rise limit p q Any (Among l us) m o le h = cc
kept_rise limit p q (Among i xs) (Among l us) m o le h =
    subst (λ n. Rises (vals_of n (kept_members p xs)) (vals_of l (kept_members q us))) (o.same ∙ sym m.same)
    (of_rises l (kept_members p xs) (kept_members q us) (kept_ascends before p xs m.rising) (kept_ascends before q us o.rising)
    (kept_monotone p q xs us le (subset_is before constant_order xs us h)))
