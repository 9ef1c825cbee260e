-- The scalars of formals beside those that a call writes.
use Rattle.std.proofs.Common.{◌≡◌, ◌∙◌, ap, refl, sym, ℕ, zero, suc, ◌+◌, ◌<◌, ◌≤◌, ◌&&◌, Bool, true, false, List, [], ◌∷◌, map, length, drop, get_or, arith, add-one}
use Rattle.gimple_ir.specs.declared.scalar.Scalar.{Scalar}
use Rattle.gimple_ir.specs.declared.declarations.Register.{Register}
use Rattle.gimple_core.specs.Memory.{same_scalar}
use Rattle.gimple_core.specs.Run.{same_scalars}

abbrev pub scalars_of : List Register → List Scalar
scalars_of rs = map (λ r. r.scalar) rs

-- lists of different lengths differ
pub other_length : (rs : List Register) (ss : List Scalar) → (length rs ≡ length ss → ⊥) → false ≡ same_scalars (scalars_of rs) ss
other_length [] [] apart = absurd (apart refl)
other_length [] (s ∷ ss) apart = refl
other_length (r ∷ rs) [] apart = refl
other_length (r ∷ rs) (s ∷ ss) apart =
    by (same_scalar r.scalar s) (other_length rs ss (λ e. apart (ap suc e)))
  where
    by : (b : Bool) → false ≡ same_scalars (scalars_of rs) ss → false ≡ (b && same_scalars (scalars_of rs) ss)
    by true e = e
    by false e = refl

-- from a place on, by the scalars there
scalars_from : (rs : List Register) (ss : List Scalar) (k : ℕ) (r : Register) (s : Scalar) → k < length rs → length rs ≡ length ss → same_scalars (scalars_of (drop k rs)) (drop k ss) ≡ (same_scalar (get_or rs k r).scalar (get_or ss k s) && same_scalars (scalars_of (drop (suc k) rs)) (drop (suc k) ss))
scalars_from [] ss k r s l e = absurd (omega arith)
scalars_from (q ∷ rs) [] k r s l e = absurd (omega (arith, e))
scalars_from (q ∷ rs) (t ∷ ss) zero r s l e = refl
scalars_from (q ∷ rs) (t ∷ ss) (suc k) r s l e = scalars_from rs ss k r s (omega arith) (omega (arith, e))

pub scalars_differ : (rs : List Register) (ss : List Scalar) (k : ℕ) (r : Register) (s : Scalar) → k < length rs → length rs ≡ length ss → same_scalar (get_or rs k r).scalar (get_or ss k s) ≡ false → same_scalars (scalars_of (drop k rs)) (drop k ss) ≡ false
scalars_differ rs ss k r s l e other = scalars_from rs ss k r s l e ∙ ap (λ (b : Bool). b && same_scalars (scalars_of (drop (suc k) rs)) (drop (suc k) ss)) other

pub scalars_next : (rs : List Register) (ss : List Scalar) (k : ℕ) (r : Register) (s : Scalar) → k < length rs → length rs ≡ length ss → same_scalar (get_or rs k r).scalar (get_or ss k s) ≡ true → same_scalars (scalars_of (drop (k + 1) rs)) (drop (k + 1) ss) ≡ same_scalars (scalars_of (drop k rs)) (drop k ss)
scalars_next rs ss k r s l e same =
    ap (λ n. same_scalars (scalars_of (drop n rs)) (drop n ss)) (add-one k)
    ∙ sym (scalars_from rs ss k r s l e ∙ ap (λ (b : Bool). b && same_scalars (scalars_of (drop (suc k) rs)) (drop (suc k) ss)) same)

-- all of them have been met
pub scalars_end : (rs : List Register) (ss : List Scalar) (k : ℕ) → length rs ≤ k → length rs ≡ length ss → same_scalars (scalars_of (drop k rs)) (drop k ss) ≡ true
scalars_end [] [] zero l e = refl
scalars_end [] [] (suc k) l e = refl
scalars_end [] (s ∷ ss) k l e = absurd (omega (arith, e))
scalars_end (r ∷ rs) [] k l e = absurd (omega (arith, e))
scalars_end (r ∷ rs) (s ∷ ss) zero l e = absurd (omega arith)
scalars_end (r ∷ rs) (s ∷ ss) (suc k) l e = scalars_end rs ss k (omega arith) (omega (arith, e))
