-- Kinds give back the thresholds that they were made of.
use Rattle.std.proofs.Common.{◌≡◌, ◌^◌, ℤ, pos, negsuc, ◌+ℤ◌, ◌-ℤ◌, ◌≤ℤ◌, inl, inr, refl, ◌∙◌, ap, arith, unsigned_abs, List, [], ◌∷◌}
use Rattle.std.proofs.lemmas.Int.{ints}
use Rattle.lattice_parts.specs.Sets.{Each}
use Rattle.value_domain.specs.RangeOperators.{lowest}
use Rattle.value_domain.specs.Values.{moved_up, moved_down}
use Rattle.value_domain.specs.Laws.{KindLimit, KindThresholds}

size_same : (z : ℤ) → pos 0 ≤ℤ z → pos (unsigned_abs z) ≡ z
size_same (pos n) h = refl
size_same (negsuc n) h = absurd (omega (arith, ints, h))

there_and_back : (z : ℤ) → lowest ≤ℤ z → (pos (unsigned_abs (z +ℤ pos (2 ^ 63))) -ℤ pos (2 ^ 63)) ≡ z
there_and_back z h =
    let s : pos (unsigned_abs (z +ℤ pos (2 ^ 63))) ≡ z +ℤ pos (2 ^ 63) = size_same (z +ℤ pos (2 ^ 63)) (omega (arith, ints, h)) in
    ap (λ (x : ℤ). x -ℤ pos (2 ^ 63)) s ∙ omega (arith, ints)

down_up : (ts : List ℤ) → Each (λ t. lowest ≤ℤ t) ts → moved_down (moved_up ts) ≡ ts
down_up [] h = refl
down_up (z ∷ zs) h =
    let first = there_and_back z (h z (inl refl)) in
    let rest = down_up zs (λ c m. h c (inr m)) in
    λ i. first i ∷ rest i

pub kind_limit : KindLimit
kind_limit most ts = refl

pub kind_thresholds : KindThresholds
kind_thresholds most ts law = down_up ts (λ c m. (law.words c m).0)
