-- Where a member is placed.
use Rattle.std.proofs.Common.{◌≡◌, ℕ, zero, suc, ◌<◌, Bool, true, false, refl, ap, arith, List, [], ◌∷◌, ◌++◌, length, get_or}
use Rattle.std.specs.List.{insert}
use Rattle.lattice_parts.specs.Sets.{IsOrder, placed}

one_way : {X : Type 0} (lt : X → X → Bool) → IsOrder lt → (x y : X) → lt x y ≡ true → lt y x ≡ false
one_way lt o x y h = by (lt y x) refl
  where
    by : (b : Bool) → lt y x ≡ b → b ≡ false
    by true e = let f = o.transitive x y x h e in let g = o.apart x in cc
    by false e = refl

pub place_at : {X : Type 0} (lt : X → X → Bool) → IsOrder lt → (c : X) (xs : List X) (i : ℕ) (d : X) → ((k : ℕ) → k < i → lt (get_or xs k d) c ≡ true) → i < length xs → lt c (get_or xs i d) ≡ true → placed lt c xs ≡ insert xs i c
place_at lt o c [] i d each h e = absurd (omega arith)
place_at lt o c (x ∷ xs) zero d each h e = rw e refl
place_at lt o c (x ∷ xs) (suc i) d each h e =
    let first : lt x c ≡ true = each zero (omega arith) in
    let other : lt c x ≡ false = one_way lt o x c first in
    let rest = place_at lt o c xs i d (λ k l. each (suc k) (omega arith)) (omega arith) e in
    rw (other, first) (ap (λ ys. x ∷ ys) rest)

pub place_same : {X : Type 0} (lt : X → X → Bool) → IsOrder lt → (c : X) (xs : List X) (i : ℕ) (d : X) → ((k : ℕ) → k < i → lt (get_or xs k d) c ≡ true) → i < length xs → lt c (get_or xs i d) ≡ false → lt (get_or xs i d) c ≡ false → placed lt c xs ≡ xs
place_same lt o c [] i d each h e f = absurd (omega arith)
place_same lt o c (x ∷ xs) zero d each h e f = rw (e, f) refl
place_same lt o c (x ∷ xs) (suc i) d each h e f =
    let first : lt x c ≡ true = each zero (omega arith) in
    let other : lt c x ≡ false = one_way lt o x c first in
    let rest = place_same lt o c xs i d (λ k l. each (suc k) (omega arith)) (omega arith) e f in
    rw (other, first) (ap (λ ys. x ∷ ys) rest)

place_end : {X : Type 0} (lt : X → X → Bool) → IsOrder lt → (c : X) (xs : List X) (d : X) → ((k : ℕ) → k < length xs → lt (get_or xs k d) c ≡ true) → placed lt c xs ≡ xs ++ c ∷ []
place_end lt o c [] d each = refl
place_end lt o c (x ∷ xs) d each =
    let first : lt x c ≡ true = each zero (omega arith) in
    let other : lt c x ≡ false = one_way lt o x c first in
    let rest = place_end lt o c xs d (λ k l. each (suc k) (omega arith)) in
    rw (other, first) (ap (λ ys. x ∷ ys) rest)

pub place_last : {X : Type 0} (lt : X → X → Bool) → IsOrder lt → (c : X) (xs : List X) → ((k : ℕ) (d : X) → k < length xs → lt (get_or xs k d) c ≡ true) → placed lt c xs ≡ xs ++ c ∷ []
place_last lt o c [] each = refl
place_last lt o c (x ∷ xs) each = place_end lt o c (x ∷ xs) x (λ k h. each k x h)
