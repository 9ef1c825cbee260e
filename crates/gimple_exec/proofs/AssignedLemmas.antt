-- The first item that passes a test, changed in its place.
use Rattle.std.proofs.Common.{◌≡◌, ℕ, zero, suc, ◌+◌, ◌<◌, Bool, true, false, List, [], ◌∷◌, refl, sym, ap, length, get_or, set, arith, ◌∙◌, subst, inl, inr}
use Rattle.std.proofs.lemmas.Bool.{cases_lt}
use Rattle.gimple_core.specs.Names.{update_first}

-- no item before this place passes
abbrev pub NoneBefore : {X : Type 0} → (X → Bool) → List X → ℕ → Type 0
NoneBefore {X} p xs i = (k : ℕ) (d : X) → k < i → p (get_or xs k d) ≡ false

pub none_tail : {X : Type 0} (p : X → Bool) (x : X) (xs : List X) (i : ℕ) → NoneBefore p (x ∷ xs) (suc i) → NoneBefore p xs i
none_tail p x xs i h = λ k d l. h (suc k) d (omega arith)

pub update_first_at : {X : Type 0} (p : X → Bool) (f : X → X) (xs : List X) (i : ℕ) (d : X) → i < length xs → NoneBefore p xs i → p (get_or xs i d) ≡ true → update_first p f xs ≡ set xs i (f (get_or xs i d))
unfolding update_first
update_first_at p f [] i d l h t = absurd (omega arith)
update_first_at p f (x ∷ xs) zero d l h t = rw t refl
update_first_at p f (x ∷ xs) (suc i) d l h t =
    rw (h zero d (omega arith)) (ap (λ ys. x ∷ ys) (update_first_at p f xs i d (omega arith) (none_tail p x xs i h) t))

get_or_any : {X : Type 0} (xs : List X) (i : ℕ) (d e : X) → i < length xs → get_or xs i d ≡ get_or xs i e
get_or_any [] i d e l = absurd (omega arith)
get_or_any (x ∷ xs) zero d e l = refl
get_or_any (x ∷ xs) (suc i) d e l = get_or_any xs i d e (omega arith)

-- one more item that doesn't pass
pub none_more : {X : Type 0} (p : X → Bool) (xs : List X) (i : ℕ) (d : X) → NoneBefore p xs i → i < length xs → p (get_or xs i d) ≡ false → NoneBefore p xs (i + 1)
none_more {X} p xs i d h l t = λ k e b.
    elim (cases_lt k i) as (λ _. p (get_or xs k e) ≡ false) [
      | inl under ↦ h k e under
      | inr over ↦
          let same : k ≡ i = omega arith in
          subst (λ j. p (get_or xs j e) ≡ false) (sym same) (ap p (get_or_any xs i e d l) ∙ t)
    ]
