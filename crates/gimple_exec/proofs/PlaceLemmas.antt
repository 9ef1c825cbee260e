-- The first item that passes a test, by its place.
use Rattle.std.proofs.Common.{◌≡◌, ℕ, zero, suc, ◌+◌, ◌<◌, Bool, true, List, [], ◌∷◌, refl, ap, length, get_or, arith, ◌∙◌, Some, None}
use Rattle.std.specs.List.{find, position, position_or_len}
use Rattle.std.proofs.lemmas.List.Sums.{position_or_len_is}
use Rattle.std.proofs.lemmas.List.{get_or_default}
use Rattle.gimple_exec.specs.Places.{IsFirstAt}
use Rattle.gimple_exec.proofs.AssignedLemmas.{NoneBefore, none_tail}

pub find_at : {X : Type 0} (p : X → Bool) (xs : List X) (i : ℕ) (d : X) → i < length xs → NoneBefore p xs i → p (get_or xs i d) ≡ true → find p xs ≡ Some (get_or xs i d)
find_at p [] i d l h t = absurd (omega arith)
find_at p (x ∷ xs) zero d l h t = rw t refl
find_at p (x ∷ xs) (suc i) d l h t = rw (h zero d (omega arith)) (find_at p xs i d (omega arith) (none_tail p x xs i h) t)

find_none : {X : Type 0} (p : X → Bool) (xs : List X) → NoneBefore p xs (length xs) → find p xs ≡ None
find_none p [] h = refl
find_none p (x ∷ xs) h = rw (h zero x (omega arith)) (find_none p xs (none_tail p x xs (length xs) h))

position_at : {X : Type 0} (p : X → Bool) (xs : List X) (i : ℕ) (d : X) → i < length xs → NoneBefore p xs i → p (get_or xs i d) ≡ true → position p xs ≡ Some i
position_at p xs i d l h t =
    let e : position_or_len p xs ≡ i = position_or_len_is p xs i d (omega arith) (λ k b. h k d b) (λ _. t) in
    rw e (grind arith)

pub first_at : {X : Type 0} (p : X → Bool) (xs : List X) (i : ℕ) (d : X) → i < length xs → NoneBefore p xs i → p (get_or xs i d) ≡ true → IsFirstAt p xs i
first_at p xs i d l h t = record {
  within = l;
  found = λ e. find_at p xs i e l h (ap p (get_or_default xs i e d l) ∙ t);
  place = position_at p xs i d l h t;
}

pub place_none : {X : Type 0} (p : X → Bool) (xs : List X) (i : ℕ) → NoneBefore p xs i → (length xs < i + 1) → find p xs ≡ None
place_none p xs i h l = find_none p xs (λ k d b. h k d (omega arith))
