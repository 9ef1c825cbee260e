-- The place of the first item that passes.
use Rattle.std.proofs.Common.{◌≡◌, sym, refl, ℕ, ◌<◌, ◌≤◌, Bool, true, false, cond, nat_lt, List, [], ◌∷◌, length, Option, Some, None, arith}
use Rattle.std.specs.List.{position, position_or_len}
use Rattle.std.proofs.lemmas.Bool.{ltb-false}
use Rattle.std.proofs.lemmas.List.Sums.{fails_before_first}
use Rattle.std.proofs.lemmas.List.Quantifiers.{position-Some}
use Rattle.gimple_exec.specs.Places.{IsPlace}
use Rattle.gimple_exec.proofs.PlaceLemmas.{first_at, place_none}

missing : (b : Bool) (n : ℕ) → cond b (Some n) None ≡ None → b ≡ false
missing true n h = cc
missing false n h = refl

-- a place by `position`
pub place_by : {X : Type 0} (p : X → Bool) (xs : List X) (r : Option ℕ) → r ≡ position p xs → IsPlace p xs r
place_by p xs None e =
    let high : length xs ≤ position_or_len p xs = ltb-false (position_or_len p xs) (length xs) (missing (nat_lt (position_or_len p xs) (length xs)) (position_or_len p xs) (sym e)) in
    place_none p xs (position_or_len p xs) (λ k d l. fails_before_first p xs k d l) (omega (arith, high))
place_by p [] (Some k) e = cc
place_by p (x ∷ xs) (Some k) e =
    let found = position-Some p (x ∷ xs) k x (sym e) in
    first_at p (x ∷ xs) k x found.0 (λ i d l. (position-Some p (x ∷ xs) k d (sym e)).2 i l) found.1

-- the position of the first that passes, by its number
pub position_here : {X : Type 0} (p : X → Bool) (xs : List X) (k : ℕ) → k ≡ position_or_len p xs → k < length xs → Some k ≡ position p xs
position_here p xs k e l =
    let back : position_or_len p xs ≡ k = sym e in
    let at : position p xs ≡ Some k = rw back (grind arith) in
    sym at

pub position_missing : {X : Type 0} (p : X → Bool) (xs : List X) (k : ℕ) → k ≡ position_or_len p xs → length xs ≤ k → None ≡ position p xs
position_missing p xs k e l =
    let back : position_or_len p xs ≡ k = sym e in
    let at : position p xs ≡ None = rw back (grind arith) in
    sym at
