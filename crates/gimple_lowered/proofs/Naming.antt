-- The place of the first item that passes, by its number.
use Rattle.std.proofs.Common.{◌≡◌, sym, ℕ, ◌<◌, ◌≤◌, Bool, List, length, Some, None, arith}
use Rattle.std.specs.List.{position, position_or_len}

pub position_here : {X : Type 0} (p : X → Bool) (xs : List X) (k : ℕ) → k ≡ position_or_len p xs → k < length xs → Some k ≡ position p xs
position_here p xs k e l =
    let back : position_or_len p xs ≡ k = sym e in
    let at : position p xs ≡ Some k = rw back (grind arith) in
    sym at

pub position_missing : {X : Type 0} (p : X → Bool) (xs : List X) (k : ℕ) → k ≡ position_or_len p xs → length xs ≤ k → None ≡ position p xs
position_missing p xs k e l =
    let back : position_or_len p xs ≡ k = sym e in
    let at : position p xs ≡ None = rw back (grind arith) in
    sym at
