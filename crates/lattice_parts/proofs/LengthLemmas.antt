-- Results that are gathered are never fewer than what was there.
use Rattle.std.proofs.Common.{cond, suc, ◌≤◌, Bool, true, false, arith, List, [], ◌∷◌, length, Option, Some, None}
use Rattle.lattice_parts.specs.Sets.{placed, placed_some, mapped, gathered}

placed_longer : {X : Type 0} (lt : X → X → Bool) (c : X) (xs : List X) → length xs ≤ length (placed lt c xs)
placed_longer lt c [] = omega arith
placed_longer lt c (x ∷ xs) = let rest = placed_longer lt c xs in by (lt c x) (lt x c) rest
  where
    by : (a b : Bool) → length xs ≤ length (placed lt c xs) → suc (length xs) ≤ length (cond a (c ∷ (x ∷ xs)) (cond b (x ∷ placed lt c xs) (x ∷ xs)))
    by true b h = omega arith
    by false true h = omega arith
    by false false h = omega arith

some_longer : {X : Type 0} (lt : X → X → Bool) (c : Option X) (xs : List X) → length xs ≤ length (placed_some lt c xs)
some_longer lt None xs = omega arith
some_longer lt (Some c) xs = placed_longer lt c xs

mapped_longer : {X : Type 0} (lt : X → X → Bool) (g : X → Option X) (ys acc : List X) → length acc ≤ length (mapped lt g ys acc)
mapped_longer lt g [] acc = omega arith
mapped_longer lt g (y ∷ ys) acc =
    let one = some_longer lt (g y) acc in
    let rest = mapped_longer lt g ys (placed_some lt (g y) acc) in
    omega (arith, one, rest)

pub gathered_longer : {X : Type 0} (lt : X → X → Bool) (f : X → X → Option X) (xs ys acc : List X) → length acc ≤ length (gathered lt f xs ys acc)
gathered_longer lt f [] ys acc = omega arith
gathered_longer lt f (x ∷ xs) ys acc =
    let one = mapped_longer lt (f x) ys acc in
    let rest = gathered_longer lt f xs ys (mapped lt (f x) ys acc) in
    omega (arith, one, rest)
