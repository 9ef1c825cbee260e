-- Lists changed at one item.
use Rattle.std.specs.Prelude.{ℕ, ◌==◌, Bool, true, false, ◌&&◌, if◌then◌else◌, List, [], ◌∷◌}

-- the list with its first item that passes the test changed
unfoldable pub update_first : {X : Type 0} → (X → Bool) → (X → X) → List X → List X
update_first p f [] = []
update_first p f (x ∷ xs) = if p x then f x ∷ xs else x ∷ update_first p f xs
