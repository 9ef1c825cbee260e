-- What a row has when a number is put on it, and when items are.
use Rattle.std.proofs.Common.{◌≡◌, ℕ, ℤ, pos, List, [], ◌∷◌, ◌++◌, map, length, reverse, sym, ◌∙◌, ap}
use Rattle.std.proofs.lemmas.List.{reverse-append, reverse-reverse, length-map, map-append}
use Rattle.icf_classes.specs.Codes.{code_items, code_list}

-- a number behind the others is the first one from the other end
pub put_last : (xs : List ℤ) (z : ℤ) → reverse (xs ++ z ∷ []) ≡ z ∷ reverse xs
put_last xs z = reverse-append xs (z ∷ [])

-- the items and how many they were
pub list_put : {X Y : Type 0} (code : Y → List ℤ → List ℤ) (g : X → Y) (xs : List X) (old row : List ℤ) (n : ℕ) → row ≡ code_items code (map g xs) old → n ≡ length xs → pos n ∷ row ≡ code_list code (map g xs) old
unfolding code_list
list_put code g xs old row n put count = λ i. pos ((count ∙ sym (length-map xs g)) i) ∷ put i

-- names in a row behind one another
pub names_put : {X : Type 0} (name : X → List ℕ) (xs ys : List X) (none some all : List (List ℕ)) → none ≡ [] → some ≡ none ++ map name xs → all ≡ some ++ map name ys → all ≡ map name (xs ++ ys)
names_put name xs ys none some all e s a = a ∙ (ap (λ ns. ns ++ map name ys) (s ∙ ap (λ ns. ns ++ map name xs) e) ∙ sym (map-append name xs ys))

-- the row in the order in which it was put
pub turned : (xs row : List ℤ) → reverse xs ≡ row → xs ≡ reverse row
turned xs row e = sym (reverse-reverse xs) ∙ ap reverse e
