-- Members of lists of numbers, and where a list is parted.
use Rattle.std.proofs.Common.{◌≡◌, ℕ, ◌⊎◌, inl, inr, List, [], ◌∷◌, ◌++◌, refl, sym, arith}
use Rattle.std.specs.List.{Contains}
use Rattle.std.proofs.lemmas.List.Elements.{Contains-append_cases, Contains-append_left, Contains-append_right, Contains-push, Contains-push_cases}

pub nothing : (a : ℕ) → Contains [] a → ⊥
nothing a (k, low, _) = omega (arith, low)

pub single : (m a : ℕ) → Contains (m ∷ []) a → m ≡ a
single m a h = elim (Contains-push_cases [] m a h) [ inl none ↦ let no = nothing a none in elim no [ ] | inr e ↦ e ]

pub here : (m : ℕ) (ms : List ℕ) → Contains (m ∷ ms) m
here m ms = Contains-append_left (m ∷ []) ms m (Contains-push [] m)

pub later : (x : ℕ) (xs : List ℕ) (y : ℕ) → Contains xs y → Contains (x ∷ xs) y
later x xs y h = Contains-append_right (x ∷ []) xs y h

pub contains_cases : (x : ℕ) (xs : List ℕ) (y : ℕ) → Contains (x ∷ xs) y → (x ≡ y) ⊎ Contains xs y
contains_cases x xs y h = elim (Contains-append_cases (x ∷ []) xs y h) [ inl one ↦ inl (single x y one) | inr behind ↦ inr behind ]

pub push_then : (r rest : List ℕ) (t : ℕ) → (r ++ t ∷ []) ++ rest ≡ r ++ t ∷ rest
push_then [] rest t = refl
push_then (x ∷ r) rest t = λ i. x ∷ push_then r rest t i

no_parts : (lower upper : List ℕ) → [] ≡ lower ++ upper → (lower ≡ []) × (upper ≡ [])
no_parts [] upper e = (refl, sym e)
no_parts (x ∷ lower) upper e = cc e

-- a list that was pushed to is parted at its end or before its last number
pub push_parted : (xs : List ℕ) (t : ℕ) (lower upper : List ℕ) → xs ++ t ∷ [] ≡ lower ++ upper
    → ((lower ≡ xs ++ t ∷ []) × (upper ≡ [])) ⊎ ((rest : List ℕ) × (upper ≡ rest ++ t ∷ []) × (xs ≡ lower ++ rest))
push_parted xs t [] upper e = inr (xs, sym e, refl)
push_parted [] t (y ∷ lower) upper e =
    let head : t ≡ y = cc e in
    let tail : [] ≡ lower ++ upper = cc e in
    let (l, u) = no_parts lower upper tail in
    inl (cc (l, head), u)
push_parted (x ∷ xs) t (y ∷ lower) upper e =
    let head : x ≡ y = cc e in
    let tail : xs ++ t ∷ [] ≡ lower ++ upper = cc e in
    elim (push_parted xs t lower upper tail) [
      | inl (l, u) ↦ inl (cc (l, head), u)
      | inr (rest, u, s) ↦ inr (rest, u, cc (s, head))
    ]
