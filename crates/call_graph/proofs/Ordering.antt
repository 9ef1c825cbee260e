-- The order of the components is determined.
use Rattle.std.proofs.Common.{◌≡◌, ℕ, inl, inr, List, [], ◌∷◌, ◌++◌, refl, sym, subst, arith}
use Rattle.std.specs.List.{Contains}
use Rattle.call_graph.specs.Graph.{IsNext, IsComponent, IsAscending, IsOrderAfter, OrderIsOne}
use Rattle.graph_walk.proofs.Parting.{nothing, contains_cases, here, later}

-- the first of one list is not above a member of the other
first_same : (x : ℕ) (xs : List ℕ) (y : ℕ) (ys : List ℕ) → IsAscending (x ∷ xs) → IsAscending (y ∷ ys) → Contains (y ∷ ys) x → Contains (x ∷ xs) y → x ≡ y
first_same x xs y ys up over f g = elim (contains_cases y ys x f) [
  | inl e ↦ sym e
  | inr h ↦ elim (contains_cases x xs y g) [
    | inl e ↦ e
    | inr k ↦ let p = over.0 x h in let q = up.0 y k in omega (arith, p, q)
  ]
]

tail_in : (x : ℕ) (xs : List ℕ) (y : ℕ) (ys : List ℕ) → IsAscending (x ∷ xs) → x ≡ y → (z : ℕ) → Contains xs z → Contains (y ∷ ys) z → Contains ys z
tail_in x xs y ys up same z h f = elim (contains_cases y ys z f) [
  | inl e ↦ let p = up.0 z h in let no : ⊥ = omega (arith, p, same, e) in elim no [ ]
  | inr k ↦ k
]

pub ascending_same : (xs ys : List ℕ) → IsAscending xs → IsAscending ys → ((z : ℕ) → Contains xs z → Contains ys z) → ((z : ℕ) → Contains ys z → Contains xs z) → xs ≡ ys
ascending_same [] [] up over f g = refl
ascending_same [] (y ∷ ys) up over f g = let no = nothing y (g y (here y ys)) in elim no [ ]
ascending_same (x ∷ xs) [] up over f g = let no = nothing x (f x (here x xs)) in elim no [ ]
ascending_same (x ∷ xs) (y ∷ ys) up over f g =
    let same = first_same x xs y ys up over (f x (here x xs)) (g y (here y ys)) in
    let tails = ascending_same xs ys up.1 over.1
    (λ z h. tail_in x xs y ys up same z h (f z (later x xs z h)))
    (λ z h. tail_in y ys x xs over (sym same) z h (g z (later y ys z h))) in
    λ i. same i ∷ tails i

module _ (out : ℕ → List ℕ) (n : ℕ) where
  next_same : (standing : List ℕ) (a b : ℕ) → IsNext out n standing a → IsNext out n standing b → a ≡ b
  next_same standing a b p q =
      let low = p.least b q.is_node q.is_new q.ready in
      let high = q.least a p.is_node p.is_new p.ready in
      omega (arith, low, high)

  class_same : (a : ℕ) (xs ys : List ℕ) → IsComponent out n a xs → IsComponent out n a ys → xs ≡ ys
  class_same a xs ys p q = ascending_same xs ys p.ascends q.ascends (λ z h. (q.exact z).1 ((p.exact z).0 h)) (λ z h. (p.exact z).1 ((q.exact z).0 h))

  pub order_same : (standing : List ℕ) (xs ys : List (List ℕ)) → IsOrderAfter out n standing xs → IsOrderAfter out n standing ys → xs ≡ ys
  order_same standing [] [] p q = refl
  order_same standing [] (d ∷ ds) p ((b, next, _), _) = let no = next.is_new (p b next.is_node) in elim no [ ]
  order_same standing (c ∷ cs) [] ((a, next, _), _) q = let no = next.is_new (q a next.is_node) in elim no [ ]
  order_same standing (c ∷ cs) (d ∷ ds) ((a, p, k), ps) ((b, q, l), qs) =
      let P : ℕ → Type 0 = λ i. IsComponent out n i d in
      let same = class_same a c d k (subst P (sym (next_same standing a b p q)) l) in
      let Q : List ℕ → Type 0 = λ xs. IsOrderAfter out n (standing ++ xs) ds in
      let tails = order_same (standing ++ c) cs ds ps (subst Q (sym same) qs) in
      λ i. same i ∷ tails i

pub order_is_one_law : OrderIsOne
order_is_one_law out n xs ys p q = order_same out n [] xs ys p q
