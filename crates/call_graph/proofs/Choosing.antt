-- Where some node does not stand, some class is ready.
use Rattle.std.proofs.Common.{◌≡◌, ℕ, zero, suc, ◌<◌, ◌≤◌, ◌+◌, ◌⊎◌, inl, inr, Bool, true, false, List, [], ◌∷◌, length, get_or, refl, sym, ◌∙◌, ap, arith}
use Rattle.std.specs.List.{Contains}
use Rattle.std.proofs.lemmas.Bool.{cases_Bool, cases_lt}
use Rattle.graph_walk.specs.Walk.{Walk, met, unmarked, IsWalk}
use Rattle.graph_walk.proofs.Leading.{reached_then}
use Rattle.graph_walk.proofs.Walking.{marked_inside, walk_start, walk_done, walked_marks, step_kept, step_work}
use Rattle.call_graph.specs.Graph.{Leads, start, along, AreMarks, IsReady}

abbrev pub marked : List Bool → ℕ
marked [] = 0
marked (true ∷ xs) = suc (marked xs)
marked (false ∷ xs) = marked xs

marked_below : (xs ys : List Bool) → length xs ≡ length ys → ((k : ℕ) → get_or xs k false ≡ true → get_or ys k false ≡ true) → marked xs ≤ marked ys
marked_below [] ys len f = omega arith
marked_below (x ∷ xs) [] len f = let no : ⊥ = omega (arith, len) in elim no [ ]
marked_below (true ∷ xs) (true ∷ ys) len f = let h = marked_below xs ys (omega (arith, len)) (λ k. f (suc k)) in omega (arith, h)
marked_below (true ∷ xs) (false ∷ ys) len f = let h = f 0 refl in cc h
marked_below (false ∷ xs) (true ∷ ys) len f = let h = marked_below xs ys (omega (arith, len)) (λ k. f (suc k)) in omega (arith, h)
marked_below (false ∷ xs) (false ∷ ys) len f = let h = marked_below xs ys (omega (arith, len)) (λ k. f (suc k)) in omega (arith, h)

-- one mark more at least
pub marked_less : (xs ys : List Bool) (i : ℕ) → length xs ≡ length ys → ((k : ℕ) → get_or xs k false ≡ true → get_or ys k false ≡ true) → get_or xs i false ≡ false → get_or ys i false ≡ true → marked xs < marked ys
marked_less [] [] i len f low high = cc high
marked_less [] (y ∷ ys) i len f low high = let no : ⊥ = omega (arith, len) in elim no [ ]
marked_less (x ∷ xs) [] i len f low high = let no : ⊥ = omega (arith, len) in elim no [ ]
marked_less (true ∷ xs) (y ∷ ys) zero len f low high = cc low
marked_less (false ∷ xs) (false ∷ ys) zero len f low high = cc high
marked_less (false ∷ xs) (true ∷ ys) zero len f low high = let h = marked_below xs ys (omega (arith, len)) (λ k. f (suc k)) in omega (arith, h)
marked_less (true ∷ xs) (true ∷ ys) (suc i) len f low high = let h = marked_less xs ys i (omega (arith, len)) (λ k. f (suc k)) low high in omega (arith, h)
marked_less (true ∷ xs) (false ∷ ys) (suc i) len f low high = let h = f 0 refl in cc h
marked_less (false ∷ xs) (true ∷ ys) (suc i) len f low high = let h = marked_less xs ys i (omega (arith, len)) (λ k. f (suc k)) low high in omega (arith, h)
marked_less (false ∷ xs) (false ∷ ys) (suc i) len f low high = let h = marked_less xs ys i (omega (arith, len)) (λ k. f (suc k)) low high in omega (arith, h)

module _ (out : ℕ → List ℕ) (n : ℕ) (tells : (a : ℕ) → a < n → (marks : List Bool) × AreMarks out n a marks)
    (ends : (x y : ℕ) → Contains (out x) y → y < n) (standing : List ℕ) (stands : (y : ℕ) → y < n → Contains standing y ⊎ (Contains standing y → ⊥)) where
  -- the marks of what a node reaches
  pub marks_of : (a : ℕ) → a < n → List Bool
  marks_of a p = (tells a p).0

  pub marks_are : (a : ℕ) (p : a < n) → AreMarks out n a (marks_of a p)
  unfolding marks_of
  marks_are a p = (tells a p).1

  decided : (a b : ℕ) (p : a < n) → b < n → Leads out a b ⊎ (get_or (marks_of a p) b false ≡ false)
  decided a b p q = elim (cases_Bool (get_or (marks_of a p) b false)) [ inl is ↦ inl (((marks_are a p).exact b q).0 is) | inr off ↦ inr off ]

  -- what is reached from y, where y is reached from a and does not reach a, is less
  fewer : (a y : ℕ) (p : a < n) (q : y < n) → Leads out a y → get_or (marks_of y q) a false ≡ false → marked (marks_of y q) < marked (marks_of a p)
  fewer a y p q r away = marked_less (marks_of y q) (marks_of a p) a ((marks_are y q).one_each ∙ sym (marks_are a p).one_each)
      (λ k h. let low = marked_inside (marks_of y q) k h in let inside : k < n = omega (arith, low, (marks_are y q).one_each) in
      ((marks_are a p).exact k inside).1 (reached_then out a y k r (((marks_are y q).exact k inside).0 h)))
      away (((marks_are a p).exact a p).1 start)

  pub none_left : ((a : ℕ) → a < n → (Contains standing a → ⊥) → IsReady out standing a → ⊥) → (k a : ℕ) (p : a < n) → (Contains standing a → ⊥) → marked (marks_of a p) < k → ⊥
  none_left none zero a p new low = omega (arith, low)
  none_left none (suc k) a p new low = none a p new (λ x y both h.
      let q = ends x y h in
      let to_y = along x y both.0 h in
      elim (stands y q) [
        | inl yes_stands ↦ inl yes_stands
        | inr not_stands ↦ elim (decided y a q p) [
          | inl back ↦ inr (to_y, back)
          | inr away ↦
              let less = fewer a y p q to_y away in
              let no = none_left none k y q not_stands (omega (arith, less, low)) in
              elim no [ ]
        ]
      ])

  -- where no class is ready, all nodes stand
  pub all_stand : ((a : ℕ) → a < n → (Contains standing a → ⊥) → IsReady out standing a → ⊥) → (a : ℕ) → a < n → Contains standing a
  all_stand none a p = elim (stands a p) [
    | inl is ↦ is
    | inr new ↦ let no = none_left none (suc (marked (marks_of a p))) a p new (omega arith) in elim no [ ]
  ]

falses : ℕ → List Bool
falses zero = []
falses (suc n) = false ∷ falses n

falses_length : (n : ℕ) → length (falses n) ≡ n
unfolding falses
falses_length zero = refl
falses_length (suc n) = ap suc (falses_length n)

falses_off : (n a : ℕ) → get_or (falses n) a false ≡ false
unfolding falses
falses_off zero a = refl
falses_off (suc n) zero = refl
falses_off (suc n) (suc a) = falses_off n a

module _ (out : ℕ → List ℕ) (n root : ℕ) (ends : (x y : ℕ) → Contains (out x) y → y < n) where
  walk_ends : (fuel followed : ℕ) (w : Walk) → IsWalk out (falses n) root followed w → unmarked w.marks + length w.nodes < followed + fuel → (ms : List Bool) × AreMarks out n root ms
  walk_ends zero followed w walk low = absurd (omega (arith, low, walk.followed_met))
  walk_ends (suc fuel) followed w walk low = elim (cases_lt followed (length w.nodes)) [
    | inl inside ↦
        let a = get_or w.nodes followed 0 in
        let v = met (out a) w in
        let inner : (b : ℕ) → Contains (out a) b → b < length (falses n) = λ b h. let under = ends a b h in omega (arith, under, falses_length n) in
        let work = step_work out (falses n) root followed w walk a inside refl (out a) v refl inner refl in
        walk_ends fuel (followed + 1) v (step_kept out (falses n) root followed w walk a inside refl (out a) v refl inner refl) (omega (arith, work, low))
    | inr end ↦
        (w.marks, walked_marks out n root (falses n) w.marks w.nodes (falses_length n) (falses_off n) (walk_done out (falses n) root followed w walk (omega (arith, end, walk.followed_met))))
  ]

  -- there are marks of what a node reaches
  pub marks_found : root < n → (ms : List Bool) × AreMarks out n root ms
  marks_found low =
      let w : Walk = met (root ∷ []) (record { marks = falses n; nodes = [] }) in
      walk_ends (suc (unmarked w.marks + length w.nodes)) 0 w (walk_start out (falses n) root (omega (arith, low, falses_length n))) (omega arith)
