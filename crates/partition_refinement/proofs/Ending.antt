-- Rounds come to an end.
use Rattle.std.proofs.Common.{◌≡◌, ℕ, suc, ◌+◌, ◌-◌, ◌<◌, ◌≤◌, inl, inr, List, [], ◌∷◌, length, Some, slice_get, refl, sym, arith}
use Rattle.std.proofs.lemmas.Bool.{cases_lt}
use Rattle.std.proofs.lemmas.Option.{slice_get_within, get_or_from_slice_get}
use Rattle.partition_refinement.specs.Relations.{class_of}
use Rattle.partition_refinement.specs.Stages.{IsStage}

-- how far the numbers of classes are below those of their functions
abbrev pub left_from : ℕ → List ℕ → ℕ
left_from i [] = 0
left_from i (c ∷ cs) = (i - c) + left_from (i + 1) cs

abbrev Grow : ℕ → List ℕ → List ℕ → Type 0
Grow i [] [] = Unit {0}
Grow i [] (y ∷ ys) = ⊥
Grow i (x ∷ xs) [] = ⊥
Grow i (x ∷ xs) (y ∷ ys) = (x ≤ y) × (y ≤ i) × Grow (i + 1) xs ys

grow_of : (i : ℕ) (xs ys : List ℕ) → length xs ≡ length ys → ((k x y : ℕ) → slice_get xs k ≡ Some x → slice_get ys k ≡ Some y → (x ≤ y) × (y ≤ i + k)) → Grow i xs ys
grow_of i [] [] e h = tt
grow_of i [] (y ∷ ys) e h = absurd (omega (arith, e))
grow_of i (x ∷ xs) [] e h = absurd (omega (arith, e))
grow_of i (x ∷ xs) (y ∷ ys) e h =
    let one = h 0 x y refl refl in
    let high = one.1 in
    (one.0, omega (arith, high), grow_of (i + 1) xs ys (omega (arith, e)) (λ k a b u v. let more = h (suc k) a b u v in let top = more.1 in (more.0, omega (arith, top))))

left_no_more : (i : ℕ) (xs ys : List ℕ) → Grow i xs ys → left_from i ys ≤ left_from i xs
left_no_more i [] [] g = omega arith
left_no_more i [] (y ∷ ys) g = absurd g
left_no_more i (x ∷ xs) [] g = absurd g
left_no_more i (x ∷ xs) (y ∷ ys) g = let more = left_no_more (i + 1) xs ys g.2 in let low = g.0 in let high = g.1 in omega (arith, more, low, high)

left_less : (i : ℕ) (xs ys : List ℕ) → Grow i xs ys → (ys ≡ xs → ⊥) → left_from i ys < left_from i xs
left_less i [] [] g h = absurd (h refl)
left_less i [] (y ∷ ys) g h = absurd g
left_less i (x ∷ xs) [] g h = absurd g
left_less i (x ∷ xs) (y ∷ ys) g h = elim (cases_lt x y) [
  | inl l ↦ let more = left_no_more (i + 1) xs ys g.2 in let high = g.1 in omega (arith, more, l, high)
  | inr l ↦
      let low = g.0 in
      let same : y ≡ x = omega (arith, low, l) in
      let more = left_less (i + 1) xs ys g.2 (λ e. h (λ k. same k ∷ e k)) in
      omega (arith, more, same)
]

module _ (first : List ℕ) (rows : List (List ℕ)) (old new : List ℕ) (before : IsStage first rows old) (after : IsStage old rows new) where
  -- the number of a class only grows
  class_grows : (i : ℕ) → i < length old → class_of old i ≤ class_of new i
  class_grows i l =
      let size = before.count in
      let within = after.low i l in
      let low = before.low (class_of new i) (omega (arith, within, l, size)) in
      let same = after.finer (class_of new i) i (omega (arith, within, l)) l (after.named i l) in
      omega (arith, low, same)

  grows : Grow 0 old new
  grows = grow_of 0 old new (sym after.count) (λ k x y a b.
      let l = slice_get_within old k x a in
      let here = get_or_from_slice_get old k x k a in
      let there = get_or_from_slice_get new k y k b in
      let more = class_grows k l in
      let low = after.low k l in
      (omega (arith, here, there, more), omega (arith, there, low)))

  pub stage_no_more : left_from 0 new ≤ left_from 0 old
  stage_no_more = left_no_more 0 old new grows

  -- what splits a class leaves less
  pub stage_less : (new ≡ old → ⊥) → left_from 0 new < left_from 0 old
  stage_less other = left_less 0 old new grows other

pub less_then : (a b c : ℕ) → a < b → b ≤ c → a < c
less_then a b c l m = omega (arith, l, m)
