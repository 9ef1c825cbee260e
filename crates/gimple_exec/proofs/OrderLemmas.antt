-- What stands in an ordered list, and how it stays ordered.
use Rattle.std.proofs.Common.{◌≡◌, ◌∙◌, ap, sym, refl, subst, ℕ, zero, suc, ◌+◌, ◌-◌, ◌<◌, ◌≤◌, ◌==◌, nat_lt, if◌then◌else◌, Bool, true, false, List, [], ◌∷◌, ◌++◌, length, get_or, set, take, arith, inl, inr, Some, None}
use mathlib.Core.Bool.{false≢true}
use Rattle.std.specs.List.{filter}
use Rattle.std.specs.List.Sorted.{IsPartitionedBy, IsPartitionPoint}
use Rattle.std.proofs.lemmas.Bool.{cases_lt, cond_both, ltb-true, ltb-false, lt-ltb}
use Rattle.std.proofs.lemmas.Bool.Decides.{nat_tests}
use Rattle.std.proofs.lemmas.List.{get_or_default, get_or_append_left, get_or_push, length_push, length-set, get_or-set_same, get_or-set_other, get_or-take, length-take-le}
use Rattle.gimple_ir.specs.declared.value.Object.{Object}
use Rattle.gimple_exec.specs.Order.{rank, precedes, IsOrdered, Follows, IsSplit, IsLatest}
use Rattle.gimple_exec.specs.Places.{IsPlace, IsFirstAt}
use Rattle.gimple_exec.proofs.AssignedLemmas.{NoneBefore}
use Rattle.gimple_exec.proofs.PlaceLemmas.{first_at, place_none}

-- ---- the order

pub precedes_self : (a : Object) (i : ℕ) → precedes a i a i ≡ false
unfolding precedes
precedes_self a i = grind (arith, nat_tests)

pub precedes_next : (a b c : Object) (i j k : ℕ) → precedes a i b j ≡ true → precedes b j c k ≡ true → precedes a i c k ≡ true
unfolding precedes
precedes_next a b c i j k e f = grind (arith, nat_tests)

pub precedes_rank : (a b : Object) (i j : ℕ) → precedes a i b j ≡ true → rank a ≤ rank b
unfolding precedes
precedes_rank a b i j e = grind (arith, nat_tests)

-- ---- what an ordered list keeps

abbrev pub Chains : {X : Type 0} → (X → X → Bool) → Type 0
Chains {X} before = (x y z : X) → before x y ≡ true → before y z ≡ true → before x z ≡ true

pub ordered_none : {X : Type 0} (before : X → X → Bool) → IsOrdered before []
ordered_none before i j d l m = absurd (omega arith)

pub ordered_push : {X : Type 0} (before : X → X → Bool) → Chains before → (xs : List X) (y : X) → IsOrdered before xs → ((d : X) → 0 < length xs → before (get_or xs (length xs - 1) d) y ≡ true) → IsOrdered before (xs ++ y ∷ [])
ordered_push {X} before chains xs y h last i j d l m =
    elim (cases_lt j (length xs)) as (λ _. before (get_or (xs ++ y ∷ []) i d) (get_or (xs ++ y ∷ []) j d) ≡ true) [
      | inl under ↦ rw (get_or_append_left xs (y ∷ []) d i (omega arith), get_or_append_left xs (y ∷ []) d j under) (h i j d l under)
      | inr over ↦
          let most : j < length xs + 1 = rw (sym (length_push xs y)) m in
          let same : length xs ≡ j = omega arith in
          rw (get_or_append_left xs (y ∷ []) d i (omega arith), get_or_push xs y d j same) (to_new i (omega arith))
    ]
  where
    to_new : (i : ℕ) → i < length xs → before (get_or xs i d) y ≡ true
    to_new i l = elim (cases_lt i (length xs - 1)) as (λ _. before (get_or xs i d) y ≡ true) [
      | inl under ↦ chains (get_or xs i d) (get_or xs (length xs - 1) d) y (h i (length xs - 1) d under (omega arith)) (last d (omega arith))
      | inr over ↦
          let same : length xs - 1 ≡ i = omega arith in
          subst (λ k. before (get_or xs k d) y ≡ true) same (last d (omega arith))
    ]

pub ordered_take : {X : Type 0} (before : X → X → Bool) (xs : List X) (k : ℕ) → k ≤ length xs → IsOrdered before xs → IsOrdered before (take k xs)
ordered_take before xs k most h i j d l m =
    let under : j < k = rw (sym (length-take-le k xs most)) m in
    rw (get_or-take k xs i d (omega arith), get_or-take k xs j d under) (h i j d l (omega arith))

pub ordered_set : {X : Type 0} (before : X → X → Bool) (f : X → X) → ((x y : X) → before (f x) y ≡ before x y) → ((x y : X) → before x (f y) ≡ before x y) → (xs : List X) (k : ℕ) (e : X) → k < length xs → IsOrdered before xs → IsOrdered before (set xs k (f (get_or xs k e)))
ordered_set {X} before f left right xs k e within h i j d l m =
    let most : j < length xs = rw (sym (length-set xs k (f (get_or xs k e)))) m in
    ap (λ x. before x (get_or (set xs k (f (get_or xs k e))) j d)) (at i (omega arith)) ∙ lefts i (get_or (set xs k (f (get_or xs k e))) j d) ∙ ap (before (get_or xs i d)) (at j most) ∙ rights j (get_or xs i d) ∙ h i j d l most
  where
    changed : ℕ → X
    changed n = if n == k then f (get_or xs n d) else get_or xs n d

    at : (n : ℕ) → n < length xs → get_or (set xs k (f (get_or xs k e))) n d ≡ changed n
    at n l = grind (arith, nat_tests, get_or-set_same xs k (f (get_or xs k e)) d within, get_or-set_other xs k n (f (get_or xs k e)) d, get_or_default xs k e d within)

    lefts : (n : ℕ) (y : X) → before (changed n) y ≡ before (get_or xs n d) y
    lefts n y = cond_both (n == k) (f (get_or xs n d)) (get_or xs n d) (λ x. before x y ≡ before (get_or xs n d) y) (λ _. left (get_or xs n d) y) (λ _. refl)

    rights : (n : ℕ) (y : X) → before y (changed n) ≡ before y (get_or xs n d)
    rights n y = cond_both (n == k) (f (get_or xs n d)) (get_or xs n d) (λ x. before y x ≡ before y (get_or xs n d)) (λ _. right y (get_or xs n d)) (λ _. refl)

-- ---- what stands in an ordered list

pub ordered_parts : {X : Type 0} (before : X → X → Bool) → Chains before → (t : X) (xs : List X) → IsOrdered before xs → IsPartitionedBy (λ x. before x t) xs
ordered_parts {X} before chains t xs h i j d l m e = elim (cases_lt i j) as (λ _. before (get_or xs i d) t ≡ true) [
  | inl under ↦ chains (get_or xs i d) (get_or xs j d) t (h i j d under m) e
  | inr over ↦
      let same : j ≡ i = omega arith in
      subst (λ k. before (get_or xs k d) t ≡ true) same e
]

-- a test that only items with the key of t pass
pub record Seeks {X : Type 0} (before : X → X → Bool) (t : X) (p : X → Bool) : Type 0 where
  pub chains : Chains before
  pub apart : (x : X) → before x t ≡ true → p x ≡ false
  pub reach : (x y : X) → p x ≡ true → before y x ≡ true → before y t ≡ true

abbrev Parts : {X : Type 0} → (X → X → Bool) → X → List X → ℕ → Type 0
Parts {X} before t xs at = IsPartitionPoint (λ x. before x t ≡ true) (λ x. before x t ≡ false) xs at

none_before : {X : Type 0} (before : X → X → Bool) (t : X) (p : X → Bool) → Seeks before t p → (xs : List X) (at : ℕ) → Parts before t xs at → NoneBefore p xs at
none_before before t p seeks xs at parts k d l = seeks.apart (get_or xs k d) (parts.0 k d (omega arith) l)

-- an item that passes is the first one
pub first_here : {X : Type 0} (before : X → X → Bool) (t : X) (p : X → Bool) → Seeks before t p → (xs : List X) (k : ℕ) (d : X) → IsOrdered before xs → k < length xs → p (get_or xs k d) ≡ true → IsFirstAt p xs k
first_here before t p seeks xs k d h l m =
    first_at p xs k d l (λ i e b. seeks.apart (get_or xs i e) (seeks.reach (get_or xs k d) (get_or xs i e) m (ap (before (get_or xs i e)) (get_or_default xs k d e l) ∙ h i k e b l))) m

pub place_there : {X : Type 0} (before : X → X → Bool) (t : X) (p : X → Bool) → Seeks before t p → (xs : List X) (at : ℕ) (d : X) → Parts before t xs at → at < length xs → p (get_or xs at d) ≡ true → IsPlace p xs (Some at)
place_there before t p seeks xs at d parts l e = first_at p xs at d l (none_before before t p seeks xs at parts) e

pub refuted : (b : Bool) → (b ≡ true → ⊥) → b ≡ false
refuted true h = absurd (h refl)
refuted false h = refl

pub place_nowhere : {X : Type 0} (before : X → X → Bool) (t : X) (p : X → Bool) → Seeks before t p → (xs : List X) (at : ℕ) → IsOrdered before xs → Parts before t xs at → ((d : X) → at < length xs → p (get_or xs at d) ≡ false) → IsPlace p xs None
place_nowhere {X} before t p seeks xs at h parts here = place_none p xs (length xs) nowhere (omega arith)
  where
    beyond : (k : ℕ) (d : X) → at < k → k < length xs → p (get_or xs k d) ≡ false
    beyond k d l m = refuted (p (get_or xs k d)) (λ e. false≢true (sym (parts.1 at d (omega arith) (omega arith)) ∙ seeks.reach (get_or xs k d) (get_or xs at d) e (h at k d l m)))

    from : (k : ℕ) (d : X) → at ≤ k → k < length xs → p (get_or xs k d) ≡ false
    from k d l m = elim (cases_lt at k) as (λ _. p (get_or xs k d) ≡ false) [
      | inl under ↦ beyond k d under m
      | inr over ↦
          let same : at ≡ k = omega arith in
          subst (λ n. p (get_or xs n d) ≡ false) same (here d (omega arith))
    ]

    nowhere : NoneBefore p xs (length xs)
    nowhere k d l = elim (cases_lt k at) as (λ _. p (get_or xs k d) ≡ false) [
      | inl under ↦ none_before before t p seeks xs at parts k d under
      | inr over ↦ from k d over l
    ]

pub place_nowhere_at : {X : Type 0} (before : X → X → Bool) (t : X) (p : X → Bool) → Seeks before t p → (xs : List X) (at : ℕ) (e : X) → IsOrdered before xs → Parts before t xs at → at < length xs → p (get_or xs at e) ≡ false → IsPlace p xs None
place_nowhere_at before t p seeks xs at e h parts l here =
    place_nowhere before t p seeks xs at h parts (λ d _. ap p (get_or_default xs at d e l) ∙ here)

-- a list after a push, which may fail
pub ordered_pushed : {X : Type 0} (before : X → X → Bool) → Chains before → (xs ys : List X) (y : X) (b : Bool) → ys ≡ (if b then xs ++ y ∷ [] else xs) → IsOrdered before xs → Follows before xs y → IsOrdered before ys
ordered_pushed before chains xs ys y b e h last =
    subst (λ zs. IsOrdered before zs) (sym e) (cond_both b (xs ++ y ∷ []) xs (λ zs. IsOrdered before zs) (λ _. ordered_push before chains xs y h last) (λ _. h))

-- ---- frames in an ordered list

abbrev pub Ranks : {X : Type 0} → (X → Object) → (X → X → Bool) → Type 0
Ranks {X} object before = (x y : X) → before x y ≡ true → rank (object x) ≤ rank (object y)

ranks_rise : {X : Type 0} (object : X → Object) (before : X → X → Bool) → Ranks object before → (xs : List X) → IsOrdered before xs → (i j : ℕ) (d : X) → i ≤ j → j < length xs → rank (object (get_or xs i d)) ≤ rank (object (get_or xs j d))
ranks_rise object before ranks xs h i j d l m = elim (cases_lt i j) as (λ _. rank (object (get_or xs i d)) ≤ rank (object (get_or xs j d))) [
  | inl under ↦ ranks (get_or xs i d) (get_or xs j d) (h i j d under m)
  | inr over ↦
      let same : i ≡ j = omega arith in
      subst (λ k. rank (object (get_or xs i d)) ≤ rank (object (get_or xs k d))) same (omega arith)
]

pub rank_parts : {X : Type 0} (object : X → Object) (before : X → X → Bool) → Ranks object before → (here : ℕ) (xs : List X) → IsOrdered before xs → IsPartitionedBy (λ x. nat_lt (rank (object x)) here) xs
rank_parts object before ranks here xs h i j d l m e =
    let rise = ranks_rise object before ranks xs h i j d l m in
    let low = ltb-true (rank (object (get_or xs j d))) here e in
    lt-ltb (rank (object (get_or xs i d))) here (omega (arith, rise, low))

pub split_from : {X : Type 0} (object : X → Object) (serial here : ℕ) (xs : List X) (at : ℕ) → here ≡ serial + 1 → at ≤ length xs → IsPartitionPoint (λ x. nat_lt (rank (object x)) here ≡ true) (λ x. nat_lt (rank (object x)) here ≡ false) xs at → IsSplit object serial xs at
split_from object serial here xs at e l parts = record {
  bound = l;
  front = λ i d m. let low = ltb-true (rank (object (get_or xs i d))) here (parts.0 i d (omega arith) m) in omega (arith, low, e);
  rest = λ i d m n. let high = ltb-false (rank (object (get_or xs i d))) here (parts.1 i d m n) in omega (arith, high, e);
}

-- the objects of a frame stand at the end, where the last object is of no later frame
pub all_latest : {X : Type 0} (object : X → Object) (before : X → X → Bool) → Ranks object before → (serial : ℕ) (xs : List X) → IsOrdered before xs → IsLatest object serial xs → (i : ℕ) (d : X) → i < length xs → rank (object (get_or xs i d)) ≤ serial + 1
all_latest object before ranks serial xs h latest i d l =
    let rise = ranks_rise object before ranks xs h i (length xs - 1) d (omega arith) (omega arith) in
    let last = latest d (omega arith) in
    omega (arith, rise, last)

-- ---- the items that pass a test, where they are the first ones

pub filter_front : {X : Type 0} (p : X → Bool) (xs : List X) (k : ℕ) → ((i : ℕ) (d : X) → i < k → i < length xs → p (get_or xs i d) ≡ true) → ((i : ℕ) (d : X) → k ≤ i → i < length xs → p (get_or xs i d) ≡ false) → filter p xs ≡ take k xs
filter_front p [] zero h t = refl
filter_front p [] (suc k) h t = refl
filter_front p (x ∷ xs) zero h t = rw (t 0 x (omega arith) (omega arith)) (filter_front p xs zero (λ i d l m. absurd (omega arith)) (λ i d l m. t (suc i) d (omega arith) (omega arith)))
filter_front p (x ∷ xs) (suc k) h t = rw (h 0 x (omega arith) (omega arith)) (ap (λ ys. x ∷ ys) (filter_front p xs k (λ i d l m. h (suc i) d (omega arith) (omega arith)) (λ i d l m. t (suc i) d (omega arith) (omega arith))))
