-- The root of the tree of marks is the least marked number.
use Rattle.std.proofs.Common.{◌≡◌, ◌≢◌, ℕ, zero, suc, ◌+◌, ◌-◌, ◌*◌, ◌/◌, ◌<◌, ◌≤◌, ◌⊎◌, inl, inr, Bool, true, false, List, length, get_or, sym, subst, arith}
use Rattle.std.proofs.lemmas.List.{get_or_read}
use Rattle.std.proofs.lemmas.Bool.{cases_Bool, cases_lt}
use Rattle.std.proofs.lemmas.Bool.Decides.{eqb_tells}
use Rattle.fix_engine.specs.Marks.{IsFirstMark, IsTree, own_place}

module _ (marked : List Bool) (least : List ℕ) (tree : IsTree marked least) where
  root_from : (fuel j : ℕ) → j ≤ fuel → 0 < j → j < 2 * length marked → get_or least 1 0 ≤ get_or least j 0
  root_from zero j le low high = absurd (omega (arith, le, low))
  root_from (suc fuel) j le low high =
      elim (eqb_tells j 1) [
        | inl same ↦ let P : ℕ → Type 0 = λ i. get_or least 1 0 ≤ get_or least i 0 in subst P (sym same.1) (omega arith)
        | inr other ↦
            let apart = other.1 in
            let up : get_or least 1 0 ≤ get_or least (j / 2) 0 = root_from fuel (j / 2) (omega (arith, le, low, apart)) (omega (arith, low, apart)) (omega (arith, high)) in
            let here = tree.renewed (j / 2) (omega (arith, low, apart)) (omega (arith, high)) (omega (arith, low, apart)) in
            elim (eqb_tells j (2 * (j / 2))) [
              | inl even ↦
                  let P : ℕ → Type 0 = λ i. get_or least (j / 2) 0 ≤ get_or least i 0 in
                  let step : get_or least (j / 2) 0 ≤ get_or least j 0 = subst P (sym even.1) (omega (arith, here)) in
                  omega (arith, up, step)
              | inr odd ↦
                  let is_odd = odd.1 in
                  let next : 2 * (j / 2) + 1 ≡ j = omega (arith, is_odd) in
                  let P : ℕ → Type 0 = λ i. get_or least (j / 2) 0 ≤ get_or least i 0 in
                  let step : get_or least (j / 2) 0 ≤ get_or least j 0 = subst P next (omega (arith, here)) in
                  omega (arith, up, step)
            ]
      ]

  -- a marked number is not below the root
  root_below : (e : ℕ) → e < length marked → get_or marked e false ≡ true → get_or least 1 0 ≤ e
  root_below e lt is =
      let up = root_from (length marked + e) (length marked + e) (omega arith) (omega (arith, lt)) (omega (arith, lt)) in
      let P : Bool → Type 0 = λ b. get_or least (length marked + e) 0 ≡ own_place b e in
      let own = subst P is (tree.own e lt) in
      omega (arith, up, own)

  -- what stands at a place is a marked number, or stands for none
  found_at : (fuel i : ℕ) → 2 * length marked ≤ i + fuel → 0 < i → i < 2 * length marked
      → (get_or least i 0 ≡ 4294967295) ⊎ ((get_or least i 0 < length marked) × (get_or marked (get_or least i 0) false ≡ true))
  found_at zero i le low high = absurd (omega (arith, le, high))
  found_at (suc fuel) i le low high =
      elim (cases_lt i (length marked)) [
        | inl lt ↦
            let here = tree.renewed i low lt (omega (arith, low)) in
            let left = found_at fuel (2 * i) (omega (arith, le, low)) (omega (arith, low)) (omega (arith, lt)) in
            let right = found_at fuel (2 * i + 1) (omega (arith, le, low)) (omega (arith, low)) (omega (arith, lt)) in
            let P : ℕ → Type 0 = λ x. (x ≡ 4294967295) ⊎ ((x < length marked) × (get_or marked x false ≡ true)) in
            elim (cases_lt (get_or least (2 * i) 0) (get_or least (2 * i + 1) 0)) [
              | inl l ↦
                  let is : get_or least (2 * i) 0 ≡ get_or least i 0 = omega (arith, here, l) in
                  subst P is left
              | inr l ↦
                  let is : get_or least (2 * i + 1) 0 ≡ get_or least i 0 = omega (arith, here, l) in
                  subst P is right
            ]
        | inr le2 ↦
            let e = i - length marked in
            let at : length marked + e ≡ i = omega (arith, le2) in
            let lt : e < length marked = omega (arith, le2, high) in
            let P : ℕ → Type 0 = λ j. get_or least j 0 ≡ own_place (get_or marked e false) e in
            let own = subst P at (tree.own e lt) in
            elim (cases_Bool (get_or marked e false)) [
              | inl yet ↦
                  let Q : Bool → Type 0 = λ b. get_or least i 0 ≡ own_place b e in
                  let is : get_or least i 0 ≡ e = subst Q yet own in
                  let R : ℕ → Type 0 = λ x. (x < length marked) × (get_or marked x false ≡ true) in
                  inr (subst R (sym is) (lt, yet))
              | inr clear ↦ let Q : Bool → Type 0 = λ b. get_or least i 0 ≡ own_place b e in inl (subst Q clear own)
            ]
      ]

  root_read : (x : ℕ) → x ≡ get_or least 1 x → 0 < length marked → x ≡ get_or least 1 0
  root_read x is some = get_or_read least 1 x (omega (arith, some, tree.both_each)) is 0

  -- the root is the least marked number
  pub root_first : (x : ℕ) → x ≡ get_or least 1 x → 0 < length marked → x ≢ 4294967295 → IsFirstMark marked x
  root_first x is some apart =
      let read = root_read x is some in
      let P : ℕ → Type 0 = λ y. (y ≡ 4294967295) ⊎ ((y < length marked) × (get_or marked y false ≡ true)) in
      elim (subst P (sym read) (found_at (2 * length marked) 1 (omega arith) (omega arith) (omega (arith, some)))) [
        | inl none ↦ absurd (apart none)
        | inr found ↦ record {
          in_range = found.0;
          is_marked = found.1;
          none_before = λ d lt. elim (cases_Bool (get_or marked d false)) [
            | inl yet ↦ let up = root_below d (let f = found.0 in omega (arith, lt, f)) yet in absurd (omega (arith, read, up, lt))
            | inr clear ↦ clear
          ];
        }
      ]

  pub root_none : (x : ℕ) → x ≡ get_or least 1 x → 0 < length marked → x ≡ 4294967295 → (e : ℕ) → e < length marked → get_or marked e false ≡ false
  root_none x is some none e lt =
      let read = root_read x is some in
      elim (cases_Bool (get_or marked e false)) [
        | inl yet ↦ let up = root_below e lt yet in let few = tree.few in absurd (omega (arith, read, up, lt, none, few))
        | inr clear ↦ clear
      ]
