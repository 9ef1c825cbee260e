-- Names of functions and their numbers.
use Rattle.std.proofs.Common.{◌≡◌, ℕ, ◌+◌, ◌<◌, ◌≤◌, Bool, true, false, cond, not, nat_lt, List, [], ◌∷◌, map, length, get_or, inl, inr, Some, None, refl, sym, ◌∙◌, ap, subst, arith, slice_get}
use Rattle.std.specs.List.{position, position_or_len}
use Rattle.std.proofs.lemmas.Bool.{ltb-true, ltb-false, lt-ltb, cases_Bool}
use Rattle.std.proofs.lemmas.List.Folds.{find_at}
use Rattle.gimple_core.specs.Run.{function_named}
use Rattle.gimple_ir.specs.declared.program.Function.{Function}
use Rattle.std.proofs.lemmas.List.Sums.{prefix_len-le-length, passes_at_first, position_or_len_is}
use Rattle.std.proofs.lemmas.Option.{slice_get_within, get_or_from_slice_get}
use Rattle.std.specs.Str.{bytes_eq}
use Rattle.gimple_core.proofs.NameLemmas.{same_name_true, same_name_self}
use Rattle.call_graph.specs.Calls.{number_in}

-- no two of the names are the same
abbrev pub AreDistinct : List (List ℕ) → Type 0
AreDistinct names = (i j : ℕ) → i < length names → j < length names → get_or names i [] ≡ get_or names j [] → i ≡ j

-- the place of the first function of a name is the name's number
named_place : (fs : List Function) (name : List ℕ) → position_or_len (λ f. bytes_eq f.name name) fs ≡ number_in (map (λ f. f.name) fs) name
unfolding number_in
named_place [] name = refl
named_place (f ∷ fs) name = λ i. cond (not (bytes_eq f.name name)) (1 + named_place fs name i) 0

found_place : (b : Bool) (n i : ℕ) → cond b (Some n) None ≡ Some i → i ≡ n
found_place true n i h = cc
found_place false n i h = cc

-- a place that was found is the number of the name
pub found_number : (fs : List Function) (name : List ℕ) (i : ℕ) → position (λ f. bytes_eq f.name name) fs ≡ Some i → i ≡ number_in (map (λ f. f.name) fs) name
found_number fs name i h = found_place _ _ i h ∙ named_place fs name

-- a place that was found is of a function
pub place_inside : (fs : List Function) (name : List ℕ) (i : ℕ) → position (λ f. bytes_eq f.name name) fs ≡ Some i → i < length fs
place_inside fs name i h =
    let n = position_or_len (λ (f : Function). bytes_eq f.name name) fs in
    by (nat_lt n (length fs)) n refl h
  where
    by : (b : Bool) (n : ℕ) → nat_lt n (length fs) ≡ b → cond b (Some n) None ≡ Some i → i < length fs
    by true n lt e = let same : i ≡ n = found_place true n i e in let low = ltb-true n (length fs) lt in omega (arith, same, low)
    by false n lt e = cc e

-- a name whose number is that of a function has this place
pub place_of : (fs : List Function) (name : List ℕ) → number_in (map (λ f. f.name) fs) name < length fs → position (λ f. bytes_eq f.name name) fs ≡ Some (number_in (map (λ f. f.name) fs) name)
place_of fs name low =
    let same = named_place fs name in
    let less : position_or_len (λ f. bytes_eq f.name name) fs < length fs = omega (arith, same, low) in
    ap (λ b. cond b (Some (position_or_len (λ (f : Function). bytes_eq f.name name) fs)) None) (lt-ltb _ _ less) ∙ ap Some same

missing_place : (b : Bool) (n : ℕ) → cond b (Some n) None ≡ None → b ≡ false
missing_place true n h = cc
missing_place false n h = refl

-- a name that has no place has the number after the last one
pub missing_number : (fs : List Function) (name : List ℕ) → position (λ f. bytes_eq f.name name) fs ≡ None → length fs ≡ number_in (map (λ f. f.name) fs) name
missing_number fs name h =
    let n = position_or_len (λ (f : Function). bytes_eq f.name name) fs in
    let high : length fs ≤ n = ltb-false n (length fs) (missing_place (nat_lt n (length fs)) n h) in
    let low : n ≤ length fs = prefix_len-le-length (λ (f : Function). not (bytes_eq f.name name)) fs in
    let same : length fs ≡ n = omega (arith, high, low) in
    same ∙ named_place fs name

-- the number of a name is that of a function, or how many functions there are
pub number_within : (fs : List Function) (name : List ℕ) → number_in (map (λ f. f.name) fs) name ≤ length fs
number_within fs name =
    let low : position_or_len (λ f. bytes_eq f.name name) fs ≤ length fs = prefix_len-le-length (λ (f : Function). not (bytes_eq f.name name)) fs in
    let same = named_place fs name in
    omega (arith, low, same)

-- the function of a name stands at the number of the name
pub function_at : (fs : List Function) (name : List ℕ) → function_named name fs ≡ slice_get fs (number_in (map (λ f. f.name) fs) name)
unfolding function_named
function_at fs name = find_at (λ f. bytes_eq f.name name) fs ∙ ap (slice_get fs) (named_place fs name)

-- what stands at the number of a name is the name
pub name_at : (names : List (List ℕ)) (name other : List ℕ) → slice_get names (number_in names name) ≡ Some other → other ≡ name
unfolding number_in
name_at names name other h =
    let test = λ (n : List ℕ). bytes_eq n name in
    let on = passes_at_first test names other (slice_get_within names (position_or_len test names) other h) in
    sym (get_or_from_slice_get names (position_or_len test names) other other h) ∙ same_name_true _ name on

-- the number of the name at k
pub number_at : (names : List (List ℕ)) (k : ℕ) (name : List ℕ) → AreDistinct names → slice_get names k ≡ Some name → number_in names name ≡ k
unfolding number_in
number_at names k name distinct h =
    let test = λ (n : List ℕ). bytes_eq n name in
    let low = slice_get_within names k name h in
    let here : get_or names k [] ≡ name = get_or_from_slice_get names k name [] h in
    position_or_len_is test names k [] (omega (arith, low))
    (λ i less. elim (cases_Bool (test (get_or names i []))) [
      | inl on ↦
          let both : get_or names i [] ≡ get_or names k [] = same_name_true _ name on ∙ sym here in
          let off = distinct i k (omega (arith, less, low)) low both in
          let none : ⊥ = omega (arith, off, less) in elim none [ ]
      | inr off ↦ off
    ])
    (λ inside. let P : List ℕ → Type 0 = λ n. bytes_eq n name ≡ true in subst P (sym here) (same_name_self name))
