-- Look-ups by name.
use Rattle.std.proofs.Common.{◌≡◌, ℕ, Bool, true, false, cond, ◌||◌, List, [], ◌∷◌, ◌++◌, map, is_some, Some, Ok, refl, sym, ap, ◌∙◌, if◌then◌else◌}
use Rattle.std.specs.List.{find}
use Rattle.std.specs.Str.{bytes_eq}
use Rattle.std.specs.Cmp.Lexicographic.{bytes_decides}
use Rattle.gimple_core.specs.Env.{Names, named, has, declared, new_or_twice}
use Rattle.gimple_core.proofs.NameLemmas.{same_name_true, same_name_self}
use Rattle.gimple_core.proofs.Passed.{err_no}

-- the two tests of names are one
pub same_test : (name other : List ℕ) → bytes_eq name other ≡ bytes_eq other name
same_test name other = by (bytes_eq name other) (bytes_eq other name) refl refl
  where
    by : (a b : Bool) → bytes_eq name other ≡ a → bytes_eq other name ≡ b → a ≡ b
    by true true e h = refl
    by false false e h = refl
    by true false e h = sym (same_name_self other) ∙ ap (λ n. bytes_eq other n) (sym ((bytes_decides name other).0 e)) ∙ h
    by false true e h = sym e ∙ (bytes_decides name other).1 (sym (same_name_true other name h))

module _ {T : Type 0} where
  -- the first item of a name, in a table and in a list
  pub named_find : (key : T → List ℕ) (name : List ℕ) (xs : List T) → named name (map (λ x. (key x, x)) xs) ≡ find (λ x. bytes_eq (key x) name) xs
  named_find key name [] = refl
  named_find key name (x ∷ xs) = by (bytes_eq name (key x)) (bytes_eq (key x) name) (same_test name (key x)) (named_find key name xs)
    where
      by : (a b : Bool) → a ≡ b → named name (map (λ x. (key x, x)) xs) ≡ find (λ x. bytes_eq (key x) name) xs → cond a (Some x) (named name (map (λ x. (key x, x)) xs)) ≡ (if b then Some x else find (λ x. bytes_eq (key x) name) xs)
      by true true e h = refl
      by true false e h = cc
      by false true e h = cc
      by false false e h = h

  pub has_append : (name : List ℕ) (a b : Names T) → has name (a ++ b) ≡ has name a || has name b
  has_append name [] b = refl
  has_append name (e ∷ a) b = by (bytes_eq name e.0) (has_append name a b)
    where
      by : (c : Bool) → has name (a ++ b) ≡ has name a || has name b → is_some (cond c (Some e.1) (named name (a ++ b))) ≡ is_some (cond c (Some e.1) (named name a)) || has name b
      by true h = refl
      by false h = h

  -- what was declared had a new name
  pub declared_new : (names : Names T) (name : List ℕ) (item : T) (more : Names T) → declared names name item ≡ Ok more → (has name names ≡ false) × (more ≡ names ++ (name, item) ∷ [])
  declared_new names name item more h = by (has name names) h
    where
      by : (b : Bool) → new_or_twice b (names ++ (name, item) ∷ []) ≡ Ok more → (b ≡ false) × (more ≡ names ++ (name, item) ∷ [])
      by true h = absurd (err_no h)
      by false h = (refl, cc)

  pub declares : (names : Names T) (name : List ℕ) (item : T) → has name names ≡ false → declared names name item ≡ Ok (names ++ (name, item) ∷ [])
  declares names name item h = rw h refl

  -- a name that the first table lacks
  pub named_behind : (name : List ℕ) (a b : Names T) → has name a ≡ false → named name (a ++ b) ≡ named name b
  named_behind name [] b h = refl
  named_behind name (e ∷ a) b h = by (bytes_eq name e.0) (named_behind name a b) h
    where
      by : (c : Bool) → (has name a ≡ false → named name (a ++ b) ≡ named name b) → is_some (cond c (Some e.1) (named name a)) ≡ false → cond c (Some e.1) (named name (a ++ b)) ≡ named name b
      by true more k = cc
      by false more k = more k

  pub named_here : (name : List ℕ) (item : T) (es : Names T) → named name ((name, item) ∷ es) ≡ Some item
  named_here name item es = rw ((bytes_decides name name).1 refl) refl
