-- Lists that are filtered, changed in one place, or grown by one, and tests of them.
use Rattle.std.proofs.Common.{◌≡◌, ℕ, zero, suc, slice_get, Bool, true, false, cond, ◌&&◌, List, [], ◌∷◌, ◌++◌, map, filter, refl, sym, ◌∙◌, ap, subst, Option, Some, None, if◌then◌else◌}
use Rattle.std.specs.List.{AllByRecursion, find, list_all}
use Rattle.std.specs.Option.{option_or}
use Rattle.std.proofs.lemmas.List.Folds.{find-append}
use Rattle.gimple_core.specs.Names.{update_first}

-- two tests that both pass
pub both_true : (a b : Bool) → a && b ≡ true → (a ≡ true) × (b ≡ true)
both_true true b e = (refl, e)
both_true false b e = cc

module _ {X : Type 0} where
  -- what the second filter drops, the first one drops too
  pub filter_kept : (test keep : X → Bool) → ((x : X) → test x ≡ true → keep x ≡ true) → (xs : List X) → filter test (filter keep xs) ≡ filter test xs
  filter_kept test keep h [] = refl
  filter_kept test keep h (x ∷ xs) = by (test x) (keep x) refl refl (h x) (filter_kept test keep h xs)
    where
      by : (a b : Bool) → test x ≡ a → keep x ≡ b → (test x ≡ true → keep x ≡ true) → filter test (filter keep xs) ≡ filter test xs → filter test (cond b (x ∷ filter keep xs) (filter keep xs)) ≡ cond a (x ∷ filter test xs) (filter test xs)
      by true true e f more k = rw (e, k) refl
      by true false e f more k = let g = more e in cc
      by false true e f more k = rw (e, k) refl
      by false false e f more k = k

  -- a change of what the filter drops
  pub filter_updated : (test p : X → Bool) (g : X → X) → ((x : X) → p x ≡ true → (test x ≡ false) × (test (g x) ≡ false)) → (xs : List X) → filter test (update_first p g xs) ≡ filter test xs
  unfolding update_first
  filter_updated test p g h [] = refl
  filter_updated test p g h (x ∷ xs) = by (p x) refl (h x) (filter_updated test p g h xs)
    where
      by : (b : Bool) → p x ≡ b → (p x ≡ true → (test x ≡ false) × (test (g x) ≡ false)) → filter test (update_first p g xs) ≡ filter test xs → filter test (if b then g x ∷ xs else x ∷ update_first p g xs) ≡ filter test (x ∷ xs)
      by true e more k = let f = more e in rw (f.0, f.1) refl
      by false e more k = ap (λ ys. cond (test x) (x ∷ ys) ys) k

  -- a change that a view does not see
  pub map_updated : {Y : Type 0} (view : X → Y) (p : X → Bool) (g : X → X) → ((x : X) → view (g x) ≡ view x) → (xs : List X) → map view (update_first p g xs) ≡ map view xs
  unfolding update_first
  map_updated view p g h [] = refl
  map_updated view p g h (x ∷ xs) = by (p x) (map_updated view p g h xs)
    where
      by : (b : Bool) → map view (update_first p g xs) ≡ map view xs → map view (if b then g x ∷ xs else x ∷ update_first p g xs) ≡ view x ∷ map view xs
      by true k = ap (λ y. y ∷ map view xs) (h x)
      by false k = ap (λ ys. view x ∷ ys) k

  or_none : (o : Option X) → option_or o None ≡ o
  or_none None = refl
  or_none (Some x) = refl

  -- one more item that does not pass the test
  pub find_more : (test : X → Bool) (xs : List X) (x : X) → test x ≡ false → find test (xs ++ x ∷ []) ≡ find test xs
  find_more test xs x e = find-append test xs (x ∷ []) ∙ rw e (or_none (find test xs))

  -- what all items have, the kept ones have, if what is kept and has it has that
  pub all_kept : (p q keep : X → Bool) → ((x : X) → p x ≡ true → keep x ≡ true → q x ≡ true) → (xs : List X) → list_all p xs ≡ true → list_all q (filter keep xs) ≡ true
  all_kept p q keep h [] e = refl
  all_kept p q keep h (x ∷ xs) e = by (p x) (keep x) refl refl e (all_kept p q keep h xs)
    where
      by : (a b : Bool) → p x ≡ a → keep x ≡ b → a && list_all p xs ≡ true → (list_all p xs ≡ true → list_all q (filter keep xs) ≡ true) → list_all q (cond b (x ∷ filter keep xs) (filter keep xs)) ≡ true
      by true true e f g more = rw (h x e f) (more g)
      by true false e f g more = more g
      by false b e f g more = cc

  -- what implies the test
  pub all_weaker : (p q : X → Bool) → ((x : X) → p x ≡ true → q x ≡ true) → (xs : List X) → list_all p xs ≡ true → list_all q xs ≡ true
  all_weaker p q h [] e = refl
  all_weaker p q h (x ∷ xs) e = by (p x) refl e (all_weaker p q h xs)
    where
      by : (a : Bool) → p x ≡ a → a && list_all p xs ≡ true → (list_all p xs ≡ true → list_all q xs ≡ true) → list_all q (x ∷ xs) ≡ true
      by true e f more = rw (h x e) (more f)
      by false e f more = cc

  -- what a search finds passes its test
  pub found_test : (test : X → Bool) (xs : List X) (y : X) → find test xs ≡ Some y → test y ≡ true
  found_test test [] y e = cc
  found_test test (x ∷ xs) y e = by (test x) refl e (found_test test xs y)
    where
      by : (b : Bool) → test x ≡ b → (if b then Some x else find test xs) ≡ Some y → (find test xs ≡ Some y → test y ≡ true) → test y ≡ true
      by true t f more = let same : x ≡ y = cc in ap test (sym same) ∙ t
      by false t f more = more f

  all_of : (P : X → Type 0) (x y : X) (o : Option X) → P x → (o ≡ Some y → P y) → (b : Bool) → (if b then Some x else o) ≡ Some y → P y
  all_of P x y o h more true e = let same : x ≡ y = cc in subst P same h
  all_of P x y o h more false e = more e

  -- what holds of each item holds of one that is found
  pub all_found : (P : X → Type 0) (test : X → Bool) (xs : List X) (y : X) → AllByRecursion P xs → find test xs ≡ Some y → P y
  all_found P test [] y h e = cc
  all_found P test (x ∷ xs) y h e = all_of P x y (find test xs) h.0 (all_found P test xs y h.1) (test x) e

  -- what all items have, a found one has
  pub found_has : (p test : X → Bool) (xs : List X) (y : X) → list_all p xs ≡ true → find test xs ≡ Some y → p y ≡ true
  found_has p test [] y h e = cc
  found_has p test (x ∷ xs) y h e = by (p x) refl (test x) h e (found_has p test xs y)
    where
      by : (a : Bool) → p x ≡ a → (b : Bool) → a && list_all p xs ≡ true → (if b then Some x else find test xs) ≡ Some y → (list_all p xs ≡ true → find test xs ≡ Some y → p y ≡ true) → p y ≡ true
      by true t true h f more = let same : x ≡ y = cc in ap p (sym same) ∙ t
      by true t false h f more = more h f
      by false t b h f more = cc

  -- a change in one place keeps what all items have
  pub all_updated : (p test : X → Bool) (g : X → X) (xs : List X) → list_all p xs ≡ true → ((x : X) → find test xs ≡ Some x → p (g x) ≡ true) → list_all p (update_first test g xs) ≡ true
  unfolding update_first
  all_updated p test g [] h k = refl
  all_updated p test g (x ∷ xs) h k = by (p x) refl (test x) refl h k (all_updated p test g xs)
    where
      by : (a : Bool) → p x ≡ a → (b : Bool) → test x ≡ b → a && list_all p xs ≡ true → ((y : X) → (if b then Some x else find test xs) ≡ Some y → p (g y) ≡ true) → (list_all p xs ≡ true → ((y : X) → find test xs ≡ Some y → p (g y) ≡ true) → list_all p (update_first test g xs) ≡ true) →
          list_all p (if b then g x ∷ xs else x ∷ update_first test g xs) ≡ true
      by true t true u h k more = rw (k x refl) h
      by true t false u h k more = rw t (more h k)
      by false t b u h k more = cc

  all_here : (p : X → Bool) (x y : X) (xs : List X) → (a : Bool) → p x ≡ a → a && list_all p xs ≡ true → Some x ≡ Some y → p y ≡ true
  all_here p x y xs true t h e = let same : x ≡ y = cc in ap p (sym same) ∙ t
  all_here p x y xs false t h e = cc

  pub all_later : (p : X → Bool) (x : X) (xs : List X) → (a : Bool) → a && list_all p xs ≡ true → list_all p xs ≡ true
  all_later p x xs true h = h
  all_later p x xs false h = cc

  -- what all items have, the one at a place has
  pub all_at : (p : X → Bool) (xs : List X) (k : ℕ) (y : X) → list_all p xs ≡ true → slice_get xs k ≡ Some y → p y ≡ true
  all_at p [] k y h e = cc
  all_at p (x ∷ xs) zero y h e = all_here p x y xs (p x) refl h e
  all_at p (x ∷ xs) (suc k) y h e = all_at p xs k y (all_later p x xs (p x) h) e
