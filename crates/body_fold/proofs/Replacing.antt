-- A program with its functions folded may replace the program, and so may one with one function folded.
use Rattle.std.proofs.Common.{◌≡◌, ℕ, zero, suc, ◌*◌, ◌==◌, Bool, true, false, List, [], ◌∷◌, refl, sym, ◌∙◌, ap, subst, arith, Option, Some, None, slice_get, slice_set, if◌then◌else◌}
use Rattle.std.specs.Option.{option_map}
use Rattle.std.proofs.lemmas.Bool.{eqb-true, eq-eqb}
use Rattle.std.proofs.lemmas.List.{length-set}
use Rattle.gimple_ir.specs.Counts.{CountsWithin}
use Rattle.gimple_ir.specs.declared.program.Function.{Function}
use Rattle.gimple_core.specs.Sealed.{Sealed, with_functions}
use Rattle.gimple_core.specs.Trace.{InEachRun}
use Rattle.gimple_claims.specs.Bodies.{FactsClaim}
use Rattle.body_values.specs.declared.facts.Facts.{Facts}
use Rattle.body_values.specs.Claims.{given_of}
use Rattle.body_values.specs.Found.{Found}
use Rattle.body_values.specs.TopFacts.{top_facts}
use Rattle.body_values.proofs.TopMet.{top_facts_hold}
use Rattle.body_fold.specs.Claims.{Folds, FoldsTo, FoldsAll, FactsHold, FoldReplaces, FoldIsAccepted, FoldIsSpellable, FoldsReplace, every_top, TopFoldsReplace}
use Rattle.body_fold.proofs.Accepted.{folds_are_accepted}
use Rattle.body_fold.proofs.Spelled.{folds_are_spellable}
use Rattle.body_fold.proofs.Counted.{fold_counts}
use Rattle.body_fold.proofs.Running.{folds_keep_run}

once : (m : ℕ) → m ≡ 1 * m
once m = omega arith

pub folds_replace : FoldsReplace
folds_replace p facts gs folds hold = record {
  accepted = folds_are_accepted p facts gs folds;
  mode = refl;
  profile = refl;
  spellable = folds_are_spellable p facts gs folds;
  counts = λ m h. subst (λ k. CountsWithin k (with_functions p gs).program) (once m) (fold_counts p facts gs folds m h);
  runs = λ input numbers turns. sym (folds_keep_run p facts gs folds hold input numbers turns);
}

-- ---- top facts

some_facts : (f : Function) (x : Facts) (o : Option Function) → o ≡ Some f → option_map top_facts o ≡ Some x → x ≡ top_facts f
some_facts f x None own e = cc
some_facts f x (Some g) own e =
    let same : g ≡ f = cc in
    let is : top_facts g ≡ x = cc in
    sym is ∙ ap top_facts same

tops_hold : (p : Sealed) (gs : List Function) → FoldsAll p (every_top p) gs → FactsHold p (every_top p)
tops_hold p gs folds n f x own e =
    subst (λ y. InEachRun p (FactsClaim f (given_of n f y))) (sym (some_facts f x (slice_get p.program.functions n) own e)) (top_facts_hold p n f folds.accepted)

pub top_folds_replace : TopFoldsReplace
top_folds_replace p gs folds = folds_replace p (every_top p) gs folds (tops_hold p gs folds)

-- ---- one function

get_same : {X : Type 0} (xs : List X) (n : ℕ) (y z : X) → slice_get (slice_set xs n y) n ≡ Some z → z ≡ y
get_same [] n y z e = cc
get_same (x ∷ xs) zero y z e = let same : y ≡ z = cc in sym same
get_same (x ∷ xs) (suc n) y z e = get_same xs n y z e

get_other : {X : Type 0} (xs : List X) (n j : ℕ) (y : X) → (j ≡ n → ⊥) → slice_get (slice_set xs n y) j ≡ slice_get xs j
get_other [] n j y h = refl
get_other (x ∷ xs) zero zero y h = absurd (h refl)
get_other (x ∷ xs) zero (suc j) y h = refl
get_other (x ∷ xs) (suc n) zero y h = refl
get_other (x ∷ xs) (suc n) (suc j) y h = get_other xs n j y (λ e. h (ap suc e))

-- the facts of this function alone
abbrev only : ℕ → Facts → ℕ → Option Facts
only n facts j = if j == n then Some facts else None

other_number : (j n : ℕ) → (j == n) ≡ false → j ≡ n → ⊥
other_number j n t e = let same : (j == n) ≡ true = eq-eqb j n e in cc

same_item : {X : Type 0} (x y : X) → Some x ≡ Some y → x ≡ y
same_item x y e = cc

module _ (p : Sealed) (n : ℕ) (f : Function) (facts : Facts) (t : Found) (g : Function) (folds : Folds p n f facts t g) where
  here_to : (j : ℕ) (x y : Function) → j ≡ n → slice_get p.program.functions j ≡ Some x → slice_get (slice_set p.program.functions n g) j ≡ Some y → FoldsTo p j x y (Some facts)
  here_to j x y e own made =
      let source : f ≡ x = same_item f x (sym folds.own ∙ (ap (slice_get p.program.functions) (sym e) ∙ own)) in
      let there : slice_get (slice_set p.program.functions n g) n ≡ Some y = subst (λ k. slice_get (slice_set p.program.functions n g) k ≡ Some y) e made in
      let new : y ≡ g = get_same p.program.functions n g y there in
      subst (λ k. FoldsTo p k x y (Some facts)) (sym e)
      (subst (λ (z : Function). FoldsTo p n z y (Some facts)) source
      (subst (λ (z : Function). FoldsTo p n f z (Some facts)) (sym new) (t, folds)))

  each_to : (j : ℕ) (x y : Function) → slice_get p.program.functions j ≡ Some x → slice_get (slice_set p.program.functions n g) j ≡ Some y → (b : Bool) → (j == n) ≡ b → FoldsTo p j x y (if b then Some facts else None)
  each_to j x y own made true e = here_to j x y (eqb-true j n e) own made
  each_to j x y own made false e = same_item y x (sym made ∙ (get_other p.program.functions n j g (other_number j n e) ∙ own))

  one_all : FoldsAll p (only n facts) (slice_set p.program.functions n g)
  one_all = record { accepted = folds.accepted; count = length-set p.program.functions n g; each = λ j x y own made. each_to j x y own made (j == n) refl }

  holds_by : InEachRun p (FactsClaim f (given_of n f facts)) → (j : ℕ) (x : Function) (y : Facts) → slice_get p.program.functions j ≡ Some x → (b : Bool) → (j == n) ≡ b → (if b then Some facts else None) ≡ Some y → InEachRun p (FactsClaim x (given_of j x y))
  holds_by all j x y own true e is =
      let number : n ≡ j = sym (eqb-true j n e) in
      let source : f ≡ x = same_item f x (sym folds.own ∙ (ap (slice_get p.program.functions) number ∙ own)) in
      subst (λ z. InEachRun p (FactsClaim x (given_of j x z))) (same_item facts y is)
      (subst (λ k. InEachRun p (FactsClaim x (given_of k x facts))) number (subst (λ (z : Function). InEachRun p (FactsClaim z (given_of n z facts))) source all))
  holds_by all j x y own false e is = cc

pub fold_replaces : FoldReplaces
fold_replaces p n f facts t g folds all =
    folds_replace p (only n facts) (slice_set p.program.functions n g) (one_all p n f facts t g folds) (λ j x y own is. holds_by p n f facts t g folds all j x y own (j == n) refl is)

pub fold_is_accepted : FoldIsAccepted
fold_is_accepted p n f facts t g folds = folds_are_accepted p (only n facts) (slice_set p.program.functions n g) (one_all p n f facts t g folds)

pub fold_is_spellable : FoldIsSpellable
fold_is_spellable p n f facts t g folds h = folds_are_spellable p (only n facts) (slice_set p.program.functions n g) (one_all p n f facts t g folds) h
