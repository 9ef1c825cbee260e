-- Classes named by their first items.
use Rattle.std.proofs.Common.{◌≡◌, ℕ, ◌+◌, ◌<◌, ◌==◌, ◌⊎◌, inl, inr, Bool, true, false, cond, List, [], ◌∷◌, ◌++◌, length, get_or, Option, Some, None, slice_get, refl, sym, ◌∙◌, ap, subst, arith}
use Rattle.std.proofs.lemmas.Bool.{eqb-true, eq-eqb, cases_lt, true≢false}
use Rattle.std.proofs.lemmas.List.{get_or_append_left, get_or_push}
use Rattle.partition_refinement.specs.Relations.{class_of}
use Rattle.partition_refinement.specs.Named.{HasFirsts}
use Rattle.partition_refinement.specs.Stages.{IsFirstSame}

pub no_firsts : (find : ℕ → Option ℕ) (classes : List ℕ) → ((c : ℕ) → find c ≡ None) → HasFirsts find classes 0
no_firsts find classes none = record {
  met = λ c k e. let never : None ≡ Some k = sym (none c) ∙ e in cc;
  least = λ c k e. let never : None ≡ Some k = sym (none c) ∙ e in cc;
  other = λ c e j l h. absurd (omega (arith, l));
}

module _ (find : ℕ → Option ℕ) (classes : List ℕ) (n c : ℕ) (has : HasFirsts find classes n) (here : slice_get classes n ≡ Some c) where
  -- an item of a class that was met
  pub keep_firsts : (k : ℕ) → find c ≡ Some k → HasFirsts find classes (n + 1)
  keep_firsts k e = record {
    met = λ d m h. let before = (has.met d m h).0 in (omega (arith, before), (has.met d m h).1);
    least = has.least;
    other = λ d h j l at. elim (cases_lt j n) [
      | inl m ↦ has.other d h j m at
      | inr m ↦
          let same : n ≡ j = omega (arith, l, m) in
          let one : Some c ≡ Some d = sym here ∙ (ap (slice_get classes) same ∙ at) in
          let class : c ≡ d = cc in
          let never : Some k ≡ None = sym e ∙ (ap find class ∙ h) in
          cc
    ];
  }

  pub first_before : (k : ℕ) → find c ≡ Some k → IsFirstSame ℕ classes n k
  first_before k e = record { same = (has.met c k e).1 ∙ sym here; least = λ j h. has.least c k e j (h ∙ here) }

  -- an item of a new class
  pub first_here : find c ≡ None → IsFirstSame ℕ classes n n
  first_here e = record {
    same = refl;
    least = λ j h. elim (cases_lt j n) [ inl m ↦ absurd (has.other c e j m (h ∙ here)) | inr m ↦ m ];
  }

  module _ (more : ℕ → Option ℕ) (updates : (q : ℕ) → more q ≡ cond (c == q) (Some n) (find q)) (none : find c ≡ None) where
    more_of : (d : ℕ) (b : Bool) → (c == d) ≡ b → more d ≡ cond b (Some n) (find d)
    more_of d b t = updates d ∙ ap (λ x. cond x (Some n) (find d)) t

    met_by : (d k : ℕ) → more d ≡ Some k → (b : Bool) → (c == d) ≡ b → ((n ≡ k) × (c ≡ d)) ⊎ (find d ≡ Some k)
    met_by d k e true t = let one : Some n ≡ Some k = sym (more_of d true t) ∙ e in inl (cc, eqb-true c d t)
    met_by d k e false t = inr (sym (more_of d false t) ∙ e)

    other_by : (d : ℕ) → more d ≡ None → (b : Bool) → (c == d) ≡ b → (find d ≡ None) × ((c ≡ d) → ⊥)
    other_by d e true t = let never : Some n ≡ None = sym (more_of d true t) ∙ e in cc
    other_by d e false t = (sym (more_of d false t) ∙ e, λ same. true≢false (sym (eq-eqb c d same) ∙ t))

    pub add_firsts : HasFirsts more classes (n + 1)
    add_firsts = record {
      met = λ d k e. elim (met_by d k e (c == d) refl) [
        | inl (p, q) ↦ (omega (arith, p), ap (slice_get classes) (sym p) ∙ (here ∙ ap Some q))
        | inr h ↦ let before = (has.met d k h).0 in (omega (arith, before), (has.met d k h).1)
      ];
      least = λ d k e j at. elim (met_by d k e (c == d) refl) [
        | inl (p, q) ↦ let low = (first_here none).least j (at ∙ (ap Some (sym q) ∙ sym here)) in omega (arith, p, low)
        | inr h ↦ has.least d k h j at
      ];
      other = λ d e j l at.
          let away = other_by d e (c == d) refl in
          elim (cases_lt j n) [
            | inl m ↦ has.other d away.0 j m at
            | inr m ↦
                let same : n ≡ j = omega (arith, l, m) in
                let one : Some c ≡ Some d = sym here ∙ (ap (slice_get classes) same ∙ at) in
                absurd (away.1 cc)
          ];
    }

-- one name more
pub name_more : (classes names : List ℕ) (n name : ℕ) → length names ≡ n → ((k : ℕ) → k < n → IsFirstSame ℕ classes k (class_of names k)) → IsFirstSame ℕ classes n name
    → (k : ℕ) → k < n + 1 → IsFirstSame ℕ classes k (class_of (names ++ name ∷ []) k)
name_more classes names n name count each one k l = elim (cases_lt k n) [
  | inl m ↦ subst (IsFirstSame ℕ classes k) (sym (get_or_append_left names (name ∷ []) k k (omega (arith, m, count)))) (each k m)
  | inr m ↦
      let same : n ≡ k = omega (arith, l, m) in
      let value : get_or (names ++ name ∷ []) k k ≡ name = get_or_push names name k k (count ∙ same) in
      subst (IsFirstSame ℕ classes k) (sym value) (subst (λ z. IsFirstSame ℕ classes z name) same one)
]
