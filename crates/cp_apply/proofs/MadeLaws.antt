-- Functions folded one after another, and the program that is made of them.
use Rattle.std.proofs.Common.{◌≡◌, ℕ, zero, suc, ◌+◌, ◌<◌, ◌⊎◌, inl, inr, List, [], ◌∷◌, ◌++◌, length, length-append, Option, Some, None, option_map, Result, Ok, Err, IfOk, slice_get, IsSomeAnd, refl, sym, ap, ◌∙◌, subst, arith}
use Rattle.gimple_ir.specs.declared.program.Function.{Function}
use Rattle.gimple_ir.specs.declared.program.Program.{Program}
use Rattle.gimple_core.specs.Accepted.{IsAccepted}
use Rattle.gimple_core.specs.Sealed.{Sealed}
use Rattle.value_domain.specs.Thresholds.{Limits, IsLawful, thresholds_list}
use Rattle.value_domain.proofs.LawfulLemmas.{list_lawful}
use Rattle.body_values.specs.declared.facts.Facts.{Facts}
use Rattle.body_values.specs.Found.{Found, AreFound, OfFunction}
use Rattle.body_values.specs.System.{FactsFit}
use Rattle.body_fold.specs.Claims.{Folds, FoldsTo, FoldsAll}
use Rattle.body_fold.specs.Folders.{IsFoldOf}
use Rattle.cp_apply.specs.declared.plan.Context.{Context}
use Rattle.cp_apply.specs.declared.plan.Plan.{Plan}
use Rattle.cp_apply.specs.Bases.{context_facts, base_facts, PlanFits, FoldsFirst}

-- ---- what is done has what its value has

pub done : {X E : Type 0} (P Q : X → Type 0) (r : Result X E) → IfOk r P → ((x : X) → P x → Q x) → IfOk r Q
done P Q (Ok x) h f = f x h
done P Q (Err want) h f = tt

-- ---- one function

module _ (p : Sealed) (n most : ℕ) (facts : Facts) (t : Found) (g : Function) (accepted : IsAccepted p.program) (is : IsFoldOf p n t g) where
  abbrev limits : Limits
  limits = record { size = most; ends = thresholds_list p.program }

  folds : (f : Function) → slice_get p.program.functions n ≡ Some f → FactsFit f facts most (thresholds_list p.program) → AreFound p n f facts limits t → Folds p n f facts t g
  folds f own fit found = record {
    accepted = accepted;
    own = own;
    lawful = subst (λ (l : Limits). IsLawful l.ends) (sym found.made_with) (list_lawful p.program);
    fit = subst (λ (l : Limits). FactsFit f facts l.size l.ends) (sym found.made_with) fit;
    values = subst (λ (l : Limits). AreFound p n f facts l t) (sym found.made_with) found;
    folded = is;
  }

  folds_at : (o : Option Function) → slice_get p.program.functions n ≡ o → IsSomeAnd o (λ f. FactsFit f facts most (thresholds_list p.program)) → IsSomeAnd o (λ f. AreFound p n f facts limits t) → IsSomeAnd o (λ f. FoldsTo p n f g (Some facts))
  folds_at None own fit found = found
  folds_at (Some f) own fit found = (t, folds f own fit found)

  pub folds_to : OfFunction p.program n (λ f. FactsFit f facts most (thresholds_list p.program)) → OfFunction p.program n (λ f. AreFound p n f facts limits t) → OfFunction p.program n (λ f. FoldsTo p n f g (Some facts))
  folds_to = folds_at (slice_get p.program.functions n) refl

-- ---- a condition of the function of a number

each_at : (P : Function → Type 0) (o : Option Function) (f : Function) → o ≡ Some f → IsSomeAnd o P → P f
each_at P None f e h = cc
each_at P (Some x) f e h = let same : x ≡ f = cc in subst P same h

pub of_function : (p : Program) (n : ℕ) (P : Function → Type 0) (f : Function) → slice_get p.functions n ≡ Some f → OfFunction p n P → P f
of_function p n P f own h = each_at P (slice_get p.functions n) f own h

some_at : (P : Function → Type 0) (fs : List Function) (n : ℕ) → n < length fs → ((f : Function) → slice_get fs n ≡ Some f → P f) → IsSomeAnd (slice_get fs n) P
some_at P [] n h each = absurd (omega (arith, h))
some_at P (f ∷ fs) zero h each = each f refl
some_at P (f ∷ fs) (suc n) h each = some_at P fs n (omega (arith, h)) each

pub each_function : (p : Program) (n : ℕ) (P : Function → Type 0) → n < length p.functions → ((f : Function) → slice_get p.functions n ≡ Some f → P f) → OfFunction p n P
each_function p n P h each = some_at P p.functions n h each

-- ---- one after another

last_or_before : (gs : List Function) (g x : Function) (n : ℕ) → slice_get (gs ++ g ∷ []) n ≡ Some x → (slice_get gs n ≡ Some x) ⊎ ((n ≡ length gs) × (x ≡ g))
last_or_before [] g x zero e = inr (refl, cc)
last_or_before [] g x (suc n) e = cc
last_or_before (y ∷ gs) g x zero e = inl e
last_or_before (y ∷ gs) g x (suc n) e = elim (last_or_before gs g x n e) [
  | inl before ↦ inl before
  | inr last ↦ inr (ap suc last.0, last.1)
]

pub first_more : (p : Sealed) (facts : ℕ → Option Facts) (k : ℕ) (x : Facts) (gs : List Function) (g : Function) → FoldsFirst p facts k gs → facts k ≡ Some x
    → OfFunction p.program k (λ f. FoldsTo p k f g (Some x)) → FoldsFirst p facts (k + 1) (gs ++ g ∷ [])
first_more p facts k x gs g first given one = record {
  count = length-append gs (g ∷ []) ∙ ap (λ n. n + 1) first.count;
  each = λ n f h own made. elim (last_or_before gs g h n made) [
    | inl before ↦ first.each n f h own before
    | inr last ↦
        let at : n ≡ k = last.0 ∙ first.count in
        let here : FoldsTo p k f g (Some x) = of_function p.program k (λ f. FoldsTo p k f g (Some x)) f (ap (λ m. slice_get p.program.functions m) (sym at) ∙ own) one in
        let folded : FoldsTo p k f g (facts k) = subst (FoldsTo p k f g) (sym given) here in
        subst (λ m. FoldsTo p m f h (facts m)) (sym at) (subst (λ z. FoldsTo p k f z (facts k)) (sym last.1) folded)
  ];
}

pub none_first : (p : Sealed) (facts : ℕ → Option Facts) → FoldsFirst p facts 0 []
none_first p facts = record { count = refl; each = λ n f g own made. cc }

pub all_of_first : (p : Sealed) (most : ℕ) (plan : Plan) (gs : List Function) → IsAccepted p.program → PlanFits p.program most plan → FoldsFirst p (base_facts plan) (length plan.bases) gs → FoldsAll p (base_facts plan) gs
all_of_first p most plan gs accepted fits first = record { accepted = accepted; count = first.count ∙ fits.count; each = first.each }

-- the context of a number is what is given of its function
pub given_there : (plan : Plan) (k : ℕ) (c : Context) → slice_get plan.bases k ≡ Some c → base_facts plan k ≡ Some (context_facts c)
given_there plan k c e = ap (option_map context_facts) e
