-- Where nothing is known of a function, its facts fit.
use Rattle.std.proofs.Common.{◌≡◌, ℕ, suc, ℤ, List, [], ◌∷◌, map, length, refl, sym, ap, subst}
use Rattle.gimple_ir.specs.declared.declarations.Register.{Register}
use Rattle.gimple_ir.specs.declared.program.Function.{Function}
use Rattle.fix_engine.specs.Rows.{Each}
use Rattle.value_domain.specs.declared.abs_val.AbsVal.{AbsVal}
use Rattle.value_domain.specs.Values.{FitsWith}
use Rattle.value_domain.specs.Thresholds.{IsLawful}
use Rattle.value_domain.proofs.TopLaws.{top_fits}
use Rattle.body_values.specs.declared.facts.LoadFact.{LoadFact}
use Rattle.body_values.specs.System.{FactsFit}
use Rattle.body_values.specs.TopFacts.{top_value, top_facts}

tops_count : (rs : List Register) → length (map top_value rs) ≡ length rs
tops_count [] = refl
tops_count (r ∷ rs) = ap suc (tops_count rs)

tops_fit : (most : ℕ) (ts : List ℤ) → IsLawful ts → (rs : List Register) → Each (FitsWith most ts) (map top_value rs)
tops_fit most ts law [] = tt
tops_fit most ts law (r ∷ rs) = ((top_fits most ts law r.scalar).0, tops_fit most ts law rs)

top_facts_fit : (f : Function) (most : ℕ) (ts : List ℤ) → IsLawful ts → FactsFit f (top_facts f) most ts
top_facts_fit f most ts law = record { count = tops_count f.params; formals = tops_fit most ts law f.params; loads = tt }

pub are_top : (f : Function) (formals : List AbsVal) (loads : List LoadFact) → formals ≡ map top_value f.params → loads ≡ [] → (most : ℕ) (ts : List ℤ) → IsLawful ts → FactsFit f (record { formals = formals; loads = loads }) most ts
are_top f formals loads e g most ts law =
    let same : top_facts f ≡ record { formals = formals; loads = loads } = λ i. record { formals = sym e i; loads = sym g i } in
    subst (λ x. FactsFit f x most ts) same (top_facts_fit f most ts law)
