-- Top facts of a function of a program fit.
use Rattle.std.proofs.Common.{◌≡◌, ℕ, ℤ, List, Some, IsSomeAnd, slice_get, sym, subst}
use Rattle.gimple_ir.specs.declared.program.Function.{Function}
use Rattle.gimple_ir.specs.declared.program.Program.{Program}
use Rattle.value_domain.specs.Thresholds.{IsLawful, thresholds_list}
use Rattle.value_domain.proofs.LawfulLemmas.{list_lawful}
use Rattle.body_values.specs.declared.facts.Facts.{Facts}
use Rattle.body_values.specs.Found.{OfFunction}
use Rattle.body_values.specs.System.{FactsFit}

pub facts_fit : (p : Program) (n : ℕ) (f : Function) (facts : Facts) (most : ℕ) → slice_get p.functions n ≡ Some f → ((m : ℕ) (ts : List ℤ) → IsLawful ts → FactsFit f facts m ts) → OfFunction p n (λ g. FactsFit g facts most (thresholds_list p))
facts_fit p n f facts most there h = subst (λ o. IsSomeAnd o (λ g. FactsFit g facts most (thresholds_list p))) (sym there) (h most (thresholds_list p) (list_lawful p))
