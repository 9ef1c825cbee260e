-- From passed checks to what they found, and back.
use Rattle.std.proofs.Common.{◌≡◌, ℕ, Bool, true, false, not, Option, Some, None, Result, Ok, Err, refl, sym, subst}
use Rattle.gimple_ir.specs.declared.fault.Site.{Site}
use Rattle.gimple_core.specs.Verdict.{Verdict, Judgement, and_then, demand, found, at, fault_of}

pub err_no : {A E : Type 0} {a : A} {e : E} → Err e ≡ Ok a → ⊥
err_no {A} {E} h = subst (λ r. is_err r) h tt
  where
    is_err : Result A E → Type 0
    is_err (Err e) = Unit {0}
    is_err (Ok a) = ⊥

-- the first of two checks passed, and then the second one
pub first_passed : {A B E : Type 0} (r : Result A E) (next : A → Result B E) (b : B) → and_then r next ≡ Ok b → (a : A) × (r ≡ Ok a) × (next a ≡ Ok b)
first_passed (Ok a) next b h = (a, refl, h)
first_passed (Err e) next b h = absurd (err_no h)

pub both_pass : {A B E : Type 0} (r : Result A E) (next : A → Result B E) (a : A) (b : B) → r ≡ Ok a → next a ≡ Ok b → and_then r next ≡ Ok b
both_pass r next a b h k = subst (λ v. and_then v next ≡ Ok b) (sym h) k

pub demanded : (b : Bool) (code : ℕ) → demand b code ≡ Ok tt → b ≡ true
demanded true code h = refl
demanded false code h = absurd (err_no h)

pub demand_passes : (b : Bool) (code : ℕ) → b ≡ true → demand b code ≡ Ok tt
demand_passes true code h = refl
demand_passes false code h = cc

pub found_so : {A : Type 0} (o : Option A) (code : ℕ) (a : A) → found o code ≡ Ok a → o ≡ Some a
found_so (Some x) code a h = cc
found_so None code a h = absurd (err_no h)

pub at_passed : {A : Type 0} (site : Site) (v : Verdict A) (a : A) → at site v ≡ Ok a → v ≡ Ok a
at_passed site (Ok x) a h = cc
at_passed site (Err e) a h = absurd (err_no h)

pub at_passes : {A : Type 0} (site : Site) (v : Verdict A) (a : A) → v ≡ Ok a → at site v ≡ Ok a
at_passes site v a h = rw h refl

pub not_true : (b : Bool) → not b ≡ true → b ≡ false
not_true true h = sym h
not_true false h = refl

-- no fault, so every check passed
pub no_fault : (j : Judgement (Unit {0})) → fault_of j ≡ None → j ≡ Ok tt
no_fault (Ok a) h = refl
no_fault (Err e) h = cc

pub no_fault_of : (j : Judgement (Unit {0})) → j ≡ Ok tt → fault_of j ≡ None
no_fault_of j h = rw h refl
