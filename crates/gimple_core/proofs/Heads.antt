-- What passed checks of the heads of functions say.
use Rattle.std.proofs.Common.{◌≡◌, ℕ, ◌+◌, true, false, not, List, [], ◌∷◌, ◌++◌, Some, Ok, sym, ap, ◌∙◌, subst, append_assoc, append-nil}
use Rattle.gimple_ir.specs.declared.declarations.Global.{Global}
use Rattle.gimple_ir.specs.declared.program.Function.{Function}
use Rattle.gimple_core.specs.Verdict.{demand, at}
use Rattle.gimple_core.specs.Env.{Names, named, has, functions_by_name}
use Rattle.gimple_core.specs.Declarations as d
use Rattle.gimple_core.proofs.Passed.{first_passed, both_pass, demanded, demand_passes, at_passed}
use Rattle.gimple_core.proofs.EnvLemmas.{declared_new, declares, named_behind, named_here}

-- what a head that passed says
pub head_passed : (gs : Names Global) (earlier out : Names Function) (f : Function) → d.head gs earlier f ≡ Ok out → (not (has f.name gs) ≡ true) × (has f.name earlier ≡ false) × (out ≡ earlier ++ (f.name, f) ∷ [])
unfolding d.head
head_passed gs earlier out f h =
    let p = first_passed (demand (not (has f.name gs)) 2) _ out h in
    let q = declared_new earlier f.name f out p.2 in
    (demanded _ 2 p.1, q.0, q.1)

pub head_passes : (gs : Names Global) (earlier : Names Function) (f : Function) → not (has f.name gs) ≡ true → has f.name earlier ≡ false → d.head gs earlier f ≡ Ok (earlier ++ (f.name, f) ∷ [])
unfolding d.head
head_passes gs earlier f h k = both_pass _ _ tt _ (demand_passes _ 2 h) (declares earlier f.name f k)

-- the table of the functions
pub heads_are : (gs : Names Global) (number : ℕ) (earlier out : Names Function) (fs : List Function) → d.heads gs number earlier fs ≡ Ok out → out ≡ earlier ++ functions_by_name fs
unfolding d.heads
heads_are gs number earlier out [] h = let e : earlier ≡ out = cc in sym e ∙ sym (append-nil earlier)
heads_are gs number earlier out (f ∷ fs) h =
    let p = first_passed (at _ (d.head gs earlier f)) _ out h in
    let q = head_passed gs earlier p.0 f (at_passed _ (d.head gs earlier f) p.0 p.1) in
    heads_are gs (number + 1) p.0 out fs p.2 ∙ ap (λ t. t ++ functions_by_name fs) q.2 ∙ append_assoc earlier ((f.name, f) ∷ []) (functions_by_name fs)

abbrev pub Each : (Function → Type 0) → List Function → Type 0
Each P [] = Unit {0}
Each P (f ∷ fs) = P f × Each P fs

-- each function is the first one of its name
pub heads_find : (gs : Names Global) (number : ℕ) (earlier out : Names Function) (fs : List Function) → d.heads gs number earlier fs ≡ Ok out → Each (λ f. named f.name out ≡ Some f) fs
unfolding d.heads
heads_find gs number earlier out [] h = tt
heads_find gs number earlier out (f ∷ fs) h =
    let p = first_passed (at _ (d.head gs earlier f)) _ out h in
    let q = head_passed gs earlier p.0 f (at_passed _ (d.head gs earlier f) p.0 p.1) in
    (ap (named f.name) (heads_are gs number earlier out (f ∷ fs) h) ∙ named_behind f.name earlier (functions_by_name (f ∷ fs)) q.1 ∙ named_here f.name f (functions_by_name fs), heads_find gs (number + 1) p.0 out fs p.2)
