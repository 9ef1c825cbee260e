-- The first fault of a program, from the checks of its parts.
use Rattle.std.proofs.Common.{◌≡◌, ◌==◌, Bool, true, false, [], if◌then◌else◌, ap, subst, Some, None, Result, Ok, Err, refl, IfErr, OnOk}
use Rattle.gimple_ir.specs.declared.declarations.Global.{Global}
use Rattle.gimple_ir.specs.declared.program.Function.{Function}
use Rattle.gimple_ir.specs.declared.program.Program.{Program}
use Rattle.gimple_core.specs.Accepted.{checked, first_fault, known_env}
use Rattle.gimple_core.specs.Declarations as spec
use Rattle.gimple_core.specs.Env.{Names, globals_by_name, functions_by_name, targets_of}
use Rattle.gimple_core.proofs.Heads.{heads_are}
use Rattle.gimple_types.specs.Seen.{targets_if}
use Rattle.gimple_types.specs.declared.refusal.Refusal.{Refusal}
use Rattle.gimple_types.specs.declared.refusal.Refusal.TheVariants as refusal
use Rattle.gimple_types.specs.Verdicts.{Gives, Judges, Refuses}

targets_are : (b : Bool) (fs gs : Names Function) → fs ≡ gs → targets_if b fs ≡ (if b then Some gs else None)
targets_are true fs gs e = ap Some e
targets_are false fs gs e = refl

module _ (p : Program) (variables : Names Global) (structs_pass : spec.structs p.structs 0 [] p.structs ≡ Ok tt) (globals_pass : spec.globals p.structs (targets_of p) (globals_by_name p.globals) 0 [] p.globals ≡ Ok variables) where
  -- a fault of a function's head
  pub heads_refuse : (r : Result (Names Function) Refusal) → Gives (spec.heads variables 0 [] p.functions) r → IfErr r (Refuses p)
  unfolding first_fault checked
  heads_refuse (Ok done) h = tt
  heads_refuse (Err (refusal.Fault fault)) h = rw structs_pass (rw globals_pass (rw h refl))
  heads_refuse (Err (refusal.Memory e)) h = tt

  module _ (callees : Names Function) (heads_pass : spec.heads variables 0 [] p.functions ≡ Ok callees) (main_passes : spec.main 0 p.functions ≡ Ok tt) where
    -- what the functions see
    same_targets : targets_if (p.profile == 2) callees ≡ targets_of p
    same_targets = targets_are (p.profile == 2) callees (functions_by_name p.functions) (heads_are variables 0 [] callees p.functions heads_pass)

    judged : (r : Result (Unit {0}) Refusal) → Judges (spec.functions (known_env p.structs (targets_if (p.profile == 2) callees) variables) callees 0 p.functions) r tt → Judges (spec.functions (known_env p.structs (targets_of p) variables) callees 0 p.functions) r tt
    judged r h = subst (λ ts. Judges (spec.functions (known_env p.structs ts variables) callees 0 p.functions) r tt) same_targets h

    pass : (r : Result (Unit {0}) Refusal) → Judges (spec.functions (known_env p.structs (targets_of p) variables) callees 0 p.functions) r tt → OnOk r (first_fault p ≡ None)
    unfolding first_fault checked
    pass (Ok done) h = rw structs_pass (rw globals_pass (rw heads_pass (rw main_passes (rw h refl))))
    pass (Err refused) h = tt

    -- no fault in a function
    pub functions_pass : (r : Result (Unit {0}) Refusal) → Judges (spec.functions (known_env p.structs (targets_if (p.profile == 2) callees) variables) callees 0 p.functions) r tt → OnOk r (first_fault p ≡ None)
    functions_pass r h = pass r (judged r h)

    refuse : (r : Result (Unit {0}) Refusal) → Judges (spec.functions (known_env p.structs (targets_of p) variables) callees 0 p.functions) r tt → IfErr r (Refuses p)
    unfolding first_fault checked
    refuse (Ok done) h = tt
    refuse (Err (refusal.Fault fault)) h = rw structs_pass (rw globals_pass (rw heads_pass (rw main_passes (rw h refl))))
    refuse (Err (refusal.Memory e)) h = tt

    -- a fault in a function
    pub functions_refuse : (r : Result (Unit {0}) Refusal) → Judges (spec.functions (known_env p.structs (targets_if (p.profile == 2) callees) variables) callees 0 p.functions) r tt → IfErr r (Refuses p)
    functions_refuse r h = refuse r (judged r h)
