-- What the answers of checks that may want memory say of a verdict.
use Rattle.std.specs.Prelude.{◌≡◌, Result, Ok, Err, Some}
use Rattle.gimple_ir.specs.declared.program.Program.{Program}
use Rattle.gimple_ir.specs.declared.fault.Site.{Site}
use Rattle.gimple_core.specs.Verdict.{Verdict, Judgement}
use Rattle.gimple_core.specs.Accepted.{first_fault}
use Rattle.gimple_types.specs.declared.refusal.Fail.{Fail}
use Rattle.gimple_types.specs.declared.refusal.Fail.TheVariants as fail
use Rattle.gimple_types.specs.declared.refusal.Refusal.{Refusal}
use Rattle.gimple_types.specs.declared.refusal.Refusal.TheVariants as refusal

-- the check passes and finds the new value, or answers the code of the verdict; want of memory may come at any time
abbrev pub Becomes : {A B : Type 0} → Verdict A → Result B Fail → A → Type 0
Becomes verdict (Ok b) new = verdict ≡ Ok new
Becomes verdict (Err (fail.Code code)) new = verdict ≡ Err code
Becomes verdict (Err (fail.Memory e)) new = Unit {0}

-- the same where the new value is what the check hands over, seen in some way
abbrev pub Finds : {A B : Type 0} → Verdict A → Result B Fail → (B → A) → Type 0
Finds verdict (Ok b) see = verdict ≡ Ok (see b)
Finds verdict (Err (fail.Code code)) see = verdict ≡ Err code
Finds verdict (Err (fail.Memory e)) see = Unit {0}

-- the same with a site
abbrev pub Judges : {A B : Type 0} → Judgement A → Result B Refusal → A → Type 0
Judges judgement (Ok b) new = judgement ≡ Ok new
Judges judgement (Err (refusal.Fault fault)) new = judgement ≡ Err fault
Judges judgement (Err (refusal.Memory e)) new = Unit {0}

-- the same where the new value is what the check hands over
abbrev pub Gives : {A : Type 0} → Judgement A → Result A Refusal → Type 0
Gives judgement (Ok a) = judgement ≡ Ok a
Gives judgement (Err (refusal.Fault fault)) = judgement ≡ Err fault
Gives judgement (Err (refusal.Memory e)) = Unit {0}

abbrev pub sited : Site → Fail → Refusal
sited site (fail.Code code) = refusal.Fault (record { code = code; site = site })
sited site (fail.Memory e) = refusal.Memory e

-- a refusal names the first fault
abbrev pub Refuses : Program → Refusal → Type 0
Refuses p (refusal.Fault fault) = first_fault p ≡ Some fault
Refuses p (refusal.Memory e) = Unit {0}
