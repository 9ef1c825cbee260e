-- A check answers what it found, or the code of its fault; with a site the code is a type fault.
use Rattle.std.specs.Prelude.{ℕ, Bool, true, false, Option, Some, None, Result, Ok, Err}
use Rattle.gimple_ir.specs.declared.fault.Site.{Site}
use Rattle.gimple_ir.specs.declared.fault.TypeFault.{TypeFault}

abbrev pub Verdict : Type 0 → Type 0
Verdict A = Result A ℕ

abbrev pub Judgement : Type 0 → Type 0
Judgement A = Result A TypeFault

-- the first check, and then the next one, which sees what the first one found
abbrev pub and_then : {A B E : Type 0} → Result A E → (A → Result B E) → Result B E
and_then (Ok a) next = next a
and_then (Err e) next = Err e

infixl 10 ◌>>=◌
abbrev pub ◌>>=◌ : {A B E : Type 0} → Result A E → (A → Result B E) → Result B E
r >>= next = and_then r next

infixl 10 ◌>>◌
abbrev pub ◌>>◌ : {A B E : Type 0} → Result A E → Result B E → Result B E
r >> s = r >>= (λ _. s)

abbrev pub pure : {A E : Type 0} → A → Result A E
pure a = Ok a

-- the code is the fault where the test fails
abbrev pub demand : Bool → ℕ → Verdict (Unit {0})
demand true code = Ok tt
demand false code = Err code

abbrev pub found : {A : Type 0} → Option A → ℕ → Verdict A
found (Some a) code = Ok a
found None code = Err code

-- the verdict of what stands at a site
abbrev pub at : {A : Type 0} → Site → Verdict A → Judgement A
at site (Ok a) = Ok a
at site (Err code) = Err (record { code = code; site = site })

-- the fault of a judgement
abbrev pub fault_of : {A : Type 0} → Judgement A → Option TypeFault
fault_of (Ok a) = None
fault_of (Err fault) = Some fault
