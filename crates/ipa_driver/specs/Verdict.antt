-- What is to be said of a source's text, before anything is done with it.
use Rattle.std.specs.Prelude.{◌≡◌, ℕ, ◌<◌, ◌≤◌, List, length, Some}
use Rattle.gimple_ir.specs.declared.program.Program.{Program}
use Rattle.gimple_ir.specs.declared.fault.TypeFault.{TypeFault}
use Rattle.gimple_core.specs.Accepted.{first_fault, IsAccepted}
use Rattle.gimple_text.specs.declared.fault.TextFault.{TextFault}
use Rattle.gimple_text.specs.Parse.{Spells, TextFaultOf}

-- the most bytes that a source may have
abbrev pub LIMIT : ℕ
LIMIT = 16777216

pub data Verdict : Type 0 where
  TooLong : Verdict
  BadText : TextFault → Verdict
  BadTypes : TypeFault → Verdict
  Good : Program → Verdict

-- the text is no program's; the fault is never want of memory
pub record IsBadText (bytes : List ℕ) (f : TextFault) : Type 0 where
  pub within : length bytes ≤ LIMIT
  pub fault : TextFaultOf bytes f

pub record IsBadTypes (bytes : List ℕ) (f : TypeFault) : Type 0 where
  pub within : length bytes ≤ LIMIT
  pub program : Program
  pub spelled : Spells bytes program
  pub fault : first_fault program ≡ Some f

pub record IsGood (bytes : List ℕ) (p : Program) : Type 0 where
  pub within : length bytes ≤ LIMIT
  pub spelled : Spells bytes p
  pub accepted : IsAccepted p

-- the verdict on a text
abbrev pub IsVerdict : List ℕ → Verdict → Type 0
IsVerdict bytes TooLong = LIMIT < length bytes
IsVerdict bytes (BadText f) = IsBadText bytes f
IsVerdict bytes (BadTypes f) = IsBadTypes bytes f
IsVerdict bytes (Good p) = IsGood bytes p

-- A text has at most one verdict. So each answer that comes only with its verdict comes exactly with it.
abbrev pub OneVerdict : Type 0
OneVerdict = (bytes : List ℕ) (v w : Verdict) → IsVerdict bytes v → IsVerdict bytes w → v ≡ w
