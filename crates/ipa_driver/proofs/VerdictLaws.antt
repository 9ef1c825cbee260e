-- A text has one verdict.
use Rattle.std.proofs.Common.{◌≡◌, ℕ, ◌<◌, ◌≤◌, length, None, Some, ap, refl, arith, subst}
use Rattle.gimple_ir.specs.declared.program.Program.{Program}
use Rattle.gimple_ir.specs.declared.fault.TypeFault.{TypeFault}
use Rattle.gimple_core.specs.Accepted.{first_fault}
use Rattle.gimple_text.proofs.FaultLaws.{one_program, fault_excludes, one_fault}
use Rattle.ipa_driver.specs.Verdict.{LIMIT, Verdict, TooLong, BadText, BadTypes, Good, OneVerdict}

too_long : (n : ℕ) (v w : Verdict) → LIMIT < n → n ≤ LIMIT → v ≡ w
too_long n v w h k = absurd (omega arith)

one_accepted : (p q : Program) (f : TypeFault) → p ≡ q → first_fault p ≡ Some f → first_fault q ≡ None → ⊥
one_accepted p q f e h k = let h' : first_fault q ≡ Some f = subst (λ r. first_fault r ≡ Some f) e h in cc

pub one : OneVerdict
one bytes TooLong TooLong h k = refl
one bytes TooLong (BadText g) h k = too_long (length bytes) TooLong (BadText g) h k.within
one bytes TooLong (BadTypes g) h k = too_long (length bytes) TooLong (BadTypes g) h k.within
one bytes TooLong (Good q) h k = too_long (length bytes) TooLong (Good q) h k.within
one bytes (BadText f) TooLong h k = too_long (length bytes) (BadText f) TooLong k h.within
one bytes (BadText f) (BadText g) h k = ap BadText (one_fault bytes f g h.fault k.fault)
one bytes (BadText f) (BadTypes g) h k = absurd (fault_excludes bytes f k.program h.fault k.spelled)
one bytes (BadText f) (Good q) h k = absurd (fault_excludes bytes f q h.fault k.spelled)
one bytes (BadTypes f) TooLong h k = too_long (length bytes) (BadTypes f) TooLong k h.within
one bytes (BadTypes f) (BadText g) h k = absurd (fault_excludes bytes g h.program k.fault h.spelled)
one bytes (BadTypes f) (BadTypes g) h k =
    let e = one_program bytes h.program k.program h.spelled k.spelled in
    let h' : first_fault k.program ≡ Some f = subst (λ r. first_fault r ≡ Some f) e h.fault in
    let g' : first_fault k.program ≡ Some g = k.fault in
    let s : f ≡ g = cc in
    ap BadTypes s
one bytes (BadTypes f) (Good q) h k = absurd (one_accepted h.program q f (one_program bytes h.program q h.spelled k.spelled) h.fault k.accepted)
one bytes (Good p) TooLong h k = too_long (length bytes) (Good p) TooLong k h.within
one bytes (Good p) (BadText g) h k = absurd (fault_excludes bytes g p k.fault h.spelled)
one bytes (Good p) (BadTypes g) h k = absurd (one_accepted k.program p g (one_program bytes k.program p k.spelled h.spelled) k.fault h.accepted)
one bytes (Good p) (Good q) h k = ap Good (one_program bytes p q h.spelled k.spelled)
