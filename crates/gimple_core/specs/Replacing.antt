-- When one program may stand in the place of another.
use Rattle.std.specs.Prelude.{◌≡◌, ℕ, ◌*◌, ℤ, true, List}
use Rattle.std.specs.List.{list_all}
use Rattle.gimple_ir.specs.declared.scalar.Scalar.TheVariants.{I64}
use Rattle.gimple_ir.specs.Counts.{CountsWithin}
use Rattle.gimple_ir.specs.Spellable.{IsSpellable}
use Rattle.gimple_core.specs.Accepted.{IsAccepted}
use Rattle.gimple_core.specs.Operators.{in_scalar}
use Rattle.gimple_core.specs.Sealed.{Sealed}
use Rattle.gimple_core.specs.Run.{Run}

-- The second program may replace the first one, to which this factor bounds how many parts it has: it has no type fault, the same mode
-- and profile, a text where the first one has one, and on every input of numbers of 64 signed bits and after every number of transfers
-- it has printed, ended or trapped as the first one has.
pub record Replaces (growth : ℕ) (p q : Sealed) : Type 0 where
  pub accepted : IsAccepted q.program
  pub mode : q.mode ≡ p.mode
  pub profile : q.program.profile ≡ p.program.profile
  pub spellable : IsSpellable p.program → IsSpellable q.program
  pub counts : (n : ℕ) → CountsWithin n p.program → CountsWithin (growth * n) q.program
  pub runs : (input : List ℤ) → list_all (in_scalar I64) input ≡ true → (n : ℕ) → Run q input n ≡ Run p input n

-- a program without a type fault may replace itself, and so may one that replaces another one that does
abbrev pub ReplacesItself : Type 0
ReplacesItself = (p : Sealed) → IsAccepted p.program → Replaces 1 p p

abbrev pub ReplacesInTurn : Type 0
ReplacesInTurn = (g h : ℕ) (p q r : Sealed) → Replaces g p q → Replaces h q r → Replaces (h * g) p r
