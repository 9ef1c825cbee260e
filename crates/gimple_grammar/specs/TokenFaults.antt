-- The fault of tokens that are no program.
use Rattle.std.specs.Prelude.{◌≡◌, ℕ, [], ◌∷◌, ◌++◌, length, Result, Ok, Err}
use Rattle.gimple_ir.specs.declared.program.Program.{Program}
use Rattle.token_law.specs.declared.cursor.Fault.{Fault}
use Rattle.token_law.specs.declared.cursor.Fault.TheVariants.{Memory, At}
use Rattle.token_law.specs.Reading.{Tokens}
use Rattle.gimple_tokens.specs.Lexing.{AllReal}
use Rattle.gimple_grammar.specs.Grammar.{IsProgram}

-- some program begins so, and goes on with tokens that bytes can have
abbrev pub BeginsProgram : Tokens → Type 0
BeginsProgram front = (p : Program) × (more : Tokens) × AllReal more × IsProgram p (front ++ more)

-- with the next token no program begins so, or no token is left and they are none
abbrev pub IsOver : Tokens → Tokens → Type 0
IsOver front [] = (p : Program) → IsProgram p front → ⊥
IsOver front (t ∷ after) = BeginsProgram (front ++ t ∷ []) → ⊥

-- the tokens before the fault, and those from it on
pub record IsFault (ts : Tokens) (left : ℕ) : Type 0 where
  pub front : Tokens
  pub back : Tokens
  pub parts : ts ≡ front ++ back
  pub count : length back ≡ left
  pub begins : BeginsProgram front
  pub over : IsOver front back

-- what reading gives: the program, the fault, or want of memory
abbrev pub FaultOf : Tokens → Fault → Type 0
FaultOf ts (Memory want) = Unit {0}
FaultOf ts (At left) = IsFault ts left

abbrev pub ReadsAs : Program → Result Program Fault → Type 0
ReadsAs p (Ok q) = q ≡ p
ReadsAs p (Err (Memory want)) = Unit {0}
ReadsAs p (Err (At left)) = ⊥
