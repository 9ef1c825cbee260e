-- Programs as bytes, and the one fault of bytes that are none.
use Rattle.std.specs.Prelude.{◌≡◌, ◌≢◌, ℕ, zero, suc, ◌-◌, List, [], ◌∷◌, ◌++◌, length, false, Some, None, Result, Ok, Err}
use Rattle.gimple_ir.specs.declared.program.Program.{Program}
use Rattle.gimple_tokens.specs.declared.token.Token.{Token}
use Rattle.gimple_tokens.specs.declared.spot.Spot.{Spot}
use Rattle.gimple_ir.specs.Names.{Bytes}
use Rattle.gimple_tokens.specs.Lexing.{Lexes, LexesUpTo, token_at, skip}
use Rattle.gimple_tokens.specs.Front.{walk}
use Rattle.gimple_tokens.specs.Spots.{spot_at, spot_before}
use Rattle.token_law.specs.declared.cursor.Fault.{Fault}
use Rattle.token_law.specs.declared.cursor.Fault.TheVariants as read
use Rattle.gimple_grammar.specs.Grammar.{IsProgram}
use Rattle.gimple_grammar.specs.TokenFaults.{BeginsProgram}
use Rattle.gimple_text.specs.declared.fault.TextFault.{TextFault}
use Rattle.gimple_text.specs.declared.fault.TextFault.TheVariants.{Memory, BadByte, BadToken, EarlyEnd}

-- the tokens of the bytes are a program
pub record Spells (bs : Bytes) (p : Program) : Type 0 where
  pub tokens : List Token
  pub lexed : Lexes bs tokens
  pub spelled : IsProgram p tokens

-- the tokens so far begin a program, and then a byte comes that begins no token
pub record IsBadByte (bs : Bytes) (spot : Spot) : Type 0 where
  pub tokens : List Token
  pub rest : Bytes
  pub lexed : LexesUpTo (skip false bs) tokens rest
  pub some : rest ≢ []
  pub refused : token_at rest ≡ None
  pub begins : BeginsProgram tokens
  pub there : spot ≡ spot_before bs rest

-- the tokens so far begin a program, and with the next one they do not
pub record IsBadToken (bs : Bytes) (spot : Spot) : Type 0 where
  pub tokens : List Token
  pub token : Token
  pub at : Bytes
  pub behind : Bytes
  pub lexed : LexesUpTo (skip false bs) tokens at
  pub next : token_at at ≡ Some (token, behind)
  pub begins : BeginsProgram tokens
  pub over : BeginsProgram (tokens ++ token ∷ []) → ⊥
  pub there : spot ≡ spot_before bs at

-- the tokens begin a program, and are none
pub record IsEarlyEnd (bs : Bytes) (spot : Spot) : Type 0 where
  pub tokens : List Token
  pub lexed : Lexes bs tokens
  pub begins : BeginsProgram tokens
  pub none : (p : Program) → IsProgram p tokens → ⊥
  pub there : spot ≡ spot_at bs (length bs)

-- the fault of the bytes, with its place
abbrev pub TextFaultOf : Bytes → TextFault → Type 0
TextFaultOf bs (BadByte spot) = IsBadByte bs spot
TextFaultOf bs (BadToken spot) = IsBadToken bs spot
TextFaultOf bs (EarlyEnd spot) = IsEarlyEnd bs spot
TextFaultOf bs (Memory want) = ⊥

-- the fault of the bytes, or want of memory
abbrev pub FaultOrMemory : Bytes → TextFault → Type 0
FaultOrMemory bs (Memory want) = Unit {0}
FaultOrMemory bs (BadByte spot) = IsBadByte bs spot
FaultOrMemory bs (BadToken spot) = IsBadToken bs spot
FaultOrMemory bs (EarlyEnd spot) = IsEarlyEnd bs spot

-- the program is read, unless memory fails
abbrev pub ParsesAs : Program → Result Program TextFault → Type 0
ParsesAs p (Ok q) = q ≡ p
ParsesAs p (Err (Memory want)) = Unit {0}
ParsesAs p (Err (BadByte spot)) = ⊥
ParsesAs p (Err (BadToken spot)) = ⊥
ParsesAs p (Err (EarlyEnd spot)) = ⊥

-- ---- laws

-- a text spells at most one program
abbrev pub OneProgram : Type 0
OneProgram = (bs : Bytes) (p q : Program) → Spells bs p → Spells bs q → p ≡ q

-- a text with a fault spells none
abbrev pub FaultExcludes : Type 0
FaultExcludes = (bs : Bytes) (f : TextFault) (p : Program) → TextFaultOf bs f → Spells bs p → ⊥

-- a text has at most one fault
abbrev pub OneFault : Type 0
OneFault = (bs : Bytes) (f g : TextFault) → TextFaultOf bs f → TextFaultOf bs g → f ≡ g

-- ---- what reading the tokens of a front says of the whole

-- so many bytes are left behind the front, and it has so many tokens
abbrev pub Judged : Bytes → ℕ → ℕ → Result Program Fault → Result Program TextFault → Type 0
Judged bs zero count (Ok p) r = r ≡ Ok p
Judged bs (suc n) count (Ok p) r = r ≡ Err (BadByte (spot_at bs (length bs - suc n)))
Judged bs left count (Err (read.Memory want)) r = r ≡ Err (Memory want)
Judged bs zero count (Err (read.At zero)) r = r ≡ Err (EarlyEnd (spot_at bs (length bs - 0)))
Judged bs (suc n) count (Err (read.At zero)) r = r ≡ Err (BadByte (spot_at bs (length bs - suc n)))
Judged bs left count (Err (read.At (suc k))) r = r ≡ Err (BadToken (spot_at bs (length bs - length (walk (count - suc k) (skip false bs)))))
