-- The tokens of bytes up to the end or the first byte that begins none.
use Rattle.std.specs.Prelude.{◌≡◌, ℕ, zero, suc, List, length, false, Option, Some, None}
use Rattle.gimple_tokens.specs.declared.token.Token.{Token}
use Rattle.gimple_ir.specs.Names.{Bytes}
use Rattle.gimple_tokens.specs.Lexing.{LexesUpTo, token_at, skip}

pub record Front (bs : Bytes) (ts : List Token) (left : ℕ) : Type 0 where
  pub rest : Bytes
  pub lexed : LexesUpTo (skip false bs) ts rest
  pub count : length rest ≡ left
  pub refused : token_at rest ≡ None

-- what is left behind the next token and the blanks after it
abbrev pub step : Bytes → Option (Token × Bytes) → Bytes
step bs None = bs
step bs (Some x) = skip false x.1

-- what is left behind so many tokens, or behind the last of fewer
abbrev pub walk : ℕ → Bytes → Bytes
walk zero bs = bs
walk (suc n) bs = walk n (step bs (token_at bs))
