-- The next token of bytes.
use Rattle.std.specs.Prelude.{ℕ, ◌-◌, false, [], ◌∷◌, length, drop, Option, Some, None}
use Rattle.gimple_tokens.specs.declared.token.Token.{Token}
use Rattle.gimple_tokens.specs.declared.next.Cursor.{Cursor}
use Rattle.gimple_tokens.specs.declared.next.Next.{Next}
use Rattle.gimple_tokens.specs.declared.next.Next.TheVariants as next
use Rattle.gimple_ir.specs.Names.{Bytes}
use Rattle.gimple_tokens.specs.Lexing.{skip, token_at}
use Rattle.gimple_tokens.specs.Spots.{spot_at}

-- the place where so many bytes are left
abbrev pub cursor_left : Bytes → ℕ → Cursor
cursor_left bs left = record { place = length bs - left; spot = spot_at bs (length bs - left) }

-- of the bytes that are left behind blanks, from the token that begins there
abbrev pub next_by : Bytes → Bytes → Option (Token × Bytes) → Next
next_by bs rest (Some x) = next.Token (cursor_left bs (length rest)).place (cursor_left bs (length x.1)).place (cursor_left bs (length rest)).spot (cursor_left bs (length x.1))
next_by bs [] None = next.Stop (cursor_left bs 0).spot
next_by bs (b ∷ rest) None = next.BadByte (cursor_left bs (length (b ∷ rest))).spot

abbrev pub next_from : Bytes → Bytes → Next
next_from bs rest = next_by bs rest (token_at rest)

-- the first token from a place on, or what comes first in its place
abbrev pub next_at : Bytes → ℕ → Next
next_at bs place = next_from bs (skip false (drop place bs))
