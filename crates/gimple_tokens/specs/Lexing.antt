-- The tokens of bytes.
use Rattle.std.specs.Prelude.{◌≡◌, ◌≢◌, ℕ, ◌+◌, ◌-◌, ◌*◌, ◌<◌, ◌^◌, ◌==◌, nat_le, Bool, true, false, not, ◌&&◌, ◌||◌, if◌then◌else◌, List, [], ◌∷◌, Option, Some, None, codes}
use Rattle.std.specs.Str.{bytes_eq}
use Rattle.gimple_ir.specs.Names.{Bytes, is_digit, starts_name, goes_on_name, IsNameText}
use Rattle.gimple_tokens.specs.declared.token.Symbol.{Symbol}
use Rattle.gimple_tokens.specs.declared.token.Symbol.TheVariants as s
use Rattle.gimple_tokens.specs.declared.token.Token.{Token}
use Rattle.gimple_tokens.specs.declared.token.Token.TheVariants as tok

-- ---- fronts of bytes

abbrev pub is_blank : ℕ → Bool
is_blank b = b == 32 || b == 9 || b == 10 || b == 13

-- the next byte is this one
abbrev pub next_is : ℕ → Bytes → Bool
next_is c [] = false
next_is c (b ∷ bs) = b == c

-- The bytes from the first on that is in no blank or comment. The test says whether a comment is open.
abbrev pub skip : Bool → Bytes → Bytes
skip c [] = []
skip true (b ∷ bs) = skip (not (b == 10)) bs
skip false (b ∷ bs) = if is_blank b then skip false bs else (if (b == 47) && next_is 47 bs then skip true bs else b ∷ bs)

-- the longest front of which each byte passes, and the rest
abbrev pub front : (ℕ → Bool) → Bytes → Bytes
front p [] = []
front p (b ∷ bs) = if p b then b ∷ front p bs else []

abbrev pub back : (ℕ → Bool) → Bytes → Bytes
back p [] = []
back p (b ∷ bs) = if p b then back p bs else b ∷ bs

-- ---- words

abbrev pub declaration_word : Bytes → Option Symbol
declaration_word w = if bytes_eq w (codes "gimple") then Some s.Gimple else (if bytes_eq w (codes "struct") then Some s.Struct else (if bytes_eq w (codes "global") then Some s.Global
    else (if bytes_eq w (codes "const") then Some s.Const else (if bytes_eq w (codes "local") then Some s.Local else (if bytes_eq w (codes "void") then Some s.Void else None)))))

abbrev pub scalar_word : Bytes → Option Symbol
scalar_word w = if bytes_eq w (codes "i8") then Some s.I8 else (if bytes_eq w (codes "i16") then Some s.I16 else (if bytes_eq w (codes "i32") then Some s.I32 else (if bytes_eq w (codes "i64") then Some s.I64
    else (if bytes_eq w (codes "u8") then Some s.U8 else (if bytes_eq w (codes "u16") then Some s.U16 else (if bytes_eq w (codes "u32") then Some s.U32 else (if bytes_eq w (codes "u64") then Some s.U64
    else (if bytes_eq w (codes "ptr") then Some s.Ptr else None))))))))

abbrev pub statement_word : Bytes → Option Symbol
statement_word w = if bytes_eq w (codes "MEM") then Some s.Mem else (if bytes_eq w (codes "null") then Some s.Null else (if bytes_eq w (codes "getint") then Some s.Getint
    else (if bytes_eq w (codes "putint") then Some s.Putint else (if bytes_eq w (codes "abort") then Some s.Abort else None))))

abbrev pub end_word : Bytes → Option Symbol
end_word w = if bytes_eq w (codes "bb") then Some s.Bb else (if bytes_eq w (codes "goto") then Some s.Goto else (if bytes_eq w (codes "if") then Some s.If else (if bytes_eq w (codes "else") then Some s.Else
    else (if bytes_eq w (codes "switch") then Some s.Switch else (if bytes_eq w (codes "case") then Some s.Case else (if bytes_eq w (codes "default") then Some s.Default
    else (if bytes_eq w (codes "return") then Some s.Return else None)))))))

abbrev pub first_of_two : Option Symbol → Option Symbol → Option Symbol
first_of_two (Some x) o = Some x
first_of_two None o = o

-- the keyword that a word is, where it is one
unfoldable pub keyword : Bytes → Option Symbol
keyword w = first_of_two (declaration_word w) (first_of_two (scalar_word w) (first_of_two (statement_word w) (end_word w)))

abbrev pub word : Bytes → Option Symbol → Token
word w None = tok.Name w
word w (Some x) = tok.Fixed x

-- ---- numbers

-- the number that digits write, after those of n
abbrev pub number_after : ℕ → Bytes → ℕ
number_after n [] = n
number_after n (b ∷ bs) = number_after (10 * n + (b - 48)) bs

abbrev pub number_token : ℕ → Token
number_token n = if nat_le n 18446744073709551615 then tok.Number n else tok.Huge

-- ---- marks

-- a mark of one byte
abbrev pub mark : ℕ → Option Symbol
mark b = if b == 59 then Some s.Semi else (if b == 123 then Some s.OpenBrace else (if b == 125 then Some s.CloseBrace else (if b == 40 then Some s.Open else (if b == 41 then Some s.Close
    else (if b == 91 then Some s.OpenBracket else (if b == 93 then Some s.CloseBracket else (if b == 44 then Some s.Comma else (if b == 58 then Some s.Colon
    else (if b == 61 then Some s.Assign else (if b == 64 then Some s.At else (if b == 38 then Some s.Ampersand else (if b == 60 then Some s.Less else (if b == 62 then Some s.Greater
    else (if b == 43 then Some s.Plus else (if b == 45 then Some s.Minus else (if b == 42 then Some s.Star else (if b == 47 then Some s.Slash else (if b == 37 then Some s.Percent
    else (if b == 124 then Some s.Bar else (if b == 94 then Some s.Caret else None))))))))))))))))))))

-- a mark of two bytes
abbrev pub pair_mark : ℕ → ℕ → Option Symbol
pair_mark b c = if (b == 60) && (c == 61) then Some s.LessEq else (if (b == 62) && (c == 61) then Some s.GreaterEq else (if (b == 61) && (c == 61) then Some s.EqEq
    else (if (b == 33) && (c == 61) then Some s.NotEq else (if (b == 60) && (c == 60) then Some s.ShiftLeft else (if (b == 62) && (c == 62) then Some s.ShiftRight else None)))))

abbrev pub begins_pair : ℕ → Bool
begins_pair b = b == 60 || b == 62 || b == 61 || b == 33

abbrev pub pair : Token → Bytes → Token × Bytes
pair t bs = (t, bs)

abbrev pub fixed : Symbol → Bytes → Token × Bytes
fixed x bs = (tok.Fixed x, bs)

abbrev pub one_mark : Option Symbol → Bytes → Option (Token × Bytes)
one_mark None bs = None
one_mark (Some x) bs = Some (tok.Fixed x, bs)

abbrev pub longer_mark : Option Symbol → Bytes → Option (Token × Bytes) → Option (Token × Bytes)
longer_mark (Some x) bs o = Some (tok.Fixed x, bs)
longer_mark None bs o = o

abbrev pub paired_at : ℕ → Bytes → Option (Token × Bytes)
paired_at b [] = one_mark (mark b) []
paired_at b (c ∷ bs) = longer_mark (pair_mark b c) bs (one_mark (mark b) (c ∷ bs))

abbrev pub mark_at : ℕ → Bytes → Option (Token × Bytes)
mark_at b bs = if begins_pair b then paired_at b bs else one_mark (mark b) bs

-- ---- tokens

abbrev pub word_at : Bytes → Token × Bytes
word_at bs = (word (front goes_on_name bs) (keyword (front goes_on_name bs)), back goes_on_name bs)

abbrev pub number_at : Bytes → Token × Bytes
number_at bs = (number_token (number_after 0 (front is_digit bs)), back is_digit bs)

-- the token that begins here, the longest one, and the rest
abbrev pub token_at : Bytes → Option (Token × Bytes)
token_at [] = None
token_at (b ∷ bs) = if starts_name b then Some (word_at (b ∷ bs)) else (if is_digit b then Some (number_at (b ∷ bs)) else mark_at b bs)

abbrev pub LexesFrom : Bytes → List Token → Type 0
LexesFrom bs [] = bs ≡ []
LexesFrom bs (t ∷ ts) = (rest : Bytes) × (token_at bs ≡ Some (t, rest)) × LexesFrom (skip false rest) ts

-- the tokens of the bytes
abbrev pub Lexes : Bytes → List Token → Type 0
Lexes bs ts = LexesFrom (skip false bs) ts

-- these tokens come first, and the rest is left, behind its blanks
abbrev pub LexesUpTo : Bytes → List Token → Bytes → Type 0
LexesUpTo bs [] rest = bs ≡ rest
LexesUpTo bs (t ∷ ts) rest = (mid : Bytes) × (token_at bs ≡ Some (t, mid)) × LexesUpTo (skip false mid) ts rest

-- ---- names

abbrev pub all_pass : (ℕ → Bool) → Bytes → Bool
all_pass p [] = true
all_pass p (b ∷ bs) = if p b then all_pass p bs else false

-- digits, and no more than fit in 64 bits
abbrev pub IsNumeral : Bytes → Type 0
IsNumeral bs = (bs ≢ []) × (all_pass is_digit bs ≡ true) × (number_after 0 bs < 2 ^ 64)

abbrev pub is_none : Option Symbol → Bool
is_none None = true
is_none (Some x) = false

abbrev pub is_name_text : Bytes → Bool
is_name_text [] = false
is_name_text (b ∷ bs) = starts_name b && all_pass goes_on_name bs && is_none (keyword (b ∷ bs))

-- ---- tokens of bytes

-- a token that bytes can have
abbrev pub IsReal : Token → Type 0
IsReal (tok.Name x) = IsNameText x
IsReal (tok.Number n) = n < 2 ^ 64
IsReal tok.Huge = Unit {0}
IsReal (tok.Fixed y) = Unit {0}

abbrev pub AllReal : List Token → Type 0
AllReal [] = Unit {0}
AllReal (t ∷ ts) = IsReal t × AllReal ts
