-- A word is a keyword exactly where it has a symbol.
use Rattle.std.proofs.Common.{◌≡◌, Bool, true, false, cond, ◌||◌, List, [], ◌∷◌, ◌++◌, Option, Some, None, refl, sym, ap, ◌∙◌, inl, inr}
use Rattle.std.specs.Prelude.{codes}
use Rattle.std.specs.List.{list_any}
use Rattle.std.specs.Option.{is_some}
use Rattle.std.specs.Str.{bytes_eq}
use Rattle.gimple_ir.specs.Names.{Bytes, keywords, is_keyword}
use Rattle.gimple_tokens.specs.declared.token.Symbol.{Symbol}
use Rattle.gimple_tokens.specs.declared.token.Symbol.TheVariants as s
use Rattle.gimple_tokens.specs.Lexing.{first_of_two, keyword}
use Rattle.gimple_tokens.proofs.Fronts.{test}

-- words with their symbols
abbrev Table : Type 0
Table = List (Bytes × Symbol)

abbrev words : Table → List Bytes
words [] = []
words (row ∷ rows) = row.0 ∷ words rows

-- the symbol of a word in a table, or else another one
abbrev symbol_of : Table → Bytes → Option Symbol → Option Symbol
symbol_of [] w o = o
symbol_of (row ∷ rows) w o = cond (bytes_eq w row.0) (Some row.1) (symbol_of rows w o)

abbrev declarations : Table
declarations = (codes "gimple", s.Gimple) ∷ (codes "struct", s.Struct) ∷ (codes "global", s.Global) ∷ (codes "const", s.Const) ∷ (codes "local", s.Local) ∷ (codes "void", s.Void) ∷ []

abbrev scalars : Table
scalars = (codes "i8", s.I8) ∷ (codes "i16", s.I16) ∷ (codes "i32", s.I32) ∷ (codes "i64", s.I64) ∷ (codes "u8", s.U8) ∷ (codes "u16", s.U16) ∷ (codes "u32", s.U32) ∷ (codes "u64", s.U64) ∷ (codes "ptr", s.Ptr) ∷ []

abbrev statements : Table
statements = (codes "MEM", s.Mem) ∷ (codes "null", s.Null) ∷ (codes "getint", s.Getint) ∷ (codes "putint", s.Putint) ∷ (codes "abort", s.Abort) ∷ []

abbrev ends : Table
ends = (codes "bb", s.Bb) ∷ (codes "goto", s.Goto) ∷ (codes "if", s.If) ∷ (codes "else", s.Else) ∷ (codes "switch", s.Switch) ∷ (codes "case", s.Case) ∷ (codes "default", s.Default) ∷ (codes "return", s.Return) ∷ []

-- the first of two symbols, by one table
joined : (rows : Table) (w : Bytes) (o p : Option Symbol) → first_of_two (symbol_of rows w o) p ≡ symbol_of rows w (first_of_two o p)
joined [] w o p = refl
joined (row ∷ rows) w o p = elim (test (bytes_eq w row.0)) [ inl e ↦ rw e refl | inr e ↦ rw e (joined rows w o p) ]

some_is : (rows : Table) (w : Bytes) (o : Option Symbol) → is_some (symbol_of rows w o) ≡ (list_any (bytes_eq w) (words rows) || is_some o)
some_is [] w o = refl
some_is (row ∷ rows) w o = elim (test (bytes_eq w row.0)) [ inl e ↦ rw e refl | inr e ↦ rw e (some_is rows w o) ]

any_joined : (w : Bytes) (xs ys : List Bytes) → list_any (bytes_eq w) (xs ++ ys) ≡ (list_any (bytes_eq w) xs || list_any (bytes_eq w) ys)
any_joined w [] ys = refl
any_joined w (x ∷ xs) ys = elim (test (bytes_eq w x)) [ inl e ↦ rw e refl | inr e ↦ rw e (any_joined w xs ys) ]

abbrev all_rows : Table
all_rows = declarations ++ (scalars ++ (statements ++ ends))

symbol_joined : (rows more : Table) (w : Bytes) (o : Option Symbol) → symbol_of (rows ++ more) w o ≡ symbol_of rows w (symbol_of more w o)
symbol_joined [] more w o = refl
symbol_joined (row ∷ rows) more w o = ap (λ z. cond (bytes_eq w row.0) (Some row.1) z) (symbol_joined rows more w o)

by_table : (w : Bytes) → keyword w ≡ symbol_of all_rows w None
unfolding keyword
by_table w =
    joined declarations w None (first_of_two (symbol_of scalars w None) (first_of_two (symbol_of statements w None) (symbol_of ends w None)))
    ∙ ap (symbol_of declarations w) (joined scalars w None (first_of_two (symbol_of statements w None) (symbol_of ends w None)) ∙ ap (symbol_of scalars w) (joined statements w None (symbol_of ends w None)))

or_false : (b : Bool) → (b || false) ≡ b
or_false true = refl
or_false false = refl

pub keyword_is : (w : Bytes) → is_some (keyword w) ≡ is_keyword w
unfolding is_keyword
keyword_is w = ap is_some (by_table w) ∙ some_is all_rows w None ∙ or_false (list_any (bytes_eq w) keywords)

none_of : (o : Option Symbol) → is_some o ≡ false → o ≡ None
none_of None e = refl
none_of (Some x) e = absurd cc

pub no_keyword : (w : Bytes) → is_keyword w ≡ false → keyword w ≡ None
no_keyword w e = none_of (keyword w) (keyword_is w ∙ e)

pub no_symbol : (w : Bytes) → keyword w ≡ None → is_keyword w ≡ false
no_symbol w e = sym (keyword_is w) ∙ ap is_some e
