-- Reading from left to right. A reader answers a value and the tokens after it, or how many tokens are left at the fault.
use Rattle.std.specs.Prelude.{◌≡◌, ℕ, zero, suc, ◌==◌, Bool, true, false, not, ◌||◌, if◌then◌else◌, List, [], ◌∷◌, ◌++◌, length, drop, Option, Some, None, Result, Ok, Err}
use Rattle.std.specs.Option.{is_some}
use denote.Enum.Bare.{sameb}
use Rattle.gimple_tokens.specs.declared.token.Symbol.{Symbol}
use Rattle.gimple_tokens.specs.declared.token.Symbol.TheVariants as s
use Rattle.gimple_tokens.specs.declared.token.Token.{Token}
use Rattle.gimple_tokens.specs.declared.token.Token.TheVariants as tok
use Rattle.gimple_tokens.specs.contracts.token.Symbol.{the_type}
use Rattle.token_law.specs.declared.cursor.Fault.{Fault}
use Rattle.token_law.specs.declared.cursor.Fault.TheVariants.{Memory, At}

abbrev pub Tokens : Type 0
Tokens = List Token

abbrev pub Outcome : Type 0 → Type 0
Outcome A = Result (A × Tokens) ℕ

abbrev pub Parser : Type 0 → Type 0
Parser A = Tokens → Outcome A

abbrev pub and_then : {A B : Type 0} → Outcome A → (A → Parser B) → Outcome B
and_then (Ok p) f = f p.0 p.1
and_then (Err e) f = Err e

infixl 10 ◌>>=◌
abbrev pub ◌>>=◌ : {A B : Type 0} → Parser A → (A → Parser B) → Parser B
p >>= f = λ i. and_then (p i) f

infixl 10 ◌>>◌
abbrev pub ◌>>◌ : {A B : Type 0} → Parser A → Parser B → Parser B
p >> q = p >>= (λ _. q)

abbrev pub pure : {A : Type 0} → A → Parser A
pure a = λ ts. Ok (a, ts)

-- one reader or the other, by the next token
abbrev pub choose : {A : Type 0} → (Tokens → Bool) → Parser A → Parser A → Parser A
choose starts p q = λ ts. if starts ts then p ts else q ts

-- items as long as one starts; the number bounds the turns
unfoldable pub many_from : {A : Type 0} → (Tokens → Bool) → Parser A → ℕ → List A → Parser (List A)
many_from starts p zero found = pure found
many_from starts p (suc n) found = choose starts (p >>= λ x. many_from starts p n (found ++ x ∷ [])) (pure found)

-- the same, after those that were found
abbrev pub many : {A : Type 0} → (Tokens → Bool) → Parser A → List A → Parser (List A)
many starts p found = λ ts. many_from starts p (length ts) found ts

-- ---- tokens

unfoldable pub sees : Symbol → Tokens → Bool
sees x [] = false
sees x (tok.Name n ∷ ts) = false
sees x (tok.Number n ∷ ts) = false
sees x (tok.Huge ∷ ts) = false
sees x (tok.Fixed y ∷ ts) = sameb the_type y x

unfoldable pub sees_name : Tokens → Bool
sees_name [] = false
sees_name (tok.Name n ∷ ts) = true
sees_name (tok.Number n ∷ ts) = false
sees_name (tok.Huge ∷ ts) = false
sees_name (tok.Fixed y ∷ ts) = false

abbrev pub next_symbol : Tokens → Option Symbol
next_symbol [] = None
next_symbol (tok.Name n ∷ ts) = None
next_symbol (tok.Number n ∷ ts) = None
next_symbol (tok.Huge ∷ ts) = None
next_symbol (tok.Fixed y ∷ ts) = Some y

-- what a reader needs that is always followed by a symbol
abbrev pub not_before : Symbol → Tokens → Bool
not_before x ts = not (sees x ts)

abbrev pub leaf_at : {A : Type 0} → Option A → Token → Tokens → Outcome A
leaf_at (Some a) t m = Ok (a, m)
leaf_at None t m = Err (length (t ∷ m))

-- reads the token of which f has a value
abbrev pub leaf : {A : Type 0} → (Token → Option A) → Parser A
leaf f [] = Err 0
leaf f (t ∷ m) = leaf_at (f t) t m

-- a value of a symbol
abbrev pub of_symbol : {A : Type 0} → (Symbol → Option A) → Token → Option A
of_symbol g (tok.Name n) = None
of_symbol g (tok.Number n) = None
of_symbol g tok.Huge = None
of_symbol g (tok.Fixed y) = g y

-- the first of these values that the symbol stands for
abbrev pub lookup : {A : Type 0} → (A → Symbol) → List A → Symbol → Option A
lookup key [] y = None
lookup key (a ∷ more) y = if sameb the_type y (key a) then Some a else lookup key more y

-- reads the symbol of one of these values
abbrev pub one_of : {A : Type 0} → (A → Symbol) → List A → Parser A
one_of key all = leaf (of_symbol (lookup key all))

-- the symbol of one of these values comes next
abbrev pub sees_one : {A : Type 0} → (A → Symbol) → List A → Tokens → Bool
sees_one key all [] = false
sees_one key all (t ∷ ts) = is_some (of_symbol (lookup key all) t)

unfoldable pub fixed : Symbol → Parser (Unit {0})
fixed x = λ ts. if sees x ts then Ok (tt, drop 1 ts) else Err (length ts)

unfoldable pub name : Parser (List ℕ)
name [] = Err 0
name (tok.Name n ∷ ts) = Ok (n, ts)
name (tok.Number n ∷ ts) = Err (length (tok.Number n ∷ ts))
name (tok.Huge ∷ ts) = Err (length (tok.Huge ∷ ts))
name (tok.Fixed y ∷ ts) = Err (length (tok.Fixed y ∷ ts))

unfoldable pub number : Parser ℕ
number [] = Err 0
number (tok.Name n ∷ ts) = Err (length (tok.Name n ∷ ts))
number (tok.Number n ∷ ts) = Ok (n, ts)
number (tok.Huge ∷ ts) = Err (length (tok.Huge ∷ ts))
number (tok.Fixed y ∷ ts) = Err (length (tok.Fixed y ∷ ts))

-- the profiles are 1 and 2
abbrev pub is_profile : ℕ → Bool
is_profile n = n == 1 || n == 2

unfoldable pub profile_number : Parser ℕ
profile_number [] = Err 0
profile_number (tok.Name n ∷ ts) = Err (length (tok.Name n ∷ ts))
profile_number (tok.Number n ∷ ts) = if is_profile n then Ok (n, ts) else Err (length (tok.Number n ∷ ts))
profile_number (tok.Huge ∷ ts) = Err (length (tok.Huge ∷ ts))
profile_number (tok.Fixed y ∷ ts) = Err (length (tok.Fixed y ∷ ts))

unfoldable pub end_of_text : Parser (Unit {0})
end_of_text [] = Ok (tt, [])
end_of_text (t ∷ ts) = Err (length (t ∷ ts))

-- a value that one symbol stands for
abbrev pub keyed : {A : Type 0} → Symbol → A → Parser A
keyed x v = fixed x >> pure v

-- ---- lists with commas

unfoldable pub after_comma : {A : Type 0} → Parser A → Parser A
after_comma item = fixed s.Comma >> item

unfoldable pub one_or_more : {A : Type 0} → Parser A → Parser (List A)
one_or_more item = do
  first ← item
  many (sees s.Comma) (after_comma item) (first ∷ [])

-- none before a closing parenthesis, or some
unfoldable pub separated : {A : Type 0} → Parser A → Parser (List A)
separated item = choose (sees s.Close) (pure []) (one_or_more item)

-- ---- what a function that reads ensures: the reader's outcome, unless memory fails

abbrev pub Fails : {A : Type 0} → Outcome A → Fault → Type 0
Fails outcome (Memory want) = Unit {0}
Fails outcome (At left) = outcome ≡ Err left

abbrev pub Reads : {A : Type 0} → Outcome A → Result A Fault → Tokens → Type 0
Reads outcome (Ok a) new = outcome ≡ Ok (a, new)
Reads outcome (Err e) new = Fails outcome e
