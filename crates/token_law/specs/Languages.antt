-- Languages of tokens: which tokens spell a value.
use Rattle.std.specs.Prelude.{◌≡◌, List, [], ◌∷◌, ◌++◌}
use Rattle.gimple_tokens.specs.declared.token.Symbol.TheVariants as s
use Rattle.gimple_tokens.specs.declared.token.Token.TheVariants as tok
use Rattle.token_law.specs.Reading.{Tokens}

-- one after the other
abbrev pub IsMany : {A : Type 0} → (A → Tokens → Type 0) → List A → Tokens → Type 0
IsMany S [] ts = ts ≡ []
IsMany S (x ∷ xs) ts = (a : Tokens) × (b : Tokens) × S x a × IsMany S xs b × (ts ≡ a ++ b)

abbrev pub IsAfterComma : {A : Type 0} → (A → Tokens → Type 0) → A → Tokens → Type 0
IsAfterComma S x ts = (a : Tokens) × S x a × (ts ≡ tok.Fixed s.Comma ∷ a)

-- none, or some with commas between
abbrev pub IsSeparated : {A : Type 0} → (A → Tokens → Type 0) → List A → Tokens → Type 0
IsSeparated S [] ts = ts ≡ []
IsSeparated S (x ∷ xs) ts = (a : Tokens) × (b : Tokens) × S x a × IsMany (IsAfterComma S) xs b × (ts ≡ a ++ b)
